pub mod Field
pub mod Residues
pub mod Signed
pub mod Large
