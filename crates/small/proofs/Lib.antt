pub mod BitLaws
pub mod SmallLaws
pub mod Halves
