pub mod Images
pub mod Making
pub mod Sealing
pub mod Opening
pub mod Fits
