pub mod Digits
pub mod Places
pub mod Blocks
pub mod Blockwise
pub mod BlockLaws
pub mod ListingLaws
pub mod PlaceLaws
