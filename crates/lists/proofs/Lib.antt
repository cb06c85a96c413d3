pub mod TabLaws
pub mod Flat
pub mod Parts
pub mod Fill
pub mod FirstLaws
pub mod Every
pub mod EqualLaws
pub mod BelowLaws
