pub mod Linear
pub mod Slots
pub mod Centring
pub mod Opens
pub mod Bytes
pub mod Units
pub mod UnitPair
pub mod BenchPair
