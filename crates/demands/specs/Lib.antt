pub mod Bench
pub mod Exactly
pub mod Slots
pub mod Table
pub mod TableOwn
pub mod Agreement
pub mod Opening
