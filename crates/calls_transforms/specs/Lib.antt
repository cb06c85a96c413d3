pub mod Transform
pub mod Reverse
pub mod Tests
