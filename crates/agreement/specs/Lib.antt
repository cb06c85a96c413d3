pub mod Opened
pub mod BenchPair
