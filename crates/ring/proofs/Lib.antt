pub mod Sums
pub mod HalfFill
pub mod ProductLaws
