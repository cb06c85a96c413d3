pub mod InputLaws
pub mod OutputLaws
