pub mod XorLaws
pub mod Steps
pub mod EncodingLaws
