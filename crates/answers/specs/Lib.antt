pub mod Answers
pub mod Replies
pub mod Sets
pub mod Tests
