pub mod Logs
pub mod ReadyLaws
pub mod SlotLaws
