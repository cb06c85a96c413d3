pub mod ImageLaws
pub mod EngineRooms
