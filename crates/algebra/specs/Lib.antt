pub mod Numbers
pub mod Product
pub mod Roots
pub mod SlotBySlot
pub mod Transform
