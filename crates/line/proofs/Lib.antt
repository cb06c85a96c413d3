pub mod Printed
pub mod ChosenLaws
pub mod Exits
