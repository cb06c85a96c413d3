pub mod OpenTwo
