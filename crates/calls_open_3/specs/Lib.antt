pub mod OpenThree
