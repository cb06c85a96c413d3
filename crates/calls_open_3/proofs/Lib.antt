pub mod OpenThrees
