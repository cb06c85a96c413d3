pub mod OpenOne
