pub mod RImage
