pub mod RImages
