pub mod OpenTwos
