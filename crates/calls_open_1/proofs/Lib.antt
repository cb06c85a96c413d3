pub mod KeyGroups
pub mod OpenOnes
