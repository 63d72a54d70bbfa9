pub mod Clusters
pub mod Words
pub mod Differences
