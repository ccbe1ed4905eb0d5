pub mod Weights
pub mod Listed
pub mod Quorums
pub mod DistinctKeys
