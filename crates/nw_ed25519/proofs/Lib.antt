pub mod Words
mod CombSums
mod Combs
mod DigitSums
mod Expected
mod Remainders
mod Verdicts
mod KeyCombs
