mod Bits
mod Digits
mod OddMultiples
mod Powers
mod Products
mod Shifts
pub mod Congruence
pub mod Polynomial
pub mod Equations
pub mod Associativity
pub mod Divisibility
pub mod Primes
pub mod Fermat
pub mod Pocklington
pub mod Constants
pub mod PrimeField
pub mod Squares
pub mod Completeness
pub mod AffineSums
pub mod Fractions
pub mod AffineGroup
pub mod Extended
pub mod Represented
pub mod Negatives
pub mod Decoding
pub mod Tables
pub mod Inverses
pub mod Normalized
pub mod BaseTable
