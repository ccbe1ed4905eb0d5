-- The constants of Ed25519's field, as numbers that compute.
use Rattle.std.proofs.Common.{ℕ, ◌-◌}

-- the prime: 2^255 - 19
abbrev pub prime : ℕ
prime = 0x7fffffffffffffffffffffffffffffffffffffffffffffffffffffffffffffed

-- -1 modulo the prime
abbrev pub minus_one : ℕ
minus_one = prime - 1

-- 1 / 2
abbrev pub half : ℕ
half = 28948022309329048855892746252171976963317496166410141009864396001978282409975
