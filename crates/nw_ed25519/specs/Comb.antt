-- Combs: tables of multiples of a point, with a row for every 16 bits of a number.
use Rattle.std.specs.Prelude.{◌≡◌, ℕ, zero, suc, ◌+◌, ◌*◌, ◌/◌, ◌%◌, ◌^◌, List, [], ◌∷◌, ◌++◌}
use Rattle.nw_curve.specs.Curve.{identity, added, doubled}
use Rattle.nw_curve.specs.Completed.{affine_prepared, normalized}
use Rattle.nw_curve.specs.Inverse.{IsInverse, HasInverse}
use Rattle.nw_curve.specs.declared.curve.point.Point.{Point}
use Rattle.nw_curve.specs.declared.curve.completed.AffineAddend.{AffineAddend}

-- the point times n: it is added to the neutral element n times
unfoldable pub repeated : ℕ → Point → Point
repeated zero p = identity
repeated (suc n) p = added (repeated n p) p

-- the point times 2^n
unfoldable pub doubled_times : ℕ → Point → Point
doubled_times zero p = p
doubled_times (suc n) p = doubled (doubled_times n p)

-- the point of row r: 2^(16 r) times the point
unfoldable pub row_point : ℕ → Point → Point
row_point zero p = p
row_point (suc r) p = doubled_times 16 (row_point r p)

-- the entry for a multiple of the point: with Z 1, prepared for sums
abbrev pub entry_of : ℕ → Point → AffineAddend
entry_of n p = affine_prepared (normalized (repeated n p))

-- the entries for so many multiples of the point, from n on, the last one first
unfoldable pub down_to : ℕ → ℕ → Point → List AffineAddend
down_to n zero p = []
down_to n (suc count) p = down_to (n + 1) count p ++ (entry_of n p ∷ [])

-- the entries for the first multiples of the point, in blocks of 16
unfoldable pub blocks : ℕ → Point → List AffineAddend
blocks zero p = []
blocks (suc b) p = blocks b p ++ down_to (16 * b) 16 p

-- the first rows of the point's comb, each of so many blocks
unfoldable pub rows : ℕ → ℕ → Point → List AffineAddend
rows count zero p = []
rows count (suc r) p = rows count r p ++ blocks count (row_point r p)

-- the Z of each multiple of the point has an inverse
abbrev pub AreProper : Point → Type 0
AreProper p = (n : ℕ) → HasInverse (repeated n p).z

-- so has that of each multiple of each row's point
abbrev pub AreAllProper : Point → Type 0
AreAllProper p = (r : ℕ) → AreProper (row_point r p)

-- the entries for so many multiples from n on were appended; the next multiple and an inverse of the product are known
pub record IsPushed (n count : ℕ) (p next : Point) (product inverse : ℕ) (old new : List AffineAddend) : Type 0 where
  pub entries : new ≡ old ++ down_to n count p
  pub next_is : next ≡ repeated (n + count) p
  pub inverse_is : IsInverse product inverse

-- bits 16 r to 16 r + 15 of a number
abbrev pub chunk : ℕ → ℕ → ℕ
chunk n r = n / 2 ^ (16 * r) % 65536

-- so many bits of a chunk, from bit `shift` on
abbrev pub digit : ℕ → ℕ → ℕ → ℕ → ℕ
digit bits n r shift = chunk n r / 2 ^ shift % 2 ^ bits

-- the point, and an entry of each of the first rows of a comb: by a digit of each chunk of the number
unfoldable pub with_rows : ℕ → ℕ → ℕ → ℕ → Point → Point → Point
with_rows bits zero shift n start p = start
with_rows bits (suc r) shift n start p = added (with_rows bits r shift n start p) (normalized (repeated (digit bits n r shift) (row_point r p)))
