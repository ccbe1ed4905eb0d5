-- The orders of digests and of slots.
use Rattle.std.specs.Prelude.{ℕ}
use Rattle.std.specs.declared.cmp.Ordering.{Ordering}
use Rattle.std.specs.Ordering.{nat_cmp, ordering_then}
use Rattle.std.specs.Cmp.Lexicographic.{slice_cmp}
use Rattle.nw_digest.specs.declared.digest.Digest.{Digest}

-- digests by their bytes, in lexicographic order
abbrev pub digest_cmp : Digest → Digest → Ordering
digest_cmp a b = slice_cmp nat_cmp a.0 b.0

-- a slot: a round and an author
abbrev pub Slot : Type 0
Slot = ℕ × ℕ

-- slots by round, and then by author
abbrev pub slot_cmp : Slot → Slot → Ordering
slot_cmp a b = ordering_then (nat_cmp a.0 b.0) (nat_cmp a.1 b.1)
