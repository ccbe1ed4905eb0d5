-- Missing parents in two sets of pairs. A parent is unmet for all its holders, or for none.
use Rattle.std.specs.Prelude.{◌≡◌, ◌↔◌, IsTrue, List, Bool, refl}
use Rattle.std.specs.Bool.{MatchBool}
use Rattle.std.specs.Coded.{Coded, code_by, coded×}
use Rattle.std.specs.List.{list_any}
use Rattle.std.specs.Ordering.{eq_by_cmp}
use Rattle.std.specs.FinSet as set
use Rattle.std.specs.FinSet.{retain}
use Rattle.nw_digest.specs.declared.digest.Digest.{Digest}
use Rattle.nw_model.specs.declared.wanted.Wanted.{Wanted}
use Rattle.nw_model.specs.Missing.{wanted_cmp}
use Rattle.nw_waiting.specs.Pairs.{Lacks, Pairs, coded_pair}

-- the two sets, as contracts see them
pub record Parted : Type 0 where
  -- the pairs of unmet parents
  pub unmet : Pairs
  -- all pairs
  pub lacking : Pairs

-- the code of two sets: two sets with equal codes are equal
abbrev pub coded_parted : Coded Parted
coded_parted = code_by (Pairs × Pairs) (coded× (set.code coded_pair) (set.code coded_pair)) (λ s. (s.unmet, s.lacking)) (λ p. record { unmet = p.0; lacking = p.1 }) (λ _. refl)

-- whether the parent is one of these
abbrev pub is_one : List Wanted → Wanted → Bool
is_one parents wanted = list_any (eq_by_cmp wanted_cmp wanted) parents

-- all pairs, of which those of these parents are unmet
abbrev pub parted : Pairs → List Wanted → Parted
parted lacking parents = record { unmet = retain lacking (λ p. is_one parents p.0); lacking = lacking }

-- each of these parents has a holder that is missing it
abbrev pub HaveHolders : Pairs → List Wanted → Type 0
HaveHolders lacking parents = (w : Wanted) → IsTrue (is_one parents w) → (h : Digest) × Lacks lacking h w

-- the parent is met for all its holders if `met`, and unmet for all of them if not
abbrev pub IsMetForAll : Parted → Wanted → Bool → Type 0
IsMetForAll s wanted met =
    MatchBool met ((h : Digest) → Lacks s.unmet h wanted → ⊥) ((h : Digest) → Lacks s.lacking h wanted → Lacks s.unmet h wanted)

-- the two sets are the same but for pairs of this holder
abbrev pub AreSameForOthers : Digest → Parted → Parted → Type 0
AreSameForOthers holder old new =
    (h : Digest) (w : Wanted) → (h ≡ holder → ⊥) → (Lacks new.unmet h w ↔ Lacks old.unmet h w) × (Lacks new.lacking h w ↔ Lacks old.lacking h w)
