-- Pairs of a wanted parent and a holder that is missing it.
use Rattle.std.specs.Prelude.{◌≡◌, ◌↔◌, ℕ, List, Contains, IsTrue, not, length, take, refl}
use Rattle.std.specs.Coded.{Coded, code_by, coded×, coded_ℕ, coded_list}
use Rattle.std.specs.declared.cmp.Ordering.{Ordering}
use Rattle.std.specs.Ordering.{ordering_then, eq_by_cmp}
use Rattle.std.specs.List.{IsDistinct}
use Rattle.std.specs.FinSet.{FinSet, contains, retain}
use Rattle.nw_digest.specs.Order.{digest_cmp}
use Rattle.nw_digest.specs.declared.digest.Digest.{Digest}
use Rattle.nw_model.specs.declared.wanted.Wanted.{Wanted}
use Rattle.nw_model.specs.Missing.{wanted_cmp, HasCount, ListsExactly}

-- a wanted parent, and a holder that is missing it
abbrev pub Pair : Type 0
Pair = Wanted × Digest

-- pairs by wanted parent, then by holder
abbrev pub pair_cmp : Pair → Pair → Ordering
pair_cmp a b = ordering_then (wanted_cmp a.0 b.0) (digest_cmp a.1 b.1)

-- a set of pairs
abbrev pub Pairs : Type 0
Pairs = FinSet pair_cmp

-- the holder is missing this parent
abbrev pub Lacks : Pairs → Digest → Wanted → Type 0
Lacks pairs holder wanted = IsTrue (contains pairs (wanted, holder))

-- the holders that are missing this parent
pub record AreHolders (pairs : Pairs) (wanted : Wanted) (holders : List Digest) : Type 0 where
  -- exactly these
  pub exactly : (holder : Digest) → Contains holders holder ↔ Lacks pairs holder wanted
  -- each once
  pub once : IsDistinct (eq_by_cmp digest_cmp) holders

-- the missing parents of the holder
pub record AreMissing (pairs : Pairs) (holder : Digest) (missing : List Wanted) : Type 0 where
  -- exactly these
  pub exactly : (wanted : Wanted) → Contains missing wanted ↔ Lacks pairs holder wanted
  -- each once
  pub once : IsDistinct (eq_by_cmp wanted_cmp) missing

-- the parent is wanted: some holder is missing it
abbrev pub IsLacked : Pairs → Wanted → Type 0
IsLacked pairs wanted = (holder : Digest) × Lacks pairs holder wanted

-- the wanted parents, ascending, each once
abbrev pub AreWanted : Pairs → List Wanted → Type 0
AreWanted pairs wanted = ListsExactly wanted_cmp (IsLacked pairs) wanted

-- n is the number of the holder's missing parents
abbrev pub LacksCount : Pairs → Digest → ℕ → Type 0
LacksCount pairs holder n = (missing : List Wanted) × AreMissing pairs holder missing × (length missing ≡ n)

-- n is the number of different wanted parents
abbrev pub WantedCount : Pairs → ℕ → Type 0
WantedCount pairs n = HasCount wanted_cmp (IsLacked pairs) n

-- the first k wanted parents, or all if there are fewer
abbrev pub AreFirst : Pairs → ℕ → List Wanted → Type 0
AreFirst pairs k first = (wanted : List Wanted) × AreWanted pairs wanted × (first ≡ take k wanted)

-- the pairs without those of this parent
abbrev pub without_wanted : Pairs → Wanted → Pairs
without_wanted pairs wanted = retain pairs (λ p. not (eq_by_cmp wanted_cmp wanted p.0))

-- the pairs without those of this holder
abbrev pub without_holder : Pairs → Digest → Pairs
without_holder pairs holder = retain pairs (λ p. not (eq_by_cmp digest_cmp holder p.1))

-- the code of a pair: pairs with equal codes are equal
abbrev pub coded_pair : Coded Pair
coded_pair =
    code_by (ℕ × (ℕ × (List ℕ × List ℕ))) (coded× coded_ℕ (coded× coded_ℕ (coded× (coded_list coded_ℕ) (coded_list coded_ℕ))))
    (λ p. (p.0.round, (p.0.author, (p.0.digest.0, p.1.0))))
    (λ c. (record { round = c.0; author = c.1.0; digest = record { 0 = c.1.1.0 } }, record { 0 = c.1.1.1 })) (λ _. refl)
