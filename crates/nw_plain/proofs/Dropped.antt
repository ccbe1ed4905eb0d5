-- The number of blocks that a collection drops.
use Rattle.nw_plain.proofs.Words.{◌≡◌, ℕ, ◌+◌, Bool, true, false, cond, List, [], ◌∷◌, filter, length, refl, ap, sym, ◌∙◌, arith, Ordering, Less, AllByRecursion, keys_of, values_of, from_entries, len, sorted_head, sorted_tail, Digest, digest_cmp, digests_total, len_sorted, filtered_round}
use Rattle.std.proofs.Common.{suc, ◌-◌, not}
use Rattle.std.specs.Prelude.{nat_le, nat_lt}
use Rattle.std.specs.List.Sorted.{IsStrictlySortedBy}
use Rattle.std.proofs.lemmas.List.Filters.{length-filter_both}
use Rattle.nw_model.specs.Step.{from_round}

pub sorted_cons : {K : Type 0} (R : K → K → Ordering) (x : K) (xs : List K) → AllByRecursion (λ y. R x y ≡ Less) xs → IsStrictlySortedBy R xs → IsStrictlySortedBy R (x ∷ xs)
unfolding IsStrictlySortedBy
sorted_cons R x xs above rest = (above, rest)

module _ {K X : Type 0} (R : K → K → Ordering) (p : K × X → Bool) where
  -- keys above a key stay above it if some are removed
  above_filter : (k : K) (es : List (K × X)) → AllByRecursion (λ y. R k y ≡ Less) (keys_of es) → AllByRecursion (λ y. R k y ≡ Less) (keys_of (filter p es))
  above_filter k [] all = all
  above_filter k (e ∷ es) all = by (p e) (above_filter k es all.1)
    where
      by : (b : Bool) → AllByRecursion (λ y. R k y ≡ Less) (keys_of (filter p es)) → AllByRecursion (λ y. R k y ≡ Less) (keys_of (cond b (e ∷ filter p es) (filter p es)))
      by true rest = (all.0, rest)
      by false rest = rest

  -- entries stay in order if some are removed
  pub sorted_filter : (es : List (K × X)) → IsStrictlySortedBy R (keys_of es) → IsStrictlySortedBy R (keys_of (filter p es))
  sorted_filter [] sorted = sorted
  sorted_filter (e ∷ es) sorted = by (p e) (sorted_filter es (sorted_tail R e.0 (keys_of es) sorted))
    where
      by : (b : Bool) → IsStrictlySortedBy R (keys_of (filter p es)) → IsStrictlySortedBy R (keys_of (cond b (e ∷ filter p es) (filter p es)))
      by true rest = sorted_cons R e.0 (keys_of (filter p es)) (above_filter e.0 es (sorted_head R e.0 (keys_of es) sorted)) rest
      by false rest = rest

-- the number of values that pass is the number of entries that do
same_length : {K X : Type 0} (p : X → Bool) (es : List (K × X)) → length (filter p (values_of es)) ≡ length (filter (λ e. p e.1) es)
same_length p [] = refl
same_length p (e ∷ es) = by (p e.1) (same_length p es)
  where
    by : (b : Bool) → length (filter p (values_of es)) ≡ length (filter (λ e. p e.1) es) → length (cond b (e.1 ∷ filter p (values_of es)) (filter p (values_of es))) ≡ length (cond b (e ∷ filter (λ e. p e.1) es) (filter (λ e. p e.1) es))
    by true same = ap suc same
    by false same = same

pub not_below : (a b : ℕ) → nat_lt a b ≡ not (nat_le b a)
not_below a b = grind arith

-- a collection drops the entries below the round
pub dropped_count : {X : Type 0} (round_of : X → ℕ) (round : ℕ) (es : List (Digest × X)) → IsStrictlySortedBy digest_cmp (keys_of es)
    → length (filter (λ x. nat_lt (round_of x) round) (values_of es)) ≡ len (from_entries {R = digest_cmp} es) - len (from_round round_of round (from_entries es))
dropped_count round_of round es sorted =
    let below = λ (e : Digest × _). nat_lt (round_of e.1) round in
    let stays = λ (e : Digest × _). nat_le round (round_of e.1) in
    let both : length (filter stays es) + length (filter below es) ≡ length es = length-filter_both stays below (λ e. not_below (round_of e.1) round) es in
    let whole : len (from_entries {R = digest_cmp} es) ≡ length es = len_sorted digests_total es sorted in
    let rest : len (from_round round_of round (from_entries es)) ≡ length (filter stays es) =
    ap len (sym (filtered_round round_of round es sorted)) ∙ len_sorted digests_total (filter stays es) (sorted_filter digest_cmp stays es sorted) in
    let same : length (filter (λ x. nat_lt (round_of x) round) (values_of es)) ≡ length (filter below es) = same_length (λ x. nat_lt (round_of x) round) es in
    omega (arith, both, whole, rest, same)
