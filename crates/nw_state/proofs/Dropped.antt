-- Entries before and after values of lower rounds are dropped.
use Rattle.nw_state.proofs.Words.{◌≡◌, ◌⊎◌, ℕ, ◌+◌, ◌≤◌, Bool, true, false, cond, List, [], ◌∷◌, ◌++◌, filter, length, Option, Some, None, refl, ap, sym, ◌∙◌, subst, arith, inl, inr, Contains, nat_lt, Ordering, Less, AllByRecursion, eq_by_cmp, eq_by_cmp_equiv, keys_of, lookup, remove_entry, is_at, len, from_entries, same_map, Contains-push_cases, IsDistinct-from_sorted, none-some, same_Some, Digest, digest_cmp, from_round, contains_cases, contains_none, digests_total, digests_apart, get_lookup, len_sorted, same_digest}
use Rattle.std.specs.Prelude.{nat_le}
use Rattle.std.specs.List.Sorted.{IsStrictlySortedBy}
use Rattle.std.specs.Option.{option_map_or}
use Rattle.std.proofs.lemmas.Bool.{cases_lt, le-leb, lt-leb}
use Rattle.std.proofs.lemmas.List.Filters.{length-filter_both}
use Rattle.std.proofs.lemmas.Map.{lookup-remove_entry}
use Rattle.std.proofs.lemmas.Map.Keys.{sorted_head, sorted_tail}
use Rattle.nw_plain.proofs.Dropped.{not_below, sorted_cons, sorted_filter}
use Rattle.nw_model.proofs.Raised.{at_round, filtered_round}
use Rattle.nw_state.specs.Dropping.{IsBelowRound, DropsBelow}

-- ---- entries stay in order if some are removed

module _ {K X : Type 0} (R : K → K → Ordering) (test : K → Bool) where
  above_removed : (k : K) (es : List (K × X)) → AllByRecursion (λ y. R k y ≡ Less) (keys_of es) → AllByRecursion (λ y. R k y ≡ Less) (keys_of (remove_entry test es))
  above_removed k [] all = all
  above_removed k (e ∷ es) all = by (test e.0) (above_removed k es all.1)
    where
      by : (b : Bool) → AllByRecursion (λ y. R k y ≡ Less) (keys_of (remove_entry test es)) → AllByRecursion (λ y. R k y ≡ Less) (keys_of (cond b es (e ∷ remove_entry test es)))
      by true rest = all.1
      by false rest = (all.0, rest)

  pub sorted_removed : (es : List (K × X)) → IsStrictlySortedBy R (keys_of es) → IsStrictlySortedBy R (keys_of (remove_entry test es))
  sorted_removed [] sorted = sorted
  sorted_removed (e ∷ es) sorted = by (test e.0) (sorted_removed es (sorted_tail R e.0 (keys_of es) sorted))
    where
      by : (b : Bool) → IsStrictlySortedBy R (keys_of (remove_entry test es)) → IsStrictlySortedBy R (keys_of (cond b es (e ∷ remove_entry test es)))
      by true rest = sorted_tail R e.0 (keys_of es) sorted
      by false rest = sorted_cons R e.0 (keys_of (remove_entry test es)) (above_removed e.0 es (sorted_head R e.0 (keys_of es) sorted)) rest

-- ---- dropped values

module _ {V : Type 0} (round_of : V → ℕ) (round : ℕ) where
  abbrev at : Digest → List (Digest × V) → Option V
  at d es = lookup (is_at (digest_cmp d)) es

  no_none : (found : Option V) → found ≡ None → IsBelowRound round_of round found → ⊥
  no_none found none (v, is, low) = none-some v (sym none ∙ is)

  -- no digest was tested
  pub drops_none : (es : List (Digest × V)) → IsStrictlySortedBy digest_cmp (keys_of es) → DropsBelow round_of round [] es es
  drops_none es sorted = record {
    stays = λ d. inl refl;
    gone = λ d among below. contains_none d among;
    ordered = sorted;
  }

  -- one digest was tested, whose value is below the round
  pub drops_one : (d : Digest) (old new : List (Digest × V)) → IsStrictlySortedBy digest_cmp (keys_of old) → IsBelowRound round_of round (at d old) → new ≡ remove_entry (is_at (digest_cmp d)) old
      → DropsBelow round_of round (d ∷ []) old new
  drops_one d old new sorted low is = record {
    stays = λ q. by q (is_at (digest_cmp d) q) refl;
    gone = λ q among below. elim (contains_cases d [] q among) [
      | inl same ↦ no_none (at q new) (here q same) below
      | inr none ↦ contains_none q none
    ];
    ordered = subst (λ es. IsStrictlySortedBy digest_cmp (keys_of es)) (sym is) (sorted_removed digest_cmp (is_at (digest_cmp d)) old sorted);
  }
    where
      after : (q : Digest) → at q new ≡ cond (is_at (digest_cmp d) q) None (at q old)
      after q = ap (at q) is ∙ lookup-remove_entry (eq_by_cmp_equiv digests_total) (is_at (digest_cmp d)) (λ x y tied. ap (λ (z : Digest). eq_by_cmp digest_cmp z y) (same_digest d x tied)) q old (IsDistinct-from_sorted digest_cmp (keys_of old) sorted)

      here : (q : Digest) → d ≡ q → at q new ≡ None
      here q same = after q ∙ ap (λ b. cond b None (at q old)) (ap (is_at (digest_cmp d)) (sym same) ∙ (eq_by_cmp_equiv digests_total).refl d)

      by : (q : Digest) (b : Bool) → is_at (digest_cmp d) q ≡ b → (at q new ≡ at q old) ⊎ ((at q new ≡ None) × IsBelowRound round_of round (at q old))
      by q true tied = let same : d ≡ q = same_digest d q tied in inr (here q same, subst (λ x. IsBelowRound round_of round (at x old)) same low)
      by q false apart = inl (after q ∙ ap (λ b. cond b None (at q old)) apart)

  -- one more digest was tested
  pub drops_more : (digests : List Digest) (d : Digest) (a b c : List (Digest × V)) → DropsBelow round_of round digests a b → DropsBelow round_of round (d ∷ []) b c → DropsBelow round_of round (digests ++ d ∷ []) a c
  drops_more digests d a b c first second = record {
    stays = λ q. elim (second.stays q) [
      | inl same ↦ elim (first.stays q) [ inl before ↦ inl (same ∙ before) | inr (none, low) ↦ inr (same ∙ none, low) ]
      | inr (none, low) ↦ elim (first.stays q) [
        | inl before ↦ inr (none, subst (IsBelowRound round_of round) before low)
        | inr (nothing, lower) ↦ inr (none, lower)
      ]
    ];
    gone = λ q among below. elim (Contains-push_cases digests d q among) [
      | inl early ↦ elim (second.stays q) [
        | inl same ↦ first.gone q early (subst (IsBelowRound round_of round) same below)
        | inr (none, low) ↦ no_none (at q c) none below
      ]
      | inr last ↦ second.gone q (0, omega arith, last) below
    ];
    ordered = second.ordered;
  }

  kept_only : (found : Option V) → (IsBelowRound round_of round found → ⊥) → cond (option_map_or (λ x. nat_le round (round_of x)) found false) found None ≡ found
  kept_only None high = refl
  kept_only (Some v) high = elim (cases_lt (round_of v) round) [
    | inl low ↦ absurd (high (v, refl, low))
    | inr above ↦ let yes : nat_le round (round_of v) ≡ true = le-leb round (round_of v) above in ap (λ b. cond b (Some v) None) yes
  ]

  dropped_only : (found : Option V) → IsBelowRound round_of round found → cond (option_map_or (λ x. nat_le round (round_of x)) found false) found None ≡ None
  dropped_only found (v, is, low) =
      ap (λ f. cond (option_map_or (λ x. nat_le round (round_of x)) f false) f None) is ∙ ap (λ b. cond b (Some v) None) (lt-leb round (round_of v) low)

  -- if all values below the round are under these digests, exactly the values from the round on stay
  pub dropped_is : (digests : List Digest) (old new : List (Digest × V)) → DropsBelow round_of round digests old new → ((d : Digest) → IsBelowRound round_of round (at d old) → Contains digests d)
      → from_entries {R = digest_cmp} new ≡ from_round round_of round (from_entries old)
  dropped_is digests old new drops all = same_map digests_total digests_apart _ _ (λ q.
      get_lookup digests_total new q ∙ stays q ∙ ap (λ found. cond (option_map_or (λ x. nat_le round (round_of x)) found false) found None) (sym (get_lookup digests_total old q))
      ∙ sym (at_round round_of round (from_entries old) q))
    where
      below_or_not : (found : Option V) → IsBelowRound round_of round found ⊎ (IsBelowRound round_of round found → ⊥)
      below_or_not None = inr (λ (v, is, low). none-some v is)
      below_or_not (Some v) = elim (cases_lt (round_of v) round) [
        | inl low ↦ inl (v, refl, low)
        | inr above ↦ inr (λ (x, is, low). let same : round_of v ≡ round_of x = ap round_of (same_Some v x is) in omega (arith, same, low, above))
      ]

      stays : (q : Digest) → at q new ≡ cond (option_map_or (λ x. nat_le round (round_of x)) (at q old) false) (at q old) None
      stays q = elim (drops.stays q) [
        | inl same ↦ same ∙ sym (kept_only (at q old) (λ low. drops.gone q (all q low) (subst (IsBelowRound round_of round) (sym same) low)))
        | inr (none, low) ↦ none ∙ sym (dropped_only (at q old) low)
      ]

  -- the number of values that stay
  pub count_kept : (es : List (Digest × V)) → IsStrictlySortedBy digest_cmp (keys_of es) → len (from_round round_of round (from_entries {R = digest_cmp} es)) ≡ length (filter (λ e. nat_le round (round_of e.1)) es)
  count_kept es sorted = ap len (sym (filtered_round round_of round es sorted)) ∙ len_sorted digests_total (filter (λ e. nat_le round (round_of e.1)) es) (sorted_filter digest_cmp (λ e. nat_le round (round_of e.1)) es sorted)

  pub both_counts : (es : List (Digest × V)) → length (filter (λ e. nat_le round (round_of e.1)) es) + length (filter (λ e. nat_lt (round_of e.1) round) es) ≡ length es
  both_counts es = length-filter_both (λ (e : Digest × V). nat_le round (round_of e.1)) (λ (e : Digest × V). nat_lt (round_of e.1) round) (λ e. not_below (round_of e.1) round) es

  pub count_fewer : (es : List (Digest × V)) → IsStrictlySortedBy digest_cmp (keys_of es) → len (from_round round_of round (from_entries {R = digest_cmp} es)) ≤ len (from_entries {R = digest_cmp} es)
  count_fewer es sorted = omega (arith, count_kept es sorted, both_counts es, len_sorted digests_total es sorted)
