-- Digests, sorted and without repetitions.
use Rattle.nw_rounds.proofs.Words.{◌≡◌, Bool, true, List, [], sym, ◌∙◌, subst, Contains, IsPermutation, dedup, IsFiltered, DiffersFromLast, IsSorted, IsStrictlySortedBy, Contains-from_dedup, Digest, digest_cmp}
use Rattle.std.proofs.Common.{◌↔◌}
use Rattle.std.specs.Cmp.{IsEquivalence, on_equiv}
use Rattle.std.specs.Cmp.Lexicographic.{nat_list_eq_equiv, texts_ties}
use Rattle.std.specs.Str.{bytes_eq}
use Rattle.std.proofs.lemmas.List.Filters.{dedup_is}
use Rattle.std.proofs.lemmas.List.Kept.{Contains-dedup, IsStrictlySortedBy-dedup}
use Rattle.std.proofs.lemmas.List.Sorted.{Contains-permutation, IsPermutation-sym}
use Rattle.nw_digest.proofs.Maps.{digests_total, same_digest}

-- whether two digests have the same bytes
abbrev pub same : Digest → Digest → Bool
same a b = bytes_eq a.0 b.0

same_equiv : IsEquivalence same
same_equiv = on_equiv (λ (d : Digest). d.0) nat_list_eq_equiv

one_digest : (a b : Digest) → same a b ≡ true → a ≡ b
one_digest a b is = same_digest a b (sym (texts_ties a.0 b.0) ∙ is)

-- sorting and removing repetitions keeps the digests
pub same_digests : (old mid new : List Digest) → IsPermutation old mid → IsFiltered (DiffersFromLast same) [] mid new → (d : Digest) → Contains new d ↔ Contains old d
same_digests old mid new sorts filters d =
    let is : new ≡ dedup same mid = dedup_is same mid new filters in (
      λ among. Contains-permutation mid old d (IsPermutation-sym old mid sorts) (Contains-from_dedup same mid d (subst (λ xs. Contains xs d) is among)),
      λ among. subst (λ xs. Contains xs d) (sym is) (Contains-dedup same_equiv one_digest mid d (Contains-permutation old mid d sorts among)),
    )

-- afterwards they ascend
pub ascends : (mid new : List Digest) → IsSorted digest_cmp mid → IsFiltered (DiffersFromLast same) [] mid new → IsStrictlySortedBy digest_cmp new
ascends mid new sorted filters = subst (IsStrictlySortedBy digest_cmp) (sym (dedup_is same mid new filters)) (IsStrictlySortedBy-dedup digests_total (λ a b. texts_ties a.0 b.0) mid sorted)

-- removing repetitions in a row keeps the digests
pub still_listed : (old new : List Digest) → IsFiltered (DiffersFromLast same) [] old new → (d : Digest) → Contains old d → Contains new d
still_listed old new filters d among = subst (λ xs. Contains xs d) (sym (dedup_is same old new filters)) (Contains-dedup same_equiv one_digest old d among)
