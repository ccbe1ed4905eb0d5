-- The number of complete blocks.
use Rattle.nw_plain.proofs.Words.{List, length, sym, ◌∙◌, lookup, keys_of, is_at, eq_by_cmp_equiv, from_entries, Digest, Block, digest_cmp, State, IsComplete, AreComplete, digests_total, get_lookup, same_digest, which}
use Rattle.std.specs.List.Sorted.{IsStrictlySortedBy}
use Rattle.std.proofs.lemmas.List.{length-map}
use Rattle.std.proofs.lemmas.Map.Views.{IsSome-lookup_from_Contains, Contains-keys_from_lookup}
use Rattle.nw_model.specs.Missing.{HasCount}
use Rattle.nw_digest.proofs.Found.{is_there}

-- the number of entries is the number of complete blocks, if they are exactly these
pub complete_count : (s : State) (es : List (Digest × Block)) → IsStrictlySortedBy digest_cmp (keys_of es) → AreComplete s (from_entries es) → HasCount digest_cmp (IsComplete s) (length es)
complete_count s es sorted complete = (
  keys_of es,
  record {
    exactly = λ d. (
      λ among.
          let at = which (lookup (is_at (digest_cmp d)) es) (IsSome-lookup_from_Contains (eq_by_cmp_equiv digests_total) d es among) in
          ((complete d at.0).0 (get_lookup digests_total es d ∙ at.1)).1,
      λ whole.
          let held = (complete d whole.stands.0).1 (whole.stands.1.0, whole) in
          Contains-keys_from_lookup same_digest d es (is_there (lookup (is_at (digest_cmp d)) es) whole.stands.0 (sym (get_lookup digests_total es d) ∙ held)),
    );
    ascending = sorted;
  },
  length-map es (λ e. e.0),
)
