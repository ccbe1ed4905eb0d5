-- Sorting distinct digests.
use Rattle.nw_dag.proofs.Words.{◌≡◌, ◌↔◌, ◌+◌, Bool, true, false, List, [], ◌∷◌, length, Option, Some, None, is_some, cond, refl, ap, sym, ◌∙◌, subst, inl, inr, Contains, IsStrictlySortedBy, eq_by_cmp, eq_by_cmp_equiv, keys_of, insert_entry, len, from_entries, len-insert, length-map, All-from_recursion, All-contains, IsDistinct-head, IsDistinct-tail, true≢false, Digest, sorted_insert, digest_cmp, HasCount, contains_cases, contains_first, contains_later, ordered_none, digests_total, digests_apart, put_entries, same_digest}
use Rattle.std.proofs.Common.{add-one}
use Rattle.std.specs.List.{IsDistinct}
use Rattle.std.specs.Map.{lookup}
use Rattle.std.specs.BTreeMap.{is_at}
use Rattle.std.proofs.lemmas.Map.Views.{Contains-keys_from_lookup, IsSome-lookup_from_Contains}
use Rattle.nw_digest.proofs.Maps.{lookup_put, get_lookup, len_sorted}

-- the digests of the list, as the keys of sorted entries
record InOrder (xs : List Digest) : Type 0 where
  entries : List (Digest × Unit {0})
  sorted : IsStrictlySortedBy digest_cmp (keys_of entries)
  exactly : (x : Digest) → Contains (keys_of entries) x ↔ Contains xs x
  counts : length entries ≡ length xs

there : (es : List (Digest × Unit {0})) (x : Digest) → Contains (keys_of es) x → is_some (lookup (is_at (digest_cmp x)) es) ≡ true
there es x among = IsSome-lookup_from_Contains (eq_by_cmp_equiv digests_total) x es among

found : (es : List (Digest × Unit {0})) (x : Digest) → is_some (lookup (is_at (digest_cmp x)) es) ≡ true → Contains (keys_of es) x
found es x some = Contains-keys_from_lookup same_digest x es some

none_of : (r : Option (Unit {0})) → (is_some r ≡ true → ⊥) → r ≡ None
none_of None never = refl
none_of (Some u) never = absurd (never refl)

forward : (d x : Digest) (xs : List Digest) (es : List (Digest × Unit {0})) → (Contains (keys_of es) x → Contains xs x) → (b : Bool) → is_at (digest_cmp d) x ≡ b
    → is_some (cond b (Some tt) (lookup (is_at (digest_cmp x)) es)) ≡ true → Contains (d ∷ xs) x
forward d x xs es listed true at some = subst (Contains (d ∷ xs)) (same_digest d x at) (contains_first d xs)
forward d x xs es listed false at some = contains_later d xs x (listed (found es x some))

kept : (b : Bool) (r : Option (Unit {0})) → is_some r ≡ true → is_some (cond b (Some tt) r) ≡ true
kept true r e = refl
kept false r e = e

one_more : (d : Digest) (xs : List Digest) → (Contains xs d → ⊥) → InOrder xs → InOrder (d ∷ xs)
one_more d xs apart o =
    let more = insert_entry digest_cmp o.entries d tt in
    let absent : lookup (is_at (digest_cmp d)) o.entries ≡ None = none_of _ (λ some. apart ((o.exactly d).0 (found o.entries d some))) in
    let sorted : IsStrictlySortedBy digest_cmp (keys_of more) = sorted_insert d tt o.entries o.sorted in
    let put = put_entries digests_total digests_apart o.entries more d tt refl in
    record {
      entries = more;
      sorted = sorted;
      exactly = λ x. (
        λ among. forward d x xs o.entries (o.exactly x).0 (is_at (digest_cmp d) x) refl (sym (ap is_some (lookup_put digests_total digests_apart o.entries d tt x)) ∙ there more x among),
        λ among. found more x (ap is_some (lookup_put digests_total digests_apart o.entries d tt x) ∙ elim (contains_cases d xs x among) [
          | inl here ↦ ap (λ b. is_some (cond b (Some tt) (lookup (is_at (digest_cmp x)) o.entries))) (subst (λ y. is_at (digest_cmp d) y ≡ true) here ((eq_by_cmp_equiv digests_total).refl d))
          | inr later ↦ kept (is_at (digest_cmp d) x) (lookup (is_at (digest_cmp x)) o.entries) (there o.entries x ((o.exactly x).1 later))
        ]),
      );
      counts =
          sym (len_sorted digests_total more sorted)
          ∙ ap len put
          ∙ len-insert digests_total (from_entries o.entries) d tt
          ∙ ap (λ r. cond (is_some r) (len (from_entries {R = digest_cmp} o.entries)) (len (from_entries {R = digest_cmp} o.entries) + 1)) (get_lookup digests_total o.entries d ∙ absent)
          ∙ ap (λ n. n + 1) (len_sorted digests_total o.entries o.sorted ∙ o.counts)
          ∙ add-one (length xs);
    }

in_order : (xs : List Digest) → IsDistinct (eq_by_cmp digest_cmp) xs → InOrder xs
in_order [] once = record { entries = []; sorted = ordered_none digest_cmp; exactly = λ x. (λ among. among, λ among. among); counts = refl }
in_order (d ∷ xs) once =
    let others = All-from_recursion (λ y. eq_by_cmp digest_cmp d y ≡ false) xs (IsDistinct-head (eq_by_cmp digest_cmp) d xs once) in
    one_more d xs (λ among. true≢false (sym ((eq_by_cmp_equiv digests_total).refl d) ∙ All-contains (λ y. eq_by_cmp digest_cmp d y ≡ false) xs d others among))
    (in_order xs (IsDistinct-tail (eq_by_cmp digest_cmp) d xs once))

-- the number of digests with P is the length of a list of them without repetition
pub count_of : (P : Digest → Type 0) (xs : List Digest) → IsDistinct (eq_by_cmp digest_cmp) xs → ((x : Digest) → Contains xs x ↔ P x) → HasCount digest_cmp P (length xs)
count_of P xs once are =
    let o = in_order xs once in (
      keys_of o.entries,
      record { exactly = λ x. (λ among. (are x).0 ((o.exactly x).0 among), λ has. (o.exactly x).1 ((are x).1 has)); ascending = o.sorted },
      length-map o.entries (λ (e : Digest × Unit {0}). e.0) ∙ o.counts,
    )
