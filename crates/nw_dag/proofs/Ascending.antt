-- Digests and entries that ascend.
use Rattle.nw_dag.proofs.Words.{◌≡◌, ◌⊎◌, ℕ, ◌<◌, List, [], ◌∷◌, ◌++◌, length, take, get_or, refl, ap, sym, ◌∙◌, subst, arith, Contains, get_or_default, get_or-take, length-take, Contains-push_cases, Less, Greater, IsStrictlySortedBy, insert_entry, keys_of, Block, Digest, digest_cmp, contains_first, contains_later, digests_total, sorted_insert}
use Rattle.std.proofs.lemmas.List.{map-append}
use Rattle.std.specs.Ordering.{match_ordering, ordering_reverse}
use Rattle.std.proofs.lemmas.Map.Keys.{Less-from_sorted}

-- the digests before place i come before the one there
pub before_place : (xs : List Digest) (i : ℕ) (none k : Digest) → IsStrictlySortedBy digest_cmp xs → i < length xs → Contains (take i xs) k → digest_cmp k (get_or xs i none) ≡ Less
before_place xs i none k sorted within (j, inside, at) =
    let low : j < i = omega (arith, length-take i xs, inside) in
    let is : get_or xs j none ≡ k = get_or_default xs j none k (omega (arith, low, within)) ∙ sym (get_or-take i xs j k low) ∙ at in
    subst (λ d. digest_cmp d (get_or xs i none) ≡ Less) is (Less-from_sorted digest_cmp xs j i none sorted low within)

-- an entry after all others is put last
put_last : (es : List (Digest × Block)) (d : Digest) (b : Block) → ((k : Digest) → Contains (keys_of es) k → digest_cmp k d ≡ Less) → insert_entry digest_cmp es d b ≡ es ++ (d, b) ∷ []
put_last [] d b below = refl
put_last (e ∷ es) d b below =
    let after : digest_cmp d e.0 ≡ Greater = digests_total.antisymm d e.0 ∙ ap ordering_reverse (below e.0 (contains_first e.0 (keys_of es))) in
    ap (λ o. match_ordering o ((d, b) ∷ e ∷ es) ((e.0, b) ∷ es) (e ∷ insert_entry digest_cmp es d b)) after
    ∙ ap (λ (xs : List (Digest × Block)). e ∷ xs) (put_last es d b (λ k among. below k (contains_later e.0 (keys_of es) k among)))

-- one more entry, after all others
pub record Goes (es more : List (Digest × Block)) (d : Digest) (b : Block) : Type 0 where
  pub put : insert_entry digest_cmp es d b ≡ more
  pub ascend : IsStrictlySortedBy digest_cmp (keys_of more)
  pub keys : (k : Digest) → Contains (keys_of more) k → Contains (keys_of es) k ⊎ (d ≡ k)

pub goes_last : (es more : List (Digest × Block)) (d : Digest) (b : Block) → IsStrictlySortedBy digest_cmp (keys_of es) → ((k : Digest) → Contains (keys_of es) k → digest_cmp k d ≡ Less) → more ≡ es ++ (d, b) ∷ [] → Goes es more d b
goes_last es more d b sorted below is =
    let put : insert_entry digest_cmp es d b ≡ more = put_last es d b below ∙ sym is in
    record {
      put = put;
      ascend = subst (λ (xs : List (Digest × Block)). IsStrictlySortedBy digest_cmp (keys_of xs)) put (sorted_insert d b es sorted);
      keys = λ k among. Contains-push_cases (keys_of es) d k (subst (λ xs. Contains xs k) (ap keys_of is ∙ map-append (λ (e : Digest × Block). e.0) es ((d, b) ∷ [])) among);
    }
