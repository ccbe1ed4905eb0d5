-- Properties of each digest, or of some digest, of a list of entries.
use Rattle.nw_trie.proofs.Words.{inl, inr, Bool, true, false, cond, List, [], ◌∷◌, ◌++◌, filter, Ordering, Less, Equal, Greater, match_ordering, remove_entry, insert_entry, Digest}
use Rattle.std.proofs.Common.{◌⊎◌}
use Rattle.nw_trie.specs.Entries.{EachKey, SomeKey}

module _ {V : Type 0} where
  module _ (P : Digest → Type 0) where
    pub each_left : (l r : List (Digest × V)) → EachKey P (l ++ r) → EachKey P l
    each_left [] r h = tt
    each_left (e ∷ l) r h = (h.0, each_left l r h.1)

    pub each_right : (l r : List (Digest × V)) → EachKey P (l ++ r) → EachKey P r
    each_right [] r h = h
    each_right (e ∷ l) r h = each_right l r h.1

    pub each_both : (l r : List (Digest × V)) → EachKey P l → EachKey P r → EachKey P (l ++ r)
    each_both [] r hl hr = hr
    each_both (e ∷ l) r hl hr = (hl.0, each_both l r hl.1 hr)

    pub some_left : (l r : List (Digest × V)) → SomeKey P l → SomeKey P (l ++ r)
    some_left [] r h = absurd h
    some_left (e ∷ l) r (inl here) = inl here
    some_left (e ∷ l) r (inr there) = inr (some_left l r there)

    pub some_right : (l r : List (Digest × V)) → SomeKey P r → SomeKey P (l ++ r)
    some_right [] r h = h
    some_right (e ∷ l) r h = inr (some_right l r h)

    pub some_side : (l r : List (Digest × V)) → SomeKey P (l ++ r) → SomeKey P l ⊎ SomeKey P r
    some_side [] r h = inr h
    some_side (e ∷ l) r (inl here) = inl (inl here)
    some_side (e ∷ l) r (inr there) = elim (some_side l r there) [ inl x ↦ inl (inr x) | inr y ↦ inr y ]

    pub each_insert : (cmp : Digest → Digest → Ordering) (d : Digest) (v : V) → P d → (es : List (Digest × V)) → EachKey P es → EachKey P (insert_entry cmp es d v)
    each_insert cmp d v p [] h = (p, tt)
    each_insert cmp d v p (e ∷ es) h =
        elim (cmp d e.0) as (λ o. EachKey P (match_ordering o ((d, v) ∷ e ∷ es) ((e.0, v) ∷ es) (e ∷ insert_entry cmp es d v))) [
          | Less ↦ (p, h)
          | Equal ↦ h
          | Greater ↦ (h.0, each_insert cmp d v p es h.1)
        ]

    pub each_remove : (test : Digest → Bool) (es : List (Digest × V)) → EachKey P es → EachKey P (remove_entry test es)
    each_remove test [] h = tt
    each_remove test (e ∷ es) h =
        elim (test e.0) as (λ b. EachKey P (cond b es (e ∷ remove_entry test es))) [ true ↦ h.1 | false ↦ (h.0, each_remove test es h.1) ]

    pub each_filter : (test : Digest × V → Bool) (es : List (Digest × V)) → EachKey P es → EachKey P (filter test es)
    each_filter test [] h = tt
    each_filter test (e ∷ es) h =
        elim (test e) as (λ b. EachKey P (cond b (e ∷ filter test es) (filter test es))) [ true ↦ (h.0, each_filter test es h.1) | false ↦ each_filter test es h.1 ]

    module _ (Q : Digest → Type 0) where
      pub each_more : ((k : Digest) → P k → Q k) → (es : List (Digest × V)) → EachKey P es → EachKey Q es
      each_more f [] h = tt
      each_more f (e ∷ es) h = (f e.0 h.0, each_more f es h.1)

      pub each_pair : (es : List (Digest × V)) → EachKey P es → EachKey Q es → EachKey (λ k. P k × Q k) es
      each_pair [] h i = tt
      each_pair (e ∷ es) h i = ((h.0, i.0), each_pair es h.1 i.1)

      pub some_more : ((k : Digest) → P k → Q k) → (es : List (Digest × V)) → SomeKey P es → SomeKey Q es
      some_more f [] h = absurd h
      some_more f (e ∷ es) (inl here) = inl (f e.0 here)
      some_more f (e ∷ es) (inr there) = inr (some_more f es there)

      -- if one property holds for some digest and another for each, both hold for one digest
      pub some_of_each : (es : List (Digest × V)) → SomeKey P es → EachKey Q es → (k : Digest) × P k × Q k
      some_of_each [] h all = absurd h
      some_of_each (e ∷ es) (inl here) all = (e.0, here, all.0)
      some_of_each (e ∷ es) (inr there) all = some_of_each es there all.1
