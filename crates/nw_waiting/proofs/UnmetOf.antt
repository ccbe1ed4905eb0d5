-- The unmet parents of one holder.
use Rattle.nw_waiting.proofs.Words.{◌≡◌, ◌∙◌, ℕ, ◌+◌, ◌<◌, Bool, true, false, cond, List, [], ◌∷◌, ◌++◌, length, take, get_or, refl, sym, ap, filter, contains, and_from, and_parts, take_more, Digest, Wanted, ListsExactly, wanted_cmp}
use Rattle.std.proofs.Common.{length-append}
use Rattle.std.proofs.lemmas.List.{append-nil}
use Rattle.std.proofs.lemmas.List.Elements.{filter-append}
use Rattle.std.proofs.lemmas.List.Kept.{IsStrictlySortedBy-filter}
use Rattle.nw_digest.proofs.Elements.{contains_filter}
use Rattle.nw_waiting.specs.Pairs.{Lacks, Pairs}
use Rattle.nw_waiting.specs.Parted.{is_one, parted}
use Rattle.nw_waiting.proofs.Parted.{at_unmet}

-- those of the holder's missing parents that are unmet are its unmet parents
pub unmet_among : (s : Pairs) (ks : List Wanted) (h : Digest) (missing : List Wanted) → ListsExactly wanted_cmp (Lacks s h) missing → ListsExactly wanted_cmp (Lacks (parted s ks).unmet h) (filter (is_one ks) missing)
unmet_among s ks h missing are = record {
  exactly = λ w. (
    (λ among.
        let both = (contains_filter (is_one ks) missing w).0 among in
        at_unmet s ks w h ∙ and_from (contains s (w, h)) (is_one ks w) ((are.exactly w).0 both.0) both.1),
    (λ lacks.
        let both = and_parts (contains s (w, h)) (is_one ks w) (sym (at_unmet s ks w h) ∙ lacks) in
        (contains_filter (is_one ks) missing w).1 ((are.exactly w).1 both.0, both.1)),
  );
  ascending = IsStrictlySortedBy-filter wanted_cmp (is_one ks) missing are.ascending;
}

-- the unmet ones of the parents read, after one more
pub next_unmet : (p : Wanted → Bool) (xs : List Wanted) (i : ℕ) (x : Wanted) (old new : List Wanted) → i < length xs → x ≡ get_or xs i x → old ≡ filter p (take i xs) → new ≡ cond (p x) (old ++ x ∷ []) old → new ≡ filter p (take (i + 1) xs)
next_unmet p xs i x old new below is old_is new_is =
    let more : take (i + 1) xs ≡ take i xs ++ x ∷ [] = take_more xs i x below ∙ ap (λ (y : Wanted). take i xs ++ y ∷ []) (sym is) in
    new_is ∙ put (p x) old ∙ ap (λ (ys : List Wanted). ys ++ cond (p x) (x ∷ []) []) old_is ∙ sym (ap (filter p) more ∙ filter-append p (take i xs) (x ∷ []))
  where
    put : (b : Bool) (ys : List Wanted) → cond b (ys ++ x ∷ []) ys ≡ ys ++ cond b (x ∷ []) []
    put true ys = refl
    put false ys = sym (append-nil ys)

-- and their number
pub next_count : (p : Wanted → Bool) (xs : List Wanted) (i : ℕ) (x : Wanted) (old new : ℕ) → i < length xs → x ≡ get_or xs i x → old ≡ length (filter p (take i xs)) → new ≡ cond (p x) (old + 1) old → new ≡ length (filter p (take (i + 1) xs))
next_count p xs i x old new below is old_is new_is =
    let kept = filter p (take i xs) in
    new_is ∙ ap (λ n. cond (p x) (n + 1) n) old_is ∙ put (p x) kept
    ∙ ap length (next_unmet p xs i x kept (cond (p x) (kept ++ x ∷ []) kept) below is refl refl)
  where
    put : (b : Bool) (ys : List Wanted) → cond b (length ys + 1) (length ys) ≡ length (cond b (ys ++ x ∷ []) ys)
    put true ys = sym (length-append ys (x ∷ []))
    put false ys = refl
