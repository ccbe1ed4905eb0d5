-- Lookups, lengths and insertions are the same for a finite map and for the ordered map of its entries.
use Rattle.std.proofs.Common.{◌≡◌, ℕ, ◌+◌, Bool, true, false, List, [], ◌∷◌, length, Option, Some, None, cond, is_some, refl, ap, sym, ◌∙◌, add-one}
use Rattle.std.specs.declared.cmp.Ordering.{Ordering}
use Rattle.std.specs.declared.cmp.Ordering.TheVariants.{Less, Equal, Greater}
use Rattle.std.specs.Ordering.{nat_cmp, is_eq, eq_by_cmp, match_ordering}
use Rattle.std.specs.Cmp.{IsTotalOrder, eq_by_cmp_equiv}
use Rattle.std.specs.Cmp.Lexicographic.{nat_list_cmp_total}
use Rattle.std.specs.List.{AllByRecursion}
use Rattle.std.specs.List.Sorted.{IsStrictlySortedBy}
use Rattle.std.specs.Map.{lookup, keys_of}
use Rattle.std.specs.BTreeMap.{is_at, insert_entry}
use Rattle.std.specs.FinMap.{IsAntisymmetric, from_entries, get, insert, len, find, get-from_entries, get-insert, len-insert, len-empty, same_map}
use Rattle.std.proofs.lemmas.Cmp.{on_total, then_total, nat_cmp_total}
use Rattle.std.proofs.lemmas.Map.Keys.{sorted_head, sorted_tail}
use Rattle.std.proofs.lemmas.Map.Lookups.{exact_bytes, exact_unsigned, exact_pairs}
use Rattle.nw_digest.specs.declared.digest.Digest.{Digest}
use Rattle.nw_digest.specs.Order.{digest_cmp, Slot, slot_cmp}

pub digests_total : IsTotalOrder digest_cmp
digests_total = on_total (λ d. d.0) nat_list_cmp_total

pub slots_total : IsTotalOrder slot_cmp
slots_total = then_total (on_total (λ (s : Slot). s.0) nat_cmp_total) (on_total (λ (s : Slot). s.1) nat_cmp_total)

pub digests_apart : IsAntisymmetric digest_cmp
digests_apart a b e = let bytes : a.0 ≡ b.0 = exact_bytes a.0 b.0 e in ap (λ (xs : List ℕ). let d : Digest = record { 0 = xs } in d) bytes

pub slots_apart : IsAntisymmetric slot_cmp
slots_apart = exact_pairs nat_cmp nat_cmp exact_unsigned exact_unsigned

pub tie : (r : Ordering) → is_eq r ≡ true → r ≡ Equal
tie Less e = cc
tie Equal e = refl
tie Greater e = cc

pub same_digest : (a b : Digest) → eq_by_cmp digest_cmp a b ≡ true → a ≡ b
same_digest a b e = digests_apart a b (tie (digest_cmp a b) e)

replaced : {A : Type 0} (b : Bool) (v old : A) (found : Option A) → cond b (Some v) found ≡ cond b (Some v) (cond b (Some old) found)
replaced true v old found = refl
replaced false v old found = refl

apart : {A : Type 0} (a b : Bool) (v old : A) (found : Option A) → (a ≡ true → b ≡ true → ⊥) → cond a (Some old) (cond b (Some v) found) ≡ cond b (Some v) (cond a (Some old) found)
apart true true v old found h = absurd (h refl refl)
apart true false v old found h = refl
apart false true v old found h = refl
apart false false v old found h = refl

pub find_lookup : {K X : Type 0} (R : K → K → Ordering) (es : List (K × X)) (q : K) → find R q es ≡ lookup (is_at (R q)) es
find_lookup R [] q = refl
find_lookup R (e ∷ es) q = ap (cond (is_at (R q) e.0) (Some e.1)) (find_lookup R es q)

pub find_below : {K X : Type 0} (R : K → K → Ordering) (k : K) (es : List (K × X)) → AllByRecursion (λ y. R k y ≡ Less) (keys_of es) → find R k es ≡ None
find_below R k [] h = refl
find_below R k (e ∷ es) h = ap (λ r. cond (is_eq r) (Some e.1) (find R k es)) h.0 ∙ find_below R k es h.1

module _ {K X : Type 0} {R : K → K → Ordering} (o : IsTotalOrder R) where
  pub get_lookup : (es : List (K × X)) (q : K) → get (from_entries {R = R} es) q ≡ lookup (is_at (R q)) es
  get_lookup es q = get-from_entries o es q ∙ find_lookup R es q

  pub len_sorted : (es : List (K × X)) → IsStrictlySortedBy R (keys_of es) → len (from_entries {R = R} es) ≡ length es
  len_sorted [] s = len-empty R X
  len_sorted (e ∷ es) s =
      let absent : get (from_entries {R = R} es) e.0 ≡ None = get-from_entries o es e.0 ∙ find_below R e.0 es (sorted_head R e.0 (keys_of es) s) in
      len-insert o (from_entries es) e.0 e.1
      ∙ ap (λ found. cond (is_some found) (len (from_entries {R = R} es)) (len (from_entries {R = R} es) + 1)) absent
      ∙ ap (λ n. n + 1) (len_sorted es (sorted_tail R e.0 (keys_of es) s))
      ∙ add-one (length es)

  -- if lookups in n find v at k, and otherwise what lookups in m find, then n is m with v inserted at k
  pub inserted : IsAntisymmetric R → (m n : List (K × X)) (k : K) (v : X)
      → ((q : K) → lookup (is_at (R q)) n ≡ cond (is_at (R k) q) (Some v) (lookup (is_at (R q)) m)) → from_entries {R = R} n ≡ insert (from_entries m) k v
  inserted same m n k v is = same_map o same _ _ (λ q.
      get_lookup n q ∙ is q
      ∙ ap (λ b. cond b (Some v) (lookup (is_at (R q)) m)) ((eq_by_cmp_equiv o).symm k q)
      ∙ ap (cond (eq_by_cmp R q k) (Some v)) (sym (get_lookup m q))
      ∙ sym (get-insert o (from_entries m) k v q))

  -- a lookup after an insertion into the entries
  pub lookup_put : IsAntisymmetric R → (es : List (K × X)) (k : K) (v : X) (q : K)
      → lookup (is_at (R q)) (insert_entry R es k v) ≡ cond (is_at (R k) q) (Some v) (lookup (is_at (R q)) es)
  lookup_put same [] k v q = ap (λ b. cond b (Some v) None) ((eq_by_cmp_equiv o).symm q k)
  lookup_put same (e ∷ es) k v q = by (lookup_put same es k v q) (R k e.0) refl
    where
      by : lookup (is_at (R q)) (insert_entry R es k v) ≡ cond (is_at (R k) q) (Some v) (lookup (is_at (R q)) es) → (r : Ordering) → R k e.0 ≡ r
          → lookup (is_at (R q)) (match_ordering r ((k, v) ∷ e ∷ es) ((e.0, v) ∷ es) (e ∷ insert_entry R es k v)) ≡ cond (is_at (R k) q) (Some v) (lookup (is_at (R q)) (e ∷ es))
      by rest Less is = ap (λ b. cond b (Some v) (lookup (is_at (R q)) (e ∷ es))) ((eq_by_cmp_equiv o).symm q k)
      by rest Equal is =
          let one : is_at (R q) e.0 ≡ is_at (R k) q = ap (λ x. is_at (R q) x) (sym (same k e.0 is)) ∙ (eq_by_cmp_equiv o).symm q k in
          rw (one) (replaced (is_at (R k) q) v e.1 (lookup (is_at (R q)) es))
      by rest Greater is =
          ap (cond (is_at (R q) e.0) (Some e.1)) rest
          ∙ apart (is_at (R q) e.0) (is_at (R k) q) v e.1 (lookup (is_at (R q)) es)
          (λ at_e at_k. let here : R k e.0 ≡ Equal = ap (λ x. R k x) (sym (same q e.0 (tie (R q e.0) at_e))) ∙ tie (R k q) at_k in cc)

  -- the entries after an insertion, as a finite map
  pub put_entries : IsAntisymmetric R → (m n : List (K × X)) (k : K) (v : X) → n ≡ insert_entry R m k v → from_entries {R = R} n ≡ insert (from_entries m) k v
  put_entries same m n k v is = inserted same m n k v (λ q. ap (lookup (is_at (R q))) is ∙ lookup_put same m k v q)
