use Rattle.nw_trie.proofs.Words.{◌≡◌, ◌∙◌, ℕ, ◌+◌, ◌^◌, ◌<◌, Bool, true, false, Option, Some, None, ap, arith, length, refl, subst, sym, lookup, is_at, digest_cmp}
use Rattle.std.proofs.Common.{is_some}
use Rattle.std.specs.Prelude.{◌↔◌, IsTrue}
use Rattle.nw_trie.specs.Places.{joined}
use Rattle.nw_trie.proofs.map.DigestMap.put.Goals as goal

-- one more entry can be counted, if nothing was found and the map is not full
room : {V : Type 0} (n : ℕ) (full : Bool) (found : Option V) → IsTrue full ↔ ((n ≡ 18446744073709551615) × (found ≡ None)) → full ≡ false → is_some found ≡ false → n < 2 ^ 64 → n + 1 < 2 ^ 64
room n full (Some v) decides off none fits = cc
room n full None decides off none fits = by (λ e. let yes : full ≡ true = decides.1 (e, refl) in cc)
  where
    by : (n ≡ 18446744073709551615 → ⊥) → n + 1 < 2 ^ 64
    by never = omega (arith, never)

pub overflow_add-self : goal.overflow_add-self
overflow_add-self g c =
    let here : joined c.self.inside.trees.items ≡ c.args.self.now = c.self.view_is ∙ c.spread.ensures in
    let decides = subst (λ es. IsTrue c.is_full_for.result ↔ ((length es ≡ 18446744073709551615) × (lookup (is_at (digest_cmp c.args.digest)) es ≡ None))) (sym here) c.is_full_for.ensures in
    let below : c.self.inside.len + 1 < 2 ^ 64 = room c.self.inside.len c.is_full_for.result (lookup (is_at (digest_cmp c.args.digest)) (joined c.self.inside.trees.items))
    (subst (λ n. IsTrue c.is_full_for.result ↔ ((n ≡ 18446744073709551615) × (lookup (is_at (digest_cmp c.args.digest)) (joined c.self.inside.trees.items) ≡ None))) (sym c.self.invariant.counted) decides)
    c.if-is_full_for.false (ap is_some (sym c.in_ok-old.ensures.old) ∙ c.if-is_none.ensures) (omega arith) in
    omega (arith, below)
