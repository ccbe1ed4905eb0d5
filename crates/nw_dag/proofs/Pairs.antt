-- The pairs of a set after a change.
use Rattle.nw_dag.proofs.Words.{◌≡◌, ◌↔◌, ◌⊎◌, Bool, true, false, not, refl, ap, sym, ◌∙◌, subst, inl, inr, true≢false, eq_by_cmp, eq_by_cmp_equiv, contains, insert, Digest, Wanted, digest_cmp, Pairs, Lacks, pair_cmp, without_holder, without_wanted, wanted_cmp, digests_total, same_digest, pairs_apart, pairs_total}
use Rattle.std.proofs.Common.{◌&&◌, ◌||◌}
use Rattle.std.proofs.lemmas.Map.Views.{tells_apart}
use Rattle.std.proofs.lemmas.Bool.{and_from, and_parts, or_cases, or_right}
use Rattle.std.specs.FinSet.{contains-insert, contains-retain}
use Rattle.nw_waiting.specs.Pairs.{Pair}
use Rattle.nw_model.proofs.WantedOrder.{one_wanted, wanted_total}

not_true : (a : Bool) → (a ≡ true → ⊥) → not a ≡ true
not_true true never = absurd (never refl)
not_true false never = refl

true_not : (a : Bool) → not a ≡ true → a ≡ true → ⊥
true_not true n is = cc
true_not false n is = cc

-- ---- one more pair

pub lacks_more : (s : Pairs) (v w : Wanted) (h d : Digest) → Lacks (insert s (v, h)) d w → ((w ≡ v) × (d ≡ h)) ⊎ Lacks s d w
lacks_more s v w h d lacks =
    elim (or_cases (eq_by_cmp pair_cmp (w, d) (v, h)) (contains s (w, d)) (sym (contains-insert pairs_total s (v, h) (w, d)) ∙ lacks)) [
      | inl new ↦ let same : ◌≡◌ {A = Pair} (w, d) (v, h) = tells_apart pairs_apart (w, d) (v, h) new in inl (ap (λ (p : Pair). p.0) same, ap (λ (p : Pair). p.1) same)
      | inr old ↦ inr old
    ]

pub lacks_new : (s : Pairs) (v : Wanted) (h : Digest) → Lacks (insert s (v, h)) h v
lacks_new s v h = contains-insert pairs_total s (v, h) (v, h) ∙ ap (λ b. b || contains s (v, h)) ((eq_by_cmp_equiv pairs_total).refl (v, h))

pub lacks_still : (s : Pairs) (v w : Wanted) (h d : Digest) → Lacks s d w → Lacks (insert s (v, h)) d w
lacks_still s v w h d lacks = contains-insert pairs_total s (v, h) (w, d) ∙ or_right (eq_by_cmp pair_cmp (w, d) (v, h)) (contains s (w, d)) lacks

-- ---- removing all pairs of a parent, or of a holder

at_wanted : (s : Pairs) (v w : Wanted) (d : Digest) → contains (without_wanted s v) (w, d) ≡ (contains s (w, d) && not (eq_by_cmp wanted_cmp v w))
at_wanted s v w d = contains-retain s (λ p. not (eq_by_cmp wanted_cmp v p.0)) (w, d) (λ x e. ap (λ (p : Pair). not (eq_by_cmp wanted_cmp v p.0)) (sym (pairs_apart (w, d) x e)))

at_holder : (s : Pairs) (w : Wanted) (h d : Digest) → contains (without_holder s h) (w, d) ≡ (contains s (w, d) && not (eq_by_cmp digest_cmp h d))
at_holder s w h d = contains-retain s (λ p. not (eq_by_cmp digest_cmp h p.1)) (w, d) (λ x e. ap (λ (p : Pair). not (eq_by_cmp digest_cmp h p.1)) (sym (pairs_apart (w, d) x e)))

pub without_wanted_lacks : (s : Pairs) (v w : Wanted) (d : Digest) → Lacks (without_wanted s v) d w ↔ (Lacks s d w × (v ≡ w → ⊥))
without_wanted_lacks s v w d = (
  λ lacks.
      let both = sym (at_wanted s v w d) ∙ lacks in
      ((and_parts (contains s (w, d)) _ both).0, λ same. true_not (eq_by_cmp wanted_cmp v w) (and_parts (contains s (w, d)) _ both).1 (subst (λ x. eq_by_cmp wanted_cmp v x ≡ true) same ((eq_by_cmp_equiv wanted_total).refl v))),
  λ (lacks, other). at_wanted s v w d ∙ and_from (contains s (w, d)) (not (eq_by_cmp wanted_cmp v w)) lacks (not_true (eq_by_cmp wanted_cmp v w) (λ e. other (one_wanted v w e))),
)

pub without_holder_lacks : (s : Pairs) (h d : Digest) (w : Wanted) → Lacks (without_holder s h) d w ↔ (Lacks s d w × (h ≡ d → ⊥))
without_holder_lacks s h d w = (
  λ lacks.
      let both = sym (at_holder s w h d) ∙ lacks in
      ((and_parts (contains s (w, d)) _ both).0, λ same. true_not (eq_by_cmp digest_cmp h d) (and_parts (contains s (w, d)) _ both).1 (subst (λ x. eq_by_cmp digest_cmp h x ≡ true) same ((eq_by_cmp_equiv digests_total).refl h))),
  λ (lacks, other). at_holder s w h d ∙ and_from (contains s (w, d)) (not (eq_by_cmp digest_cmp h d)) lacks (not_true (eq_by_cmp digest_cmp h d) (λ e. other (same_digest h d e))),
)

-- ---- tests that decide

pub lacks_or_not : (s : Pairs) (d : Digest) (w : Wanted) → Lacks s d w ⊎ (Lacks s d w → ⊥)
lacks_or_not s d w = by (contains s (w, d)) refl
  where
    by : (b : Bool) → contains s (w, d) ≡ b → Lacks s d w ⊎ (Lacks s d w → ⊥)
    by true e = inl e
    by false e = inr (λ is. true≢false (sym is ∙ e))

pub same_or_not : (c d : Digest) → (c ≡ d) ⊎ (c ≡ d → ⊥)
same_or_not c d = by (eq_by_cmp digest_cmp c d) refl
  where
    by : (b : Bool) → eq_by_cmp digest_cmp c d ≡ b → (c ≡ d) ⊎ (c ≡ d → ⊥)
    by true e = inl (same_digest c d e)
    by false e = inr (λ same. true≢false (sym (subst (λ x. eq_by_cmp digest_cmp c x ≡ true) same ((eq_by_cmp_equiv digests_total).refl c)) ∙ e))

pub wanted_or_not : (v w : Wanted) → (v ≡ w) ⊎ (v ≡ w → ⊥)
wanted_or_not v w = by (eq_by_cmp wanted_cmp v w) refl
  where
    by : (b : Bool) → eq_by_cmp wanted_cmp v w ≡ b → (v ≡ w) ⊎ (v ≡ w → ⊥)
    by true e = inl (one_wanted v w e)
    by false e = inr (λ same. true≢false (sym (subst (λ x. eq_by_cmp wanted_cmp v x ≡ true) same ((eq_by_cmp_equiv wanted_total).refl v)) ∙ e))
