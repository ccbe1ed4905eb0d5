use Rattle.nw_waiting.proofs.Words.{◌≡◌, ◌∙◌, ◌+◌, ◌<◌, ◌∷◌, ℕ, List, ap, drop, get_or, length, refl, sym, subst, arith, common_steps, Digest, Wanted}
use Rattle.std.proofs.Common.{add-one, drop-cons, suc}
use Rattle.std.proofs.lemmas.Bool.{true≢false}
use Rattle.std.proofs.Math.ListN.{drop_of_length-le}
use Rattle.nw_waiting.specs.Pairs.{AreMissing, Lacks, without_holder}
use Rattle.nw_waiting.specs.Parted.{HaveHolders, parted}
use Rattle.nw_waiting.proofs.Parted.{AreLeft, left_first, left_last, left_unwanted, left_wanted, left_unmet}
use Rattle.nw_waiting.proofs.parents.MissingParents.drop_holder.Goals as goal
use Rattle.nw_waiting.proofs.parents.MissingParents.drop_holder.Goals.{else-not-is_wanted, then-not-is_wanted}

next : (xs : List Wanted) (i : ℕ) (x : Wanted) → i < length xs → x ≡ get_or xs i x → drop i xs ≡ x ∷ drop (i + 1) xs
next xs i x below is = rw add-one (drop-cons xs i x below ∙ ap (λ y. y ∷ drop (suc i) xs) (sym is))

pub loop-wanted-init : goal.loop-wanted-init
loop-wanted-init g c = (
  refl,
  left_first c.self.inside.lacking c.unwant-missing.new.self c.self.inside.unmet.keys c.args.holder c.unwant-missing.ensures.rest c.as_slice-wanted-items.result.now c.self.invariant
      (subst (AreMissing c.self.inside.lacking c.args.holder) (sym c.as_slice-wanted-items.ensures.value) c.unwant-missing.ensures.missing),
)

pub loop-wanted-preserved : goal.loop-wanted-preserved
loop-wanted-preserved g c =
    let t = c.unwant-missing.new.self in
    let x = c.wanted-item.result in
    let rest = drop (c.loop-wanted.wanted-index + 1) c.as_slice-wanted-items.result.now in
    let keys = c.loop-wanted.self-inside.unmet.keys in
    let kept = c.loop-wanted.invariant.0 in
    let was = subst (AreLeft t c.self.inside.unmet.keys keys) (next c.as_slice-wanted-items.result.now c.loop-wanted.wanted-index x c.loop-wanted-test.true c.wanted-item.is) c.loop-wanted.invariant.1 in
    elim c.if-not-is_wanted.branch [
      | then-not-is_wanted w ↦
          let none = λ (some : (h : Digest) × Lacks t h x). true≢false (sym (c.is_wanted.ensures.1 (subst (λ u. (h : Digest) × Lacks u h x) (sym kept) some)) ∙ w.if-not-is_wanted.true) in
          subst (λ inside. (inside.lacking ≡ t) × AreLeft t c.self.inside.unmet.keys inside.unmet.keys rest) (sym w.self-inside-is)
          (kept, left_unwanted t c.self.inside.unmet.keys keys rest x was w.remove-was_unmet.new.self.keys none (λ q. w.remove-was_unmet.ensures.updates.0 q))
      | else-not-is_wanted w ↦
          let some = subst (λ u. (h : Digest) × Lacks u h x) kept (c.is_wanted.ensures.0 w.if-not-is_wanted.false) in
          subst (λ inside. (inside.lacking ≡ t) × AreLeft t c.self.inside.unmet.keys inside.unmet.keys rest) (sym w.self-inside-is) (kept, left_wanted t c.self.inside.unmet.keys keys rest x was some)
    ]

pub invariant_of-self : goal.invariant_of-self
invariant_of-self g c =
    let t = c.unwant-missing.new.self in
    let now = c.loop-wanted.self-inside.unmet.keys in
    subst (λ u. HaveHolders u now) (sym c.loop-wanted.invariant.0)
    (left_last t c.self.inside.unmet.keys now (subst (AreLeft t c.self.inside.unmet.keys now) (drop_of_length-le c.as_slice-wanted-items.result.now c.loop-wanted-test.false) c.loop-wanted.invariant.1))

pub returns-clause-count : goal.returns-clause-count
returns-clause-count g c = (
  c.unwant-missing.result.items,
  subst (λ u. AreMissing u c.args.holder c.unwant-missing.result.items) (ap (λ s. s.lacking) c.self.view_is) c.unwant-missing.ensures.missing,
  grind (arith, common_steps),
)

pub returns-clause-unmet : goal.returns-clause-unmet
returns-clause-unmet g c =
    ap (λ u. (parted u c.loop-wanted.self-inside.unmet.keys).unmet) c.loop-wanted.invariant.0
    ∙ left_unmet c.self.inside.lacking c.unwant-missing.new.self c.self.inside.unmet.keys c.args.holder c.unwant-missing.ensures.rest c.loop-wanted.self-inside.unmet.keys _ c.loop-wanted.invariant.1
    ∙ ap (λ s. without_holder s.unmet c.args.holder) c.self.view_is
