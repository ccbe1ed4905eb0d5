use Rattle.nw_generation.proofs.Words.{◌≡◌, ◌++◌, ◌∷◌, ap, subst, sym, ◌∙◌, ordering_reverse, Digest, Block, digests_total}
use Rattle.nw_generation.specs.Entries.{Ascend, under}
use Rattle.nw_generation.proofs.Searches.{found_after, found_at, found_before, heads_split}
use Rattle.nw_generation.proofs.index.find.Goals.{in-Less, in-Greater}
use Rattle.nw_generation.proofs.index.find.Goals as goal

pub order-requires-clause-other : goal.order-requires-clause-other
order-requires-clause-other c =
    let one = c.split_around.result in
    let two = c.split_around-in-loop-heads.result in
    (heads_split one.0.now one.2.now two.0.now two.2.now one.1.now two.1.now (c.split_around.ensures.place ∙ sym c.split_around-in-loop-heads.ensures.place)
    (rw (c.split_around.ensures.parts, c.split_around-in-loop-heads.ensures.parts) c.loop-heads.invariant.0)).1

pub returns-in-Equal : goal.returns-in-Equal
returns-in-Equal c =
    let two = c.split_around-in-loop-heads.result in
    let e : Digest × Block = two.1.now in
    let d : Digest = c.args.digest.now in
    let is : two.0.now ++ e ∷ two.2.now ≡ c.loop-heads.left.now = c.split_around-in-loop-heads.ensures.parts in
    sym (found_at d e.0 e.1 two.2.now two.0.now (subst Ascend (sym is) c.loop-heads.invariant.1) (sym c.order.ensures ∙ c.in-Equal.is)) ∙ ap (λ es. under es d) is ∙ c.loop-heads.invariant.2

pub loop-heads-preserved : goal.loop-heads-preserved
loop-heads-preserved c =
    let one = c.split_around.result in
    let two = c.split_around-in-loop-heads.result in
    let e : Digest × Block = two.1.now in
    let d : Digest = c.args.digest.now in
    let is : two.0.now ++ e ∷ two.2.now ≡ c.loop-heads.left.now = c.split_around-in-loop-heads.ensures.parts in
    let ascend : Ascend (two.0.now ++ e ∷ two.2.now) = subst Ascend (sym is) c.loop-heads.invariant.1 in
    let parts = heads_split one.0.now one.2.now two.0.now two.2.now one.1.now e (c.split_around.ensures.place ∙ sym c.split_around-in-loop-heads.ensures.place) (rw (c.split_around.ensures.parts, is) c.loop-heads.invariant.0) in
    elim c.match-order.branch [
      | in-Less w ↦
          let found = found_before d e.0 e.1 two.2.now two.0.now ascend (sym c.order.ensures ∙ w.in-Less.is) in
          rw (w.heads-is, w.left-is) (parts.0, found.1, sym found.0 ∙ ap (λ es. under es d) is ∙ c.loop-heads.invariant.2)
      | in-Greater w ↦
          let found = found_after d e.0 e.1 two.2.now two.0.now ascend (digests_total.antisymm e.0 d ∙ ap ordering_reverse (sym c.order.ensures ∙ w.in-Greater.is)) in
          rw (w.heads-is, w.left-is) (parts.2, found.1, sym found.0 ∙ ap (λ es. under es d) is ∙ c.loop-heads.invariant.2)
    ]
