use Rattle.nw_dag.proofs.Words.{◌≡◌, ◌+◌, List, [], ◌∷◌, ◌++◌, get_or, take, refl, sym, subst, arith, take_all, take_more, length_push, Digest}
use Rattle.nw_dag.specs.Changes.{AppendsThose}
use Rattle.nw_dag.specs.Collection.{IsCompleteBelow, HasCompleteBelow}
use Rattle.nw_dag.proofs.Listed.{adds_more, adds_none, one_added, one_left}
use Rattle.nw_dag.proofs.Releasing.{not_before}
use Rattle.nw_dag.proofs.Wanting.{refuted}
use Rattle.nw_dag.proofs.waits.Waits.complete_below.Goals.{then-is_complete_below, else-is_complete_below}
use Rattle.nw_dag.proofs.waits.Waits.complete_below.Goals as goal

pub loop-digest-init : goal.loop-digest-init
loop-digest-init c = record { counts = ([], adds_none (IsCompleteBelow c.args.held.now.state c.args.self.now.missing.lacking c.args.round) [], refl); below = omega arith }

pub loop-digest-preserved : goal.loop-digest-preserved
loop-digest-preserved c =
    let P = IsCompleteBelow c.args.held.now.state c.args.self.now.missing.lacking c.args.round in
    let none : Digest = record { 0 = [] } in
    let i = c.loop-digest.digest-index in
    let digests : List Digest = c.args.digests.now in
    let seen : List Digest = take i digests in
    let d : Digest = get_or digests i none in
    let more : take (i + 1) digests ≡ seen ++ d ∷ [] = take_more digests i none c.loop-digest-test.true in
    let other = not_before digests i none c.loop-digest-test.true c.requires in
    let inv = c.loop-digest.invariant in
    let lost = inv.counts.0 in
    record {
      counts = elim c.if-is_complete_below.branch [
        | then-is_complete_below w ↦ (
          lost ++ d ∷ [],
          subst (λ xs. AppendsThose P xs [] (lost ++ d ∷ [])) (sym more) (adds_more P seen d [] lost (lost ++ d ∷ []) other inv.counts.1 (one_added P d lost (lost ++ d ∷ []) (c.is_complete_below.ensures.0 w.if-is_complete_below.true) refl)),
          omega (arith, length_push lost d, inv.counts.2, w.count-is),
        )
        | else-is_complete_below w ↦ (
          lost,
          subst (λ xs. AppendsThose P xs [] lost) (sym more) (adds_more P seen d [] lost lost other inv.counts.1 (one_left P d lost (refuted c.is_complete_below.result (P d) c.is_complete_below.ensures w.if-is_complete_below.false))),
          omega (arith, inv.counts.2, w.count-is),
        )
      ];
      below = elim c.if-is_complete_below.branch [
        | then-is_complete_below w ↦ omega (arith, inv.below, w.count-is)
        | else-is_complete_below w ↦ omega (arith, inv.below, w.count-is)
      ];
    }

pub returns : goal.returns
returns c =
    subst (λ xs. HasCompleteBelow c.args.held.now.state c.args.self.now.missing.lacking c.args.round xs c.loop-digest.count) (take_all c.loop-digest.digest-index c.args.digests.now c.loop-digest-test.false) c.loop-digest.invariant.counts
