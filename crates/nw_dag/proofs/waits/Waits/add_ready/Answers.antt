use Rattle.nw_dag.proofs.Words.{◌≡◌, ◌+◌, List, [], ◌∷◌, ◌++◌, get_or, take, refl, sym, ◌∙◌, subst, take_more, Contains-get_or, Digest, Pairs}
use Rattle.nw_dag.specs.Lacking.{IsReady}
use Rattle.nw_dag.specs.Changes.{AppendsThose}
use Rattle.nw_dag.proofs.Listed.{adds_more, adds_none, pending_next}
use Rattle.nw_dag.proofs.Lists.{among_front}
use Rattle.nw_dag.proofs.Releasing.{not_before}
use Rattle.nw_dag.proofs.waits.Waits.add_ready.Goals as goal

pub add_if_ready-requires : goal.add_if_ready-requires
add_if_ready-requires c =
    let s = c.args.held.now.state in
    let none : Digest = record { 0 = [] } in
    let i = c.loop-digest.digest-index in
    let digests : List Digest = c.args.digests.now in
    let d : Digest = get_or digests i none in
    let inv = c.loop-digest.invariant in
    record {
      pending = λ ready. pending_next s c.args.self.now.missing.lacking digests (take i digests) c.args.self.now.completions.fresh.items c.loop-digest.self.completions.fresh.items c.args.self.now.completions.pending c.loop-digest.self.completions.pending d
          c.requires.pending inv.added (λ x among. among_front i digests x among) inv.most (Contains-get_or digests i none c.loop-digest-test.true)
          (not_before digests i none c.loop-digest-test.true c.requires.once) (subst (λ (m : Pairs). IsReady s m d) inv.lacking ready);
    }

pub loop-digest-preserved : goal.loop-digest-preserved
loop-digest-preserved c =
    let none : Digest = record { 0 = [] } in
    let P : Pairs → Digest → Type 0 = IsReady c.args.held.now.state in
    let seen : List Digest = take c.loop-digest.digest-index c.args.digests.now in
    let d : Digest = get_or c.args.digests.now c.loop-digest.digest-index none in
    let more : take (c.loop-digest.digest-index + 1) c.args.digests.now ≡ seen ++ d ∷ [] = take_more c.args.digests.now c.loop-digest.digest-index none c.loop-digest-test.true in
    let inv = c.loop-digest.invariant in
    let new = c.add_if_ready.new.self.completions.fresh.items in
    let one : AppendsThose (P c.args.self.now.missing.lacking) (d ∷ []) c.loop-digest.self.completions.fresh.items new =
    subst (λ (m : Pairs). AppendsThose (P m) (d ∷ []) c.loop-digest.self.completions.fresh.items new) inv.lacking c.add_if_ready.ensures.added in
    record {
      unmet = c.add_if_ready.ensures.unmet ∙ inv.unmet;
      lacking = c.add_if_ready.ensures.lacking ∙ inv.lacking;
      added = subst (λ xs. AppendsThose (P c.args.self.now.missing.lacking) xs c.args.self.now.completions.fresh.items new) (sym more)
          (adds_more (P c.args.self.now.missing.lacking) seen d c.args.self.now.completions.fresh.items c.loop-digest.self.completions.fresh.items new
          (not_before c.args.digests.now c.loop-digest.digest-index none c.loop-digest-test.true c.requires.once) inv.added one);
      most = c.add_if_ready.ensures.most ∙ inv.most;
    }

pub loop-digest-init : goal.loop-digest-init
loop-digest-init c = record { unmet = refl; lacking = refl; added = adds_none (IsReady c.args.held.now.state c.args.self.now.missing.lacking) c.args.self.now.completions.fresh.items; most = refl }
