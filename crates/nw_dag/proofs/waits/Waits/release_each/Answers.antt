use Rattle.nw_dag.proofs.Words.{◌≡◌, ◌+◌, List, [], ◌∷◌, ◌++◌, get_or, take, refl, sym, ◌∙◌, subst, take_all, take_more, Digest, State}
use Rattle.nw_dag.specs.Changes.{AppendsThose}
use Rattle.nw_dag.specs.Collection.{AreReleased, StandsButLacks}
use Rattle.nw_dag.proofs.Listed.{adds_none}
use Rattle.nw_dag.proofs.Releasing.{without_none, without_more, not_before, stuck_more, count_released}
use Rattle.nw_dag.proofs.waits.Waits.release_each.Goals as goal

pub loop-holder-init : goal.loop-holder-init
loop-holder-init c = record {
  unmet = without_none c.args.self.now.missing.unmet;
  lacking = without_none c.args.self.now.missing.lacking;
  added = adds_none (StandsButLacks c.args.held.now.state c.args.self.now.missing.lacking) c.args.self.now.completions.fresh.items;
  most = refl;
}

pub release-requires : goal.release-requires
release-requires c =
    let inv = c.loop-holder.invariant in
    record {
      pending = count_released c.args.held.now.state c.args.self.now.missing.lacking c.loop-holder.self.missing.lacking (take c.loop-holder.holder-index c.args.holders.now) c.args.self.now.completions.fresh.items c.loop-holder.self.completions.fresh.items c.args.self.now.completions.pending
          c.loop-holder.self.completions.pending inv.lacking inv.added inv.most c.requires.pending;
    }

pub loop-holder-preserved : goal.loop-holder-preserved
loop-holder-preserved c =
    let s : State = c.args.held.now.state in
    let none : Digest = record { 0 = [] } in
    let seen : List Digest = take c.loop-holder.holder-index c.args.holders.now in
    let d : Digest = get_or c.args.holders.now c.loop-holder.holder-index none in
    let more : take (c.loop-holder.holder-index + 1) c.args.holders.now ≡ seen ++ d ∷ [] = take_more c.args.holders.now c.loop-holder.holder-index none c.loop-holder-test.true in
    let inv = c.loop-holder.invariant in
    let old = c.args.self.now in
    let new = c.release.new.self in
    record {
      unmet = subst (λ xs. AreReleased xs old.missing.unmet new.missing.unmet) (sym more) (without_more seen d old.missing.unmet c.loop-holder.self.missing.unmet new.missing.unmet inv.unmet c.release.ensures.unmet);
      lacking = subst (λ xs. AreReleased xs old.missing.lacking new.missing.lacking) (sym more) (without_more seen d old.missing.lacking c.loop-holder.self.missing.lacking new.missing.lacking inv.lacking c.release.ensures.lacking);
      added = subst (λ xs. AppendsThose (StandsButLacks s old.missing.lacking) xs old.completions.fresh.items new.completions.fresh.items) (sym more)
          (stuck_more s seen d old.missing.lacking c.loop-holder.self.missing.lacking old.completions.fresh.items c.loop-holder.self.completions.fresh.items new.completions.fresh.items inv.lacking
          (not_before c.args.holders.now c.loop-holder.holder-index none c.loop-holder-test.true c.requires.once) inv.added c.release.ensures.added);
      most = c.release.ensures.most ∙ inv.most;
    }

pub returns-clause-unmet : goal.returns-clause-unmet
returns-clause-unmet c = subst (λ xs. AreReleased xs c.args.self.now.missing.unmet c.loop-holder.self.missing.unmet) (take_all c.loop-holder.holder-index c.args.holders.now c.loop-holder-test.false) c.loop-holder.invariant.unmet

pub returns-clause-lacking : goal.returns-clause-lacking
returns-clause-lacking c = subst (λ xs. AreReleased xs c.args.self.now.missing.lacking c.loop-holder.self.missing.lacking) (take_all c.loop-holder.holder-index c.args.holders.now c.loop-holder-test.false) c.loop-holder.invariant.lacking
