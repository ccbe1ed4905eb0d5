use Rattle.nw_dag.proofs.Words.{List, sym, subst, ◌∙◌, Digest, Pairs}
use Rattle.nw_dag.specs.Lacking.{IsReady}
use Rattle.nw_dag.specs.Changes.{AppendsThose, Promotes}
use Rattle.nw_dag.specs.AtRest.{HasPendingCount}
use Rattle.nw_dag.proofs.Steps.{count_fewer, promotes, met_at}
use Rattle.nw_dag.proofs.Written.{nobody_wants}
use Rattle.nw_dag.proofs.waits.Waits.promote.Goals as goal

pub add_ready-requires-clause-pending : goal.add_ready-requires-clause-pending
add_ready-requires-clause-pending c =
    subst (λ (xs : List Digest). HasPendingCount c.args.held.now.state c.drop_parent-holders.new.self.lacking xs c.args.self.now.completions.pending) (sym c.as_slice.ensures.value)
    (count_fewer c.args.held.now.state c.args.self.now.missing.lacking c.drop_parent-holders.new.self.lacking c.in-Some.wanted c.args.self.now.completions.pending c.drop_parent-holders.result.items c.drop_parent-holders.ensures.lacking c.drop_parent-holders.ensures.holders c.requires.pending)

pub returns-in-Some-clause-promotes : goal.returns-in-Some-clause-promotes
returns-in-Some-clause-promotes c =
    let s = c.args.held.now.state in
    let old = c.args.self.now.completions.fresh.items in
    let new = c.add_ready.new.self.completions.fresh.items in
    let adds : AppendsThose (IsReady s c.drop_parent-holders.new.self.lacking) c.drop_parent-holders.result.items old new =
    subst (λ xs. AppendsThose (IsReady s c.drop_parent-holders.new.self.lacking) xs old new) c.as_slice.ensures.value c.add_ready.ensures.added in
    subst (λ (m : Pairs). Promotes s c.args.digest c.args.self.now.missing.lacking m old new) (sym c.add_ready.ensures.lacking)
    (promotes s c.args.digest c.args.self.now.missing.lacking c.drop_parent-holders.new.self.lacking c.in-Some.wanted old new c.drop_parent-holders.result.items
    c.in-Some.ensures c.drop_parent-holders.ensures.holders c.drop_parent-holders.ensures.lacking adds)

pub returns-in-Some-clause-unmet : goal.returns-in-Some-clause-unmet
returns-in-Some-clause-unmet c =
    c.add_ready.ensures.unmet ∙ c.drop_parent-holders.ensures.unmet
    ∙ nobody_wants c.args.self.now.missing.unmet c.in-Some.wanted (λ h lacks. c.requires.unmet h c.in-Some.wanted lacks (met_at c.args.held.now.state c.args.digest c.in-Some.wanted c.in-Some.ensures c.requires.stands))

pub drop_parent-holders-requires : goal.drop_parent-holders-requires
drop_parent-holders-requires c h lacks = c.requires.unmet h c.in-Some.wanted lacks (met_at c.args.held.now.state c.args.digest c.in-Some.wanted c.in-Some.ensures c.requires.stands)
