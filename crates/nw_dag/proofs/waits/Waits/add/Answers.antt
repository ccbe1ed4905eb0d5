use Rattle.nw_dag.proofs.Words.{Wanted, IsMet}
use Rattle.nw_dag.specs.Lacking.{LacksNothing, IsReady}
use Rattle.nw_dag.proofs.Wanting.{refuted, split_met_on_ok, split_unmet_on_ok, wants_on_ok}
use Rattle.nw_dag.proofs.waits.Waits.add.Goals as goal

pub returns-then-not-is_met-clause-unmet : goal.returns-then-not-is_met-clause-unmet
returns-then-not-is_met-clause-unmet c =
    let fails = refuted c.is_met.result (IsMet c.args.held.now.state c.args.wanted) c.is_met.ensures c.if-not-is_met.true in
    wants_on_ok c.add.result (IsMet c.args.held.now.state) c.args.wanted c.args.holder c.args.self.now.missing.unmet c.add.new.self.unmet fails c.add.ensures.unmet

pub returns-then-not-is_met-clause-lacking : goal.returns-then-not-is_met-clause-lacking
returns-then-not-is_met-clause-lacking c =
    let fails = refuted c.is_met.result (IsMet c.args.held.now.state c.args.wanted) c.is_met.ensures c.if-not-is_met.true in
    wants_on_ok c.add.result (λ (w : Wanted). IsMet c.args.held.now.state w × IsReady c.args.held.now.state c.args.self.now.missing.lacking w.digest) c.args.wanted c.args.holder c.args.self.now.missing.lacking
    c.add.new.self.lacking (λ both. fails both.0) c.add.ensures.lacking

pub returns-then-not-is_met-clause-split : goal.returns-then-not-is_met-clause-split
returns-then-not-is_met-clause-split c =
    let fails = refuted c.is_met.result (IsMet c.args.held.now.state c.args.wanted) c.is_met.ensures c.if-not-is_met.true in
    split_unmet_on_ok c.add.result c.args.held.now.state c.args.wanted c.args.holder c.args.self.now.missing c.add.new.self fails c.add.ensures.unmet c.add.ensures.lacking c.requires

pub returns-then-not-lacks_nothing-clause-lacking : goal.returns-then-not-lacks_nothing-clause-lacking
returns-then-not-lacks_nothing-clause-lacking c =
    let fails = refuted c.lacks_nothing.result (LacksNothing c.args.self.now.missing.lacking c.args.wanted.digest) c.lacks_nothing.ensures.nothing c.if-not-lacks_nothing.true in
    wants_on_ok c.add-then-not-lacks_nothing.result (λ (w : Wanted). IsMet c.args.held.now.state w × IsReady c.args.held.now.state c.args.self.now.missing.lacking w.digest) c.args.wanted c.args.holder c.args.self.now.missing.lacking
    c.add-then-not-lacks_nothing.new.self.lacking (λ both. fails both.1.1) c.add-then-not-lacks_nothing.ensures.lacking

pub returns-then-not-lacks_nothing-clause-split : goal.returns-then-not-lacks_nothing-clause-split
returns-then-not-lacks_nothing-clause-split c =
    split_met_on_ok c.add-then-not-lacks_nothing.result c.args.held.now.state c.args.wanted c.args.holder c.args.self.now.missing c.add-then-not-lacks_nothing.new.self (c.is_met.ensures.0 c.if-not-is_met.false) c.add-then-not-lacks_nothing.ensures.unmet c.add-then-not-lacks_nothing.ensures.lacking c.requires
