use Rattle.nw_check.proofs.Words.{sym, subst, signers}
use Rattle.nw_check.specs.Gathering.{Gathering, IsPlace, CanCount}
use Rattle.nw_check.proofs.Gathered.{counted-gathering, counted-counts}
use Rattle.nw_check.proofs.gather.Gather.count.Goals as goal
use Rattle.nw_check.proofs.gather.Gather.count.Goals.{then-reaches_quorum, else-reaches_quorum}

pub reaches_quorum-requires : goal.reaches_quorum-requires
reaches_quorum-requires g c =
    let accepts = g.S.Scheme.accepts in
    let may = subst (λ (v : Gathering). CanCount accepts v c.args.vote.now) (sym c.self.view_is) c.requires.may_count in
    let place = subst (λ (v : Gathering). IsPlace (signers v.seals) c.args.vote.now.signer c.args.place) (sym c.self.view_is) c.requires.place in
    let gathered = counted-gathering accepts _ c.args.vote.now c.args.place c.self.invariant may place in
    rw (c.deref.ensures.value, c.in_ok-insert_seal.ensures.ok) gathered.in_order

pub invariant_of-self-2 : goal.invariant_of-self-2
invariant_of-self-2 g c =
    let accepts = g.S.Scheme.accepts in
    let may = subst (λ (v : Gathering). CanCount accepts v c.args.vote.now) (sym c.self.view_is) c.requires.may_count in
    let place = subst (λ (v : Gathering). IsPlace (signers v.seals) c.args.vote.now.signer c.args.place) (sym c.self.view_is) c.requires.place in
    rw c.in_ok-insert_seal.ensures.ok (counted-gathering accepts _ c.args.vote.now c.args.place c.self.invariant may place)

pub returns-clause-counted : goal.returns-clause-counted
returns-clause-counted g c =
    let counts = counted-counts _ c.args.vote.now c.args.place c.insert_seal.new.seals.items c.in_ok-insert_seal.ensures.ok in
    elim c.if-reaches_quorum.branch [
      | then-reaches_quorum w ↦ rw (w.result-is, ← c.self.view_is) counts
      | else-reaches_quorum w ↦ rw (w.result-is, ← c.self.view_is) counts
    ]

pub returns-clause-gathering : goal.returns-clause-gathering
returns-clause-gathering g c = invariant_of-self-2 g c
