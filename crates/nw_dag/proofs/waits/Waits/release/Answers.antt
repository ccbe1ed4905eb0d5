use Rattle.nw_dag.proofs.Words.{◌≡◌, ◌<◌, ◌∙◌, ℕ, List, false, length, ap, sym, subst, arith, IsTrue, nat_eq, false≢true, length_push, Digest, LacksCount, Pairs}
use Rattle.nw_dag.specs.declared.completions.Completions.{Completions}
use Rattle.nw_dag.specs.Collection.{StandsButLacks}
use Rattle.nw_dag.specs.Lacking.{LacksSomething}
use Rattle.nw_dag.proofs.Listed.{one_added, one_left}
use Rattle.nw_dag.proofs.Releasing.{stuck_pending}
use Rattle.nw_dag.proofs.Wanting.{lacks_zero, lacks_some}
use Rattle.nw_dag.proofs.waits.Waits.release.Goals as goal
use Rattle.nw_dag.proofs.waits.Waits.release.Goals.{else-lacked-gt0-via-then-lacked-gt0+else-is_some, else-lacked-gt0-via-else-lacked-gt0}

some_lacked : (pairs : Pairs) (d : Digest) (n : ℕ) → LacksCount pairs d n → 0 < n → LacksSomething pairs d
some_lacked pairs d n counts above = lacks_some pairs d n counts (let no : nat_eq n 0 ≡ false = grind (arith, above) in no)

pub add-requires : goal.add-requires
add-requires c =
    let self = c.args.self.now in
    let lacks = some_lacked self.missing.lacking c.args.holder c.forget-lacked.result c.forget-lacked.ensures.count c.if-lacked-gt0.true in
    subst (λ (r : Completions). 0 < r.pending) (sym c.forget-lacked.ensures.completions) (stuck_pending c.args.held.now.state self.missing.lacking c.args.holder self.completions.pending
    (c.standing.ensures.stands.0 (sym c.is_some.ensures ∙ c.if-is_some.true), lacks) c.requires.pending)

pub returns-then-is_some-clause-added : goal.returns-then-is_some-clause-added
returns-then-is_some-clause-added c =
    let self = c.args.self.now in
    let lacks = some_lacked self.missing.lacking c.args.holder c.forget-lacked.result c.forget-lacked.ensures.count c.if-lacked-gt0.true in
    one_added (StandsButLacks c.args.held.now.state self.missing.lacking) c.args.holder self.completions.fresh.items c.add.new.self.fresh.items
    (c.standing.ensures.stands.0 (sym c.is_some.ensures ∙ c.if-is_some.true), lacks)
    (rw c.forget-lacked.ensures.completions at c.add.ensures.fresh)

pub returns-then-is_some-clause-most : goal.returns-then-is_some-clause-most
returns-then-is_some-clause-most c =
    let self = c.args.self.now in
    let lacks = some_lacked self.missing.lacking c.args.holder c.forget-lacked.result c.forget-lacked.ensures.count c.if-lacked-gt0.true in
    let left = rw c.forget-lacked.ensures.completions at c.add.ensures.pending in
    let some : 0 < self.completions.pending = stuck_pending c.args.held.now.state self.missing.lacking c.args.holder self.completions.pending
    (c.standing.ensures.stands.0 (sym c.is_some.ensures ∙ c.if-is_some.true), lacks) c.requires.pending in
    omega (arith, ap (λ (xs : List Digest). length xs) (rw c.forget-lacked.ensures.completions at c.add.ensures.fresh), length_push self.completions.fresh.items c.args.holder, left, some)

pub returns-else-lacked-gt0-clause-added : goal.returns-else-lacked-gt0-clause-added
returns-else-lacked-gt0-clause-added c =
    let self = c.args.self.now in
    let stuck = StandsButLacks c.args.held.now.state self.missing.lacking in
    rw c.forget-lacked.ensures.completions (one_left stuck c.args.holder self.completions.fresh.items (λ is. elim c.else-lacked-gt0.branch [
      | else-lacked-gt0-via-then-lacked-gt0+else-is_some w ↦ false≢true (sym w.if-is_some.false ∙ w.is_some.ensures ∙ w.standing.ensures.stands.1 is.0)
      | else-lacked-gt0-via-else-lacked-gt0 w ↦
          let none : IsTrue (nat_eq c.forget-lacked.result 0) = grind (arith, w.if-lacked-gt0.false) in
          (lacks_zero self.missing.lacking c.args.holder c.forget-lacked.result c.forget-lacked.ensures.count).0 none is.1.0 is.1.1
    ]))
