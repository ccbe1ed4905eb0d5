use Rattle.nw_dag.proofs.Words.{◌≡◌, ◌∙◌, Option, None, Some, is_some, refl, sym, true}
use Rattle.nw_dag.proofs.Missing.{wanted_by}
use Rattle.nw_dag.proofs.dag.Dag.missing_of.Goals as goal

held : {X : Type 0} (o : Option X) → is_some o ≡ true → (x : X) × (o ≡ Some x)
held None e = cc
held (Some x) e = (x, refl)

pub returns : goal.returns
returns c =
    let s = c.self.inside.held.state in
    let block = held _ (sym c.holds.ensures ∙ c.if-not-holds.false) in
    rw (← c.self.view_is) (block.0, block.1, rw c.new.ensures (wanted_by s c.self.inside.waits.missing.unmet c.args.digest.now block.0 c.in_ok-missing.missing.items c.self.invariant.at_rest.coming_to_rest.standing block.1 c.in_ok-missing.ensures))
