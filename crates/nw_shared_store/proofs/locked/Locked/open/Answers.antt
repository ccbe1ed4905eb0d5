use Rattle.nw_shared_store.proofs.Words.{◌<◌, sym, subst, front_of, reply_of}
use Rattle.nw_model.specs.declared.call.Call.TheVariants as Call
use Rattle.nw_shared_store.specs.Locked.{Current}
use Rattle.nw_shared_store.proofs.Stepped.{locked_after}
use Rattle.nw_shared_store.proofs.locked.Locked.open.Goals as goal

pub invariant_of-self : goal.invariant_of-self
invariant_of-self g c =
    locked_after g.S.Scheme.accepts c.self.inside.book c.open.new.self c.self.inside.run c.self.inside.made c.args.id c.next_number-number.result (Call.Causal c.args.digest) reply_of front_of c.open.result
    tt c.self.invariant (subst (λ (x : Current). c.args.id < x.made) (sym c.self.view_is) c.requires) c.open.ensures.taken c.open.ensures.unchanged
