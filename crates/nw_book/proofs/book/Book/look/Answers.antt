use Rattle.nw_book.proofs.Words.{subst, BoundedState}
use Rattle.nw_model.specs.Look.{IsLook, TellsSatisfied}
use Rattle.nw_book.proofs.book.Book.look.Goals as goal

pub returns : goal.returns
returns g c =
    rw (← c.self.view_is) (record {
      look = subst (λ (t : BoundedState). IsLook t.state (c.args.round, c.args.author) c.look.result) c.self.invariant.state c.look.ensures.look;
      satisfied = subst (λ (t : BoundedState). TellsSatisfied t.state (c.args.round, c.args.author) c.look.result) c.self.invariant.state c.look.ensures.satisfied;
    })
