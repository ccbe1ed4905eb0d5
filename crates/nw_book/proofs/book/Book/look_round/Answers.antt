use Rattle.nw_book.proofs.Words.{subst, IfOk, BoundedState}
use Rattle.nw_model.specs.Look.{AreLooks}
use Rattle.nw_book.proofs.book.Book.look_round.Goals as goal

pub returns : goal.returns
returns g c =
    rw (← c.self.view_is) (subst (λ (t : BoundedState). IfOk c.look_round.result (λ looks. AreLooks t.state c.args.round looks.items)) c.self.invariant.state c.look_round.ensures)
