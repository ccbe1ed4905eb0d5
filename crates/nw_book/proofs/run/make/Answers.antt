use Rattle.std.proofs.lemmas.Result.{on_ok_weaker, IfErr-weaker}
use Rattle.nw_book.proofs.run.make.Goals as goal

pub returns-in-Walk-clause-made : goal.returns-in-Walk-clause-made
returns-in-Walk-clause-made g c =
    let made = rw c.deref.ensures.value at c.make_walk.ensures.made in
    rw c.in-Walk.is (on_ok_weaker c.make_walk.result (λ h. h c.args.book.now) made)

pub returns-in-Walk-clause-refused : goal.returns-in-Walk-clause-refused
returns-in-Walk-clause-refused g c =
    let refused = rw c.deref.ensures.value at c.make_walk.ensures.refused in
    rw c.in-Walk.is (IfErr-weaker c.make_walk.result _ _ (λ cause h. h c.args.book.now) refused)

pub returns-in_ok-make_call-in-Call-clause-made : goal.returns-in_ok-make_call-in-Call-clause-made
returns-in_ok-make_call-in-Call-clause-made g c = rw c.in-Call.is (c.in_ok-make_call-in-Call.ensures.made c.args.tickets.now.items)
