use Rattle.nw_book.proofs.Words.{◌≡◌, length, arith, refl}
use Rattle.nw_book.proofs.Runs.{runs_more, stopped}
use Rattle.nw_book.proofs.book.Book.run.Goals as goal

pub returns-in-Err : goal.returns-in-Err
returns-in-Err g c =
    let e = c.in-Err.ensures in
    let many : c.len-at.result ≡ length c.make.new.answers.items = omega (arith, c.len-at.ensures, c.make.new.answers.ok.0) in
    rw c.new.ensures (
      _,
      stopped g.S.Scheme.accepts _ _ _ _ _ _ _ _ refl c.loop-next-test.true c.next-item.is c.loop-next.invariant e.refused
          (λ i. record { history = e.unchanged i; tickets = e.same_tickets i; answers = e.same_answers i }) many,
    )

pub loop-next-preserved : goal.loop-next-preserved
loop-next-preserved g c = runs_more g.S.Scheme.accepts _ _ _ _ _ c.next-item.result c.loop-next-test.true c.next-item.is c.loop-next.invariant c.in_default.ensures.made
