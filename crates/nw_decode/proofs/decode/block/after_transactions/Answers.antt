use Rattle.nw_decode.proofs.Words.{suc, ◌+◌, ◌-◌}
use Rattle.nw_decode.specs.Faults.{AtTransactionLength, at_transactions, Reaches}
use Rattle.nw_decode.proofs.Fronts.{onward, later}
use Rattle.nw_decode.proofs.Fields.{exit, one_done}
use Rattle.nw_decode.proofs.decode.block.after_transactions.Goals as goal

pub returns-in_err-more : goal.returns-in_err-more
returns-in_err-more c =
    let k = c.args.count - (c.loop.counter + 1) in
    let front : Reaches (at_transactions c.args.count c.args.size) c.args.text.now (at_transactions (suc k) c.loop.size) c.loop.rest.now = rw (one_done c.args.count c.loop.counter c.loop-test.true) at c.loop.invariant.1 in
    exit _ _ _ _ c.from_residual.ensures.1 (later _ (AtTransactionLength k c.loop.size) _ _ _ front (c.in_err-more.ensures k))

pub loop-preserved : goal.loop-preserved
loop-preserved c =
    let k = c.args.count - (c.loop.counter + 1) in
    let front : Reaches (at_transactions c.args.count c.args.size) c.args.text.now (at_transactions (suc k) c.loop.size) c.loop.rest.now = rw (one_done c.args.count c.loop.counter c.loop-test.true) at c.loop.invariant.1 in
    let next = c.in_ok-more.ensures k in
    (next.0, onward _ (AtTransactionLength k c.loop.size) _ _ _ _ front next.1)
