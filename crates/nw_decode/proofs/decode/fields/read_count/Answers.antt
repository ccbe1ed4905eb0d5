use Rattle.nw_decode.proofs.Words.{arith}
use Rattle.nw_decode.proofs.Fields.{exit, short_as, count_fails, count_leads}
use Rattle.nw_decode.proofs.decode.fields.read_count.Goals as goal

pub returns-in_err-count : goal.returns-in_err-count
returns-in_err-count c stage next counts = exit _ _ _ _ c.from_residual.ensures.1 (short_as stage 2 _ _ counts.wide c.in_err-count.ensures.0 c.in_err-count.ensures.1)

pub returns-then-count-max : goal.returns-then-count-max
returns-then-count-max c stage next counts = count_fails stage c.args.max c.args.over next _ _ _ counts c.in_ok-count.ensures (omega arith)

pub returns : goal.returns
returns c stage next counts = (omega arith, c.in_ok-count.ensures, count_leads stage c.args.max c.args.over next _ _ _ counts c.in_ok-count.ensures (omega arith))
