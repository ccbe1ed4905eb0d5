use Rattle.nw_ed25519.proofs.Words.{◌+◌, ◌*◌, ◌/◌, ◌^◌, sym, ◌∙◌, arith}
use borrow.Author.Tests.{ltb-true, ltb-false}
use Rattle.nw_ed25519.proofs.Remainders.{is_remainder, is_remainder_after_adding_back, order_large}
use Rattle.nw_ed25519.proofs.order.append_word.Goals as goal

pub returns-then-is_below : goal.returns-then-is_below
returns-then-is_below c =
    let above = ltb-true _ _ (sym c.is_below.ensures ∙ c.if-is_below.true) in
    is_remainder_after_adding_back (2 ^ 32 * c.args.remainder.now + c.args.word) c.minus-then-is_below.result (c.high.result / 2 ^ 92) (omega (arith, order_large)) (omega (arith, order_large))

pub returns-else-is_below : goal.returns-else-is_below
returns-else-is_below c =
    let within = ltb-false _ _ (sym c.is_below.ensures ∙ c.if-is_below.false) in
    is_remainder (2 ^ 32 * c.args.remainder.now + c.args.word) c.minus-else-is_below.result (c.high.result / 2 ^ 92) (omega (arith, order_large)) (omega arith)
