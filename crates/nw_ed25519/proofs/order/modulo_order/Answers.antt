use Rattle.nw_ed25519.proofs.Words.{ℕ, ◌+◌, ◌-◌, ◌*◌, ◌%◌, ◌^◌, drop, ◌∙◌, ap, arith, number_from_bytes}
use Rattle.nw_ed25519.specs.Accepts.{order}
use Rattle.nw_ed25519.proofs.Remainders.{first_remainder, next_remainder, remainder_below}
use Rattle.nw_ed25519.proofs.order.modulo_order.Goals as goal

pub loop-done-init : goal.loop-done-init
loop-done-init c = c.new-remainder.ensures ∙ first_remainder c.args.bytes.now c.told-bytes

pub append_word-remainder-requires : goal.append_word-remainder-requires
append_word-remainder-requires c = remainder_below (number_from_bytes (drop (64 - 4 * c.loop-done.done) c.args.bytes.now)) c.loop-done.remainder c.loop-done.invariant

pub loop-done-preserved : goal.loop-done-preserved
loop-done-preserved c =
    next_remainder c.args.bytes.now c.loop-done.done c.loop-done.remainder c.append_word-remainder.result (omega arith) c.told-bytes c.loop-done.invariant
    (c.append_word-remainder.ensures ∙ ap (λ (w : ℕ). (2 ^ 32 * c.loop-done.remainder + w) % order) c.word_at.ensures)
