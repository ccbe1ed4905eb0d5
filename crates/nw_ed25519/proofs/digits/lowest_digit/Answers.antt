use Rattle.nw_ed25519.proofs.Words.{◌%◌, ◌^◌, ◌∙◌, ap, ℕ}
use Rattle.nw_ed25519.proofs.DigitSums.{is_odd_from, is_even_from, lowest_bits_odd, odd_rest, even_rest}
use Rattle.nw_ed25519.proofs.digits.lowest_digit.Goals as goal

pub returns-then-is_odd-clause-odd : goal.returns-then-is_odd-clause-odd
returns-then-is_odd-clause-odd c = λ _.
    lowest_bits_odd c.args.number.now c.args.bits c.lowest_bits.result c.requires.some (is_odd_from c.args.number.now c.is_odd.result c.is_odd.ensures c.if-is_odd.true)
    (c.lowest_bits.ensures.value ∙ ap (λ (n : ℕ). n % 2 ^ c.args.bits) c.low.ensures)

pub returns-then-is_odd-clause-rest : goal.returns-then-is_odd-clause-rest
returns-then-is_odd-clause-rest c =
    odd_rest c.args.number.now c.args.bits c.lowest_bits.result c.requires.some c.requires.few (is_odd_from c.args.number.now c.is_odd.result c.is_odd.ensures c.if-is_odd.true)
    (c.lowest_bits.ensures.value ∙ ap (λ (n : ℕ). n % 2 ^ c.args.bits) c.low.ensures)

pub returns-else-is_odd-clause-rest : goal.returns-else-is_odd-clause-rest
returns-else-is_odd-clause-rest c = even_rest c.args.number.now c.args.bits (is_even_from c.args.number.now c.is_odd.result c.is_odd.ensures c.if-is_odd.false)
