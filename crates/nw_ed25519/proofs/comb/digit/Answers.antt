use Rattle.nw_ed25519.proofs.Words.{ℕ, ◌/◌, ◌%◌, ◌^◌, ap}
use Rattle.nw_ed25519.proofs.Combs.{low_chunk, high_chunk}
use Rattle.nw_ed25519.proofs.comb.digit.Goals as goal
use Rattle.nw_ed25519.proofs.comb.digit.Goals.{then-row-lt8, else-row-lt8}

pub returns-clause-value : goal.returns-clause-value
returns-clause-value c =
    let shift = c.args.shift in
    let bits = c.args.bits in
    elim c.if-row-lt8.branch [
      | then-row-lt8 w ↦ rw (c.power_of_two.ensures.value, w.half-is, w.low-half.ensures) (ap (λ (x : ℕ). x / 2 ^ shift % 2 ^ bits) (low_chunk c.args.number.now c.args.row w.if-row-lt8.true))
      | else-row-lt8 w ↦ rw (c.power_of_two.ensures.value, w.half-is, w.high-half.ensures) (ap (λ (x : ℕ). x / 2 ^ shift % 2 ^ bits) (high_chunk c.args.number.now c.args.row w.if-row-lt8.false c.requires.row))
    ]
