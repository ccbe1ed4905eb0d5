use Rattle.std.proofs.Common.{ℕ, ◌∙◌, sym, ap}
use Rattle.std.specs.Hash.{le_bytes}
use Rattle.std.specs.Int.{bytes_low_first}
use Rattle.nw_curve.proofs.Bits.{bytes_of_halves}
use Rattle.nw_curve.proofs.field.whole.Whole.to_bytes.Goals as goal

pub returns : goal.returns
unfolding le_bytes
returns c =
    let low = c.copy_from_slice.ensures.after ∙ c.to_le_bytes.ensures in
    let high = c.copy_from_slice-2.ensures.after ∙ c.to_le_bytes-2.ensures in
    rw (low, high) (sym (bytes_of_halves c.self.inside.low c.self.inside.high c.self.invariant.0) ∙ ap (λ (n : ℕ). bytes_low_first 0 32 n) c.self.view_is)
