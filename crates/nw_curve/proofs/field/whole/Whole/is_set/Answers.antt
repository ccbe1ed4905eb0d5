use Rattle.std.proofs.Common.{ℕ, ◌∙◌, sym, ap, nat_eq, arith}
use Rattle.std.specs.Int.{bit_at}
use Rattle.nw_curve.proofs.Bits.{low_bit, high_bit}
use Rattle.nw_curve.proofs.field.whole.Whole.is_set.Goals as goal

pub returns-then-place-lt128 : goal.returns-then-place-lt128
returns-then-place-lt128 c =
    ap (λ (n : ℕ). nat_eq n 1) (sym (low_bit c.args.place c.self.inside.low c.self.inside.high (omega arith)) ∙ ap (λ (n : ℕ). bit_at n c.args.place) c.self.view_is)

pub returns-else-place-lt128 : goal.returns-else-place-lt128
returns-else-place-lt128 c =
    ap (λ (n : ℕ). nat_eq n 1) (sym (high_bit c.args.place c.self.inside.low c.self.inside.high (omega arith) (omega arith)) ∙ ap (λ (n : ℕ). bit_at n c.args.place) c.self.view_is)
