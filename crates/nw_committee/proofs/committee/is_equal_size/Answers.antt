use Rattle.std.proofs.Common.{arith}
use Rattle.std.proofs.lemmas.Bool.{leb-true, le-leb}
use Rattle.std.proofs.lemmas.Bool.Decides.{nat_tests}
use Rattle.nw_committee.proofs.DistinctKeys.{equal_size, equal_size-one, equal_size-few}
use Rattle.nw_committee.proofs.committee.is_equal_size.Goals as goal

pub returns-then-size-eq1 : goal.returns-then-size-eq1
returns-then-size-eq1 c = (
  λ h. equal_size c.args.size c.if-size-eq1.true (leb-true c.args.size 100 h),
  λ equal. le-leb c.args.size 100 (equal_size-few c.args.size equal),
)

pub returns-else-size-eq1 : goal.returns-else-size-eq1
returns-else-size-eq1 c = (
  λ h. absurd (grind (arith, nat_tests)),
  λ equal. absurd (c.if-size-eq1.false (equal_size-one c.args.size equal)),
)
