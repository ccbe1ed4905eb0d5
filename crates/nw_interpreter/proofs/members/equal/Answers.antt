use Rattle.std.proofs.Common.{◌≡◌, ◌≤◌, length, min, arith}
use Rattle.std.specs.Prelude.{vec_len}
use Rattle.nw_committee.specs.Committee.{IsEqualSize}
use Rattle.nw_interpreter.proofs.members.equal.Goals as goal

pub returns : goal.returns
unfolding IsEqualSize
returns c =
    let taken = c.in_ok-new.ensures.taken in
    let few : vec_len c.in_ok-keys.keys ≤ 100 = taken.0.2 in
    let many : length c.in_ok-keys.keys.items ≡ min c.args.count 101 = c.in_ok-keys.ensures in
    let len = c.in_ok-keys.keys.ok in
    (c.in_ok-keys.keys.items, c.in_ok-new.ensures.members, omega (arith, many, few, len))
