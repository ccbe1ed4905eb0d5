use Rattle.std.proofs.Common.{◌<◌, length, arith}
use Rattle.nw_prepared.proofs.Members.{absent_key, next_key}
use Rattle.nw_prepared.proofs.committee.keys_of.Goals as goal

pub loop-number-preserved : goal.loop-number-preserved
loop-number-preserved c =
    next_key c.loop-number.prepared.items c.push.new.self.items c.args.committee.now c.loop-number.number _ c.in-Some.key.now c.loop-number.invariant c.in-Some.ensures.key c.in_ok-of-in-Some.ensures c.in_ok-push-in-Some.ensures.items

pub returns-in-None : goal.returns-in-None
returns-in-None c =
    let within : c.loop-number.number < length c.args.committee.now = omega arith in
    absurd (absent_key c.args.committee.now c.loop-number.number within c.in-None.ensures.key)
