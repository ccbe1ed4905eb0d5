use Rattle.std.proofs.Common.{map, arith, sym}
use Rattle.nw_committee.proofs.Weights.{total-le}
use Rattle.nw_committee.proofs.Listed.{listed_weight-none, listed_weight-more, listed_weight-fits, number-within, number_weighs, whole_front}
use Rattle.nw_committee.proofs.committee.Committee.listed_weight.Goals as goal

pub loop-one-init : goal.loop-one-init
loop-one-init g c = sym (listed_weight-none c.args.self.now)

pub overflow_add-weight : goal.overflow_add-weight
overflow_add-weight g c =
    let members = c.args.self.now in
    let number = g.T.Numbered.number_of in
    let test = c.loop-one-test.true in
    let fits = listed_weight-fits members (map number c.args.listed.now) c.loop-one.one-index c.requires (number-within number _ _ _ test c.one-item.is) in
    let least = total-le members c.weight.ensures.committee in
    let added = number_weighs number _ _ _ test c.one-item.is members _ _ _ c.number.ensures c.weight.ensures.weight c.unwrap_or-weight.ensures in
    omega (arith, fits, least, added, c.loop-one.invariant)

pub loop-one-preserved : goal.loop-one-preserved
loop-one-preserved g c =
    let members = c.args.self.now in
    let number = g.T.Numbered.number_of in
    let test = c.loop-one-test.true in
    let more = listed_weight-more members (map number c.args.listed.now) c.loop-one.one-index c.requires (number-within number _ _ _ test c.one-item.is) in
    let added = number_weighs number _ _ _ test c.one-item.is members _ _ _ c.number.ensures c.weight.ensures.weight c.unwrap_or-weight.ensures in
    omega (arith, more, added, c.loop-one.invariant)

pub returns : goal.returns
returns g c = rw (← whole_front g.T.Numbered.number_of _ _ c.loop-one-test.false) c.loop-one.invariant
