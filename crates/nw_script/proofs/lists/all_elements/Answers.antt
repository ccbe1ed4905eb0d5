use Rattle.std.proofs.Common.{◌≡◌, None, Some, arith}
use Rattle.nw_script.proofs.Elements.{one_more, not_an_element}
use Rattle.nw_script.proofs.lists.all_elements.Goals as goal

pub returns-in_err-ok_or-clause-bad : goal.returns-in_err-ok_or-clause-bad
returns-in_err-ok_or-clause-bad g c =
    let none : c.element.result ≡ None = grind (arith, c.in_err-ok_or.was, c.ok_or.ensures.ok_part) in
    λ _. not_an_element g.F.Fn c.args.element c.args.parts.now c.loop-part.part-index _ c.element.result c.loop-part-test.true c.element.ensures none

pub loop-part-preserved : goal.loop-part-preserved
loop-part-preserved g c =
    let found : c.element.result ≡ Some c.in_ok-ok_or.field-0 = grind (arith, c.in_ok-ok_or.was, c.ok_or.ensures.ok_part) in
    one_more g.F.Fn c.args.element c.args.parts.now c.loop-part.part-index _ _ _ c.in_ok-ok_or.field-0 c.element.result c.loop-part-test.true c.loop-part.invariant c.element.ensures found c.in_ok-push.ensures.items
