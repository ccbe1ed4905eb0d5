use Rattle.nw_decode.proofs.Words.{◌≡◌, suc, ◌+◌, ◌-◌, [], ◌++◌, None, refl, subst, rules, arith}
use Rattle.nw_decode.specs.Faults.{Stage, Reaches}
use Rattle.nw_decode.proofs.Fronts.{onward, later}
use Rattle.nw_decode.proofs.Fields.{exit, one_done, one_more_item, items_found}
use Rattle.nw_decode.proofs.decode.fields.read_items.Goals as goal

pub loop-init : goal.loop-init
loop-init g c = record {
  lie = ([], record { len = grind arith; bytes = refl });
  lead = search rules;
}

pub returns-in_err-author-clause-leads : goal.returns-in_err-author-clause-leads
returns-in_err-author-clause-leads g c at inside items =
    let more = c.args.count - (c.loop.counter + 1) in
    let front : Reaches (at c.args.count None) c.args.text.now (at (suc more) c.loop.before) c.loop.rest.now = rw (one_done c.args.count c.loop.counter c.loop-test.true) at (c.loop.invariant.lead at inside items) in
    exit _ _ _ _ c.from_residual.ensures.1 (later _ _ _ _ _ front (c.in_err-author.ensures.leads at inside more items))

pub loop-preserved : goal.loop-preserved
loop-preserved g c =
    let item = c.in_ok-author.ensures.item in
    record {
      lie = (c.loop.invariant.lie.0 ++ item.0, one_more_item _ _ _ _ _ _ _ c.loop.invariant.lie.1 item.1 item.2);
      lead = λ at inside items.
          let more = c.args.count - (c.loop.counter + 1) in
          let front : Reaches (at c.args.count None) c.args.text.now (at (suc more) c.loop.before) c.loop.rest.now = rw (one_done c.args.count c.loop.counter c.loop-test.true) at (c.loop.invariant.lead at inside items) in
          onward _ _ _ _ _ _ front (c.in_ok-author.ensures.leads at inside more items);
    }

pub until-requires : goal.until-requires
until-requires g c = (c.loop.invariant.lie.0, c.loop.invariant.lie.1.bytes)

pub returns-clause-items : goal.returns-clause-items
returns-clause-items g c = items_found _ c.loop.counter c.args.count _ _ _ _ c.loop.invariant.lie.1 (omega arith) c.until.ensures

pub returns-clause-leads : goal.returns-clause-leads
returns-clause-leads g c at inside items =
    let none : c.args.count - c.loop.counter ≡ 0 = omega arith in
    let all : Reaches (at c.args.count None) c.args.text.now (at 0 c.loop.before) c.loop.rest.now = rw none at (c.loop.invariant.lead at inside items) in
    subst (λ (s : Stage). Reaches (at c.args.count None) c.args.text.now s c.loop.rest.now) (items.ends c.loop.before) all
