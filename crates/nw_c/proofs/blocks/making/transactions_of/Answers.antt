use Rattle.std.proofs.Common.{◌≡◌, ◌==◌, Err, false, ap, arith, subst, sym, ◌∙◌}
use Rattle.nw_c.proofs.Cut.{Cutting, has_room, is_short, none_left}
use Rattle.nw_c.proofs.blocks.making.transactions_of.Goals as goal

pub returns-in_default-clause-over_limit : goal.returns-in_default-clause-over_limit
returns-in_default-clause-over_limit c = λ code ts cut short.
    let on : Cutting c.args.bytes.now c.args.lengths.now c.loop-length.transactions ts c.loop-length.left.now c.loop-length.length-index =
    record { lengths_done = c.loop-length.invariant.0; bytes_left = c.loop-length.invariant.1; all = cut } in
    let room = has_room c.args.bytes.now c.args.lengths.now c.loop-length.transactions ts c.loop-length.left.now c.loop-length.length-index on 0 c.loop-length-test.true in
    let few = c.in_default.ensures.cases in omega arith

pub returns-in-Err-OverLimit-clause-over_limit : goal.returns-in-Err-OverLimit-clause-over_limit
returns-in-Err-OverLimit-clause-over_limit c = λ code ts cut short.
    let on : Cutting c.args.bytes.now c.args.lengths.now c.loop-length.transactions ts c.loop-length.left.now c.loop-length.length-index =
    record { lengths_done = c.loop-length.invariant.0; bytes_left = c.loop-length.invariant.1; all = cut } in
    let most = is_short c.args.bytes.now c.args.lengths.now c.loop-length.transactions ts c.loop-length.left.now c.loop-length.length-index on short c.loop-length-test.true in
    let size = c.in-Some.ensures.cases.3 in
    let long = c.in-Err-OverLimit.ensures.over_limit.0 (ap (λ e. Err e) c.in-Err-OverLimit.field-0-is) in omega arith

pub returns-then-not-is_empty-clause-over_limit : goal.returns-then-not-is_empty-clause-over_limit
returns-then-not-is_empty-clause-over_limit c = λ code ts cut short.
    let on : Cutting c.args.bytes.now c.args.lengths.now c.loop-length.transactions ts c.loop-length.left.now c.loop-length.length-index =
    record { lengths_done = c.loop-length.invariant.0; bytes_left = c.loop-length.invariant.1; all = cut } in
    let none = none_left c.args.bytes.now c.args.lengths.now c.loop-length.transactions ts c.loop-length.left.now c.loop-length.length-index on c.loop-length-test.false in
    let h : false ≡ (0 == 0) = subst (λ n. false ≡ (n == 0)) none (sym c.if-not-is_empty.true ∙ c.is_empty.ensures) in cc
