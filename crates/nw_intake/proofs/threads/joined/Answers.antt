use Rattle.std.proofs.Common.{◌≡◌, ◌∷◌, Err, false, length, subst, sym, ap, ◌∙◌, arith}
use Rattle.std.specs.Vec.Iter.{into_iter_items}
use Rattle.std.proofs.lemmas.List.{length-map}
use Rattle.nw_intake.proofs.Joint.{Joins, joins_first, joins_share, joins_shut, joins_all, had_memory, ok_of}
use Rattle.nw_intake.proofs.threads.joined.Goals as goal

pub loop-result-init : goal.loop-result-init
loop-result-init g c =
    let results = c.args.results.items in
    subst (Joins results c.new-shares.result.items false) (sym c.into_iter-result-iterator.ensures.into_iter_gives.0)
    (subst (λ shares. Joins results shares false results) (sym c.new-shares.ensures.items) (joins_first results))

pub loop-result-preserved-in-Continue-1 : goal.loop-result-preserved-in-Continue-1
loop-result-preserved-in-Continue-1 g c =
    let results = c.args.results.items in
    let old = c.loop-result.shares.items in
    let left = into_iter_items c.next.new.self in
    let step = c.in-Some.ensures.steps.0 ∙ ap (λ r. r ∷ left) c.in-Ok.is in
    subst (λ shares. Joins results shares c.loop-result.shut left) (sym c.in_ok-push-in-Ok.ensures.items)
    (joins_share results old c.loop-result.shut c.in-Ok.share left (subst (Joins results old c.loop-result.shut) step c.loop-result.invariant))

pub loop-result-preserved : goal.loop-result-preserved
loop-result-preserved g c =
    let results = c.args.results.items in
    let old = c.loop-result.shares.items in
    let left = into_iter_items c.next.new.self in
    let shut = c.in-Err.is ∙ ap (λ e. Err e) c.in-GateShut.is in
    let step = c.in-Some.ensures.steps.0 ∙ ap (λ r. r ∷ left) shut in
    joins_shut results old c.loop-result.shut left (subst (Joins results old c.loop-result.shut) step c.loop-result.invariant)

pub returns-then-shut-clause-fault : goal.returns-then-shut-clause-fault
returns-then-shut-clause-fault g c =
    let it = c.loop-result.result-iterator in
    let none : length (into_iter_items it) ≡ 0 = let e = c.in-None.ensures.steps.0 in let ok = it.rest.ok.0 in omega arith in (
      had_memory c.args.results.items c.loop-result.shares.items c.loop-result.shut (into_iter_items it) c.loop-result.invariant none,
      (let all = c.if-started-workers.false in let len = c.len-started.ensures in let ok = c.args.results.ok.0 in let most = c.requires in omega arith),
      c.loop-result.invariant.one_shut c.if-shut.true,
    )

pub returns-else-shut-clause-shares : goal.returns-else-shut-clause-shares
returns-else-shut-clause-shares g c =
    let it = c.loop-result.result-iterator in
    let none : length (into_iter_items it) ≡ 0 = let e = c.in-None.ensures.steps.0 in let ok = it.rest.ok.0 in omega arith in
    let all = joins_all c.args.results.items c.loop-result.shares.items c.loop-result.shut (into_iter_items it) c.loop-result.invariant none c.if-shut.false in (
      all,
      (let whole = c.if-started-workers.false in let len = c.len-started.ensures in let ok = c.args.results.ok.0 in let most = c.requires in
          let same = sym (length-map c.loop-result.shares.items ok_of) ∙ sym (ap length all) in omega arith),
    )
