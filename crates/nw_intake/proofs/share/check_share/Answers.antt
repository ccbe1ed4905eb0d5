use Rattle.std.proofs.Common.{◌++◌, ◌+◌, subst, sym, ap, ◌∙◌}
use Rattle.std.specs.List.{AllZip}
use Rattle.nw_check.specs.Message.{IsChecked}
use Rattle.nw_intake.specs.Answers.{AnswersText, turns_of}
use Rattle.nw_intake.proofs.Turns.{IsAnsweredSoFar, took_turn, skipped_turn, all_turns}
use Rattle.nw_intake.proofs.share.check_share.Goals as goal
use Rattle.nw_intake.proofs.share.check_share.Goals.{then-place-workers+in_ok-check_one+in_ok-push_back, else-place-workers}

pub loop-place-init : goal.loop-place-init
loop-place-init g c rest fits =
    subst (λ answers. AllZip (AnswersText g.S.Scheme.accepts c.args.committee.now) (turns_of c.args.worker c.args.workers 0 c.args.texts.now) (answers ++ rest)) (sym c.new-answers.ensures.items) fits

pub loop-place-preserved : goal.loop-place-preserved
loop-place-preserved g c =
    let R = AnswersText g.S.Scheme.accepts c.args.committee.now in
    let texts = c.args.texts.now in
    let place = c.loop-place.place in
    let text = c.index-texts-place in
    let On = IsAnsweredSoFar R c.args.worker c.args.workers texts (place + 1) in
    elim c.if-place-workers.branch [
      | then-place-workers+in_ok-check_one+in_ok-push_back w ↦
          let answer = w.in_ok-check_one.field-0 in
          let fits = subst (λ bytes. IsChecked g.S.Scheme.accepts c.args.committee.now bytes answer) w.deref.ensures.value w.in_ok-check_one.ensures.checked in
          let more = took_turn R c.args.worker c.args.workers texts place text.result c.loop-place.answers.items answer c.loop-place-test.true text.is w.if-place-workers.true fits c.loop-place.invariant in
          subst On (sym (ap (λ answers. answers.items) w.answers-is ∙ w.in_ok-push_back.ensures.items)) more
      | else-place-workers w ↦
          subst On (sym (ap (λ answers. answers.items) w.answers-is))
          (skipped_turn R c.args.worker c.args.workers texts place text.result c.loop-place.answers.items c.loop-place-test.true text.is w.if-place-workers.false c.loop-place.invariant)
    ]

pub returns : goal.returns
returns g c = all_turns (AnswersText g.S.Scheme.accepts c.args.committee.now) c.args.worker c.args.workers c.args.texts.now c.loop-place.place c.loop-place.answers.items c.loop-place-test.false c.loop-place.invariant
