use Rattle.nw_shared_store.proofs.Words.{◌<◌, sym, subst, AnswerView, call_of}
use Rattle.nw_shared_store.specs.Locked.{Current}
use Rattle.nw_shared_store.proofs.Recorded.{no_question}
use Rattle.nw_shared_store.proofs.Stepped.{locked_after}
use Rattle.nw_shared_store.proofs.locked.Locked.call.Goals as goal

pub invariant_of-self : goal.invariant_of-self
invariant_of-self g c =
    locked_after g.S.Scheme.accepts c.self.inside.book c.step.new.self c.self.inside.run c.self.inside.made c.args.id c.next_number-number.result (call_of c.args.command.now) (λ (done : AnswerView). done.event.reply) (λ (done : AnswerView). done.front) c.step.result
    (no_question c.args.command.now) c.self.invariant (subst (λ (x : Current). c.args.id < x.made) (sym c.self.view_is) c.requires) c.step.ensures.taken c.step.ensures.unchanged
