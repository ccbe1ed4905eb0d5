use Rattle.nw_plain.proofs.Words.{subst, from_entries, digest_cmp, State, IsSound}
use Rattle.nw_plain.proofs.Freezing.{SoFar, all_left, one_fewer, none_left}
use Rattle.nw_plain.proofs.plain.Plain.complete_blocks.Goals as goal

pub loop-slot-init : goal.loop-slot-init
loop-slot-init c = rw (← c.self.view_is, c.into_iter-slot-iterator.ensures.into_iter_gives, c.iter-slot-items.ensures.rest, c.new-complete.ensures.empty)
    (all_left _ c.self.inside.certified.entries c.self.invariant.sound c.self.invariant.indexed c.iter-slot-items.ensures.ordered)

pub loop-slot-preserved : goal.loop-slot-preserved
loop-slot-preserved c =
    let s : State = c.args.self.now.state in
    let sound : IsSound s = rw (← c.self.view_is) c.self.invariant.sound in
    one_fewer s c.in-Some._slot.now c.in-Some.digest.now c.next.new.self (from_entries {R = digest_cmp} c.loop-slot.complete.entries) sound
    (subst (λ left. SoFar s left (from_entries {R = digest_cmp} c.loop-slot.complete.entries)) c.in-Some.ensures.steps c.loop-slot.invariant)
    (from_entries {R = digest_cmp} c.add_if_complete.new.complete.entries) c.in_ok-add_if_complete.ensures

pub returns : goal.returns
returns c = none_left _ _ (subst (λ left. SoFar c.args.self.now.state left (from_entries {R = digest_cmp} c.loop-slot.complete.entries)) c.in-None.ensures.steps.0 c.loop-slot.invariant)
