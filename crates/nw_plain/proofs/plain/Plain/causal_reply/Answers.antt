use Rattle.nw_plain.proofs.Words.{State, IsComplete, IsSound, complete_there}
use Rattle.nw_model.specs.View.{Shows}
use Rattle.nw_model.proofs.Views.{walk_is_causal}
use Rattle.nw_plain.proofs.plain.Plain.causal_reply.Goals as goal

pub walk-requires : goal.walk-requires
walk-requires c =
    let s : State = c.args.self.now.state in
    let sound : IsSound s = rw (← c.self.view_is) c.self.invariant.sound in
    let frozen : IsComplete s c.args.digest × Shows c.in-Ok.view s = rw (c.in-Ok.is) at c.in_ok-refusal.ensures in
    (frozen.0.stands.0, complete_there c.in-Ok.view s c.args.digest frozen.0.stands.0 sound.blocks_kept frozen.1 frozen.0 frozen.0.stands.1)

pub returns-in_ok-blocks-in-Ok-clause-reply : goal.returns-in_ok-blocks-in-Ok-clause-reply
returns-in_ok-blocks-in-Ok-clause-reply c =
    let s : State = c.args.self.now.state in
    let sound : IsSound s = rw (← c.self.view_is) c.self.invariant.sound in
    let frozen : IsComplete s c.args.digest × Shows c.in-Ok.view s = rw (c.in-Ok.is) at c.in_ok-refusal.ensures in
    (frozen.0, rw c.new.ensures (walk_is_causal c.in-Ok.view s c.args.digest c.in_ok-blocks-in-Ok.blocks.items sound.blocks_kept frozen.1 frozen.0 c.in_ok-blocks-in-Ok.ensures))
