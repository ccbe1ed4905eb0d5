use Rattle.nw_state.proofs.Words.{◌∙◌, ap, certified_digest, index_answers}
use Rattle.nw_state.specs.StateTables.{state_of}
use Rattle.nw_state.proofs.tables.StateTables.certified.Goals as goal

pub returns-clause-value : goal.returns-clause-value
returns-clause-value c =
    c.certified.ensures
    ∙ index_answers (state_of c.self.inside.blocks c.self.inside.certificates c.self.inside.slots c.self.inside.floor) c.self.inside.slots.certified (c.args.round, c.args.author) c.self.invariant.kept.indexed
    ∙ ap (λ t. certified_digest t.state (c.args.round, c.args.author)) c.self.view_is

pub returns-clause-sound : goal.returns-clause-sound
returns-clause-sound c = rw (← c.self.view_is) c.self.invariant.kept.sound
