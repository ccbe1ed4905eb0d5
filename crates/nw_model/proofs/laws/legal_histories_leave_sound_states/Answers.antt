use Rattle.nw_model.proofs.Replayed.{legal_sound}
use Rattle.nw_model.proofs.laws.legal_histories_leave_sound_states.Goals as goal

pub returns : goal.returns
returns c = legal_sound
