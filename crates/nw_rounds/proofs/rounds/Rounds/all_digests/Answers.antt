use Rattle.std.proofs.lemmas.Result.{IfOk-weaker}
use Rattle.nw_rounds.proofs.AtRound.{all_listed}
use Rattle.nw_rounds.proofs.rounds.Rounds.all_digests.Goals as goal

pub returns : goal.returns
returns g c =
    let entries = c.self.inside.digests.entries in
    rw (← c.self.view_is) (IfOk-weaker c.listed.result _ _ (λ list has round d at. has d (all_listed entries round d at)) c.listed.ensures)
