use Rattle.nw_waiting.proofs.Words.{refl, wanted_cmp}
use Rattle.std.proofs.lemmas.Map.Keys.{IsDistinct-from_sorted}
use Rattle.nw_waiting.proofs.waiting.Waiting.lacks.Goals as goal

pub returns : goal.returns
returns g c =
    let listed = c.missing_of.ensures in
    (c.missing_of.result.now, record { exactly = listed.exactly; once = IsDistinct-from_sorted wanted_cmp c.missing_of.result.now listed.ascending }, refl)
