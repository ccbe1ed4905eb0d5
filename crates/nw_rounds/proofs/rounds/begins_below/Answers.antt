use Rattle.nw_rounds.proofs.AtRound.{first_tells}
use Rattle.nw_rounds.proofs.rounds.begins_below.Goals as goal

pub returns-in-Some : goal.returns-in-Some
returns-in-Some g c = first_tells c.args.round c.args.digests.now.entries c.in-Some.field-0-0.now c.in-Some._digest.now c.in-Some.ensures.first c.in-Some.ensures.all_from
