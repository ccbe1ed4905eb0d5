use Rattle.nw_rounds.proofs.AtRound.{are_places, ascend, begins_before}
use Rattle.nw_rounds.proofs.rounds.places_between.Goals as goal

pub range-requires : goal.range-requires
range-requires g c = begins_before c.args.from c.args.to c.requires

pub returns-clause-places : goal.returns-clause-places
returns-clause-places g c = are_places c.args.digests.now.entries c.range.result c.args.from c.args.to c.range.ensures.ordered (c.range.ensures.between tt)

pub returns-clause-ascending : goal.returns-clause-ascending
returns-clause-ascending g c = ascend c.args.digests.now.entries c.range.result c.args.from c.args.to c.range.ensures.ordered (c.range.ensures.between tt)
