use Rattle.nw_generation.proofs.Words.{sym, ◌∙◌}
use Rattle.nw_generation.proofs.Unions.{get_here, get_older, get_from_none, of_latest}
use Rattle.nw_generation.proofs.descent.Descent.get.Goals as goal

pub get-requires : goal.get-requires
get-requires c =
    of_latest c.loop-generation.left.now c.in-Some.older.now c.in-Some.generation.now c.args.slot c.args.digest.now c.in-Some.ensures.cases.0
    (rw (← c.self.view_is, ← c.loop-generation.invariant) at c.requires)

pub returns-in-Some-get : goal.returns-in-Some-get
returns-in-Some-get c =
    rw (← c.self.view_is, ← c.loop-generation.invariant)
    (sym (get_here c.loop-generation.left.now c.in-Some.older.now c.in-Some.generation.now c.args.digest.now c.in-Some-get.block.now c.in-Some.ensures.cases.0 c.in-Some-get.ensures))

pub loop-generation-preserved : goal.loop-generation-preserved
loop-generation-preserved c =
    get_older c.loop-generation.left.now c.in-Some.older.now c.in-Some.generation.now c.args.digest.now c.in-Some.ensures.cases.0 c.in_default-get.ensures ∙ c.loop-generation.invariant

pub returns : goal.returns
returns c =
    rw (← c.self.view_is, ← c.loop-generation.invariant) (sym (get_from_none c.loop-generation.left.now c.args.digest.now c.in_default.ensures.cases))
