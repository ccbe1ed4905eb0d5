use Rattle.nw_generation.proofs.Words.{length, ap, ◌∷◌, [], ◌∙◌, arith, FinMap, get, Block, digest_cmp}
use Rattle.std.proofs.lemmas.List.{length-append}
use Rattle.nw_generation.proofs.Unions.{older_has}
use Rattle.nw_generation.proofs.descent.Descent.descend_to.Goals as goal

pub loop-generation-init : goal.loop-generation-init
loop-generation-init c = λ d b at low. at

pub loop-generation-smaller : goal.loop-generation-smaller
loop-generation-smaller c = omega (arith, ap length c.in-Some.ensures.cases.0, length-append c.in-Some.older.now (c.in-Some.generation.now ∷ []))

pub loop-generation-preserved : goal.loop-generation-preserved
loop-generation-preserved c = λ d b at low. older_has _ _ _ _ c.in-Some.ensures.cases.0 (c.is_above.ensures c.if-not-is_above.false) d b (c.loop-generation.invariant d b at low) low

pub returns-then-not-is_above : goal.returns-then-not-is_above
returns-then-not-is_above c = λ d b at low. c.loop-generation.invariant d b (ap (λ (m : FinMap digest_cmp Block). get m d) c.self.view_is ∙ at) low

pub returns-in_default : goal.returns-in_default
returns-in_default c = λ d b at low. c.loop-generation.invariant d b (ap (λ (m : FinMap digest_cmp Block). get m d) c.self.view_is ∙ at) low
