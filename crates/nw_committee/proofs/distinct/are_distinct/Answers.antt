use Rattle.std.specs.Prelude.{IsTrue}
use Rattle.nw_committee.proofs.DistinctKeys.{distinct_none, distinct_keys-more, distinct_keys-apart}
use Rattle.nw_committee.proofs.distinct.are_distinct.Goals as goal

pub loop-i-init : goal.loop-i-init
loop-i-init g c = distinct_none

pub returns-then-has_key : goal.returns-then-has_key
returns-then-has_key g c =
    let found = c.has_key.ensures.0 c.if-has_key.true in
    let among = rw c.key.ensures at found in
    (λ no. absurd cc, λ distinct. absurd (distinct_keys-apart g.T.Keyed.key_of _ _ _ c.loop-i-test.true c.index-keyed-i.is among distinct))

pub loop-i-preserved : goal.loop-i-preserved
loop-i-preserved g c =
    let none : IsTrue c.has_key.result → ⊥ = λ so. cc in
    distinct_keys-more g.T.Keyed.key_of _ _ _ c.loop-i-test.true c.index-keyed-i.is c.loop-i.invariant (λ among. none (c.has_key.ensures.1 (rw c.key.ensures among)))
