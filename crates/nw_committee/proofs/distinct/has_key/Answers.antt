use Rattle.std.proofs.Common.{◌∙◌, refl, sym}
use Rattle.nw_committee.proofs.DistinctKeys.{same_key, other_key, has_key_here, has_key_none}
use Rattle.nw_committee.proofs.Listed.{whole_front}
use Rattle.nw_committee.proofs.distinct.has_key.Goals as goal

pub returns-then-eq : goal.returns-then-eq
returns-then-eq g c =
    let same = same_key _ _ (sym c.eq.ensures ∙ c.if-eq.true) in
    (λ _. has_key_here g.T.Keyed.key_of _ _ _ c.loop-one-test.true c.one-item.is _ (sym c.key.ensures ∙ same), λ _. refl)

pub loop-one-preserved : goal.loop-one-preserved
loop-one-preserved g c =
    let other = other_key _ _ (sym c.eq.ensures ∙ c.if-eq.false) in
    has_key_none g.T.Keyed.key_of _ _ _ c.loop-one-test.true c.one-item.is _ c.loop-one.invariant (λ e. other (c.key.ensures ∙ e))

pub returns : goal.returns
returns g c =
    let whole = whole_front g.T.Keyed.key_of c.args.keyed.now c.loop-one.one-index c.loop-one-test.false in
    let none = rw whole at c.loop-one.invariant in
    (λ no. absurd cc, λ among. absurd (none among))
