use Rattle.nw_check.proofs.Words.{◌≡◌, false, refl, sym, subst, IsTrue, IsMember}
use Rattle.nw_check.proofs.Numbers.{all_numbers-more, all_numbers-not, all_front}
use Rattle.nw_check.proofs.members.are_members.Goals as goal

pub returns-then-not-is_member : goal.returns-then-not-is_member
returns-then-not-is_member g c =
    let member = IsMember c.args.committee.now in
    let no : c.is_member.result ≡ false = cc in
    let bad : member (g.T.Numbered.number_of c.one-item.result) → ⊥ = λ h. let so : IsTrue c.is_member.result = c.is_member.ensures.member.1 (subst member (sym c.number.ensures) h) in cc in
    (λ h. absurd cc, λ all. absurd (all_numbers-not g.T.Numbered.number_of _ _ _ c.loop-one-test.true c.one-item.is member bad all))

pub loop-one-preserved : goal.loop-one-preserved
loop-one-preserved g c =
    let member = IsMember c.args.committee.now in
    let so : IsTrue c.is_member.result = cc in
    let here : member (g.T.Numbered.number_of c.one-item.result) = subst member c.number.ensures (c.is_member.ensures.member.0 so) in
    all_numbers-more g.T.Numbered.number_of _ _ _ c.loop-one-test.true c.one-item.is member c.loop-one.invariant here

pub returns : goal.returns
returns g c = (λ h. all_front (IsMember c.args.committee.now) g.T.Numbered.number_of _ _ c.loop-one-test.false c.loop-one.invariant, λ all. refl)
