use Rattle.nw_check.proofs.Words.{ap, IsTrue}
use Rattle.nw_check.specs.Gathering.{Gathering}
use Rattle.nw_check.proofs.Places.{place_fresh}
use Rattle.nw_check.proofs.gather.Gather.place_for.Goals as goal

pub returns-then-not-is_member-clause-fault : goal.returns-then-not-is_member-clause-fault
returns-then-not-is_member-clause-fault g c =
    let seals = ap (λ (v : Gathering). v.seals) c.self.view_is in
    let committee = ap (λ (v : Gathering). v.committee) c.self.view_is in
    let for : IsTrue c.is_for.result = cc in
    let place = rw (c.deref.ensures.value, seals) at c.in-Some.ensures in
    let member = rw (c.get-committee.ensures, committee) at c.is_member.ensures.member in
    ((c.is_for.ensures.0 for, place_fresh _ _ _ place), λ h. let so : IsTrue c.is_member.result = member.1 h in cc)

pub returns-then-not-is_signed_by-clause-fault : goal.returns-then-not-is_signed_by-clause-fault
returns-then-not-is_signed_by-clause-fault g c =
    let seals = ap (λ (v : Gathering). v.seals) c.self.view_is in
    let committee = ap (λ (v : Gathering). v.committee) c.self.view_is in
    let for : IsTrue c.is_for.result = cc in
    let place = rw (c.deref.ensures.value, seals) at c.in-Some.ensures in
    let named : IsTrue c.is_member.result = cc in
    let member = rw (c.get-committee.ensures, committee) at (c.is_member.ensures.member.0 named) in
    let only = rw (c.requires, c.text_of_vote-text.ensures, c.subject.ensures) at c.is_signed_by.ensures in
    ((c.is_for.ensures.0 for, place_fresh _ _ _ place), member, λ h. let so : IsTrue c.is_signed_by.result = only.1 h in cc)

pub returns-clause-may_count : goal.returns-clause-may_count
returns-clause-may_count g c =
    let seals = ap (λ (v : Gathering). v.seals) c.self.view_is in
    let committee = ap (λ (v : Gathering). v.committee) c.self.view_is in
    let for : IsTrue c.is_for.result = cc in
    let place = rw (c.deref.ensures.value, seals) at c.in-Some.ensures in
    let named : IsTrue c.is_member.result = cc in
    let member = rw (c.get-committee.ensures, committee) at (c.is_member.ensures.member.0 named) in
    let signed : IsTrue c.is_signed_by.result = cc in
    let own = rw (c.requires, c.text_of_vote-text.ensures, c.subject.ensures) at (c.is_signed_by.ensures.0 signed) in
    ((c.is_for.ensures.0 for, place_fresh _ _ _ place), member, own)
