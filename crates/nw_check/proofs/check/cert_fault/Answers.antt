use Rattle.nw_check.proofs.Words.{subst, IsTrue, Member, IsSealOf}
use Rattle.std.specs.Prelude.{List, All}
use Rattle.nw_check.specs.Seals.{IsFirstBad}
use Rattle.nw_check.proofs.Broken.{good_votes-valid}
use Rattle.nw_check.proofs.check.cert_fault.Goals as goal

pub returns-in-None : goal.returns-in-None
returns-in-None g c =
    let accepts = g.S.Scheme.accepts in
    let certificate = c.args.certificate.now in
    let author : IsTrue c.is_member.result = cc in
    let named : IsTrue c.are_members.result = cc in
    let reached : IsTrue c.reaches_quorum.result = cc in
    let sealed = subst (λ (members : List Member). All (IsSealOf accepts members certificate) certificate.votes) c.requires.members c.in-None.ensures in
    good_votes-valid accepts c.args.committee.now certificate c.requires.fits (c.is_member.ensures.member.0 author)
    (rw c.as_slice-votes.ensures at (c.are_members.ensures.0 named)) (rw c.as_slice-votes.ensures at (c.reaches_quorum.ensures.reached.0 reached)) sealed

pub returns-in-Some : goal.returns-in-Some
returns-in-Some g c =
    let accepts = g.S.Scheme.accepts in
    let certificate = c.args.certificate.now in
    let author : IsTrue c.is_member.result = cc in
    let named : IsTrue c.are_members.result = cc in
    let reached : IsTrue c.reaches_quorum.result = cc in
    let bad = subst (λ (members : List Member). IsFirstBad (IsSealOf accepts members certificate) certificate.votes c.in-Some.signer) c.requires.members c.in-Some.ensures in
    ((c.is_member.ensures.member.0 author, rw c.as_slice-votes.ensures at (c.are_members.ensures.0 named)), rw c.as_slice-votes.ensures at (c.reaches_quorum.ensures.reached.0 reached), bad)
