use Rattle.nw_check.proofs.Words.{◌≡◌, false, subst, IsTrue, All, take_all, All-more, IsSealOf}
use Rattle.nw_check.proofs.Broken.{first_bad}
use Rattle.nw_check.proofs.verifier.Verifier.first_bad_signer.Goals as goal

pub returns-then-not-is_signed_by : goal.returns-then-not-is_signed_by
returns-then-not-is_signed_by g c =
    let votes = c.as_slice-seal-items.ensures in
    let within = rw votes at c.loop-seal-test.true in
    let no : c.is_signed_by.result ≡ false = cc in
    let only = rw (votes, c.text_of_vote-text.ensures, c.subject.ensures) at c.is_signed_by.ensures in
    rw votes (first_bad g.S.Scheme.accepts (g.Self.Verifier.members c.args.self.now) c.args.certificate.now c.loop-seal.seal-index _ within c.loop-seal.invariant
    (λ own. let so : IsTrue c.is_signed_by.result = only.1 own in cc))

pub loop-seal-preserved : goal.loop-seal-preserved
loop-seal-preserved g c =
    let votes = c.as_slice-seal-items.ensures in
    let within = rw votes at c.loop-seal-test.true in
    let so : IsTrue c.is_signed_by.result = cc in
    let own = rw (votes, c.text_of_vote-text.ensures, c.subject.ensures) at (c.is_signed_by.ensures.0 so) in
    All-more (IsSealOf g.S.Scheme.accepts (g.Self.Verifier.members c.args.self.now) c.args.certificate.now) c.args.certificate.now.votes c.loop-seal.seal-index _ within c.loop-seal.invariant own

pub returns : goal.returns
returns g c =
    let votes = c.as_slice-seal-items.ensures in
    let end = rw votes at c.loop-seal-test.false in
    subst (All (IsSealOf g.S.Scheme.accepts (g.Self.Verifier.members c.args.self.now) c.args.certificate.now)) (take_all c.loop-seal.seal-index c.args.certificate.now.votes end) c.loop-seal.invariant
