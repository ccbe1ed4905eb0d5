use Rattle.std.proofs.Common.{◌≡◌, ◌∙◌, ◌<◌, false, true, None, [], length, get_or, rules, sym}
use Rattle.std.specs.Prelude.{slice_range, take}
use Rattle.nw_codec.specs.Same.{same_bytes}
use Rattle.nw_codec.specs.declared.certificate.Seal.{Seal}
use Rattle.nw_model.specs.Checks.{IsSealFor}
use Rattle.nw_curve.specs.Coding.{encoded}
use Rattle.nw_curve.proofs.Inverses.{inverse_of, product-has_inverse, first_inverse, second_inverse}
use Rattle.nw_ed25519.specs.Accepts.{accepts}
use Rattle.nw_prepared.proofs.FirstBad.{first_and_rest, some_votes, first_is_bad, first_then_rest}
use Rattle.nw_prepared.proofs.votes.+verdict_on.Goals as goal

pub returns-then-is_empty-clause-inverse : goal.returns-then-is_empty-clause-inverse
returns-then-is_empty-clause-inverse t c = inverse_of c.args.product.now c.inverse.result c.requires c.inverse.ensures

pub returns-in_default-clause-inverse : goal.returns-in_default-clause-inverse
returns-in_default-clause-inverse t c = inverse_of c.args.product.now c.inverse-in_default.result c.requires c.inverse-in_default.ensures

pub returns-in_default-clause-bad : goal.returns-in_default-clause-bad
returns-in_default-clause-bad t c =
    let votes = c.args.votes.now in
    let d : Seal = record { signer = 0; signature = record { 0 = [] } } in
    let some : 0 < length votes = some_votes (length votes) c.is_empty.result c.is_empty.ensures c.if-is_empty.false in
    let none : c.expected.result ≡ None = cc in
    first_is_bad (IsSealFor accepts c.args.committee.now c.args.text.now) votes (get_or votes 0 d) (slice_range votes 1 (length votes)) (first_and_rest votes d some) (rw none at c.expected.ensures)

pub verdict_on-later-requires : goal.verdict_on-later-requires
verdict_on-later-requires t c =
    (search rules, product-has_inverse c.args.product.now c.in-Some.point.z c.times.result c.requires c.in-Some.ensures.0 c.times.ensures)

pub returns-clause-bad : goal.returns-clause-bad
returns-clause-bad t c =
    let votes = c.args.votes.now in
    let d : Seal = record { signer = 0; signature = record { 0 = [] } } in
    let vote = get_or votes 0 d in
    let some : 0 < length votes = some_votes (length votes) c.is_empty.result c.is_empty.ensures c.if-is_empty.false in
    let own = second_inverse c.args.product.now c.in-Some.point.z c.times.result c.verdict_on-later.result.inverse c.times-2.result c.times.ensures c.verdict_on-later.ensures.inverse c.times-2.ensures in
    let r : c.has_r-is_good.result ≡ same_bytes (take 32 vote.signature.0) (encoded c.in-Some.point) = c.has_r-is_good.ensures own in
    first_then_rest (IsSealFor accepts c.args.committee.now c.args.text.now) votes vote (slice_range votes 1 (length votes)) c.has_r-is_good.result c.verdict_on-later.result.bad c.first_of.result (first_and_rest votes d some)
    (λ yes. c.in-Some.ensures.1.0 (sym r ∙ yes))
    (λ no signed. let so : false ≡ true = sym no ∙ (r ∙ c.in-Some.ensures.1.1 signed) in cc)
    c.first_of.ensures c.verdict_on-later.ensures.bad

pub returns-clause-inverse : goal.returns-clause-inverse
returns-clause-inverse t c =
    first_inverse c.args.product.now c.in-Some.point.z c.times.result c.verdict_on-later.result.inverse c.times-3.result c.times.ensures c.verdict_on-later.ensures.inverse c.times-3.ensures
