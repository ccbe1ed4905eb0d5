use Rattle.nw_plain.proofs.Words.{◌≡◌, rules, digests_total, digests_apart, maps_decide, other_length, same_digest_decides}
use Rattle.nw_model.proofs.Sames.{same_certificate_decides, same_certificates}
use Rattle.nw_plain.proofs.plain.sameness.are_same_certificates.Goals as goal

pub returns-then-len : goal.returns-then-len
returns-then-len c =
    let answer : c.eq.result ≡ same_certificates c.args.one.now.entries c.args.other.now.entries = search rules in
    maps_decide digests_total digests_apart c.args.one.now c.args.other.now c.len.ensures.ordered c.len-2.ensures.ordered same_digest_decides same_certificate_decides c.eq.result answer

pub returns-else-len : goal.returns-else-len
returns-else-len c = other_length digests_total digests_apart c.args.one.now c.args.other.now c.len.ensures.ordered c.len-2.ensures.ordered c.len.result c.len-2.result c.len.ensures.len c.len-2.ensures.len c.if-len.false
