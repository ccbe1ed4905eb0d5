use Rattle.std.proofs.Common.{◌≡◌, ◌∙◌, rules, sym}
use Rattle.nw_committee.specs.Same.{same_members, same_members_decides}
use Rattle.nw_committee.proofs.committee.CommitteePartialEq.eq.Goals as goal

pub returns-clause-same : goal.returns-clause-same
returns-clause-same c =
    let answer : c.eq.result ≡ same_members c.args.self.now c.args.other.now = search rules in
    let decides = same_members_decides c.args.self.now c.args.other.now in
    (λ same. decides.0 (sym answer ∙ same), λ equal. answer ∙ decides.1 equal)
