-- Bounds on weights.
use Rattle.std.proofs.Common.{◌*◌, ◌≤◌, List, length, arith}
use Rattle.std.specs.List.{All}
use Rattle.std.proofs.lemmas.List.Sums.{sum_by-le}
use Rattle.nw_committee.specs.declared.member.Member.{Member}
use Rattle.nw_committee.specs.Committee.{IsCommittee, total}

-- if each member weighs at most a million, the total is at most a million times their number
pub total_of_weights-le : (members : List Member) → All (λ m. m.weight ≤ 1000000) members → total members ≤ length members * 1000000
total_of_weights-le members light = sum_by-le (λ m. m.weight) 1000000 members light

-- the total weight of a committee is at most a hundred million
pub total-le : (members : List Member) → IsCommittee members → total members ≤ 100000000
total-le members ok =
    let light : All (λ (m : Member). m.weight ≤ 1000000) members = λ k d h. (ok.weights k d h).1 in
    let most = total_of_weights-le members light in
    let few : length members ≤ 100 = ok.size.1 in
    omega arith
