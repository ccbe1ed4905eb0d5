-- The laws of the quorum.
use Rattle.std.proofs.Common.{◌≡◌, ℕ, List, [], ◌∷◌, length, refl, arith}
use Rattle.std.specs.Prelude.{◌||◌}
use Rattle.std.specs.List.{All, enumerate_from}
use Rattle.std.proofs.lemmas.List.Elements.{All-head, All-tail}
use Rattle.std.proofs.lemmas.List.Sums.{sum_by-cons}
use Rattle.nw_committee.specs.declared.member.Member.{Member}
use Rattle.nw_committee.specs.Committee.{total, is_listed}
use Rattle.nw_committee.specs.Laws.{EqualMembersHaveTheClassicQuorum, QuorumsIntersect, listed_in_both}
use Rattle.nw_committee.proofs.Listed.{either_and_both, weight_where-le, is_listed-filter}

pub quorums_intersect : QuorumsIntersect
quorums_intersect members one other h k =
    let either = λ (n : ℕ). is_listed one n || is_listed other n in
    let all = either_and_both (is_listed one) (is_listed other) either (is_listed (listed_in_both one other)) (λ n. refl) (is_listed-filter one other) (enumerate_from 0 members) in
    omega (arith, all, weight_where-le either 0 members, h, k)

-- the total weight of members of weight 1 is their number
pub total_of_equal : (members : List Member) → All (λ m. m.weight ≡ 1) members → total members ≡ length members
total_of_equal [] equal = refl
total_of_equal (m ∷ members) equal =
    let rest = total_of_equal members (All-tail (λ (q : Member). q.weight ≡ 1) m members equal) in
    let one = All-head (λ (q : Member). q.weight ≡ 1) m members equal in
    omega (arith, rest, one, sum_by-cons (λ (q : Member). q.weight) m members)

pub equal_members_have_the_classic_quorum : EqualMembersHaveTheClassicQuorum
equal_members_have_the_classic_quorum members f size equal = omega (arith, total_of_equal members equal, size)
