-- Laws of the quorum.
use Rattle.std.specs.Prelude.{◌≡◌, ℕ, ◌+◌, ◌*◌, ◌<◌, List, length, All, filter}
use Rattle.nw_committee.specs.declared.member.Member.{Member}
use Rattle.nw_committee.specs.Committee.{total, quorum, is_listed, listed_weight, ReachesQuorum}

-- 3f + 1 members of weight 1 have the quorum 2f + 1
abbrev pub EqualMembersHaveTheClassicQuorum : Type 0
EqualMembersHaveTheClassicQuorum =
    (members : List Member) (f : ℕ) → length members ≡ 3 * f + 1 → All (λ m. m.weight ≡ 1) members → quorum members ≡ 2 * f + 1

-- the numbers that are in both lists
abbrev pub listed_in_both : List ℕ → List ℕ → List ℕ
listed_in_both one other = filter (is_listed other) one

-- any two lists that reach the quorum share members whose weights add up to more than a third of the total
abbrev pub QuorumsIntersect : Type 0
QuorumsIntersect =
    (members : List Member) (one other : List ℕ) → ReachesQuorum members one → ReachesQuorum members other
    → total members < 3 * listed_weight members (listed_in_both one other)
