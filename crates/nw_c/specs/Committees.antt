-- Making and reading committees.
use Rattle.std.specs.Prelude.{◌≡◌, ℕ, List, Some, length, map, slice_get}
use Rattle.nw_committee.specs.Committee.{quorum}
use Rattle.nw_committee.specs.declared.member.Member.{Member}
use Rattle.nw_model.specs.Checks.{IsMember}
use Rattle.nw_c.specs.declared.committees.CMember.{CMember}
use Rattle.nw_c.specs.declared.content.Content.{Content}
use Rattle.nw_c.specs.declared.content.Content.TheVariants as kind

-- the member for an entry of the caller's array
abbrev pub member_in : CMember → Member
member_in m = record { key = record { 0 = m.key }; weight = m.weight }

-- it is the committee of these members
abbrev pub IsCommitteeOf : List CMember → Content → Type 0
IsCommitteeOf listed (kind.Committee members) = members ≡ map member_in listed
IsCommitteeOf listed other = ⊥

-- both are the same committee
abbrev pub AreOneCommittee : Content → Content → Type 0
AreOneCommittee (kind.Committee members) (kind.Committee others) = members ≡ others
AreOneCommittee one other = ⊥

-- it is a committee of n members
abbrev pub HasSize : Content → ℕ → Type 0
HasSize (kind.Committee members) n = n ≡ length members
HasSize other n = ⊥

-- it is a committee whose member of this number is m
abbrev pub HasMember : Content → ℕ → CMember → Type 0
HasMember (kind.Committee members) number m = slice_get members number ≡ Some (member_in m)
HasMember other number m = ⊥

-- it is a committee with this quorum
abbrev pub HasQuorum : Content → ℕ → Type 0
HasQuorum (kind.Committee members) n = n ≡ quorum members
HasQuorum other n = ⊥

-- it is a committee without a member of this number
abbrev pub LacksMember : Content → ℕ → Type 0
LacksMember (kind.Committee members) number = IsMember members number → ⊥
LacksMember other number = ⊥
