-- Committees as lists of their members, and the lists of members that reach the quorum.
use Rattle.std.specs.Prelude.{◌≡◌, ◌≢◌, ◌==◌, ℕ, ◌+◌, ◌*◌, ◌/◌, ◌≤◌, Bool, List, length, map, filter, sum_by, All, AllPairs}
use Rattle.std.specs.List.{list_any, enumerate_from}
use Rattle.nw_committee.specs.declared.member.Key.{Key}
use Rattle.nw_committee.specs.declared.member.Member.{Member}

-- no two keys of the list are the same
unfoldable pub AreDistinct : List Key → Type 0
AreDistinct keys = AllPairs (λ a b. a ≢ b) keys

-- the members' keys, in order
abbrev pub keys : List Member → List Key
keys members = map (λ m. m.key) members

-- the weight is from 1 to 1,000,000
abbrev pub IsWeight : ℕ → Type 0
IsWeight weight = (1 ≤ weight) × (weight ≤ 1_000_000)

-- the greatest number of members
abbrev pub most_members : ℕ
most_members = 100

-- there are 1 to 100 members
abbrev pub IsSize : ℕ → Type 0
IsSize n = (1 ≤ n) × (n ≤ most_members)

-- the members are a committee
pub record IsCommittee (members : List Member) : Type 0 where
  -- there are 1 to 100 of them
  pub size : IsSize (length members)
  -- no two have the same key
  pub distinct : AreDistinct (keys members)
  -- each weighs from 1 to 1,000,000
  pub weights : All (λ m. IsWeight m.weight) members

-- the number of members is 3f + 1 for some f, and at most 100
unfoldable pub IsEqualSize : ℕ → Type 0
IsEqualSize n = (f : ℕ) × (n ≡ 3 * f + 1) × (n ≤ most_members)

-- the members with these keys, each of weight 1
abbrev pub equal_members : List Key → List Member
equal_members keys = map (λ k. record { key = k; weight = 1 }) keys

-- the sum of the members' weights
abbrev pub total : List Member → ℕ
total members = sum_by (λ m. m.weight) members

-- the quorum: two thirds of the total weight, rounded down, plus one
abbrev pub quorum : List Member → ℕ
quorum members = 2 * total members / 3 + 1

-- whether the number is in the list
abbrev pub is_listed : List ℕ → ℕ → Bool
is_listed listed number = list_any (λ n. n == number) listed

-- the members whose numbers are in the list, with their numbers, each once
abbrev pub members_listed : List Member → List ℕ → List (ℕ × Member)
members_listed members listed = filter (λ p. is_listed listed p.0) (enumerate_from 0 members)

-- the sum of the weights of the listed members, each counted once
abbrev pub listed_weight : List Member → List ℕ → ℕ
listed_weight members listed = sum_by (λ p. p.1.weight) (members_listed members listed)

-- the weights of the listed members, each counted once, add up to at least the quorum
abbrev pub ReachesQuorum : List Member → List ℕ → Type 0
ReachesQuorum members listed = quorum members ≤ listed_weight members listed
