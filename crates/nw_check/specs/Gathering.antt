-- The votes gathered for one block.
use Rattle.std.specs.Prelude.{◌≡◌, ℕ, ◌<◌, ◌≤◌, List, ◌∷◌, ◌++◌, length, take, drop, All, Contains}
use Rattle.std.specs.List.Sorted.{IsStrictlyIncreasing}
use Rattle.nw_digest.specs.declared.digest.Digest.{Digest}
use Rattle.nw_codec.specs.Fits.{signers}
use Rattle.nw_codec.specs.Grammar.{seal}
use Rattle.nw_codec.specs.Subject.{vote_subject}
use Rattle.nw_codec.specs.declared.certificate.Seal.{Seal}
use Rattle.nw_codec.specs.declared.certificate.Certificate.{Certificate}
use Rattle.nw_codec.specs.declared.vote.Vote.{Vote}
use Rattle.nw_committee.specs.Committee.{IsCommittee, ReachesQuorum}
use Rattle.nw_committee.specs.declared.member.Member.{Member}
use Rattle.nw_sig.specs.Signed.{Meaning, text_of_vote}
use Rattle.nw_model.specs.Checks.{IsMember, IsSealFor, IsSealOf}
use Rattle.nw_check.specs.declared.fault.GatherFault.{GatherFault}
use Rattle.nw_check.specs.declared.fault.GatherFault.TheVariants as fault
use Rattle.nw_check.specs.declared.fault.Counted.{Counted}
use Rattle.nw_check.specs.declared.fault.Counted.TheVariants as count

-- a gatherer, as contracts see it
pub record Gathering : Type 0 where
  -- the digest of the block
  pub digest : Digest
  -- the round of the block
  pub round : ℕ
  -- the author of the block
  pub author : ℕ
  -- the members that may vote
  pub committee : List Member
  -- the seals of the counted votes
  pub seals : List Seal

-- the certificate for the block with all counted seals
abbrev pub certificate_of : Gathering → Certificate
certificate_of g = record { digest = g.digest; round = g.round; author = g.author; votes = g.seals }

-- the invariant of a gatherer
pub record IsGathering (accepts : Meaning) (g : Gathering) : Type 0 where
  -- the members form a committee
  pub committee : IsCommittee g.committee
  -- the block's author is a member
  pub author : IsMember g.committee g.author
  -- the seals ascend strictly by signer
  pub in_order : IsStrictlyIncreasing (signers g.seals)
  -- each seal has its signer's signature for the block
  pub sealed : All (IsSealOf accepts g.committee (certificate_of g)) g.seals

-- the vote is for the block: for its digest, round and author
abbrev pub IsVoteForBlock : Gathering → Vote → Type 0
IsVoteForBlock g v = (v.digest ≡ g.digest) × (v.round ≡ g.round) × (v.author ≡ g.author)

-- the vote is for the block, and no vote of its signer was counted
abbrev pub IsNew : Gathering → Vote → Type 0
IsNew g v = IsVoteForBlock g v × (Contains (signers g.seals) v.signer → ⊥)

-- the vote has its signer's signature
abbrev pub IsVoteOf : Meaning → List Member → Vote → Type 0
IsVoteOf accepts members v = IsSealFor accepts members (text_of_vote (vote_subject v)) (seal v)

-- the vote is new, and a member signed it
abbrev pub CanCount : Meaning → Gathering → Vote → Type 0
CanCount accepts g v = IsNew g v × IsMember g.committee v.signer × IsVoteOf accepts g.committee v

-- adding the vote may fail with this fault: the first reason not to count the vote, or `NoMemory` if it may count
abbrev pub IsGatherFault : Meaning → Gathering → Vote → GatherFault → Type 0
IsGatherFault accepts g v fault.OtherBlock = IsVoteForBlock g v → ⊥
IsGatherFault accepts g v fault.Repeated = IsVoteForBlock g v × Contains (signers g.seals) v.signer
IsGatherFault accepts g v fault.Signer = IsNew g v × (IsMember g.committee v.signer → ⊥)
IsGatherFault accepts g v fault.Signature = IsNew g v × IsMember g.committee v.signer × (IsVoteOf accepts g.committee v → ⊥)
IsGatherFault accepts g v fault.NoMemory = CanCount accepts g v

-- the number belongs at this place among ascending numbers
pub record IsPlace (numbers : List ℕ) (number place : ℕ) : Type 0 where
  -- the place is within the list, or at its end
  pub within : place ≤ length numbers
  -- all numbers before the place are lower
  pub below : All (λ n. n < number) (take place numbers)
  -- all numbers from the place on are higher
  pub above : All (λ n. number < n) (drop place numbers)

-- the new list is the old one with the seal inserted somewhere
abbrev pub AddsSeal : List Seal → Seal → List Seal → Type 0
AddsSeal old one new = (before after : List Seal) × (old ≡ before ++ after) × (new ≡ before ++ one ∷ after)

-- the new gatherer is the old one after it counted the vote
pub record CountsVote (old : Gathering) (v : Vote) (new : Gathering) : Type 0 where
  -- its seal was added
  pub seals : AddsSeal old.seals (seal v) new.seals
  -- nothing else changed
  pub others : new ≡ record old { seals = new.seals }

-- `Quorum`: the signers of the counted votes reach the quorum; `Counted`: they do not
abbrev pub IsCount : Gathering → Counted → Type 0
IsCount g count.Quorum = ReachesQuorum g.committee (signers g.seals)
IsCount g count.Counted = ReachesQuorum g.committee (signers g.seals) → ⊥
