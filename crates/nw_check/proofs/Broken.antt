-- Broken rules, and the faults of blocks and certificates.
use Rattle.nw_check.proofs.Words.{◌≡◌, ℕ, true, false, ◌+◌, ◌<◌, Option, Some, None, List, ◌∷◌, ◌++◌, length, take, drop, get_or, refl, subst, arith, Contains, All, Block, Signature, Seal, Certificate, signers, ReachesQuorum, Member, Meaning, IsMember, IsSealOf, IsValid}
use Rattle.std.proofs.Common.{Bool}
use Rattle.std.specs.Prelude.{MatchOption, is_some, not}
use Rattle.std.proofs.lemmas.List.Elements.{All-contains, Contains-append_right}
use Rattle.nw_codec.specs.Fits.{CertificateFits}
use Rattle.nw_check.specs.declared.fault.BlockFault.{BlockFault}
use Rattle.nw_check.specs.declared.fault.BlockFault.TheVariants as block_fault
use Rattle.nw_check.specs.declared.fault.CertFault.{CertFault}
use Rattle.nw_check.specs.declared.fault.CertFault.TheVariants as cert_fault
use Rattle.nw_check.specs.Seals.{IsFirstBad}
use Rattle.nw_check.specs.Fault.{BreaksRule, IsBlockFault, BreaksCertRule, IsCertFault}
use Rattle.nw_check.proofs.Numbers.{split_at}

module _ (accepts : Meaning) (members : List Member) (b : Block) (signature : Signature) where
  -- the first broken rule is the block's fault
  pub block_fault-from_rule : (f : BlockFault) → BreaksRule accepts members b signature f → IsBlockFault accepts members b signature f
  block_fault-from_rule block_fault.Author h = h
  block_fault-from_rule block_fault.ParentAuthor h = h
  block_fault-from_rule block_fault.GenesisParents h = h
  block_fault-from_rule block_fault.FewParents h = h
  block_fault-from_rule block_fault.Signature h = h
  block_fault-from_rule block_fault.NoMemory h = absurd h

module _ (accepts : Meaning) (members : List Member) (c : Certificate) where
  -- the first broken rule is the certificate's fault
  pub cert_fault-from_rule : (f : CertFault) → BreaksCertRule accepts members c f → IsCertFault accepts members c f
  cert_fault-from_rule cert_fault.Author h = h
  cert_fault-from_rule cert_fault.Signer h = h
  cert_fault-from_rule cert_fault.FewVotes h = h
  cert_fault-from_rule (cert_fault.Signature signer) h = h
  cert_fault-from_rule cert_fault.NoMemory h = absurd h

  -- if the votes before a place have good signatures and the vote at the place has a bad one, it is the first bad vote
  pub first_bad : (i : ℕ) (d : Seal) → i < length c.votes → All (IsSealOf accepts members c) (take i c.votes) → (IsSealOf accepts members c (get_or c.votes i d) → ⊥)
      → IsFirstBad (IsSealOf accepts members c) c.votes (get_or c.votes i d).signer
  first_bad i d h before bad = (take i c.votes, drop (i + 1) c.votes, get_or c.votes i d, split_at c.votes i d h, refl, before, bad)

  not_all_sealed : (signer : ℕ) → IsFirstBad (IsSealOf accepts members c) c.votes signer → All (IsSealOf accepts members c) c.votes → ⊥
  not_all_sealed signer (before, after, seal, whole, same, good, bad) all =
      let first : Contains (seal ∷ after) seal = (0, omega arith, refl) in
      bad (All-contains (IsSealOf accepts members c) (before ++ seal ∷ after) seal (subst (All (IsSealOf accepts members c)) whole all) (Contains-append_right before (seal ∷ after) seal first))

  -- a valid certificate breaks no rule
  pub valid-keeps_rules : (f : CertFault) → IsValid accepts members c → BreaksCertRule accepts members c f → ⊥
  valid-keeps_rules cert_fault.Author v h = h v.author
  valid-keeps_rules cert_fault.Signer v h = h.1 v.signer_numbers
  valid-keeps_rules cert_fault.FewVotes v h = h.1 v.votes
  valid-keeps_rules (cert_fault.Signature signer) v h = not_all_sealed signer h.2 v.sealed
  valid-keeps_rules cert_fault.NoMemory v h = h

  -- a certificate with only good votes is valid
  pub good_votes-valid : CertificateFits c → IsMember members c.author → All (IsMember members) (signers c.votes) → ReachesQuorum members (signers c.votes) → All (IsSealOf accepts members c) c.votes → IsValid accepts members c
  good_votes-valid fits author named reached sealed = record { fits = fits; author = author; signer_numbers = named; votes = reached; sealed = sealed }

  -- a certificate is valid exactly when no rule was found broken
  pub none-valid : (r : Option CertFault) (none : Bool) → MatchOption r (IsValid accepts members c) (BreaksCertRule accepts members c) → is_some r ≡ not none → (none ≡ true → IsValid accepts members c) × (IsValid accepts members c → none ≡ true)
  none-valid None true h e = (λ t. h, λ v. refl)
  none-valid None false h e = absurd cc
  none-valid (Some f) true h e = absurd cc
  none-valid (Some f) false h e = (λ t. absurd cc, λ v. absurd (valid-keeps_rules f v h))
