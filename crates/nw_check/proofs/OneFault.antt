-- No two faults apply to one value.
use Rattle.nw_check.proofs.Words.{◌≡◌, ◌∙◌, ℕ, ◌<◌, List, [], ◌∷◌, ◌++◌, refl, sym, ap, subst, arith, All, Block, Signature, Seal, Certificate, Vote, Member, Meaning, IsSealOf}
use Rattle.std.proofs.lemmas.List.Elements.{All-head, All-tail}
use Rattle.nw_check.specs.declared.fault.BlockFault.{BlockFault}
use Rattle.nw_check.specs.declared.fault.BlockFault.TheVariants as block_fault
use Rattle.nw_check.specs.declared.fault.CertFault.{CertFault}
use Rattle.nw_check.specs.declared.fault.CertFault.TheVariants as cert_fault
use Rattle.nw_check.specs.declared.fault.GatherFault.{GatherFault}
use Rattle.nw_check.specs.declared.fault.GatherFault.TheVariants as gather_fault
use Rattle.nw_check.specs.Seals.{IsFirstBad}
use Rattle.nw_check.specs.Fault.{IsBlockFault, IsCertFault}
use Rattle.nw_check.specs.Gathering.{Gathering, IsGatherFault}
use Rattle.nw_check.specs.Laws.{BlocksHaveOneFault, CertificatesHaveOneFault, VotesHaveOneFault}
use Rattle.nw_check.proofs.Broken.{valid-keeps_rules}

no_round : (b : Block) → b.round ≡ 0 → 0 < b.round → ⊥
no_round b zero_round later = omega arith

module _ (accepts : Meaning) (members : List Member) (b : Block) (signature : Signature) where
  one_block_fault : (one other : BlockFault) → IsBlockFault accepts members b signature one → IsBlockFault accepts members b signature other → one ≡ other
  one_block_fault block_fault.Author block_fault.Author h k = refl
  one_block_fault block_fault.Author block_fault.ParentAuthor h k = absurd (h k.0)
  one_block_fault block_fault.Author block_fault.GenesisParents h k = absurd (h k.0.0)
  one_block_fault block_fault.Author block_fault.FewParents h k = absurd (h k.0.0)
  one_block_fault block_fault.Author block_fault.Signature h k = absurd (h k.0.0.0)
  one_block_fault block_fault.Author block_fault.NoMemory h k = absurd (h k.author)
  one_block_fault block_fault.ParentAuthor block_fault.Author h k = absurd (k h.0)
  one_block_fault block_fault.ParentAuthor block_fault.ParentAuthor h k = refl
  one_block_fault block_fault.ParentAuthor block_fault.GenesisParents h k = absurd (h.1 k.0.1)
  one_block_fault block_fault.ParentAuthor block_fault.FewParents h k = absurd (h.1 k.0.1)
  one_block_fault block_fault.ParentAuthor block_fault.Signature h k = absurd (h.1 k.0.0.1)
  one_block_fault block_fault.ParentAuthor block_fault.NoMemory h k = absurd (h.1 k.parent_authors)
  one_block_fault block_fault.GenesisParents block_fault.Author h k = absurd (k h.0.0)
  one_block_fault block_fault.GenesisParents block_fault.ParentAuthor h k = absurd (k.1 h.0.1)
  one_block_fault block_fault.GenesisParents block_fault.GenesisParents h k = refl
  one_block_fault block_fault.GenesisParents block_fault.FewParents h k = absurd (no_round b h.1 k.1)
  one_block_fault block_fault.GenesisParents block_fault.Signature h k = absurd (h.2 (k.0.1 h.1))
  one_block_fault block_fault.GenesisParents block_fault.NoMemory h k = absurd (h.2 (k.genesis h.1))
  one_block_fault block_fault.FewParents block_fault.Author h k = absurd (k h.0.0)
  one_block_fault block_fault.FewParents block_fault.ParentAuthor h k = absurd (k.1 h.0.1)
  one_block_fault block_fault.FewParents block_fault.GenesisParents h k = absurd (no_round b k.1 h.1)
  one_block_fault block_fault.FewParents block_fault.FewParents h k = refl
  one_block_fault block_fault.FewParents block_fault.Signature h k = absurd (h.2 (k.0.2 h.1))
  one_block_fault block_fault.FewParents block_fault.NoMemory h k = absurd (h.2 (k.parents h.1))
  one_block_fault block_fault.Signature block_fault.Author h k = absurd (k h.0.0.0)
  one_block_fault block_fault.Signature block_fault.ParentAuthor h k = absurd (k.1 h.0.0.1)
  one_block_fault block_fault.Signature block_fault.GenesisParents h k = absurd (k.2 (h.0.1 k.1))
  one_block_fault block_fault.Signature block_fault.FewParents h k = absurd (k.2 (h.0.2 k.1))
  one_block_fault block_fault.Signature block_fault.Signature h k = refl
  one_block_fault block_fault.Signature block_fault.NoMemory h k = absurd (h.1 k.signed)
  one_block_fault block_fault.NoMemory block_fault.Author h k = absurd (k h.author)
  one_block_fault block_fault.NoMemory block_fault.ParentAuthor h k = absurd (k.1 h.parent_authors)
  one_block_fault block_fault.NoMemory block_fault.GenesisParents h k = absurd (k.2 (h.genesis k.1))
  one_block_fault block_fault.NoMemory block_fault.FewParents h k = absurd (k.2 (h.parents k.1))
  one_block_fault block_fault.NoMemory block_fault.Signature h k = absurd (k.1 h.signed)
  one_block_fault block_fault.NoMemory block_fault.NoMemory h k = refl

pub blocks_have_one_fault : BlocksHaveOneFault
blocks_have_one_fault = one_block_fault

-- a list has only one first bad element: two splits at a first bad element have the same element
same_bad : (P : Seal → Type 0) (b1 b2 a1 a2 : List Seal) (s1 s2 : Seal) → b1 ++ s1 ∷ a1 ≡ b2 ++ s2 ∷ a2 → All P b1 → All P b2 → (P s1 → ⊥) → (P s2 → ⊥) → s1 ≡ s2
same_bad P [] [] a1 a2 s1 s2 e good1 good2 bad1 bad2 = cc
same_bad P [] (y ∷ b2) a1 a2 s1 s2 e good1 good2 bad1 bad2 = let same : y ≡ s1 = cc in absurd (bad1 (subst P same (All-head P y b2 good2)))
same_bad P (x ∷ b1) [] a1 a2 s1 s2 e good1 good2 bad1 bad2 = let same : x ≡ s2 = cc in absurd (bad2 (subst P same (All-head P x b1 good1)))
same_bad P (x ∷ b1) (y ∷ b2) a1 a2 s1 s2 e good1 good2 bad1 bad2 =
    let rest : b1 ++ s1 ∷ a1 ≡ b2 ++ s2 ∷ a2 = cc in
    same_bad P b1 b2 a1 a2 s1 s2 rest (All-tail P x b1 good1) (All-tail P y b2 good2) bad1 bad2

module _ (accepts : Meaning) (members : List Member) (c : Certificate) where
  same_signer : (n m : ℕ) → IsFirstBad (IsSealOf accepts members c) c.votes n → IsFirstBad (IsSealOf accepts members c) c.votes m → n ≡ m
  same_signer n m (b1, a1, s1, whole1, is1, good1, bad1) (b2, a2, s2, whole2, is2, good2, bad2) =
      let same = same_bad (IsSealOf accepts members c) b1 b2 a1 a2 s1 s2 (sym whole1 ∙ whole2) good1 good2 bad1 bad2 in
      sym is1 ∙ ap (λ (s : Seal). s.signer) same ∙ is2

  one_cert_fault : (one other : CertFault) → IsCertFault accepts members c one → IsCertFault accepts members c other → one ≡ other
  one_cert_fault cert_fault.Author cert_fault.Author h k = refl
  one_cert_fault cert_fault.Author cert_fault.Signer h k = absurd (h k.0)
  one_cert_fault cert_fault.Author cert_fault.FewVotes h k = absurd (h k.0.0)
  one_cert_fault cert_fault.Author (cert_fault.Signature m) h k = absurd (h k.0.0)
  one_cert_fault cert_fault.Author cert_fault.NoMemory h k = absurd (h k.author)
  one_cert_fault cert_fault.Signer cert_fault.Author h k = absurd (k h.0)
  one_cert_fault cert_fault.Signer cert_fault.Signer h k = refl
  one_cert_fault cert_fault.Signer cert_fault.FewVotes h k = absurd (h.1 k.0.1)
  one_cert_fault cert_fault.Signer (cert_fault.Signature m) h k = absurd (h.1 k.0.1)
  one_cert_fault cert_fault.Signer cert_fault.NoMemory h k = absurd (h.1 k.signer_numbers)
  one_cert_fault cert_fault.FewVotes cert_fault.Author h k = absurd (k h.0.0)
  one_cert_fault cert_fault.FewVotes cert_fault.Signer h k = absurd (k.1 h.0.1)
  one_cert_fault cert_fault.FewVotes cert_fault.FewVotes h k = refl
  one_cert_fault cert_fault.FewVotes (cert_fault.Signature m) h k = absurd (h.1 k.1)
  one_cert_fault cert_fault.FewVotes cert_fault.NoMemory h k = absurd (h.1 k.votes)
  one_cert_fault (cert_fault.Signature n) cert_fault.Author h k = absurd (k h.0.0)
  one_cert_fault (cert_fault.Signature n) cert_fault.Signer h k = absurd (k.1 h.0.1)
  one_cert_fault (cert_fault.Signature n) cert_fault.FewVotes h k = absurd (k.1 h.1)
  one_cert_fault (cert_fault.Signature n) (cert_fault.Signature m) h k = ap cert_fault.Signature (same_signer n m h.2 k.2)
  one_cert_fault (cert_fault.Signature n) cert_fault.NoMemory h k = absurd (valid-keeps_rules accepts members c (cert_fault.Signature n) k h)
  one_cert_fault cert_fault.NoMemory cert_fault.Author h k = absurd (k h.author)
  one_cert_fault cert_fault.NoMemory cert_fault.Signer h k = absurd (k.1 h.signer_numbers)
  one_cert_fault cert_fault.NoMemory cert_fault.FewVotes h k = absurd (k.1 h.votes)
  one_cert_fault cert_fault.NoMemory (cert_fault.Signature m) h k = absurd (valid-keeps_rules accepts members c (cert_fault.Signature m) h k)
  one_cert_fault cert_fault.NoMemory cert_fault.NoMemory h k = refl

pub certificates_have_one_fault : CertificatesHaveOneFault
certificates_have_one_fault = one_cert_fault

module _ (accepts : Meaning) (g : Gathering) (v : Vote) where
  one_gather_fault : (one other : GatherFault) → IsGatherFault accepts g v one → IsGatherFault accepts g v other → one ≡ other
  one_gather_fault gather_fault.OtherBlock gather_fault.OtherBlock h k = refl
  one_gather_fault gather_fault.OtherBlock gather_fault.Repeated h k = absurd (h k.0)
  one_gather_fault gather_fault.OtherBlock gather_fault.Signer h k = absurd (h k.0.0)
  one_gather_fault gather_fault.OtherBlock gather_fault.Signature h k = absurd (h k.0.0)
  one_gather_fault gather_fault.OtherBlock gather_fault.NoMemory h k = absurd (h k.0.0)
  one_gather_fault gather_fault.Repeated gather_fault.OtherBlock h k = absurd (k h.0)
  one_gather_fault gather_fault.Repeated gather_fault.Repeated h k = refl
  one_gather_fault gather_fault.Repeated gather_fault.Signer h k = absurd (k.0.1 h.1)
  one_gather_fault gather_fault.Repeated gather_fault.Signature h k = absurd (k.0.1 h.1)
  one_gather_fault gather_fault.Repeated gather_fault.NoMemory h k = absurd (k.0.1 h.1)
  one_gather_fault gather_fault.Signer gather_fault.OtherBlock h k = absurd (k h.0.0)
  one_gather_fault gather_fault.Signer gather_fault.Repeated h k = absurd (h.0.1 k.1)
  one_gather_fault gather_fault.Signer gather_fault.Signer h k = refl
  one_gather_fault gather_fault.Signer gather_fault.Signature h k = absurd (h.1 k.1)
  one_gather_fault gather_fault.Signer gather_fault.NoMemory h k = absurd (h.1 k.1)
  one_gather_fault gather_fault.Signature gather_fault.OtherBlock h k = absurd (k h.0.0)
  one_gather_fault gather_fault.Signature gather_fault.Repeated h k = absurd (h.0.1 k.1)
  one_gather_fault gather_fault.Signature gather_fault.Signer h k = absurd (k.1 h.1)
  one_gather_fault gather_fault.Signature gather_fault.Signature h k = refl
  one_gather_fault gather_fault.Signature gather_fault.NoMemory h k = absurd (h.2 k.2)
  one_gather_fault gather_fault.NoMemory gather_fault.OtherBlock h k = absurd (k h.0.0)
  one_gather_fault gather_fault.NoMemory gather_fault.Repeated h k = absurd (h.0.1 k.1)
  one_gather_fault gather_fault.NoMemory gather_fault.Signer h k = absurd (k.1 h.1)
  one_gather_fault gather_fault.NoMemory gather_fault.Signature h k = absurd (k.2 h.2)
  one_gather_fault gather_fault.NoMemory gather_fault.NoMemory h k = refl

pub votes_have_one_fault : VotesHaveOneFault
votes_have_one_fault = one_gather_fault
