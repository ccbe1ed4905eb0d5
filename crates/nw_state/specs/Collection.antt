-- The digests that a collection visits.
use Rattle.std.specs.Prelude.{◌≡◌, ℕ, ◌≤◌, List, Some, Bool, not, is_some, Contains}
use Rattle.std.specs.List.{IsDistinct}
use Rattle.std.specs.Ordering.{eq_by_cmp}
use Rattle.std.specs.FinMap.{get}
use Rattle.nw_digest.specs.declared.digest.Digest.{Digest}
use Rattle.nw_codec.specs.declared.block.Block.{Block}
use Rattle.nw_codec.specs.declared.certificate.Certificate.{Certificate}
use Rattle.nw_rounds.specs.declared.kind.DigestKind.{DigestKind}
use Rattle.nw_rounds.specs.declared.kind.DigestKind.TheVariants.{First, Certified}
use Rattle.nw_digest.specs.Order.{digest_cmp}
use Rattle.nw_model.specs.State.{State}

-- whether a digest of this kind counts as a block. A first digest counts if it is not certified. A certified digest counts if its block is
-- held. So each held block counts once
abbrev pub counts_at : State → DigestKind → Digest → Bool
counts_at s First d = not (is_some (get s.certificates d))
counts_at s Certified d = is_some (get s.blocks d)

-- the digests include those of all blocks and certificates of this round and of lower rounds, and of no block of a higher round
pub record AreDigestsUpTo (s : State) (round : ℕ) (digests : List Digest) : Type 0 where
  -- the digest of each held block up to this round is listed
  pub blocks : (d : Digest) (b : Block) → get s.blocks d ≡ Some b → b.round ≤ round → Contains digests d
  -- the digest of each kept certificate up to this round is listed
  pub certificates : (d : Digest) (c : Certificate) → get s.certificates d ≡ Some c → c.round ≤ round → Contains digests d
  -- the digest of no held block of a higher round is listed
  pub only : (d : Digest) (b : Block) → Contains digests d → get s.blocks d ≡ Some b → b.round ≤ round
  -- no digest is listed twice
  pub once : IsDistinct (eq_by_cmp digest_cmp) digests
