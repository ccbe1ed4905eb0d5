-- The comparison of the walks of one digest in two views.
use Rattle.std.specs.Prelude.{◌≡◌, ◌≢◌, List}
use Rattle.nw_digest.specs.declared.digest.Digest.{Digest}
use Rattle.nw_codec.specs.declared.block.Block.{Block}
use Rattle.nw_model.specs.View.{Frozen, HasBlock, IsWalk}
use Rattle.nw_causal.specs.declared.agreement.Agreement.{Agreement}
use Rattle.nw_causal.specs.declared.agreement.Agreement.TheVariants as agreements

-- the same list is the walk of the digest in both views
abbrev pub HaveOneWalk : Frozen → Frozen → Digest → Type 0
HaveOneWalk one other d = (blocks : List Block) × IsWalk one d blocks × IsWalk other d blocks

-- b in the first view and c in the other are under the digest and differ, and neither is below the floor
abbrev pub CollideAt : Frozen → Frozen → Digest → Block → Block → Type 0
CollideAt one other d b c = HasBlock one d b × HasBlock other d c × (b ≢ c)

-- b in the first view and c in the other collide under some digest
abbrev pub Collide : Frozen → Frozen → Block → Block → Type 0
Collide one other b c = (d : Digest) × CollideAt one other d b c

-- if both views have a block under the digest, and neither is below the floor, the blocks are equal
abbrev pub MatchAt : Frozen → Frozen → Digest → Type 0
MatchAt one other d = (b c : Block) → HasBlock one d b → HasBlock other d c → b ≡ c

-- the other view has c under the digest, not below the floor, and c differs from b
abbrev pub IsRival : Frozen → Digest → Block → Block → Type 0
IsRival other d b c = HasBlock other d c × (b ≢ c)

-- b has no rival under the digest in the other view
abbrev pub IsMatched : Frozen → Digest → Block → Type 0
IsMatched other d b = (c : Block) → HasBlock other d c → b ≡ c

-- the answer is `Same` if the walks are the same list; otherwise it is `Collision` with two blocks that collide
abbrev pub IsAgreement : Frozen → Frozen → Digest → Agreement → Type 0
IsAgreement one other d agreements.Same = HaveOneWalk one other d
IsAgreement one other d (agreements.Collision b c) = (HaveOneWalk one other d → ⊥) × Collide one other b c
