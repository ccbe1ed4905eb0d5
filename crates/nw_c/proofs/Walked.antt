-- The blocks of a walk fit.
use Rattle.std.proofs.Common.{◌≡◌, List, [], ◌∷◌, ◌++◌, All, sym, subst}
use Rattle.std.proofs.lemmas.List.Elements.{All-head, All-map, All-tail}
use Rattle.nw_codec.specs.Fits.{Fits}
use Rattle.nw_codec.specs.declared.block.Block.{Block}
use Rattle.nw_committee.specs.declared.member.Member.{Member}
use Rattle.nw_model.specs.Checks.{IsWellFormed}
use Rattle.nw_causal.specs.Looked.{blocks}
use Rattle.nw_causal.specs.declared.ancestor.Ancestor.{Ancestor}
use Rattle.nw_ed25519.specs.Accepts.{accepts}

middle : (P : Block → Type 0) (xs : List Block) (b : Block) (ys : List Block) → All P (xs ++ b ∷ ys) → P b
middle P [] b ys each = All-head P b ys each
middle P (x ∷ xs) b ys each = middle P xs b ys (All-tail P x (xs ++ b ∷ ys) each)

-- after these blocks of the walk comes a, whose block fits
pub block_fits : (members : List Member) (all rest : List Ancestor) (a : Ancestor) (before : List Block) (b : Block)
    → All (λ (x : Ancestor). IsWellFormed accepts members x.block.now) all → before ++ blocks (a ∷ rest) ≡ blocks all → b ≡ a.block.now → Fits b
block_fits members all rest a before b each is same =
    let W = IsWellFormed accepts members in
    let mapped : All W (blocks all) = All-map W (λ (x : Ancestor). x.block.now) all each in
    subst Fits (sym same) (middle W before a.block.now (blocks rest) (subst (All W) (sym is) mapped)).1.fits
