-- The first seal with a bad signature.
use Rattle.std.specs.Prelude.{◌≡◌, ℕ, List, ◌∷◌, ◌++◌, All}
use Rattle.nw_codec.specs.declared.certificate.Seal.{Seal}

-- the seals have a bad one of this signer, and all seals before it are good
abbrev pub IsFirstBad : (Seal → Type 0) → List Seal → ℕ → Type 0
IsFirstBad IsGood seals signer =
    (before after : List Seal) × (seal : Seal) × (seals ≡ before ++ seal ∷ after) × (seal.signer ≡ signer) × All IsGood before × (IsGood seal → ⊥)
