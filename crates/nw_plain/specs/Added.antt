-- Additions to a set of wanted parents.
use Rattle.std.specs.Prelude.{◌↔◌, ◌⊎◌, ℕ, List, Contains}
use Rattle.nw_codec.specs.declared.block.Ref.{Ref}
use Rattle.nw_model.specs.declared.wanted.Wanted.{Wanted}
use Rattle.nw_model.specs.State.{State}
use Rattle.nw_model.specs.Paths.{IsSatisfied}
use Rattle.nw_model.specs.Missing.{IsNamedBy}

-- new has exactly the values of old and the values with P
abbrev pub IsUnionWith : {A : Type 0} → (A → Type 0) → List A → List A → Type 0
IsUnionWith {A} P old new = (x : A) → Contains new x ↔ (Contains old x ⊎ P x)

-- the reference r of a block of this round is not satisfied, and names the parent w
abbrev pub NamesMissing : State → ℕ → Ref → Wanted → Type 0
NamesMissing s round r w = (IsSatisfied s round r → ⊥) × IsNamedBy round r w
