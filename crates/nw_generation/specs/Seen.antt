-- Generations and views, as contracts see them.
use Rattle.std.specs.Prelude.{◌≡◌, ℕ, ◌≤◌, List, [], ◌∷◌, ◌++◌, Option, Some, None, IfSome, length, refl}
use Rattle.std.specs.Coded.{Coded, code_by, coded×, coded_ℕ}
use Rattle.std.specs.Option.{option_or}
use Rattle.std.specs.FinMap as map
use Rattle.std.specs.FinMap.{FinMap, entries, from_entries, get}
use Rattle.nw_digest.specs.declared.digest.Digest.{Digest}
use Rattle.nw_codec.specs.declared.block.Block.{Block}
use Rattle.nw_digest.specs.Codes.{coded_digest}
use Rattle.nw_digest.specs.Order.{digest_cmp}
use Rattle.nw_model.specs.State.{coded_block}
use Rattle.nw_model.specs.View.{Frozen, IsClosed, coded_frozen}

-- the entries of all generations: the generations are given from the oldest to the latest, and the latest one's entries come first
abbrev pub latest_first : List (FinMap digest_cmp Block) → List (Digest × Block)
latest_first [] = []
latest_first (oldest ∷ later) = latest_first later ++ entries oldest

-- the blocks of all generations; if generations have different blocks under one digest, the latest one counts
abbrev pub union : List (FinMap digest_cmp Block) → FinMap digest_cmp Block
union generations = from_entries (latest_first generations)

-- the maximum number of generations of a store, and of a view
abbrev pub most_generations : ℕ
most_generations = 16

-- the generations of a store, as contracts see them
pub record Joined : Type 0 where
  -- the union of their blocks
  pub blocks : FinMap digest_cmp Block
  -- the number of generations
  pub parts : ℕ

-- the code of generations: generations with equal codes are equal
abbrev pub coded_joined : Coded Joined
coded_joined = code_by (FinMap digest_cmp Block × ℕ) (coded× (map.code coded_digest coded_block) coded_ℕ) (λ j. (j.blocks, j.parts)) (λ p. record { blocks = p.0; parts = p.1 }) (λ _. refl)

-- these generations, given from the oldest to the latest, as contracts see them
abbrev pub joined : List (FinMap digest_cmp Block) → Joined
joined generations = record { blocks = union generations; parts = length generations }

-- each digest has the newer block if there is one, and otherwise the older one if there is one
abbrev pub IsOverlay : FinMap digest_cmp Block → FinMap digest_cmp Block → FinMap digest_cmp Block → Type 0
IsOverlay newer older both = (d : Digest) → get both d ≡ option_or (get newer d) (get older d)

-- the other blocks include all blocks up to this round
abbrev pub HasUpTo : FinMap digest_cmp Block → ℕ → FinMap digest_cmp Block → Type 0
HasUpTo blocks round others = (d : Digest) (b : Block) → get blocks d ≡ Some b → b.round ≤ round → get others d ≡ Some b

-- if a slot is given and a block was found, the block is of the slot's round
abbrev pub IsOfRound : Option (ℕ × ℕ) → Option Block → Type 0
IsOfRound slot found = IfSome slot (λ s. IfSome found (λ b. b.round ≡ s.0))

-- a view, as contracts see it
pub record Seen : Type 0 where
  -- the frozen blocks and the floor
  pub frozen : Frozen
  -- the number of generations
  pub parts : ℕ

-- the code of a view: views with equal codes are equal
abbrev pub coded_seen : Coded Seen
coded_seen = code_by (Frozen × ℕ) (coded× coded_frozen coded_ℕ) (λ s. (s.frozen, s.parts)) (λ p. record { frozen = p.0; parts = p.1 }) (λ _. refl)

-- the view of these generations, given from the oldest to the latest, with this floor
abbrev pub seen_of : List (FinMap digest_cmp Block) → ℕ → Seen
seen_of generations floor = record { frozen = record { blocks = union generations; floor = floor }; parts = length generations }

-- the invariant of a view
pub record IsView (s : Seen) : Type 0 where
  -- it is closed
  pub closed : IsClosed s.frozen
  -- it has at most the maximum number of generations
  pub few : s.parts ≤ most_generations

-- there is a range, and it includes the round
abbrev pub IsWithin : Option (ℕ × ℕ) → ℕ → Type 0
IsWithin None round = ⊥
IsWithin (Some span) round = (span.0 ≤ round) × (round ≤ span.1)
