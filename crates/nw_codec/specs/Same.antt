-- Equality of blocks, field by field.
use Rattle.std.specs.Prelude.{◌==◌, ◌&&◌, ℕ, Bool, List}
use Rattle.std.specs.Cmp.Lexicographic.{pointwise}
use Rattle.nw_codec.specs.declared.block.Ref.{Ref}
use Rattle.nw_codec.specs.declared.block.Block.{Block}

-- the same bytes in the same order
abbrev pub same_bytes : List ℕ → List ℕ → Bool
same_bytes = pointwise (λ a b. a == b)

-- the same author and digest
abbrev pub same_ref : Ref → Ref → Bool
same_ref a b = (a.author == b.author) && same_bytes a.digest.0 b.digest.0

-- the same author, round, parents and transactions
abbrev pub same_block : Block → Block → Bool
same_block a b = (a.author == b.author) && (a.round == b.round) && pointwise same_ref a.parents b.parents && pointwise same_bytes a.transactions b.transactions
