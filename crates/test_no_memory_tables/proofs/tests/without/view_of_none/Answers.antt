use Rattle.std.proofs.Common.{◌≡◌, ℕ, [], Some, None, refl, sym, ◌∙◌}
use Rattle.std.specs.FinMap.{get}
use Rattle.nw_digest.specs.declared.digest.Digest.{Digest}
use Rattle.nw_codec.specs.declared.block.Block.{Block}
use Rattle.nw_model.specs.View.{IsClosed}
use Rattle.nw_generation.specs.Seen.{union, seen_of}
use Rattle.nw_generation.proofs.Unions.{get_from_none}
use Rattle.test_no_memory_tables.proofs.tests.without.view_of_none.Goals as goal

-- Some is not None
some_none : {X : Type 0} (x : X) → Some x ≡ None → ⊥
some_none x e = cc

-- a view without generations has no block
has_no_block : (d : Digest) (b : Block) → get (union []) d ≡ Some b → ⊥
has_no_block d b at = some_none b (sym at ∙ get_from_none [] d refl)

-- a view without generations is closed
closed_none : (floor : ℕ) → IsClosed (seen_of [] floor).frozen
closed_none floor = record { parents = λ d b at above. absurd (has_no_block d b at); apart = λ d e b c at there kept slots. absurd (has_no_block d b at) }

pub new-requires-clause-closed : goal.new-requires-clause-closed
new-requires-clause-closed c = rw c.new-generations.ensures.items (closed_none c.args.floor)
