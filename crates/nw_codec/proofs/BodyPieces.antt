-- The pieces of a body, one after another.
use Rattle.nw_codec.proofs.Words.{◌≡◌, ℕ, List, [], ◌∷◌, ◌++◌, length, append_assoc, flat_map, to_be_bytes, w16}
use Rattle.nw_codec.specs.declared.block.Ref.{Ref}
use Rattle.nw_codec.specs.declared.block.Block.{Block}
use Rattle.nw_codec.specs.Grammar.{body, round_bytes, parent_bytes}
use Rattle.nw_codec.specs.Packed.{transaction_bytes}

pub pieces_of_body : (text : List ℕ) (b : Block) (author round parents_count : List ℕ) (parents : List Ref) (transactions_count : List ℕ) (transactions : List (List ℕ))
    → author ≡ to_be_bytes w16 b.author → round ≡ round_bytes b.round
    → parents_count ≡ to_be_bytes w16 (length parents) → parents ≡ b.parents
    → transactions_count ≡ to_be_bytes w16 (length transactions) → transactions ≡ b.transactions
    → ((((((text ++ 1 ∷ []) ++ author) ++ round) ++ parents_count) ++ flat_map parent_bytes parents) ++ transactions_count) ++ flat_map transaction_bytes transactions ≡ text ++ body b
unfolding body
pieces_of_body text b author round parents_count parents transactions_count transactions a r pc p tc t = rw (a, r, pc, p, tc, t) (simp append_assoc)
