-- Making and reading blocks.
use Rattle.std.specs.Prelude.{◌≡◌, ℕ, ◌<◌, ◌≤◌, List, Some, None, All, length, map, slice_get, take}
use Rattle.std.specs.List.{flat_map}
use Rattle.nw_codec.specs.Fits.{Fits, body_size}
use Rattle.nw_codec.specs.Grammar.{body}
use Rattle.nw_codec.specs.Spelled.{Spells}
use Rattle.nw_codec.specs.Subject.{block_subject}
use Rattle.nw_codec.specs.declared.block.Block.{Block}
use Rattle.nw_codec.specs.declared.block.Ref.{Ref}
use Rattle.nw_codec.specs.Limits.{longest_transaction}
use Rattle.nw_codec.specs.declared.message.Message.TheVariants as messages
use Rattle.nw_model.specs.Checks.{digest_of}
use Rattle.nw_c.specs.Plain.{digest_in, subject_of}
use Rattle.nw_c.specs.declared.plain.CSubject.{CSubject}
use Rattle.nw_c.specs.declared.plain.CSignature.{CSignature}
use Rattle.nw_c.specs.declared.blocks.CParent.{CParent}
use Rattle.nw_c.specs.declared.content.Content.{Content}
use Rattle.nw_c.specs.declared.content.Content.TheVariants as kind

-- the reference for a parent in the caller's array
abbrev pub parent_in : CParent → Ref
parent_in p = record { author = p.author; digest = digest_in p.digest }

-- the transactions have these lengths, and one after another they are these bytes
abbrev pub AreCutFrom : List ℕ → List ℕ → List (List ℕ) → Type 0
AreCutFrom bytes lengths transactions = (map length transactions ≡ lengths) × (flat_map (λ t. t) transactions ≡ bytes)

-- it is a block with these parts, which fits the format
abbrev pub IsMadeBlock : ℕ → ℕ → List CParent → List ℕ → List ℕ → Content → Type 0
IsMadeBlock author round parents bytes lengths (kind.Block b) =
    (b.author ≡ author) × (b.round ≡ round) × (b.parents ≡ map parent_in parents) × AreCutFrom bytes lengths b.transactions × Fits b
IsMadeBlock author round parents bytes lengths other = ⊥

-- no block with these parts fits the format
abbrev pub IsNoBlock : ℕ → ℕ → List CParent → List ℕ → List ℕ → Type 0
IsNoBlock author round parents bytes lengths = (b : Block) → IsMadeBlock author round parents bytes lengths (kind.Block b) → ⊥

-- the bytes cannot be cut into transactions of these lengths, none of which is too long
abbrev pub CannotBeCut : List ℕ → List ℕ → Type 0
CannotBeCut bytes lengths = (transactions : List (List ℕ)) → AreCutFrom bytes lengths transactions → All (λ t. length t ≤ longest_transaction) transactions → ⊥

-- it is a block with this subject
abbrev pub HasSubject : Content → CSubject → Type 0
HasSubject (kind.Block b) s = s ≡ subject_of (block_subject (digest_of b) b)
HasSubject other s = ⊥

-- it is a block with these numbers of parents and transactions
abbrev pub HasCounts : Content → ℕ → ℕ → Type 0
HasCounts (kind.Block b) parents transactions = (parents ≡ length b.parents) × (transactions ≡ length b.transactions)
HasCounts other parents transactions = ⊥

-- it is a block whose parent at the index is p
abbrev pub HasParentAt : Content → ℕ → CParent → Type 0
HasParentAt (kind.Block b) index p = slice_get b.parents index ≡ Some (parent_in p)
HasParentAt other index p = ⊥

-- it is a block. Its transactions, one after another, are these bytes, and their lengths come first in this list
abbrev pub HasTransactions : Content → List ℕ → List ℕ → Type 0
HasTransactions (kind.Block b) bytes lengths = AreCutFrom bytes (take (length b.transactions) lengths) b.transactions
HasTransactions other bytes lengths = ⊥

-- the transactions have more than this many bytes together, or there are more of them than places
abbrev pub NeedMoreThan : ℕ → ℕ → List (List ℕ) → Type 0
NeedMoreThan bytes places transactions = length (flat_map (λ t. t) transactions) ≤ bytes → length transactions ≤ places → ⊥

-- it is a block whose transactions have `needed` bytes together, and need more room
abbrev pub HasNoRoom : Content → ℕ → ℕ → ℕ → Type 0
HasNoRoom (kind.Block b) bytes places needed = (needed ≡ length (flat_map (λ t. t) b.transactions)) × NeedMoreThan bytes places b.transactions
HasNoRoom other bytes places needed = ⊥

-- it is a block with this body
abbrev pub HasBody : Content → List ℕ → Type 0
HasBody (kind.Block b) text = text ≡ body b
HasBody other text = ⊥

-- it is a block whose body has `needed` bytes, and there is not so much room
abbrev pub HasLongBody : Content → ℕ → ℕ → Type 0
HasLongBody (kind.Block b) room needed = (needed ≡ body_size b) × (room < needed)
HasLongBody other room needed = ⊥

-- the text is the message of the block with this signature
abbrev pub HasMessage : Content → CSignature → List ℕ → Type 0
HasMessage (kind.Block b) s text = Spells text (messages.Block b (record { 0 = s.bytes }))
HasMessage other s text = ⊥

-- it is a block with no parent at the index
abbrev pub HasNoParentAt : Content → ℕ → Type 0
HasNoParentAt (kind.Block b) index = slice_get b.parents index ≡ None
HasNoParentAt other index = ⊥
