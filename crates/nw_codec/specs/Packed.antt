-- The encoding of transactions in a body: before each transaction comes its length in four bytes.
use Rattle.std.specs.Prelude.{◌≡◌, ℕ, zero, suc, ◌≤◌, List, [], ◌∷◌, ◌++◌, length, take, drop, All}
use Rattle.std.specs.List.{flat_map}
use Rattle.std.specs.Int.{from_be_bytes, to_be_bytes, w32}
use Rattle.nw_codec.specs.Limits.{longest_transaction}

-- a transaction in a body: its length in four bytes, and its bytes
abbrev pub transaction_bytes : List ℕ → List ℕ
transaction_bytes t = to_be_bytes w32 (length t) ++ t

-- the length at the front of the text: the number in its first four bytes
abbrev pub length_at : List ℕ → ℕ
length_at text = from_be_bytes w32 (take 4 text)

-- the first `n` transactions of a text: each is as long as the length before it says
abbrev pub cut : ℕ → List ℕ → List (List ℕ)
cut zero text = []
cut (suc more) text = take (length_at text) (drop 4 text) ∷ cut more (drop (length_at text) (drop 4 text))

-- the text encodes `count` transactions and nothing else
pub record ArePacked (count : ℕ) (text : List ℕ) : Type 0 where
  -- each has at most 65,536 bytes
  pub short : All (λ t. length t ≤ longest_transaction) (cut count text)
  -- the text is their encoding
  pub bytes : text ≡ flat_map transaction_bytes (cut count text)
