-- The limits and strict orders of the format.
use Rattle.std.specs.Prelude.{ℕ, ◌+◌, ◌*◌, ◌≤◌, List, length, map, sum_by, All}
use Rattle.std.specs.List.Sorted.{IsStrictlyIncreasing}
use Rattle.nw_codec.specs.declared.block.Ref.{Ref}
use Rattle.nw_codec.specs.declared.block.Block.{Block}
use Rattle.nw_codec.specs.declared.certificate.Seal.{Seal}
use Rattle.nw_codec.specs.declared.certificate.Certificate.{Certificate}
use Rattle.nw_codec.specs.Limits.{most_parents, most_transactions, longest_transaction, longest_body, most_votes}
use Rattle.nw_codec.specs.declared.message.Message.{Message}
use Rattle.nw_codec.specs.declared.message.Message.TheVariants as messages

-- the parents' authors, in the order of the block
abbrev pub authors : List Ref → List ℕ
authors parents = map (λ r. r.author) parents

-- the size of the transactions in a body: each takes its bytes and 4 for its length
abbrev pub transactions_size : List (List ℕ) → ℕ
transactions_size transactions = sum_by (λ t. 4 + length t) transactions

-- the size of a body: 13 bytes, 34 for each parent, and the transactions
abbrev pub body_size : Block → ℕ
body_size b = 13 + 34 * length b.parents + transactions_size b.transactions

-- the size of a block's message: the tag, the body and a signature
abbrev pub block_size : Block → ℕ
block_size b = 1 + body_size b + 64

-- the block keeps the limits of the format
pub record Fits (b : Block) : Type 0 where
  -- at most 100 parents
  pub few_parents : length b.parents ≤ most_parents
  -- their authors ascend strictly
  pub in_order : IsStrictlyIncreasing (authors b.parents)
  -- at most 1,024 transactions
  pub few_transactions : length b.transactions ≤ most_transactions
  -- each has at most 65,536 bytes
  pub short_transactions : All (λ t. length t ≤ longest_transaction) b.transactions
  -- the body has at most 1,048,576 bytes
  pub short_body : body_size b ≤ longest_body

-- the signers of the votes, in order
abbrev pub signers : List Seal → List ℕ
signers votes = map (λ v. v.signer) votes

-- the certificate keeps the limits of the format
pub record CertificateFits (c : Certificate) : Type 0 where
  -- at most 100 votes
  pub few_votes : length c.votes ≤ most_votes
  -- their signers ascend strictly
  pub votes_in_order : IsStrictlyIncreasing (signers c.votes)

-- the size of a certificate's message: the tag, the subject and the number of votes take 43 bytes, and each vote takes 66
abbrev pub certificate_size : Certificate → ℕ
certificate_size c = 43 + 66 * length c.votes

-- the size of a vote's message: the tag, the subject and a seal
abbrev pub vote_size : ℕ
vote_size = 107

-- the block or certificate of the message keeps the limits; a vote always does
abbrev pub MessageFits : Message → Type 0
MessageFits (messages.Block b s) = Fits b
MessageFits (messages.Certificate c) = CertificateFits c
MessageFits (messages.Vote v) = Unit {0}
