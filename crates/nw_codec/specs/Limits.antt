-- The numbers of the format.
use Rattle.std.specs.Prelude.{ℕ}

-- the greatest number of parents of a block
abbrev pub most_parents : ℕ
most_parents = 100

-- the greatest number of transactions of a block
abbrev pub most_transactions : ℕ
most_transactions = 1_024

-- the greatest size of a transaction in bytes
abbrev pub longest_transaction : ℕ
longest_transaction = 65_536

-- the greatest size of a body in bytes
abbrev pub longest_body : ℕ
longest_body = 1_048_576

-- the greatest number of votes of a certificate
abbrev pub most_votes : ℕ
most_votes = 100
