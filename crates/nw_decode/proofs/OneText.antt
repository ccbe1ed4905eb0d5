-- A text has one message, and no message's text begins another's.
use Rattle.nw_decode.proofs.Words.{◌≡◌, ℕ, ◌^◌, ◌<◌, ◌≤◌, List, [], ◌∷◌, ◌++◌, length, refl, sym, ap, ◌∙◌, append_assoc, arith, w16, w32, to_be_bytes, flat_map, AllByRecursion, recursion_from_All, Ref, Block, Signature, Certificate, Vote, Message, round_bytes, parent_bytes, transaction_bytes, Fits, MessageFits, IsRef, IsBlock, IsSignature, IsMessage, Spells, first_is, same_start, same16, same48}
use Rattle.std.proofs.lemmas.List.Elements.{All-weaker}
use Rattle.nw_codec.specs.declared.message.Message.TheVariants as messages
use Rattle.nw_codec.specs.Grammar.{message}
use Rattle.nw_codec.proofs.Pieces.{same32}
use Rattle.nw_decode.proofs.Items.{parent_kind, same_items}
use Rattle.nw_decode.proofs.WrittenBlock.{block_message_is}
use Rattle.nw_decode.proofs.WrittenVotes.{certificate_message_is, vote_message_is}
use Rattle.nw_decode.proofs.OneVote.{same_signature, same_certificate, same_vote}

-- the counts fit their fields
pub record IsCounted (b : Block) : Type 0 where
  pub parents : length b.parents < 2 ^ 16
  pub transactions : length b.transactions < 2 ^ 16
  pub bytes : AllByRecursion (λ t. length t < 2 ^ 32) b.transactions

pub counted : (b : Block) → Fits b → IsCounted b
counted b fits =
    let few : length b.parents ≤ 100 = fits.few_parents in
    let some : length b.transactions ≤ 1024 = fits.few_transactions in
    record {
      parents = omega (arith, few);
      transactions = omega (arith, some);
      bytes = recursion_from_All (λ t. length t < 2 ^ 32) b.transactions (All-weaker (λ t. length t ≤ 65536) (λ t. length t < 2 ^ 32) (λ t low. omega arith) b.transactions fits.short_transactions);
    }

pub same_transactions : (ts us : List (List ℕ)) (x y : List ℕ) → length ts ≡ length us → AllByRecursion (λ t. length t < 2 ^ 32) ts → AllByRecursion (λ t. length t < 2 ^ 32) us → flat_map transaction_bytes ts ++ x ≡ flat_map transaction_bytes us ++ y → (ts ≡ us) × (x ≡ y)
same_transactions [] [] x y len left right e = (refl, e)
same_transactions [] (u ∷ us) x y len left right e = absurd (omega (arith, len))
same_transactions (t ∷ ts) [] x y len left right e = absurd (omega (arith, len))
same_transactions (t ∷ ts) (u ∷ us) x y len left right e =
    let xs : List ℕ = flat_map transaction_bytes ts ++ x in
    let ys : List ℕ = flat_map transaction_bytes us ++ y in
    let cut : to_be_bytes w32 (length t) ++ (t ++ xs) ≡ to_be_bytes w32 (length u) ++ (u ++ ys) =
    sym (append_assoc (transaction_bytes t) (flat_map transaction_bytes ts) x ∙ append_assoc (to_be_bytes w32 (length t)) t xs) ∙ e ∙ append_assoc (transaction_bytes u) (flat_map transaction_bytes us) y ∙ append_assoc (to_be_bytes w32 (length u)) u ys in
    let first = same_start (to_be_bytes w32 (length t)) (to_be_bytes w32 (length u)) (t ++ xs) (u ++ ys) refl cut in
    let second = same_start t u xs ys (same32 (length t) (length u) left.0 right.0 first.0) first.1 in
    let others = same_transactions ts us x y (omega (arith, len)) left.1 right.1 second.1 in
    let one : t ≡ u = second.0 in
    (cc (one, others.0), others.1)

pub same_block : (b c : Block) → b.author ≡ c.author → b.round ≡ c.round → b.parents ≡ c.parents → b.transactions ≡ c.transactions → b ≡ c
same_block b c e0 e1 e2 e3 =
    let make : ℕ → ℕ → List Ref → List (List ℕ) → Block = λ a r ps ts. record { author = a; round = r; parents = ps; transactions = ts } in
    ap (λ (a : ℕ). make a b.round b.parents b.transactions) e0 ∙ ap (λ (r : ℕ). make c.author r b.parents b.transactions) e1
    ∙ ap (λ (ps : List Ref). make c.author c.round ps b.transactions) e2 ∙ ap (λ (ts : List (List ℕ)). make c.author c.round c.parents ts) e3

-- the pieces of two messages, one after another
record IsSame (b c : Block) (s t : Signature) (x y : List ℕ) : Type 0 where
  block : b ≡ c
  signature : s ≡ t
  rest : x ≡ y

same_counts : (b c : Block) (s t : Signature) (x y : List ℕ) → IsBlock b → IsBlock c → IsCounted b → IsCounted c → IsSignature s → IsSignature t
    → b.author ≡ c.author → b.round ≡ c.round
    → to_be_bytes w16 (length b.parents) ++ (flat_map parent_bytes b.parents ++ (to_be_bytes w16 (length b.transactions) ++ (flat_map transaction_bytes b.transactions ++ (s.0 ++ x))))
    ≡ to_be_bytes w16 (length c.parents) ++ (flat_map parent_bytes c.parents ++ (to_be_bytes w16 (length c.transactions) ++ (flat_map transaction_bytes c.transactions ++ (t.0 ++ y))))
    → IsSame b c s t x y
same_counts b c s t x y typed-b typed-c counted-b counted-c signed-s signed-t author round e =
    let count = same_start (to_be_bytes w16 (length b.parents)) (to_be_bytes w16 (length c.parents)) _ _ refl e in
    let parents = same_items (parent_kind 0) b.parents c.parents _ _ (same16 (length b.parents) (length c.parents) counted-b.parents counted-c.parents count.0) (recursion_from_All IsRef b.parents typed-b.parents) (recursion_from_All IsRef c.parents typed-c.parents) count.1 in
    let number = same_start (to_be_bytes w16 (length b.transactions)) (to_be_bytes w16 (length c.transactions)) _ _ refl parents.1 in
    let transactions = same_transactions b.transactions c.transactions _ _ (same16 (length b.transactions) (length c.transactions) counted-b.transactions counted-c.transactions number.0) counted-b.bytes counted-c.bytes number.1 in
    let signature = same_start s.0 t.0 x y (signed-s.len ∙ sym signed-t.len) transactions.1 in
    record {
      block = same_block b c author round parents.0 transactions.0;
      signature = same_signature s t signature.0;
      rest = signature.1;
    }

same_pieces : (b c : Block) (s t : Signature) (x y : List ℕ) → IsBlock b → IsBlock c → IsCounted b → IsCounted c → IsSignature s → IsSignature t
    → message (messages.Block b s) ++ x ≡ message (messages.Block c t) ++ y → IsSame b c s t x y
same_pieces b c s t x y typed-b typed-c counted-b counted-c signed-s signed-t e =
    let cut = sym (block_message_is b s x) ∙ e ∙ block_message_is c t y in
    let tag = same_start (1 ∷ []) (1 ∷ []) _ _ refl cut in
    let version = same_start (1 ∷ []) (1 ∷ []) _ _ refl tag.1 in
    let author = same_start (to_be_bytes w16 b.author) (to_be_bytes w16 c.author) _ _ refl version.1 in
    let round = same_start (round_bytes b.round) (round_bytes c.round) _ _ refl author.1 in
    same_counts b c s t x y typed-b typed-c counted-b counted-c signed-s signed-t (same16 b.author c.author typed-b.author typed-c.author author.0) (same48 b.round c.round typed-b.round typed-c.round round.0) round.1

abbrev pub CountsFit : Message → Type 0
CountsFit (messages.Block b s) = IsCounted b
CountsFit (messages.Certificate c) = length c.votes < 2 ^ 16
CountsFit (messages.Vote v) = Unit {0}

-- the tag of a message, and the bytes after it
record Begins (m : Message) (x : List ℕ) (tag : ℕ) : Type 0 where
  others : List ℕ
  whole : message m ++ x ≡ tag ∷ others

block_begins : (b : Block) (s : Signature) (x : List ℕ) → Begins (messages.Block b s) x 1
block_begins b s x = record { others = _; whole = block_message_is b s x }

certificate_begins : (c : Certificate) (x : List ℕ) → Begins (messages.Certificate c) x 2
certificate_begins c x = record { others = _; whole = certificate_message_is c x }

vote_begins : (v : Vote) (x : List ℕ) → Begins (messages.Vote v) x 3
vote_begins v x = record { others = _; whole = vote_message_is v x }

one_tag : (m n : Message) (x y : List ℕ) (a b : ℕ) → Begins m x a → Begins n y b → message m ++ x ≡ message n ++ y → a ≡ b
one_tag m n x y a b p q e = first_is a b p.others q.others (sym p.whole ∙ e ∙ q.whole)

pub same_message : (m n : Message) (x y : List ℕ) → IsMessage m → IsMessage n → CountsFit m → CountsFit n → message m ++ x ≡ message n ++ y → (m ≡ n) × (x ≡ y)
same_message (messages.Block b s) (messages.Block c t) x y typed-m typed-n counted-m counted-n e =
    let same = same_pieces b c s t x y typed-m.0 typed-n.0 counted-m counted-n typed-m.1 typed-n.1 e in
    (cc (same.block, same.signature), same.rest)
same_message (messages.Certificate c) (messages.Certificate d) x y typed-m typed-n counted-m counted-n e =
    let same = same_certificate c d x y typed-m typed-n counted-m counted-n e in
    (ap messages.Certificate same.0, same.1)
same_message (messages.Vote v) (messages.Vote w) x y typed-m typed-n counted-m counted-n e =
    let same = same_vote v w x y typed-m typed-n e in
    (ap messages.Vote same.0, same.1)
same_message (messages.Block b s) (messages.Certificate d) x y typed-m typed-n counted-m counted-n e = absurd (omega (arith, one_tag _ _ x y 1 2 (block_begins b s x) (certificate_begins d y) e))
same_message (messages.Block b s) (messages.Vote w) x y typed-m typed-n counted-m counted-n e = absurd (omega (arith, one_tag _ _ x y 1 3 (block_begins b s x) (vote_begins w y) e))
same_message (messages.Certificate c) (messages.Block d t) x y typed-m typed-n counted-m counted-n e = absurd (omega (arith, one_tag _ _ x y 2 1 (certificate_begins c x) (block_begins d t y) e))
same_message (messages.Certificate c) (messages.Vote w) x y typed-m typed-n counted-m counted-n e = absurd (omega (arith, one_tag _ _ x y 2 3 (certificate_begins c x) (vote_begins w y) e))
same_message (messages.Vote v) (messages.Block d t) x y typed-m typed-n counted-m counted-n e = absurd (omega (arith, one_tag _ _ x y 3 1 (vote_begins v x) (block_begins d t y) e))
same_message (messages.Vote v) (messages.Certificate d) x y typed-m typed-n counted-m counted-n e = absurd (omega (arith, one_tag _ _ x y 3 2 (vote_begins v x) (certificate_begins d y) e))

pub counts_fit : (m : Message) → MessageFits m → CountsFit m
counts_fit (messages.Block b s) fits = counted b fits
counts_fit (messages.Certificate c) fits = let few : length c.votes ≤ 100 = fits.few_votes in omega (arith, few)
counts_fit (messages.Vote v) fits = tt

pub one_message : (a b x y : List ℕ) (m n : Message) → Spells a m → Spells b n → a ++ x ≡ b ++ y → (m ≡ n) × (x ≡ y)
one_message a b x y m n p q e =
    same_message m n x y p.typed q.typed (counts_fit m p.fits) (counts_fit n q.fits) (ap (λ (t : List ℕ). t ++ x) (sym p.bytes) ∙ e ∙ ap (λ (t : List ℕ). t ++ y) q.bytes)
