-- The fields of a block within the limits pass their tests.
use Rattle.nw_decode.proofs.Words.{◌≡◌, ℕ, ◌+◌, ◌*◌, ◌≤◌, false, cond, ltb, List, [], ◌∷◌, ◌++◌, length, Some, None, Ok, Err, refl, sym, ap, subst, ◌∙◌, append_assoc, arith, w16, w32, to_be_bytes, flat_map, AllByRecursion, le-ltb, recursion_from_All, sum_by-cons, Block, Signature, round_bytes, parent_bytes, transaction_bytes, authors, transactions_size, Fits, IsRef, IsBlock, IsSignature, again16}
use Rattle.nw_codec.specs.declared.message.Message.TheVariants as messages
use Rattle.nw_decode.specs.declared.error.DecodeError.TheVariants.{TooManyParents, TooManyTransactions, TransactionTooLong, BodyTooLong}
use Rattle.nw_codec.specs.Grammar.{body, message}
use Rattle.nw_decode.specs.Faults.{AtTag, AtVersion, AtAuthor, AtRound, AtParentCount, AtTransactionCount, AtTransactionLength, AtTransaction, AtSignature, AtEnd, at_parents, at_transactions, Reaches}
use Rattle.nw_codec.proofs.Pieces.{again32}
use Rattle.nw_decode.proofs.Ascending.{ascends}
use Rattle.nw_decode.proofs.Passing.{count_passes}
use Rattle.nw_decode.proofs.Items.{parent_kind, written_items}
use Rattle.nw_decode.proofs.Fronts.{here, onward, one_field}

length_passes : (k n left size : ℕ) → k ≡ n → n ≤ 65536 → size + 4 + n ≤ 1048576
    → cond (ltb 65536 k) (Err TransactionTooLong) (cond (ltb 1048576 (size + 4 + k)) (Err BodyTooLong) (Ok (AtTransaction k left (size + 4 + k)))) ≡ Ok (AtTransaction n left (size + 4 + n))
length_passes k n left size same low small =
    let first : ltb 65536 n ≡ false = le-ltb _ _ low in
    let second : ltb 1048576 (size + 4 + n) ≡ false = le-ltb _ _ small in
    rw (same, first, second) refl

-- ---- transactions

written_transactions : (ts : List (List ℕ)) (size : ℕ) (rest : List ℕ) → AllByRecursion (λ t. length t ≤ 65536) ts → size + transactions_size ts ≤ 1048576
    → Reaches (at_transactions (length ts) size) (flat_map transaction_bytes ts ++ rest) AtSignature rest
written_transactions [] size rest low small = here AtSignature rest
written_transactions (t ∷ ts) size rest low small =
    let others : List ℕ = flat_map transaction_bytes ts in
    let cut : ((to_be_bytes w32 (length t) ++ t) ++ others) ++ rest ≡ to_be_bytes w32 (length t) ++ (t ++ (others ++ rest)) = append_assoc (transaction_bytes t) others rest ∙ append_assoc (to_be_bytes w32 (length t)) t (others ++ rest) in
    let left : ℕ = length ts in
    let more : ℕ = size + 4 + length t in
    let total : transactions_size (t ∷ ts) ≡ (4 + length t) + transactions_size ts = sum_by-cons (λ (x : List ℕ). 4 + length x) t ts in
    let first : Reaches (AtTransactionLength left size) (to_be_bytes w32 (length t) ++ (t ++ (others ++ rest))) (AtTransaction (length t) left more) (t ++ (others ++ rest)) =
    one_field (AtTransactionLength left size) (AtTransaction (length t) left more) (to_be_bytes w32 (length t)) (t ++ (others ++ rest)) refl (length_passes _ (length t) left size (again32 (length t) (omega (arith, low.0))) low.0 (omega (arith, total, small))) in
    let second : Reaches (AtTransaction (length t) left more) (t ++ (others ++ rest)) (at_transactions left more) (others ++ rest) =
    one_field (AtTransaction (length t) left more) (at_transactions left more) t (others ++ rest) refl refl in
    let third = written_transactions ts more rest low.1 (omega (arith, total, small)) in
    let both = onward (AtTransaction (length t) left more) (at_transactions (length ts) more) AtSignature _ (others ++ rest) rest second third in
    let all = onward (AtTransactionLength left size) (AtTransaction (length t) left more) AtSignature _ (t ++ (others ++ rest)) rest first both in
    subst (λ (x : List ℕ). Reaches (AtTransactionLength left size) x AtSignature rest) (sym cut) all

-- ---- a block

laid_out : (a r n ps k ts s x : List ℕ) → ((1 ∷ ((1 ∷ a) ++ r ++ n ++ ps ++ k ++ ts)) ++ s) ++ x ≡ (1 ∷ []) ++ ((1 ∷ []) ++ (a ++ (r ++ (n ++ (ps ++ (k ++ (ts ++ (s ++ x))))))))
laid_out a r n ps k ts s x = simp append_assoc

pub block_message_is : (b : Block) (s : Signature) (x : List ℕ)
    → message (messages.Block b s) ++ x ≡ (1 ∷ []) ++ ((1 ∷ []) ++ (to_be_bytes w16 b.author ++ (round_bytes b.round ++ (to_be_bytes w16 (length b.parents) ++ (flat_map parent_bytes b.parents ++ (to_be_bytes w16 (length b.transactions) ++ (flat_map transaction_bytes b.transactions ++ (s.0 ++ x))))))))
unfolding message body
block_message_is b s x = laid_out (to_be_bytes w16 b.author) (round_bytes b.round) (to_be_bytes w16 (length b.parents)) (flat_map parent_bytes b.parents) (to_be_bytes w16 (length b.transactions)) (flat_map transaction_bytes b.transactions) s.0 x

pub written_block : (b : Block) (s : Signature) (x : List ℕ) → IsBlock b → IsSignature s → Fits b → Reaches AtTag (message (messages.Block b s) ++ x) AtEnd x
written_block b s x typed signed fits =
    let n : ℕ = length b.parents in
    let k : ℕ = length b.transactions in
    let size : ℕ = 11 + 34 * n in
    let from_signature : List ℕ = s.0 ++ x in
    let from_transactions : List ℕ = flat_map transaction_bytes b.transactions ++ from_signature in
    let from_transaction_count : List ℕ = to_be_bytes w16 k ++ from_transactions in
    let from_parents : List ℕ = flat_map parent_bytes b.parents ++ from_transaction_count in
    let from_parent_count : List ℕ = to_be_bytes w16 n ++ from_parents in
    let from_round : List ℕ = round_bytes b.round ++ from_parent_count in
    let from_author : List ℕ = to_be_bytes w16 b.author ++ from_round in
    let from_version : List ℕ = (1 ∷ []) ++ from_author in
    let from_tag : List ℕ = (1 ∷ []) ++ from_version in
    let tag : Reaches AtTag from_tag AtVersion from_version = one_field AtTag AtVersion (1 ∷ []) from_version refl refl in
    let version : Reaches AtVersion from_version AtAuthor from_author = one_field AtVersion AtAuthor (1 ∷ []) from_author refl refl in
    let author : Reaches AtAuthor from_author AtRound from_round = one_field AtAuthor AtRound (to_be_bytes w16 b.author) from_round refl refl in
    let round : Reaches AtRound from_round AtParentCount from_parent_count = one_field AtRound AtParentCount (round_bytes b.round) from_parent_count refl refl in
    let parent_count : Reaches AtParentCount from_parent_count (at_parents n None size) from_parents =
    one_field AtParentCount (at_parents n None size) (to_be_bytes w16 n) from_parents refl (count_passes _ n 100 TooManyParents (λ c. at_parents c None (11 + 34 * c)) (again16 n (omega (arith, fits.few_parents))) fits.few_parents) in
    let parents : Reaches (at_parents n None size) from_parents (AtTransactionCount size) from_transaction_count = written_items (parent_kind size) b.parents None from_transaction_count (recursion_from_All IsRef b.parents typed.parents) (ascends (authors b.parents) fits.in_order) in
    let transaction_count : Reaches (AtTransactionCount size) from_transaction_count (at_transactions k (size + 2)) from_transactions =
    one_field (AtTransactionCount size) (at_transactions k (size + 2)) (to_be_bytes w16 k) from_transactions refl (count_passes _ k 1024 TooManyTransactions (λ c. at_transactions c (size + 2)) (again16 k (omega (arith, fits.few_transactions))) fits.few_transactions) in
    let transactions : Reaches (at_transactions k (size + 2)) from_transactions AtSignature from_signature = written_transactions b.transactions (size + 2) from_signature (recursion_from_All (λ t. length t ≤ 65536) b.transactions fits.short_transactions) (omega (arith, fits.short_body)) in
    let signature : Reaches AtSignature from_signature AtEnd x = one_field AtSignature AtEnd s.0 x (ap Some (sym signed.len)) refl in
    let transactions_on = onward (at_transactions k (size + 2)) AtSignature AtEnd from_transactions from_signature x transactions signature in
    let transaction_count_on = onward (AtTransactionCount size) (at_transactions k (size + 2)) AtEnd from_transaction_count from_transactions x transaction_count transactions_on in
    let parents_on = onward (at_parents n None size) (AtTransactionCount size) AtEnd from_parents from_transaction_count x parents transaction_count_on in
    let parent_count_on = onward AtParentCount (at_parents n None size) AtEnd from_parent_count from_parents x parent_count parents_on in
    let round_on = onward AtRound AtParentCount AtEnd from_round from_parent_count x round parent_count_on in
    let author_on = onward AtAuthor AtRound AtEnd from_author from_round x author round_on in
    let version_on = onward AtVersion AtAuthor AtEnd from_version from_author x version author_on in
    let all = onward AtTag AtVersion AtEnd from_tag from_version x tag version_on in
    subst (λ (t : List ℕ). Reaches AtTag t AtEnd x) (sym (block_message_is b s x)) all
