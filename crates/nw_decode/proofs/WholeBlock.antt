-- If all fields of a text pass their tests, from the version to the end, the text is that of a block within the limits.
use Rattle.nw_decode.proofs.Words.{◌≡◌, ℕ, zero, suc, ◌+◌, ◌*◌, ◌^◌, ◌<◌, ◌≤◌, ltb, List, [], ◌∷◌, ◌++◌, length, None, refl, sym, ap, ◌∙◌, arith, w16, w32, to_be_bytes, flat_map, AllByRecursion, ltb-false, All-from_recursion, sum_by-cons, Ref, Block, Signature, round_bytes, parent_bytes, transaction_bytes, authors, transactions_size, Fits, AreBytes, IsRef, IsBlock, IsSignature, back16, below16, round_of, back48, below48, bytes_of}
use Rattle.nw_codec.specs.declared.message.Message.TheVariants as messages
use Rattle.nw_decode.specs.declared.error.DecodeError.TheVariants.{Version, TooManyParents, TooManyTransactions, TransactionTooLong, BodyTooLong}
use Rattle.nw_codec.specs.Grammar.{message}
use Rattle.nw_decode.specs.Faults.{AtVersion, AtAuthor, AtRound, AtParentCount, AtTransactionCount, AtTransactionLength, AtTransaction, AtSignature, AtEnd, at_parents, at_transactions, number16, number32, Reaches}
use Rattle.nw_codec.proofs.Pieces.{back32}
use Rattle.nw_decode.proofs.Ascending.{Ascends, increasing}
use Rattle.nw_decode.proofs.Fronts.{going_is, here, one_end}
use Rattle.nw_decode.proofs.WrittenBlock.{block_message_is}
use Rattle.nw_decode.proofs.Items.{parent_kind, read_items}
use Rattle.nw_decode.proofs.Steps.{step, to, own_front, choice, two_choices, one_more, two_pieces, with_rest, at_most, read_one}

-- ---- transactions

record TransactionsRead (n size : ℕ) (text rest : List ℕ) : Type 0 where
  transactions : List (List ℕ)
  more : List ℕ
  count : length transactions ≡ n
  typed : AllByRecursion AreBytes transactions
  short : AllByRecursion (λ t. length t ≤ 65536) transactions
  small : size + transactions_size transactions ≤ 1048576
  cut : text ≡ flat_map transaction_bytes transactions ++ more
  bytes : AreBytes more
  onwards : Reaches AtSignature more AtEnd rest

read_transactions : (n size : ℕ) (text rest : List ℕ) → size ≤ 1048576 → AreBytes text → Reaches (at_transactions n size) text AtEnd rest → TransactionsRead n size text rest
read_transactions zero size text rest small bytes front = record { transactions = []; more = text; count = refl; typed = tt; short = tt; small = omega arith; cut = refl; bytes = bytes; onwards = front }
read_transactions (suc n) size text rest small bytes front =
    let prefix = step (AtTransactionLength n size) 4 text rest refl front in
    let len : ℕ = number32 prefix.field in
    let total : ℕ = size + 4 + len in
    let test = two_choices (ltb 65536 len) (ltb 1048576 total) TransactionTooLong BodyTooLong (AtTransaction len n total) prefix.next prefix.passes in
    let short : len ≤ 65536 = ltb-false _ _ test.0 in
    let fits : total ≤ 1048576 = ltb-false _ _ test.1 in
    let prefix-bytes = bytes_of prefix.field prefix.more text prefix.cut bytes in
    let item-front = to prefix.next (AtTransaction len n total) prefix.more rest (sym test.2) prefix.onwards in
    let item = step (AtTransaction len n total) len prefix.more rest refl item-front in
    let item-bytes = bytes_of item.field item.more prefix.more item.cut prefix-bytes.1 in
    let others-front = to item.next (at_transactions n total) item.more rest (sym (going_is _ _ item.passes)) item.onwards in
    let others = read_transactions n total item.more rest fits item-bytes.1 others-front in
    let length-bytes : to_be_bytes w32 (length item.field) ≡ prefix.field = ap (to_be_bytes w32) item.len ∙ back32 prefix.field prefix.len prefix-bytes.0 in
    let prefix-cut : text ≡ to_be_bytes w32 (length item.field) ++ prefix.more = own_front text prefix.field prefix.more (to_be_bytes w32 (length item.field)) prefix.cut length-bytes in
    let sum : transactions_size (item.field ∷ others.transactions) ≡ (4 + length item.field) + transactions_size others.transactions = sum_by-cons (λ (x : List ℕ). 4 + length x) item.field others.transactions in
    record {
      transactions = item.field ∷ others.transactions;
      more = others.more;
      count = one_more (length others.transactions) n others.count;
      typed = (item-bytes.0, others.typed);
      short = (rw (item.len) short, others.short);
      small = omega (arith, sum, others.small, item.len);
      cut = two_pieces text (to_be_bytes w32 (length item.field)) prefix.more item.field item.more (flat_map transaction_bytes others.transactions) others.more prefix-cut item.cut others.cut;
      bytes = others.bytes;
      onwards = others.onwards;
    }

-- ---- the parts of a message, from the last one

record SignatureRead (text rest : List ℕ) : Type 0 where
  signature : Signature
  signed : IsSignature signature
  cut : text ≡ signature.0 ++ rest

read_signature : (text rest : List ℕ) → AreBytes text → Reaches AtSignature text AtEnd rest → SignatureRead text rest
read_signature text rest bytes front =
    let last = step AtSignature 64 text rest refl front in
    let ended : last.more ≡ rest = one_end AtEnd last.more last.more rest (here AtEnd last.more) (to last.next AtEnd last.more rest (sym (going_is AtEnd last.next last.passes)) last.onwards) in
    record {
      signature = record { 0 = last.field };
      signed = record { len = last.len; bytes = (bytes_of last.field last.more text last.cut bytes).0 };
      cut = with_rest text last.field last.more rest last.cut ended;
    }

early : (n : ℕ) → n ≤ 100 → 11 + 34 * n + 2 ≤ 1048576
early n low = omega arith

whole_size : (n count sum : ℕ) → count ≡ n → (11 + 34 * n + 2) + sum ≤ 1048576 → 13 + 34 * count + sum ≤ 1048576
whole_size n count sum e small = omega arith

-- the transactions with their count, and the signature
record EndRead (size : ℕ) (text rest : List ℕ) : Type 0 where
  transactions : List (List ℕ)
  signature : Signature
  typed : AllByRecursion AreBytes transactions
  signed : IsSignature signature
  few : length transactions ≤ 1024
  short : AllByRecursion (λ t. length t ≤ 65536) transactions
  small : (size + 2) + transactions_size transactions ≤ 1048576
  cut : text ≡ to_be_bytes w16 (length transactions) ++ (flat_map transaction_bytes transactions ++ (signature.0 ++ rest))

read_end : (size : ℕ) (text rest : List ℕ) → size + 2 ≤ 1048576 → AreBytes text → Reaches (AtTransactionCount size) text AtEnd rest → EndRead size text rest
read_end size text rest small bytes front =
    let number = step (AtTransactionCount size) 2 text rest refl front in
    let many : ℕ = number16 number.field in
    let test = choice (ltb 1024 many) TooManyTransactions (at_transactions many (size + 2)) number.next number.passes in
    let number-bytes = bytes_of number.field number.more text number.cut bytes in
    let listed = read_transactions many (size + 2) number.more rest small number-bytes.1 (to number.next (at_transactions many (size + 2)) number.more rest (sym test.1) number.onwards) in
    let last = read_signature listed.more rest listed.bytes listed.onwards in
    let count-bytes : to_be_bytes w16 (length listed.transactions) ≡ number.field = ap (to_be_bytes w16) listed.count ∙ back16 number.field number.len number-bytes.0 in
    let tail : number.more ≡ flat_map transaction_bytes listed.transactions ++ (last.signature.0 ++ rest) = with_rest number.more (flat_map transaction_bytes listed.transactions) listed.more (last.signature.0 ++ rest) listed.cut last.cut in
    record {
      transactions = listed.transactions;
      signature = last.signature;
      typed = listed.typed;
      signed = last.signed;
      few = at_most many (length listed.transactions) 1024 listed.count (ltb-false _ _ test.0);
      short = listed.short;
      small = listed.small;
      cut = with_rest text (to_be_bytes w16 (length listed.transactions)) number.more (flat_map transaction_bytes listed.transactions ++ (last.signature.0 ++ rest)) (own_front text number.field number.more (to_be_bytes w16 (length listed.transactions)) number.cut count-bytes) tail;
    }

-- the parents with their count, and what follows them
record ListsRead (text rest : List ℕ) : Type 0 where
  parents : List Ref
  transactions : List (List ℕ)
  signature : Signature
  typed_parents : AllByRecursion IsRef parents
  typed_transactions : AllByRecursion AreBytes transactions
  signed : IsSignature signature
  few_parents : length parents ≤ 100
  order : Ascends None (authors parents)
  few_transactions : length transactions ≤ 1024
  short : AllByRecursion (λ t. length t ≤ 65536) transactions
  small : 13 + 34 * length parents + transactions_size transactions ≤ 1048576
  cut : text ≡ to_be_bytes w16 (length parents) ++ (flat_map parent_bytes parents ++ (to_be_bytes w16 (length transactions) ++ (flat_map transaction_bytes transactions ++ (signature.0 ++ rest))))

read_lists : (text rest : List ℕ) → AreBytes text → Reaches AtParentCount text AtEnd rest → ListsRead text rest
read_lists text rest bytes front =
    let number = step AtParentCount 2 text rest refl front in
    let many : ℕ = number16 number.field in
    let size : ℕ = 11 + 34 * many in
    let test = choice (ltb 100 many) TooManyParents (at_parents many None size) number.next number.passes in
    let few : many ≤ 100 = ltb-false _ _ test.0 in
    let number-bytes = bytes_of number.field number.more text number.cut bytes in
    let listed = read_items (parent_kind size) many None number.more rest number-bytes.1 (to number.next (at_parents many None size) number.more rest (sym test.1) number.onwards) in
    let end = read_end size listed.more rest (early many few) listed.bytes listed.onwards in
    let count-bytes : to_be_bytes w16 (length listed.items) ≡ number.field = ap (to_be_bytes w16) listed.count ∙ back16 number.field number.len number-bytes.0 in
    let tail : List ℕ = to_be_bytes w16 (length end.transactions) ++ (flat_map transaction_bytes end.transactions ++ (end.signature.0 ++ rest)) in
    record {
      parents = listed.items;
      transactions = end.transactions;
      signature = end.signature;
      typed_parents = listed.typed;
      typed_transactions = end.typed;
      signed = end.signed;
      few_parents = at_most many (length listed.items) 100 listed.count few;
      order = listed.order;
      few_transactions = end.few;
      short = end.short;
      small = whole_size many (length listed.items) (transactions_size end.transactions) listed.count end.small;
      cut = with_rest text (to_be_bytes w16 (length listed.items)) number.more (flat_map parent_bytes listed.items ++ tail) (own_front text number.field number.more (to_be_bytes w16 (length listed.items)) number.cut count-bytes) (with_rest number.more (flat_map parent_bytes listed.items) listed.more tail listed.cut end.cut);
    }

-- the author and the round
record NumbersRead (text rest : List ℕ) : Type 0 where
  author : ℕ
  round : ℕ
  more : List ℕ
  low_author : author < 2 ^ 16
  low_round : round < 2 ^ 48
  cut : text ≡ to_be_bytes w16 author ++ (round_bytes round ++ more)
  bytes : AreBytes more
  onwards : Reaches AtParentCount more AtEnd rest

read_numbers : (text rest : List ℕ) → AreBytes text → Reaches AtAuthor text AtEnd rest → NumbersRead text rest
read_numbers text rest bytes front =
    let at_author = step AtAuthor 2 text rest refl front in
    let author-bytes = bytes_of at_author.field at_author.more text at_author.cut bytes in
    let at_round = step AtRound 6 at_author.more rest refl (to at_author.next AtRound at_author.more rest (sym (going_is AtRound at_author.next at_author.passes)) at_author.onwards) in
    let round-bytes = bytes_of at_round.field at_round.more at_author.more at_round.cut author-bytes.1 in
    record {
      author = number16 at_author.field;
      round = round_of at_round.field;
      more = at_round.more;
      low_author = below16 at_author.field author-bytes.0;
      low_round = below48 at_round.field round-bytes.0;
      cut = with_rest text (to_be_bytes w16 (number16 at_author.field)) at_author.more (round_bytes (round_of at_round.field) ++ at_round.more) (own_front text at_author.field at_author.more (to_be_bytes w16 (number16 at_author.field)) at_author.cut (back16 at_author.field at_author.len author-bytes.0)) (own_front at_author.more at_round.field at_round.more (round_bytes (round_of at_round.field)) at_round.cut (back48 at_round.field at_round.len round-bytes.0));
      bytes = round-bytes.1;
      onwards = to at_round.next AtParentCount at_round.more rest (sym (going_is AtParentCount at_round.next at_round.passes)) at_round.onwards;
    }

-- ---- a block

pub record BlockRead (text rest : List ℕ) : Type 0 where
  pub block : Block
  pub signature : Signature
  pub typed : IsBlock block
  pub signed : IsSignature signature
  pub fits : Fits block
  pub cut : (1 ∷ []) ++ text ≡ message (messages.Block block signature) ++ rest

block_from : (text rest numbers items : List ℕ) (author round : ℕ) → text ≡ (1 ∷ []) ++ numbers → numbers ≡ to_be_bytes w16 author ++ (round_bytes round ++ items) → author < 2 ^ 16 → round < 2 ^ 48 → ListsRead items rest → BlockRead text rest
block_from text rest numbers items author round cut1 cut2 low_author low_round r =
    let b : Block = record { author = author; round = round; parents = r.parents; transactions = r.transactions } in
    record {
      block = b;
      signature = r.signature;
      typed = record {
        author = low_author;
        round = low_round;
        parents = All-from_recursion IsRef r.parents r.typed_parents;
        transactions = All-from_recursion AreBytes r.transactions r.typed_transactions;
      };
      signed = r.signed;
      fits = record {
        few_parents = r.few_parents;
        in_order = increasing None (authors r.parents) r.order;
        few_transactions = r.few_transactions;
        short_transactions = All-from_recursion (λ t. length t ≤ 65536) r.transactions r.short;
        short_body = r.small;
      };
      cut = rw (cut1, cut2, r.cut) (sym (block_message_is b r.signature rest));
    }

pub read_block : (text rest : List ℕ) → AreBytes text → Reaches AtVersion text AtEnd rest → BlockRead text rest
read_block text rest bytes front =
    let version = read_one AtVersion AtAuthor Version text rest refl (λ field. refl) bytes front in
    let numbers = read_numbers version.more rest version.bytes version.onwards in
    let items = read_lists numbers.more rest numbers.bytes numbers.onwards in
    block_from text rest version.more numbers.more numbers.author numbers.round version.cut numbers.cut numbers.low_author numbers.low_round items
