use Rattle.nw_decode.proofs.Words.{refl, ◌≤◌, ◌+◌, length, arith}
use Rattle.std.proofs.lemmas.List.{take_rest}
use Rattle.nw_decode.specs.Faults.{AtTransactionLength, AtTransaction, at_transactions}
use Rattle.nw_decode.specs.declared.error.DecodeError.TheVariants.{TransactionTooLong, BodyTooLong}
use Rattle.nw_decode.proofs.Fronts.{onward, later, passed, short}
use Rattle.nw_decode.proofs.Fields.{exit, passed_as, failed_as, short_as, length_passes, length_fails, high_fails}
use Rattle.nw_decode.proofs.decode.block.after_transaction.Goals as goal

pub returns-in_err-len : goal.returns-in_err-len
returns-in_err-len c more = exit _ _ _ _ c.from_residual.ensures.1 (short_as (AtTransactionLength more c.args.size) 4 _ _ refl c.in_err-len.ensures.0 c.in_err-len.ensures.1)

pub returns-then-len-gt-MAX_TRANSACTION : goal.returns-then-len-gt-MAX_TRANSACTION
returns-then-len-gt-MAX_TRANSACTION c more =
    let h = c.in_ok-len.ensures in
    let n = c.from_be_bytes-len.result in
    failed_as (AtTransactionLength more c.args.size) 4 _ _ TransactionTooLong refl h.0 h.1 (rw (← c.from_be_bytes-len.ensures) (high_fails n 65536 _ TransactionTooLong (omega arith)))

pub returns-then-size-gt-MAX_BODY : goal.returns-then-size-gt-MAX_BODY
returns-then-size-gt-MAX_BODY c more =
    let h = c.in_ok-len.ensures in
    let n = c.from_be_bytes-len.result in
    failed_as (AtTransactionLength more c.args.size) 4 _ _ BodyTooLong refl h.0 h.1 (rw (← c.from_be_bytes-len.ensures) (length_fails n more c.args.size (omega arith) (omega arith)))

pub returns-then-rest-len : goal.returns-then-rest-len
returns-then-rest-len c more =
    let h = c.in_ok-len.ensures in
    let n = c.from_be_bytes-len.result in
    let size = c.args.size in
    let len = passed_as (AtTransactionLength more size) (AtTransaction n more (size + 4 + n)) 4 _ _ _ refl h.0 h.1 h.2 (rw (← c.from_be_bytes-len.ensures) (length_passes n more size (omega arith) (omega arith))) in
    later (AtTransactionLength more size) (AtTransaction n more (size + 4 + n)) _ _ _ len (short (AtTransaction n more (size + 4 + n)) n _ refl (omega arith))

pub returns : goal.returns
returns c more =
    let h = c.in_ok-len.ensures in
    let n = c.from_be_bytes-len.result in
    let size = c.args.size in
    let small : size + 4 + n ≤ 1048576 = omega arith in
    let long : n ≤ length c.in_ok-len.rest.now = omega arith in
    let len = passed_as (AtTransactionLength more size) (AtTransaction n more (size + 4 + n)) 4 _ _ _ refl h.0 h.1 h.2 (rw (← c.from_be_bytes-len.ensures) (length_passes n more size (omega arith) small)) in
    let bytes = passed (AtTransaction n more (size + 4 + n)) (at_transactions more (size + 4 + n)) n c.in_ok-len.rest.now refl long refl in
    let whole = onward (AtTransactionLength more size) (AtTransaction n more (size + 4 + n)) (at_transactions more (size + 4 + n)) _ _ _ len bytes in
    (small, rw (take_rest c.in_ok-len.rest.now n) whole)
