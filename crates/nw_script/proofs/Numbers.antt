-- Parsing decimal texts gives their numbers.
use Rattle.std.proofs.Common.{◌≡◌, ◌<◌, ◌^◌, ℕ, suc, zero, List, arith, Result, Ok, Err, IfSome, sym, ap, subst, ◌∙◌, refl}
use Rattle.std.specs.Fmt.{decimal}
use Rattle.std.specs.Str.Parse.{ParsesUnsigned}
use Rattle.std.specs.Result.{result_ok}
use Rattle.std.proofs.lemmas.Str.Parse.{numerals_by_value, tells_digits, parse_plain}
use Rattle.std.proofs.lemmas.Fmt.{decimal_digit, first_decimal, decimal_nonempty, decimal-digits_value}
use Rattle.nw_script.specs.Word.{IsPlain}

-- a plain text that parses as n is the decimal text of n
pub spelled_by_parse : {E : Type 0} (word : List ℕ) (r : Result ℕ E) → ParsesUnsigned 64 10 word r → IsPlain word → IfSome (result_ok r) (λ n. word ≡ decimal n)
spelled_by_parse {E} word (Ok n) h plain =
    let own = numerals_by_value _ tells_digits in
    let read = parse_plain own {E = E} 64 word (Ok n) h plain.unsigned in
    sym (ap decimal read.1 ∙ decimal-digits_value own word read.0.0 read.0.1 plain.no_leading_zero read.0.2)
spelled_by_parse word (Err e) h plain = tt

-- the decimal text of a number is plain
pub IsPlain-decimal : (n : ℕ) → n < 2 ^ 64 → IsPlain (decimal n)
IsPlain-decimal zero small = subst IsPlain (sym (decimal_digit 0 (omega arith))) (record { not_empty = omega arith; unsigned = omega arith; no_leading_zero = λ _. refl })
IsPlain-decimal (suc n) small =
    let above = first_decimal (suc n) (omega arith) small in
    record { not_empty = decimal_nonempty (suc n) small; unsigned = omega arith; no_leading_zero = λ zero_first. absurd (omega arith) }
