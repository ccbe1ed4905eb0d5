use Rattle.nw_ed25519.proofs.Words.{◌≡◌, ◌≢◌, ℕ, ◌%◌, ◌<◌, ◌^◌, sym, length, arith, get_or-set_other, le_refl, length-replicate}
use Rattle.std.proofs.Common.{pow_pos}
use Rattle.std.proofs.Math.ListN.{length-set}
use Rattle.nw_ed25519.specs.Digits.{number_from_digits}
use Rattle.nw_ed25519.proofs.DigitSums.{digit_split, nothing_left, zeros, each_digit}
use Rattle.nw_ed25519.proofs.digits.digits_of.Goals as goal

pub loop-place-init : goal.loop-place-init
loop-place-init c = record {
  size = length-replicate {A = ℕ} 253 0;
  value = omega arith;
  above = λ i _. zeros 253 i;
  small = λ i. rw (zeros 253 i) (pow_pos c.args.bits);
  odd = λ i. rw (zeros 253 i) (λ h. absurd (omega arith));
}

pub loop-place-preserved : goal.loop-place-preserved
loop-place-preserved c =
    let place = c.loop-place.place in
    let digits = c.loop-place.digits in
    let digit = c.lowest_digit-digit.result in
    let length_of = c.digit_length-length.result in
    let rest = c.loop-place.rest in
    let within : place < length digits = omega arith in
    let split = rw (sym c.digit_length-length.ensures.value) at c.lowest_digit-digit.ensures.rest in
    record {
      size = rw length-set c.loop-place.invariant.size;
      value = digit_split c.args.number.now place length_of digit rest c.shifted_down-rest.result digits c.loop-place.invariant.value within (c.loop-place.invariant.above place (le_refl place)) split c.shifted_down-rest.ensures;
      above = λ i h. let other : i ≢ place = omega arith in rw get_or-set_other (c.loop-place.invariant.above i (omega arith));
      small = each_digit (λ (d : ℕ). d < 2 ^ c.args.bits) digits place digit within c.lowest_digit-digit.ensures.small c.loop-place.invariant.small;
      odd = each_digit (λ (d : ℕ). d ≢ 0 → d % 2 ≡ 1) digits place digit within c.lowest_digit-digit.ensures.odd c.loop-place.invariant.odd;
    }

pub returns-clause-value : goal.returns-clause-value
returns-clause-value c =
    nothing_left c.args.number.now (number_from_digits c.loop-place.digits) c.loop-place.place c.loop-place.rest c.loop-place.invariant.value (omega arith) c.requires.number
