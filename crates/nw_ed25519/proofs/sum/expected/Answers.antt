use Rattle.nw_ed25519.proofs.Words.{◌≡◌, ℕ, ◌<◌, ◌-◌, ◌∙◌, ap, sym, subst, length, arith, point_of, encoded, base, Point, Represents, negative_of, negative_valid, negated_represents, affine_base, base_valid, base_represents, coordinates, PointIfAny, decoded_point, combination}
use Rattle.nw_ed25519.specs.Digits.{number_from_digits}
use Rattle.nw_ed25519.proofs.DigitSums.{no_digits, next_digits}
use Rattle.nw_ed25519.proofs.Expected.{expected_of_key}
use Rattle.nw_ed25519.proofs.sum.expected.Goals as goal

pub loop-done-init : goal.loop-done-init
loop-done-init c key u r =
    no_digits c.digits_of-base_digits.result c.digits_of-key_digits.result c.places_used-places.result (point_of c.identity-partial.result) affine_base (negative_of key) c.places_used-places.ensures.first c.places_used-places.ensures.second c.identity-partial.ensures

pub loop-done-preserved : goal.loop-done-preserved
loop-done-preserved c key u r =
    let s = c.digits_of-base_digits.result in
    let k = c.digits_of-key_digits.result in
    let d = c.loop-done.done in
    let ls : length s ≡ 253 = omega arith in
    let lk : length k ≡ 253 = omega arith in
    let places = c.places_used-places.result in
    let small : d < places = omega arith in
    let rf = subst (λ (f : Point). Represents f (negative_of key)) (sym c.negated.ensures) (negated_represents c.args.point key u r) in
    next_digits s k places d (point_of c.loop-done.partial) (point_of c.added_to-partial.result) base c.negated.result affine_base (negative_of key) base_valid (negative_valid key u) base_represents rf ls lk c.places_used-places.ensures.few small
    (c.digits_of-base_digits.ensures.odd (places - 1 - d) (omega arith)) (c.digits_of-key_digits.ensures.odd (places - 1 - d) (omega arith)) (c.loop-done.invariant key u r)
    (let one = c.plus_base_times-with_base.ensures in let two = c.added_to-partial.ensures c.negated.result c.of-keys.ensures in rw (two, one, c.doubled.ensures))

pub returns : goal.returns
returns c bytes h =
    let s = c.digits_of-base_digits.result in
    let k = c.digits_of-key_digits.result in
    let on = subst PointIfAny h (decoded_point bytes) in
    let key = coordinates c.args.point in
    let r = c.loop-done.invariant key on.0 on.1 in
    let done : c.places_used-places.result - c.loop-done.done ≡ 0 = omega arith in
    let all = rw done at r in
    let of_s = subst (λ (n : ℕ). Represents (point_of c.loop-done.partial) (combination n (number_from_digits k) affine_base (negative_of key))) c.digits_of-base_digits.ensures.value all in
    let of_k = subst (λ (n : ℕ). Represents (point_of c.loop-done.partial) (combination c.args.s.now n affine_base (negative_of key))) c.digits_of-key_digits.ensures.value of_s in
    c.encoded.ensures ∙ (ap encoded c.point.ensures ∙ expected_of_key c.args.s.now c.args.k.now bytes c.args.point (point_of c.loop-done.partial) h c.requires.s c.requires.k of_k)
