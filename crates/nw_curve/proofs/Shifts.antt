-- A number of two halves, divided by a power of two: the bits that leave the upper half enter the lower one.
use Rattle.std.proofs.Common.{◌≡◌, ℕ, suc, ◌+◌, ◌-◌, ◌*◌, ◌/◌, ◌%◌, ◌^◌, ◌<◌, sym, ◌∙◌, ap, arith}
use Rattle.std.proofs.Math.Nat.{mod-lt, div-add-mod', add-mul-div_left, mul-div-le, lt_of_mul-lt-mul_left, mul-le-mul_right}
use Rattle.std.proofs.lemmas.Nat.{pow-add, mod-mul-add}

module _ (low high k m w : ℕ) (pos : 0 < k) (whole : k * m ≡ w) (small : low < w) where
  split : high * m ≡ high / k * w + high % k * m
  split =
      let e : (high / k * k + high % k) * m ≡ high / k * (k * m) + high % k * m = omega arith in
      ap (λ (n : ℕ). n * m) (sym (div-add-mod' high k)) ∙ (e ∙ ap (λ (n : ℕ). high / k * n + high % k * m) whole)

  above : suc (high % k) * m < suc w
  above = let h = mul-le-mul_right m (mod-lt high pos) in omega (arith, h, whole)

  low_part : low / k < m
  low_part = lt_of_mul-lt-mul_left k (let h = mul-div-le low k in omega (arith, h, whole, small))

  moved : high * m % w ≡ high % k * m
  moved = ap (λ (n : ℕ). n % w) split ∙ mod-mul-add (high / k) w (high % k * m) (omega (arith, above, low_part))

  pub shifted_fits : low / k + high * m % w < w
  shifted_fits = omega (arith, moved, above, low_part)

  pub shifted_is : low / k + high * m % w + w * (high / k) ≡ (low + w * high) / k
  shifted_is =
      let e : low + w * high ≡ low + k * (m * high) = let p : w * high ≡ k * (m * high) = ap (λ (n : ℕ). n * high) (sym whole) ∙ omega arith in omega (arith, p) in
      let d : (low + w * high) / k ≡ low / k + m * high = ap (λ (n : ℕ). n / k) e ∙ add-mul-div_left low (m * high) pos in
      let s : m * high ≡ high / k * w + high % k * m = let p : m * high ≡ high * m = omega arith in p ∙ split in
      let c : w * (high / k) ≡ high / k * w = omega arith in
      omega (arith, moved, d, s, c)

pub powers_to_128 : (places : ℕ) → places < 128 → 2 ^ places * 2 ^ (128 - places) ≡ 2 ^ 128
powers_to_128 places h = let e : places + (128 - places) ≡ 128 = omega arith in sym (pow-add 2 places (128 - places)) ∙ ap (λ (n : ℕ). 2 ^ n) e
