use Rattle.nw_ed25519.proofs.Words.{◌≡◌, ◌≢◌, ℕ, ◌+◌, ◌*◌, ◌%◌, ◌^◌, ◌-◌, ◌<◌, ◌≤◌, length, get_or}
use Rattle.nw_ed25519.specs.Digits.{number_from_digits}
use Rattle.nw_ed25519.proofs.digits.digits_of.Given as goal

abbrev pub invariant-loop-place : goal.invariant-loop-place
invariant-loop-place l = record {
  size : length l.digits ≡ 253;
  value : l.number ≡ number_from_digits l.digits + 2 ^ l.place * l.rest;
  above : (i : ℕ) → l.place ≤ i → get_or l.digits i 0 ≡ 0;
  small : (i : ℕ) → get_or l.digits i 0 < 2 ^ l.bits;
  odd : (i : ℕ) → get_or l.digits i 0 ≢ 0 → get_or l.digits i 0 % 2 ≡ 1;
}

abbrev pub decreases-loop-place : goal.decreases-loop-place
decreases-loop-place l = 253 - l.place
