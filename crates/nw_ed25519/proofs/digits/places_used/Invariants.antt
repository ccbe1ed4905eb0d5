use Rattle.nw_ed25519.proofs.Words.{◌≡◌, ℕ, ◌<◌, ◌≤◌, length, get_or}
use Rattle.nw_ed25519.proofs.digits.places_used.Given as goal

abbrev pub invariant-loop-places : goal.invariant-loop-places
invariant-loop-places l = record {
  few : l.places ≤ 253;
  first : (i : ℕ) → i < length l.first → l.places ≤ i → get_or l.first i 0 ≡ 0;
  second : (i : ℕ) → i < length l.second → l.places ≤ i → get_or l.second i 0 ≡ 0;
}

abbrev pub decreases-loop-places : goal.decreases-loop-places
decreases-loop-places l = l.places
