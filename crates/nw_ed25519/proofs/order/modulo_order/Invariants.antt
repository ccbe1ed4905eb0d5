use Rattle.nw_ed25519.proofs.Words.{◌≡◌, ◌-◌, ◌*◌, ◌%◌, drop, number_from_bytes}
use Rattle.nw_ed25519.specs.Accepts.{order}
use Rattle.nw_ed25519.proofs.order.modulo_order.Given as goal

abbrev pub invariant-loop-done : goal.invariant-loop-done
invariant-loop-done l = l.remainder ≡ number_from_bytes (drop (64 - 4 * l.done) l.bytes) % order
