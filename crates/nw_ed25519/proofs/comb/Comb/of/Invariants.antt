use Rattle.nw_ed25519.proofs.Words.{◌≡◌, ◌*◌, ◌/◌, ◌^◌, vec_len}
use Rattle.nw_ed25519.specs.Comb.{AreAllProper, rows, row_point}
use Rattle.nw_ed25519.proofs.comb.Comb.of.Given as goal

abbrev pub invariant-loop-done : goal.invariant-loop-done
invariant-loop-done l = record {
  entries : AreAllProper l.fn.point → l.entries.items ≡ rows (2 ^ l.bits / 16) l._done l.fn.point;
  row : l.row ≡ row_point l._done l.fn.point;
  size : vec_len l.entries ≡ l._done * 2 ^ l.bits;
}
