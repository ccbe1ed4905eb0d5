use Rattle.nw_ed25519.proofs.Words.{◌≡◌, ◌+◌, ◌*◌, ◌++◌, vec_len}
use Rattle.nw_ed25519.specs.Comb.{AreProper, blocks, repeated}
use Rattle.nw_ed25519.proofs.comb.push_row.Given as goal

abbrev pub invariant-loop-block : goal.invariant-loop-block
invariant-loop-block l = record {
  entries : AreProper l.point → (l.entries.items ≡ l.fn.entries.items ++ blocks l._block l.point) × (l.multiple ≡ repeated (16 * l._block) l.point);
  size : vec_len l.entries ≡ vec_len l.fn.entries + 16 * l._block;
}
