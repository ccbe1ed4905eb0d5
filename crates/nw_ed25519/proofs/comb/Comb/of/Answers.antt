use Rattle.nw_ed25519.proofs.Words.{◌/◌, ◌^◌, ◌++◌, ◌∙◌, ap, subst, sym, arith}
use Rattle.nw_ed25519.specs.Comb.{AreProper, blocks}
use Rattle.nw_ed25519.proofs.Combs.{no_rows, first_row, next_rows, row_next, blocks_of}
use Rattle.nw_ed25519.proofs.comb.Comb.of.Goals as goal

pub loop-done-init : goal.loop-done-init
loop-done-init c = record {
  entries = λ proper. c.in_ok-entries.ensures.items ∙ no_rows (2 ^ c.args.bits / 16) c.args.point;
  row = first_row c.args.point;
  size = omega (arith, c.in_ok-entries.ensures.len);
}

pub loop-done-preserved : goal.loop-done-preserved
loop-done-preserved c =
    let r = c.loop-done._done in
    let p = c.args.point in
    let q = c.loop-done.row in
    let invariant = c.loop-done.invariant in
    let width = c.power_of_two-width.ensures.value in
    record {
      entries = λ proper. next_rows (2 ^ c.args.bits / 16) r c.loop-done.entries.items c.push_row.new.entries.items p q (invariant.entries proper) invariant.row
          (c.in_ok-push_row.ensures.entries (subst AreProper (sym invariant.row) (proper r)) ∙ ap (λ w. c.loop-done.entries.items ++ blocks (w / 16) q) width);
      row = row_next r p q c.doubled_times-row.result invariant.row c.doubled_times-row.ensures;
      size = let all = blocks_of c.args.bits c.requires.many c.requires.few in omega (arith, invariant.size, c.in_ok-push_row.ensures.size, width, all);
    }
