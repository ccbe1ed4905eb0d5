use Rattle.nw_ed25519.proofs.Words.{ℕ, ◌∙◌, ap, added, point_of, normalized, Point}
use Rattle.nw_curve.proofs.BaseTable.{normalized_z}
use Rattle.nw_ed25519.specs.Comb.{repeated, row_point, digit}
use Rattle.nw_ed25519.proofs.Combs.{no_rows_added, next_row_added}
use Rattle.nw_ed25519.proofs.prepared.with_rows.Goals as goal

pub loop-row-init : goal.loop-row-init
loop-row-init c p h = no_rows_added c.args.comb.now.bits c.args.shift c.args.number.now (point_of c.args.start) p

pub loop-row-preserved : goal.loop-row-preserved
loop-row-preserved c p h =
    let r = c.loop-row.row in
    let shift = c.args.shift in
    let number = c.args.number.now in
    let e = normalized (repeated c.digit.result (row_point r p)) in
    next_row_added c.args.comb.now.bits r shift number (point_of c.args.start) p (point_of c.loop-row.partial) (point_of c.of_affine_sum-partial.result) e
    (c.loop-row.invariant p h)
    (ap (λ (d : ℕ). normalized (repeated d (row_point r p))) (c.digit.ensures.value ∙ ap (λ (bits : ℕ). digit bits number r shift) c.bits.ensures.is))
    (c.of_affine_sum-partial.ensures e (c.entry-entry.ensures p h) (normalized_z (repeated c.digit.result (row_point r p))) ∙ ap (λ (x : Point). added x e) c.point.ensures)
