use Rattle.nw_ed25519.proofs.Words.{◌≡◌, ◌+◌, ◌*◌, ◌∙◌, ap, arith, ◌++◌}
use Rattle.nw_curve.proofs.Inverses.{one-has_inverse}
use Rattle.nw_ed25519.specs.Comb.{blocks, repeated}
use Rattle.nw_ed25519.proofs.Combs.{no_blocks, next_block, repeated_none}
use Rattle.nw_ed25519.proofs.comb.push_row.Goals as goal

pub loop-block-init : goal.loop-block-init
loop-block-init c = record {
  entries = λ proper. (no_blocks c.args.entries.now.items c.args.point.now, c.identity-multiple.ensures ∙ repeated_none c.args.point.now);
  size = omega arith;
}

pub loop-block-preserved : goal.loop-block-preserved
loop-block-preserved c =
    let b = c.loop-block._block in
    let p = c.args.point.now in record {
      entries = λ proper.
          let before = c.loop-block.invariant.entries proper in
          let after = c.in_ok-multiple.ensures.pushed (16 * b) p proper (one-has_inverse c.one-one.result c.one-one.ensures) before.1 c.of-addend.ensures in
          let next : 16 * b + 16 ≡ 16 * (b + 1) = omega arith in
          (next_block b c.args.entries.now.items c.loop-block.entries.items c.push_down.new.entries.items p before.0 after.entries, after.next_is ∙ ap (λ m. repeated m p) next);
      size = omega (arith, c.loop-block.invariant.size, c.in_ok-multiple.ensures.size);
    }

pub returns-clause-entries : goal.returns-clause-entries
returns-clause-entries c = λ proper.
    let done : c.loop-block._block ≡ c.args.count = omega arith in
    (c.loop-block.invariant.entries proper).0 ∙ ap (λ b. c.args.entries.now.items ++ blocks b c.args.point.now) done
