use Rattle.nw_ed25519.proofs.Words.{◌∙◌, ap, subst, sym, base, affine_base, base_valid, base_represents}
use Rattle.nw_ed25519.specs.Comb.{AreAllProper, rows}
use Rattle.nw_ed25519.proofs.CombSums.{all_proper}
use Rattle.nw_ed25519.proofs.keys.PreparedBase.new.Goals as goal

pub invariant_of-result : goal.invariant_of-result
invariant_of-result c = record {
  bits = c.in_ok-comb.ensures.0;
  rows = c.in_ok-comb.ensures.1 (subst AreAllProper (sym c.base.ensures) (all_proper base affine_base base_valid base_represents)) ∙ ap (rows 16 16) c.base.ensures;
}
