use Rattle.nw_decode.proofs.Words.{◌≡◌, [], length, ap, arith, length-append, nil_from_length, parent_bytes, IsRef, one_more_built, all_built}
use Rattle.nw_decode.proofs.Parts.{length-parent}
use Rattle.nw_decode.proofs.decode.block.parents_of.Goals as goal

pub loop-preserved : goal.loop-preserved
loop-preserved c =
    let item = c.parent_of.result.0 in
    let read = c.parent_of.ensures in
    record {
      built = one_more_built parent_bytes IsRef _ _ _ item _ _ c.loop.invariant.built read.0 read.1 c.in_ok-push.ensures.items;
      left = omega (arith, c.loop.invariant.left, ap length read.1, length-append (parent_bytes item) c.parent_of.result.1.now, length-parent item read.0);
    }

pub returns : goal.returns
returns c =
    let none : c.loop.rest.now ≡ [] = nil_from_length c.loop.rest.now (omega (arith, c.loop.invariant.left)) in
    rw c.new.ensures (c.loop.invariant.built.holds, all_built parent_bytes IsRef _ _ _ c.loop.invariant.built none)
