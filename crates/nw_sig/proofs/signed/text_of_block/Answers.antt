-- Two pieces, one after the other.
use Rattle.std.proofs.Common.{refl}
use Rattle.std.specs.Prelude.{codes}
use Rattle.nw_codec.proofs.Placed.{put_last}
use Rattle.nw_sig.specs.Signed.{text_of_block}
use Rattle.nw_sig.proofs.signed.text_of_block.Goals as goal

pub returns : goal.returns
unfolding text_of_block
returns c =
    let first = c.copy_from_slice.ensures in
    put_last 4 32 _ _ _ (codes "NWBK") c.args.digest.now.0 first.len refl first.after c.copy_from_slice-2.ensures.after
