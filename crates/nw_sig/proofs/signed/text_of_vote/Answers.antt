use Rattle.std.proofs.Common.{refl, ◌∙◌}
use Rattle.std.specs.Prelude.{codes}
use Rattle.nw_codec.proofs.Placed.{put_last}
use Rattle.nw_sig.specs.Signed.{text_of_vote}
use Rattle.nw_sig.proofs.signed.text_of_vote.Goals as goal

pub returns : goal.returns
unfolding text_of_vote
returns c =
    let first = c.copy_from_slice.ensures in
    put_last 4 40 _ _ _ (codes "NWVT") _ first.len refl first.after (c.copy_from_slice-2.ensures.after ∙ c.bytes.ensures.text)
