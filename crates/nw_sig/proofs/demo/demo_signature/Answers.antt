-- Two halves, one after the other.
use Rattle.std.proofs.Common.{ℕ, List, refl, ap, ◌∙◌}
use Rattle.nw_codec.specs.declared.certificate.Signature.{Signature}
use Rattle.nw_codec.proofs.Placed.{put_last}
use Rattle.nw_sig.proofs.demo.demo_signature.Goals as goal

pub returns : goal.returns
returns c =
    let first = c.copy_from_slice.ensures in
    let signature : List ℕ → Signature = λ bytes. record { 0 = bytes } in
    let half = c.keyed_digest-half.ensures in
    ap signature (put_last 32 32 _ _ _ _ _ first.len refl (first.after ∙ half) (c.copy_from_slice-2.ensures.after ∙ half))
