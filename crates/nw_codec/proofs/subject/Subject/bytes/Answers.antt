use Rattle.nw_codec.proofs.Words.{refl, sym, ◌∙◌, append_assoc, to_be_bytes, w16}
use Rattle.nw_codec.specs.Grammar.{round_bytes}
use Rattle.nw_codec.proofs.Placed.{put_last}
use Rattle.nw_codec.proofs.subject.Subject.bytes.Goals as goal

pub returns-clause-text : goal.returns-clause-text
returns-clause-text c =
    let s = c.args.self.now in
    let first = c.copy_from_slice.ensures in
    put_last 32 8 _ _ _ s.digest.0 _ first.len refl first.after (c.copy_from_slice-2.ensures.after ∙ c.slot_bytes.ensures.text)
    ∙ sym (append_assoc s.digest.0 (round_bytes s.round) (to_be_bytes w16 s.author))
