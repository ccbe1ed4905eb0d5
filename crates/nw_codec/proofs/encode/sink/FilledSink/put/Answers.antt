use Rattle.nw_codec.proofs.Words.{◌+◌, ◌++◌, length, refl, ap, ◌∙◌, arith}
use Rattle.std.proofs.Common.{◌-◌}
use Rattle.std.proofs.lemmas.Slice.{take-put_mid, drop-put_mid}
use Rattle.nw_codec.proofs.Placed.{same_behind}
use Rattle.nw_codec.proofs.encode.sink.FilledSink.put.Goals as goal

pub returns-clause-text : goal.returns-clause-text
returns-clause-text c before text held =
    let s = c.args.self.now in
    let piece = c.args.piece.now in
    let end = s.filled + length piece in
    rw c.copy_from_slice.ensures.after (
      take-put_mid s.filled (end - s.filled) s.buffer.now piece end refl s.within ∙ ap (λ t. t ++ piece) held.0,
      drop-put_mid s.filled (end - s.filled) s.buffer.now piece end (omega arith) s.within (omega arith) ∙ same_behind s.filled (length piece) s.buffer.now before held.1,
    )
