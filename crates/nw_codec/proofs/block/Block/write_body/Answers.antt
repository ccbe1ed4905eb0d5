use Rattle.nw_codec.proofs.Words.{rules, refl, []}
use Rattle.nw_codec.specs.Fits.{body_size}
use Rattle.nw_codec.proofs.Pieces.{filled_front}
use Rattle.nw_codec.proofs.Sizes.{length-body}
use Rattle.nw_codec.proofs.block.Block.write_body.Goals as goal

pub returns : goal.returns
returns c =
    let b = c.args.self.now in
    let front = c.put_body.new.sink in
    let written = c.in-Ok.ensures in
    let whole = filled_front front.filled (body_size b) front.buffer.now c.args.buffer.now _ front.within (written.text c.args.buffer.now [] (refl, refl)) (length-body b written.typed) in
    let first = whole.0 in
    let rest = whole.1 in
    record { text = search (rules, first); rest = search (rules, rest) }
