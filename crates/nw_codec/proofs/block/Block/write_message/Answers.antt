use Rattle.nw_codec.proofs.Words.{rules, refl}
use Rattle.nw_codec.specs.declared.message.Message.TheVariants as messages
use Rattle.nw_codec.specs.Fits.{block_size}
use Rattle.nw_codec.specs.Grammar.{message}
use Rattle.nw_codec.specs.Spelled.{Spells}
use Rattle.nw_codec.proofs.Pieces.{filled_front}
use Rattle.nw_codec.proofs.Sizes.{length-block}
use Rattle.nw_codec.proofs.block.Block.write_message.Goals as goal

pub returns : goal.returns
returns c =
    let b = c.args.self.now in
    let s = c.args.signature.now in
    let front = c.put_block.new.sink in
    let written = c.in-Ok.ensures in
    let spells : Spells (message (messages.Block b s)) (messages.Block b s) = record { typed = written.typed; fits = c.requires.fits; bytes = refl } in
    let whole = filled_front front.filled (block_size b) front.buffer.now c.args.buffer.now _ front.within (written.text c.args.buffer.now (refl, refl)) (length-block _ b s spells) in
    let first = whole.0 in
    let rest = whole.1 in
    record { text = record { typed = spells.typed; fits = spells.fits; bytes = search (rules, first) }; rest = search (rules, rest) }
