use Rattle.nw_codec.proofs.Words.{rules, refl}
use Rattle.nw_codec.specs.declared.message.Message.TheVariants as messages
use Rattle.nw_codec.specs.Fits.{certificate_size}
use Rattle.nw_codec.specs.Grammar.{message}
use Rattle.nw_codec.specs.Spelled.{Spells}
use Rattle.nw_codec.proofs.Pieces.{filled_front}
use Rattle.nw_codec.proofs.Sizes.{length-certificate}
use Rattle.nw_codec.proofs.certificate.Certificate.write_message.Goals as goal

pub returns : goal.returns
returns c =
    let certificate = c.args.self.now in
    let front = c.put_certificate.new.sink in
    let written = c.in-Ok.ensures in
    let spells : Spells (message (messages.Certificate certificate)) (messages.Certificate certificate) = record { typed = written.typed; fits = c.requires.fits; bytes = refl } in
    let whole = filled_front front.filled (certificate_size certificate) front.buffer.now c.args.buffer.now _ front.within (written.text c.args.buffer.now (refl, refl)) (length-certificate _ certificate spells) in
    let first = whole.0 in
    let rest = whole.1 in
    record { text = record { typed = spells.typed; fits = spells.fits; bytes = search (rules, first) }; rest = search (rules, rest) }
