use Rattle.nw_codec.proofs.Words.{rules, refl}
use Rattle.nw_codec.specs.declared.message.Message.TheVariants as messages
use Rattle.nw_codec.specs.Fits.{vote_size}
use Rattle.nw_codec.specs.Grammar.{message}
use Rattle.nw_codec.specs.Spelled.{Spells}
use Rattle.nw_codec.proofs.Pieces.{filled_front}
use Rattle.nw_codec.proofs.Sizes.{length-vote}
use Rattle.nw_codec.proofs.vote.Vote.write_message.Goals as goal

pub returns : goal.returns
returns c =
    let v = c.args.self.now in
    let front = c.put_vote.new.sink in
    let written = c.in-Ok.ensures in
    let spells : Spells (message (messages.Vote v)) (messages.Vote v) = record { typed = written.typed; fits = tt; bytes = refl } in
    let whole = filled_front front.filled vote_size front.buffer.now c.args.buffer.now _ front.within (written.text c.args.buffer.now (refl, refl)) (length-vote _ v spells) in
    let first = whole.0 in
    let rest = whole.1 in
    record { text = record { typed = spells.typed; fits = tt; bytes = search (rules, first) }; rest = search (rules, rest) }
