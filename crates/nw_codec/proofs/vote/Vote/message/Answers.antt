use Rattle.nw_codec.proofs.Words.{[]}
use Rattle.nw_codec.proofs.vote.Vote.message.Goals as goal

pub returns : goal.returns
returns c = record {
  typed = c.in_ok-put_vote.ensures.typed;
  fits = tt;
  bytes = c.in_ok-put_vote.ensures.text [] c.in_ok-text.ensures.items;
}
