use Rattle.nw_codec.proofs.Words.{rules, []}
use Rattle.nw_codec.proofs.certificate.Certificate.message.Goals as goal

pub returns : goal.returns
returns c = record {
  typed = c.in_ok-put_certificate.ensures.typed;
  fits = search rules;
  bytes = c.in_ok-put_certificate.ensures.text [] c.in_ok-text.ensures.items;
}
