use Rattle.nw_plain.proofs.Words.{refl}
use Rattle.nw_plain.proofs.Counting.{complete_count}
use Rattle.nw_plain.proofs.plain.Plain.counts.Goals as goal

pub returns : goal.returns
returns c = record {
  floor = rw (← c.self.view_is) refl;
  blocks = c.block_count.ensures;
  certificates = c.certificate_count.ensures;
  complete = rw (c.len.ensures.len) (complete_count c.args.self.now.state _ c.len.ensures.ordered c.in_ok-complete_blocks.ensures);
  wanted = rw (c.len-2.ensures.len) (_, c.in_ok-wanted.ensures, refl);
}
