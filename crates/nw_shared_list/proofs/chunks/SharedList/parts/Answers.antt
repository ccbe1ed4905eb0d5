use Rattle.std.proofs.Common.{◌+◌, length, ap, sym, ◌∙◌}
use Rattle.std.proofs.lemmas.List.{length-reverse}
use Rattle.nw_shared_list.proofs.chunks.SharedList.parts.Goals as goal

pub returns-clause-parts : goal.returns-clause-parts
returns-clause-parts g c =
    ap (λ n. n + c.self.inside.count) (ap length (c.as_slice.ensures.value ∙ ap (λ r. r.full.items) c.get.ensures))
    ∙ ap (λ n. length c.self.inside.root.full.items + n) (sym c.self.invariant.1 ∙ sym (length-reverse c.self.inside.tail))
    ∙ ap (λ l. length l.chunks + length l.tail) c.self.view_is
