use Rattle.std.proofs.Common.{◌+◌, ◌/◌, ◌%◌, ◌∙◌, length, ap}
use Rattle.nw_shared_list.proofs.Chunked.{items_parts}
use Rattle.nw_history.proofs.front.Front.parts.Goals as goal

pub returns-clause-parts : goal.returns-clause-parts
returns-clause-parts g c =
    c.parts.ensures.parts ∙ items_parts _ c.parts.ensures.chunked
    ∙ ap (λ s. length s.events / 256 + length s.events % 256) c.self.view_is
