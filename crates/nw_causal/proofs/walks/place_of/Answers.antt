use Rattle.nw_causal.proofs.Words.{nat_cmp}
use Rattle.std.proofs.Common.{rules}
use Rattle.std.proofs.lemmas.Fn.{always_returns_same}
use Rattle.nw_causal.specs.declared.ancestor.Ancestor.{Ancestor}
use Rattle.nw_causal.proofs.walks.place_of.Goals as goal

pub returns-in_default-clause-position : goal.returns-in_default-clause-position
returns-in_default-clause-position c =
    c.binary_search_by.ensures.position (λ (x : Ancestor). nat_cmp c.args.author x.block.now.author) (always_returns_same _ _ _ (λ a r f called. search rules))
