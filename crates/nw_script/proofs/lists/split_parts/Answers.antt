use Rattle.std.proofs.Common.{lit<, ◌∙◌, sym}
use Rattle.std.proofs.lemmas.Iterator.Consumers.{map_from_collect}
use Rattle.std.proofs.lemmas.Iterator.Splits.{YieldsList-from_str_split}
use Rattle.nw_script.proofs.Elements.{parts_of_split}
use Rattle.nw_script.proofs.lists.split_parts.Goals as goal

pub returns : goal.returns
returns c =
    rw (parts_of_split c.args.text.now (sym c.eq.ensures ∙ c.if-eq.false))
    (map_from_collect _ c.collect.ensures.ran (YieldsList-from_str_split 44 c.args.text.now (lit< tt) c.split.ensures.text c.split.ensures.has_more c.split.ensures.pattern))
