use Rattle.nw_plain.proofs.Words.{◌≡◌, rules, subst, sym, ListsExactly, Wants, wanted_cmp}
use Rattle.std.proofs.iter.runs.Made.{chains}
use Rattle.nw_plain.specs.Added.{IsUnionWith}
use Rattle.nw_plain.proofs.Wanting.{only_wanted}
use Rattle.nw_plain.proofs.plain.Plain.wanted_by.Goals as goal

pub returns : goal.returns
returns c =
    let s = c.args.self.now.state in
    let b = c.args.block.now in
    let keys = c.add_wanted.new.wanted.keys in
    let listed : c.in_ok-collect.field-0.items ≡ keys = search (rules, chains) in
    subst (ListsExactly wanted_cmp (Wants s b)) (sym listed)
    (only_wanted s b keys (subst (λ old. IsUnionWith (Wants s b) old keys) c.new-wanted.ensures.empty c.in_ok-add_wanted.ensures.added) (c.add_wanted.ensures.ordered c.new-wanted.ensures.ordered))
