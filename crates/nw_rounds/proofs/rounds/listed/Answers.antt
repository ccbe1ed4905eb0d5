use Rattle.nw_rounds.proofs.Words.{◌≡◌, subst, sym, Contains}
use Rattle.std.proofs.Common.{rules}
use Rattle.std.specs.BTreeMap.{values}
use Rattle.nw_rounds.proofs.Sorted.{still_listed}
use Rattle.nw_rounds.proofs.rounds.listed.Goals as goal

pub returns : goal.returns
returns g c d among =
    let is : c.in_ok-list.list.items ≡ values c.args.digests.now = search rules in
    still_listed c.in_ok-list.list.items c.dedup.new.self.items c.dedup.ensures.filtered d (subst (λ xs. Contains xs d) (sym is) among)
