use Rattle.nw_state.proofs.Words.{sym, ◌∙◌}
use Rattle.nw_state.proofs.Slotted.{named_decides, first_held, met, met_certified, met_held}
use Rattle.nw_state.proofs.tables.StateTables.is_met.Goals as goal

pub returns-then-eq-2 : goal.returns-then-eq-2
returns-then-eq-2 c =
    let certified = sym c.certified.ensures ∙ (named_decides c.certified.result c.args.wanted.now.digest).0 (sym c.eq.ensures ∙ c.if-eq.true) in
    let first = sym c.first.ensures ∙ (named_decides c.first.result c.args.wanted.now.digest).0 (sym c.eq-then-eq.ensures ∙ c.if-eq-2.true) in
    rw (← c.self.view_is) (
      λ _. met c.self.inside.blocks c.self.inside.certificates c.self.inside.slots c.self.inside.floor c.self.invariant c.args.wanted.now certified
          (first_held c.self.inside.blocks c.self.inside.certificates c.self.inside.slots c.self.inside.floor c.self.invariant c.args.wanted.now first),
      λ _. c.if-eq-2.true,
    )

pub returns-else-eq-2 : goal.returns-else-eq-2
returns-else-eq-2 c =
    let certified = sym c.certified.ensures ∙ (named_decides c.certified.result c.args.wanted.now.digest).0 (sym c.eq.ensures ∙ c.if-eq.true) in
    let held = rw (← c.self.view_is) at c.holds.ensures in
    rw (← c.self.view_is) (
      λ is. met c.self.inside.blocks c.self.inside.certificates c.self.inside.slots c.self.inside.floor c.self.invariant c.args.wanted.now certified (sym held ∙ is),
      λ is. held ∙ met_held c.self.inside.blocks c.self.inside.certificates c.self.inside.slots c.self.inside.floor c.self.invariant c.args.wanted.now is,
    )

pub returns-else-eq : goal.returns-else-eq
returns-else-eq c =
    rw (← c.self.view_is) (
      λ is. absurd cc,
      λ is. c.eq.ensures
          ∙ (named_decides c.certified.result c.args.wanted.now.digest).1
          (c.certified.ensures ∙ met_certified c.self.inside.blocks c.self.inside.certificates c.self.inside.slots c.self.inside.floor c.self.invariant c.args.wanted.now is),
    )
