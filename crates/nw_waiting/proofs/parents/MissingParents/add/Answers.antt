use Rattle.nw_waiting.proofs.Words.{◌∙◌, ap, cond, refl, subst, sym, insert}
use Rattle.nw_waiting.specs.Parted.{IsMetForAll, parted}
use Rattle.nw_waiting.proofs.Parted.{held_back, held_more, held_put, met_more, others_kept, others_put, others_same_state, taken_back, unmet_put}
use Rattle.nw_waiting.proofs.parents.MissingParents.add.Goals as goal

pub invariant_of-self-then-is_met : goal.invariant_of-self-then-is_met
invariant_of-self-then-is_met g c = held_more c.self.inside.lacking c.want.new.self c.self.inside.unmet.keys c.args.wanted c.args.holder c.in_ok-want.ensures.added c.self.invariant

pub returns-then-is_met-clause-unmet : goal.returns-then-is_met-clause-unmet
returns-then-is_met-clause-unmet g c =
    met_more c.self.inside.lacking c.want.new.self c.self.inside.unmet.keys c.args.wanted c.args.holder c.in_ok-want.ensures.added c.args.self.now c.self.view_is (subst (IsMetForAll c.args.self.now c.args.wanted) c.if-is_met.true c.requires) c.self.invariant
    ∙ ap (λ b. cond b c.args.self.now.unmet (insert c.args.self.now.unmet (c.args.wanted, c.args.holder))) (sym c.if-is_met.true)

pub returns-then-is_met-clause-others : goal.returns-then-is_met-clause-others
returns-then-is_met-clause-others g c =
    others_kept c.self.inside.lacking c.want.new.self c.self.inside.unmet.keys c.args.wanted c.args.holder c.in_ok-want.ensures.added c.args.self.now c.self.view_is c.self.inside.unmet.keys refl

pub invariant_of-self-then-is_new : goal.invariant_of-self-then-is_new
invariant_of-self-then-is_new g c =
    held_back c.self.inside.lacking c.want-2.new.self c.self.inside.unmet.keys c.insert.new.self.keys c.remove-was_unmet.new.self.keys c.args.wanted c.in-Err.ensures.unchanged (λ q. c.in_ok-is_new.ensures.updates.0 q) (λ q. c.remove-was_unmet.ensures.updates.0 q)
    (sym c.in_ok-is_new.ensures.added ∙ c.if-is_new.true) c.self.invariant

pub returns-then-is_new-clause-unchanged : goal.returns-then-is_new-clause-unchanged
returns-then-is_new-clause-unchanged g c =
    taken_back c.self.inside.lacking c.want-2.new.self c.self.inside.unmet.keys c.insert.new.self.keys c.remove-was_unmet.new.self.keys c.args.wanted c.in-Err.ensures.unchanged (λ q. c.in_ok-is_new.ensures.updates.0 q) (λ q. c.remove-was_unmet.ensures.updates.0 q)
    (sym c.in_ok-is_new.ensures.added ∙ c.if-is_new.true)
    ∙ c.self.view_is

pub returns-then-is_new-clause-others : goal.returns-then-is_new-clause-others
returns-then-is_new-clause-others g c =
    others_same_state c.args.holder c.args.self.now (parted c.want-2.new.self c.remove-was_unmet.new.self.keys)
    (taken_back c.self.inside.lacking c.want-2.new.self c.self.inside.unmet.keys c.insert.new.self.keys c.remove-was_unmet.new.self.keys c.args.wanted c.in-Err.ensures.unchanged (λ q. c.in_ok-is_new.ensures.updates.0 q) (λ q. c.remove-was_unmet.ensures.updates.0 q)
    (sym c.in_ok-is_new.ensures.added ∙ c.if-is_new.true)
    ∙ c.self.view_is)

pub invariant_of-self-in_default : goal.invariant_of-self-in_default
invariant_of-self-in_default g c =
    held_put c.self.inside.lacking c.want-2.new.self c.self.inside.unmet.keys c.args.wanted c.args.holder c.in_default.ensures.added c.args.self.now c.self.view_is c.insert.new.self.keys (λ q. c.in_ok-is_new.ensures.updates.0 q) c.self.invariant

pub returns-clause-unmet : goal.returns-clause-unmet
returns-clause-unmet g c =
    unmet_put c.self.inside.lacking c.want-2.new.self c.self.inside.unmet.keys c.args.wanted c.args.holder c.in_default.ensures.added c.args.self.now c.self.view_is c.insert.new.self.keys (λ q. c.in_ok-is_new.ensures.updates.0 q) (subst (IsMetForAll c.args.self.now c.args.wanted) c.if-is_met.false c.requires)
    ∙ ap (λ b. cond b c.args.self.now.unmet (insert c.args.self.now.unmet (c.args.wanted, c.args.holder))) (sym c.if-is_met.false)

pub returns-clause-others : goal.returns-clause-others
returns-clause-others g c =
    others_put c.self.inside.lacking c.want-2.new.self c.self.inside.unmet.keys c.args.wanted c.args.holder c.in_default.ensures.added c.args.self.now c.self.view_is c.insert.new.self.keys (λ q. c.in_ok-is_new.ensures.updates.0 q) (subst (IsMetForAll c.args.self.now c.args.wanted) c.if-is_met.false c.requires)
