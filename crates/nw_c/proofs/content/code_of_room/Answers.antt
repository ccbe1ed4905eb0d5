use Rattle.std.proofs.Common.{ap, inl, inr, refl, rules, subst, sym, ◌∙◌}
use Rattle.nw_c.specs.Kinds.{HoldsRoom}
use Rattle.nw_c.proofs.content.code_of_room.Goals as goal

pub returns-then-not-is_room-clause-code : goal.returns-then-not-is_room-clause-code
returns-then-not-is_room-clause-code c = inr (
  search rules,
  inl (
    refl,
    λ room.
        c.is_room.ensures.other c.if-not-is_room.true (subst HoldsRoom (sym (c.lend.ensures.value ∙ ap (λ h. h.value) c.is_open-else-not-is_open.ensures.same)) room),
  ),
)

pub returns-clause-code : goal.returns-clause-code
returns-clause-code c = inr (search rules, inr (subst HoldsRoom (c.lend.ensures.value ∙ ap (λ h. h.value) c.is_open-else-not-is_open.ensures.same) (c.is_room.ensures.room c.if-not-is_room.false), inl refl))

pub returns-clause-fits : goal.returns-clause-fits
returns-clause-fits c = λ done. (search rules, search rules, subst HoldsRoom (c.lend.ensures.value ∙ ap (λ h. h.value) c.is_open-else-not-is_open.ensures.same) (c.is_room.ensures.room c.if-not-is_room.false))
