use Rattle.std.proofs.Common.{◌≡◌, ℕ, List, ap, arith, length, pos, refl, sym, subst, ◌∙◌, inr, rules}
use Rattle.std.proofs.lemmas.Int.{to_z-of_z}
use Rattle.nw_ed25519.specs.Accepts.{accepts}
use Rattle.nw_model.specs.Look.{AreLooks}
use Rattle.nw_model.specs.declared.look.Look.{Look}
use Rattle.nw_history.specs.Story.{state_of}
use Rattle.nw_shared_store.specs.Session.{HasSeen, IsSameSession, SessionView}
use Rattle.nw_c.specs.Look.{HasLooks}
use Rattle.nw_c.specs.declared.content.Content.{Content}
use Rattle.nw_c.specs.declared.content.Content.TheVariants as kind
use Rattle.nw_c.proofs.sessions.look.nw_session_look_round.Goals as goal

-- looks of the session in the content
seen : (content : Content) (old new : SessionView) (round r : ℕ) (told looks : List (ℕ × Look)) → content ≡ kind.Session old → r ≡ round → told ≡ looks → IsSameSession old new
    → HasSeen accepts old new (λ h. AreLooks (state_of h) r looks) → HasLooks accepts round told content (kind.Session new)
seen content old new round r told looks is at tells same has =
    subst (λ (x : Content). HasLooks accepts round told x (kind.Session new)) (sym is) (
      same,
      subst (λ (n : ℕ). HasSeen accepts old new (λ h. AreLooks (state_of h) n told)) at
          (subst (λ (l : List (ℕ × Look)). HasSeen accepts old new (λ h. AreLooks (state_of h) r l)) (sym tells) has),
    )

pub returns-in-Ok-clause-looks : goal.returns-in-Ok-clause-looks
returns-in-Ok-clause-looks c = λ code.
    let done : c.hand_out.result ≡ pos 0 = grind (arith, to_z-of_z, code) in
    seen c.args.session.now.value c.in-Session.held c.look_round.new.self c.args.round c.in-Some.round _ c.in-Ok.found.items
    (ap (λ h. h.value) (sym c.is_open.ensures.same) ∙ sym c.lend.ensures.value ∙ c.in-Session.is) c.in-Some.ensures.1 (c.hand_out.ensures.copied done ∙ c.deref.ensures.value) c.in-Ok.ensures.same c.in-Ok.ensures.seen

pub returns-in-Ok-clause-needed : goal.returns-in-Ok-clause-needed
returns-in-Ok-clause-needed c = λ code. (
  c.in-Ok.found.items,
  seen c.args.session.now.value c.in-Session.held c.look_round.new.self c.args.round c.in-Some.round c.in-Ok.found.items c.in-Ok.found.items
      (ap (λ h. h.value) (sym c.is_open.ensures.same) ∙ sym c.lend.ensures.value ∙ c.in-Session.is) c.in-Some.ensures.1 refl c.in-Ok.ensures.same c.in-Ok.ensures.seen,
  c.hand_out.ensures.needed ∙ ap length c.deref.ensures.value,
)

pub returns-in_default-new-clause-code : goal.returns-in_default-new-clause-code
returns-in_default-new-clause-code c = inr (search rules, inr ((c.in-Session.held, ap (λ h. h.value) (sym c.is_open.ensures.same) ∙ sym c.lend.ensures.value ∙ c.in-Session.is), search rules))

pub returns-in-Ok-clause-code : goal.returns-in-Ok-clause-code
returns-in-Ok-clause-code c = inr (search rules, inr ((c.in-Session.held, ap (λ h. h.value) (sym c.is_open.ensures.same) ∙ sym c.lend.ensures.value ∙ c.in-Session.is), inr (search rules, search rules)))

pub returns-in-Err-clause-code : goal.returns-in-Err-clause-code
returns-in-Err-clause-code c = inr (search rules, inr ((c.in-Session.held, ap (λ h. h.value) (sym c.is_open.ensures.same) ∙ sym c.lend.ensures.value ∙ c.in-Session.is), inr (search rules, search rules)))
