use Rattle.std.proofs.Common.{◌≡◌, ℕ, ap, sym, subst, ◌∙◌, inr, rules}
use Rattle.nw_ed25519.specs.Accepts.{accepts}
use Rattle.nw_model.specs.declared.look.Look.{Look}
use Rattle.nw_book.specs.Answered.{IsLookAfter}
use Rattle.nw_shared_store.specs.Session.{HasSeen, IsSameSession, SessionView}
use Rattle.nw_c.specs.Look.{HasLook}
use Rattle.nw_c.specs.declared.content.Content.{Content}
use Rattle.nw_c.specs.declared.content.Content.TheVariants as kind
use Rattle.nw_c.proofs.sessions.look.nw_session_look.Goals as goal

-- a look of the session in the content
seen : (content : Content) (old new : SessionView) (round r author : ℕ) (told look : Look) → content ≡ kind.Session old → r ≡ round → told ≡ look → IsSameSession old new
    → HasSeen accepts old new (λ h. IsLookAfter h (r, author) look) → HasLook accepts round author told content (kind.Session new)
seen content old new round r author told look is at tells same has =
    subst (λ (x : Content). HasLook accepts round author told x (kind.Session new)) (sym is) (
      same,
      subst (λ (n : ℕ). HasSeen accepts old new (λ h. IsLookAfter h (n, author) told)) at
          (subst (λ (l : Look). HasSeen accepts old new (λ h. IsLookAfter h (r, author) l)) (sym tells) has),
    )

pub returns-in-Ok-clause-look : goal.returns-in-Ok-clause-look
returns-in-Ok-clause-look c = λ code.
    seen c.args.session.now.value c.in-Session.held c.look.new.self c.args.round c.in-Some.round c.args.author _ c.in-Ok.look
    (ap (λ h. h.value) (sym c.is_open.ensures.same) ∙ sym c.lend.ensures.value ∙ c.in-Session.is) c.in-Some.ensures.1 c.of.ensures c.in-Ok.ensures.same c.in-Ok.ensures.seen

pub returns-in_default-new-clause-code : goal.returns-in_default-new-clause-code
returns-in_default-new-clause-code c = inr (search rules, inr ((c.in-Session.held, ap (λ h. h.value) (sym c.is_open.ensures.same) ∙ sym c.lend.ensures.value ∙ c.in-Session.is), search rules))

pub returns-in-Ok-clause-code : goal.returns-in-Ok-clause-code
returns-in-Ok-clause-code c = inr (search rules, inr ((c.in-Session.held, ap (λ h. h.value) (sym c.is_open.ensures.same) ∙ sym c.lend.ensures.value ∙ c.in-Session.is), inr (search rules, search rules)))

pub returns-in-Err-clause-code : goal.returns-in-Err-clause-code
returns-in-Err-clause-code c = inr (search rules, inr ((c.in-Session.held, ap (λ h. h.value) (sym c.is_open.ensures.same) ∙ sym c.lend.ensures.value ∙ c.in-Session.is), inr (search rules, search rules)))
