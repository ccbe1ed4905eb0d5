use Rattle.nw_book.proofs.Words.{◌≡◌, [], ◌∷◌, ◌++◌, ap, sym, ◌∙◌, subst, IsReply, bounds_of, state_of, Event, Story}
use Rattle.nw_model.proofs.RecordedCalls.{same_step}
use Rattle.nw_book.proofs.NotReady.{not_ready}
use Rattle.nw_book.proofs.book.Book.take_step.Goals as goal

pub of-requires : goal.of-requires
of-requires g c is =
    let e : Event = record { session = c.args.session; number = c.args.number; call = c.«record».new.self; reply = c.in_ok-reply.reply } in
    let events : c.in_ok-front.front.events ≡ c.args.self.now.events ++ e ∷ [] = ap (λ (s : Story). s.events) (c.in_ok-front.ensures.front ∙ c.in_ok-front.ensures.history) in
    let event_is = c.of-answer.ensures.event c.args.self.now.events e events in
    not_ready _ _ c.args.call c.in_ok-reply.reply c.requires.no_read c.in_ok-reply.ensures.reply (sym (ap (λ (x : Event). x.reply) event_is) ∙ is)

pub add_event-requires-clause-reply : goal.add_event-requires-clause-reply
add_event-requires-clause-reply g c =
    subst (λ q. IsReply (bounds_of c.args.self.now.limits) (state_of c.args.self.now) q c.in_ok-reply.reply) (sym c.«record».ensures)
    (same_step _ _ c.args.call c.in_ok-reply.reply c.in_ok-reply.ensures.reply).0
