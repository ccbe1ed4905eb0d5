use Rattle.nw_book.proofs.Words.{◌≡◌, ◌≤◌, ap, sym, ◌∙◌, subst, arith, option_copied, IsReply, IsAdmitted, Story, IsLegalStory, bounds_of, state_of}
use Rattle.nw_book.specs.Turn.{IsInTurn, HasRoom}
use Rattle.nw_book.proofs.Longer.{is_last, some_last}
use Rattle.nw_book.proofs.IsBook.{legal_next}
use Rattle.nw_book.proofs.book.Book.add_event.Goals as goal

pub with_event-requires-clause-legal : goal.with_event-requires-clause-legal
with_event-requires-clause-legal g c =
    let s = c.self.inside.history in
    let turn : IsInTurn s c.args.event.session c.args.event.number = rw c.self.view_is c.requires.turn in
    let room : HasRoom s = rw c.self.view_is c.requires.room in
    let admitted : IsAdmitted g.S.Scheme.accepts s.committee c.args.event.call = rw c.self.view_is c.requires.admitted in
    let is : IsReply (bounds_of s.limits) (state_of s) c.args.event.call c.args.event.reply = rw c.self.view_is c.requires.reply in
    legal_next g.S.Scheme.accepts _ _ _ c.args.event c.self.invariant turn room admitted is c.requires.short

pub with_event-requires-clause-room : goal.with_event-requires-clause-room
with_event-requires-clause-room g c =
    let room : HasRoom c.self.inside.history = rw c.self.view_is c.requires.room in
    let most : c.self.inside.history.limits.events ≤ 65536 = c.self.invariant.in_range.events.bounded in
    omega (arith, room, most)

pub unwrap-requires : goal.unwrap-requires
unwrap-requires g c = some_last c.self.inside.history.events c.in_ok-front.front.events c.args.event c.last.result c.last.ensures.last (ap (λ (s : Story). s.events) c.in_ok-front.ensures)

pub advance-requires-clause-front : goal.advance-requires-clause-front
advance-requires-clause-front g c =
    let is : c.unwrap.result.now ≡ c.args.event = is_last _ _ c.args.event c.unwrap.result.now (sym (ap option_copied c.unwrap.ensures) ∙ c.last.ensures.last) (ap (λ (s : Story). s.events) c.in_ok-front.ensures) in
    rw (is, ← c.self.view_is) c.in_ok-front.ensures

pub advance-requires-clause-legal : goal.advance-requires-clause-legal
advance-requires-clause-legal g c =
    let is : c.unwrap.result.now ≡ c.args.event = is_last _ _ c.args.event c.unwrap.result.now (sym (ap option_copied c.unwrap.ensures) ∙ c.last.ensures.last) (ap (λ (s : Story). s.events) c.in_ok-front.ensures) in
    rw (is, ← c.self.view_is) (subst (IsLegalStory g.S.Scheme.accepts) c.in_ok-front.ensures c.try_clone.ensures.legal)

pub advance-requires-clause-reply : goal.advance-requires-clause-reply
advance-requires-clause-reply g c =
    let is : c.unwrap.result.now ≡ c.args.event = is_last _ _ c.args.event c.unwrap.result.now (sym (ap option_copied c.unwrap.ensures) ∙ c.last.ensures.last) (ap (λ (s : Story). s.events) c.in_ok-front.ensures) in
    rw is c.requires.reply

pub advance-requires-clause-turn : goal.advance-requires-clause-turn
advance-requires-clause-turn g c =
    let is : c.unwrap.result.now ≡ c.args.event = is_last _ _ c.args.event c.unwrap.result.now (sym (ap option_copied c.unwrap.ensures) ∙ c.last.ensures.last) (ap (λ (s : Story). s.events) c.in_ok-front.ensures) in
    rw is c.requires.turn

pub returns-clause-history : goal.returns-clause-history
returns-clause-history g c =
    let is : c.unwrap.result.now ≡ c.args.event = is_last _ _ c.args.event c.unwrap.result.now (sym (ap option_copied c.unwrap.ensures) ∙ c.last.ensures.last) (ap (λ (s : Story). s.events) c.in_ok-front.ensures) in
    rw is at c.in_ok-advance.ensures.history

pub returns-clause-front : goal.returns-clause-front
returns-clause-front g c =
    let is : c.unwrap.result.now ≡ c.args.event = is_last _ _ c.args.event c.unwrap.result.now (sym (ap option_copied c.unwrap.ensures) ∙ c.last.ensures.last) (ap (λ (s : Story). s.events) c.in_ok-front.ensures) in
    rw (← c.self.view_is) c.in_ok-front.ensures ∙ sym (rw is at c.in_ok-advance.ensures.history)

pub returns-clause-kept : goal.returns-clause-kept
returns-clause-kept g c =
    let is : c.unwrap.result.now ≡ c.args.event = is_last _ _ c.args.event c.unwrap.result.now (sym (ap option_copied c.unwrap.ensures) ∙ c.last.ensures.last) (ap (λ (s : Story). s.events) c.in_ok-front.ensures) in
    c.in_ok-kept.ensures.same ∙ rw (← c.self.view_is) c.in_ok-front.ensures ∙ sym (rw is at c.in_ok-advance.ensures.history)

pub returns-clause-legal : goal.returns-clause-legal
returns-clause-legal g c =
    let is : c.unwrap.result.now ≡ c.args.event = is_last _ _ c.args.event c.unwrap.result.now (sym (ap option_copied c.unwrap.ensures) ∙ c.last.ensures.last) (ap (λ (s : Story). s.events) c.in_ok-front.ensures) in
    rw c.in_ok-advance.ensures.history (rw (is, ← c.self.view_is) (subst (IsLegalStory g.S.Scheme.accepts) c.in_ok-front.ensures c.try_clone.ensures.legal))
