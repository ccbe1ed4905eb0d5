-- A history with one more event.
use Rattle.nw_book.proofs.Words.{◌≡◌, ℕ, ◌+◌, ◌-◌, ◌<◌, Bool, true, false, cond, List, [], ◌∷◌, ◌++◌, Some, length, refl, ap, ◌∙◌, arith, length-append, eqb-true, ◌==◌, slice_get, option_copied, Meaning, State, Bounds, after, IsReply, HasNoList, AreReplies, IsAdmitted, replay, events_of, Event}
use denote.Bor.{Bor}
use Rattle.std.proofs.Common.{suc, Option, None, IsSome, append-nil}
use Rattle.std.specs.Option.{unwrap_or}
use Rattle.std.proofs.lemmas.List.Elements.{All-push, filter-append}
use Rattle.nw_model.specs.History.{AreNumbered, Terms, IsLegal}

pub replay_last : (b : Bounds) (s : State) (es : List Event) (e : Event) → replay b s (es ++ e ∷ []) ≡ after b (replay b s es) e.call
replay_last b s [] e = refl
replay_last b s (x ∷ es) e = replay_last b (after b s x.call) es e

replies_last : (b : Bounds) (s : State) (es : List Event) (e : Event) → AreReplies b s es → IsReply b (replay b s es) e.call e.reply → HasNoList e.reply → AreReplies b s (es ++ e ∷ [])
replies_last b s [] e h is short = (is, short, tt)
replies_last b s (x ∷ es) e h is short = (h.0, h.1, replies_last b (after b s x.call) es e h.2 is short)

numbered_last : (n : ℕ) (es : List Event) (e : Event) → AreNumbered n es → e.number ≡ n + length es → AreNumbered n (es ++ e ∷ [])
numbered_last n [] e h is = (omega arith, tt)
numbered_last n (x ∷ es) e h is = (h.0, numbered_last (n + 1) es e h.1 (omega arith))

pub events_of_last : (session : ℕ) (es : List Event) (e : Event) → events_of session (es ++ e ∷ []) ≡ events_of session es ++ cond (e.session == session) (e ∷ []) []
events_of_last session es e = filter-append (λ (x : Event). x.session == session) es (e ∷ [])

numbered_one : (b : Bool) (es : List Event) (e : Event) → AreNumbered 1 es → (b ≡ true → e.number ≡ length es + 1) → AreNumbered 1 (es ++ cond b (e ∷ []) [])
numbered_one true es e h is = numbered_last 1 es e h (omega (arith, is refl))
numbered_one false es e h is = rw append-nil h

same_session : (e : Event) (session : ℕ) → (e.session == session) ≡ true → e.session ≡ session
same_session e session t = eqb-true e.session session t

-- a legal history stays legal with one more event, whose reply is that of the step and whose number is its session's next
pub legal_last : (accepts : Meaning) (t : Terms) (base : State) (es : List Event) (e : Event) → IsLegal accepts t base es
    → IsReply t.bounds (replay t.bounds base es) e.call e.reply → HasNoList e.reply → e.session < t.sessions → e.number ≡ length (events_of e.session es) + 1
    → length es < t.events → IsAdmitted accepts t.committee e.call → IsLegal accepts t base (es ++ e ∷ [])
legal_last accepts t base es e h reply short below number room admitted = record {
  based = h.based;
  replies = replies_last t.bounds base es e h.replies reply short;
  numbered = λ session. rw (events_of_last session es e) (numbered_one (e.session == session) (events_of session es) e (h.numbered session)
      (λ t. let same : e.session ≡ session = same_session e session t in rw (← same) number));
  sessions = All-push (λ (x : Event). x.session < t.sessions) es e h.sessions below;
  short = omega (arith, length-append es (e ∷ []));
  admitted = All-push (λ (x : Event). IsAdmitted accepts t.committee x.call) es e h.admitted admitted;
}

-- the last event of a list to which an event was added
last_of : (es : List Event) (e : Event) → slice_get (es ++ e ∷ []) (length (es ++ e ∷ []) - 1) ≡ Some e
last_of [] e = refl
last_of (x ∷ es) e =
    let at : length (x ∷ es ++ e ∷ []) - 1 ≡ suc (length (es ++ e ∷ []) - 1) = omega (arith, length-append es (e ∷ [])) in
    ap (slice_get (x ∷ es ++ e ∷ [])) at ∙ last_of es e

pub is_last : (es all : List Event) (e f : Event) → Some f ≡ slice_get all (length all - 1) → all ≡ es ++ e ∷ [] → f ≡ e
is_last es all e f at is = ap (λ (o : Option Event). unwrap_or o e) (at ∙ ap (λ (xs : List Event). slice_get xs (length xs - 1)) is ∙ last_of es e)

pub some_last : (es all : List Event) (e : Event) (found : Option (Bor Event)) → option_copied found ≡ slice_get all (length all - 1) → all ≡ es ++ e ∷ [] → IsSome found
some_last es all e found at is = by found (at ∙ ap (λ (xs : List Event). slice_get xs (length xs - 1)) is ∙ last_of es e)
  where
    by : (o : Option (Bor Event)) → option_copied o ≡ Some e → IsSome o
    by None h = cc
    by (Some x) h = cc
