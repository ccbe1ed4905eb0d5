-- The first events of a legal history are a legal history.
use Rattle.nw_model.proofs.Words.{ℕ, ◌+◌, ◌<◌, ◌≤◌, List, [], ◌∷◌, ◌++◌, length, subst, arith, ◌==◌, All, All-head, All-tail}
use Rattle.std.proofs.Common.{length-append}
use Rattle.std.proofs.lemmas.List.Elements.{All-nil, All-cons, filter-append}
use Rattle.nw_model.specs.State.{State}
use Rattle.nw_model.specs.Step.{Bounds, after}
use Rattle.nw_model.specs.History.{AreReplies, AreNumbered, IsAdmitted, events_of}
use Rattle.nw_model.specs.Laws.{BeginningsOfLegalHistoriesAreLegal}
use Rattle.nw_model.specs.declared.event.Event.{Event}

all_first : (P : Event → Type 0) (first more : List Event) → All P (first ++ more) → All P first
all_first P [] more h = All-nil P
all_first P (e ∷ first) more h = All-cons P e first (All-head P e (first ++ more) h) (all_first P first more (All-tail P e (first ++ more) h))

replies_first : (b : Bounds) (s : State) (first more : List Event) → AreReplies b s (first ++ more) → AreReplies b s first
replies_first b s [] more h = tt
replies_first b s (e ∷ first) more h = (h.0, h.1, replies_first b (after b s e.call) first more h.2)

numbered_first : (n : ℕ) (first more : List Event) → AreNumbered n (first ++ more) → AreNumbered n first
numbered_first n [] more h = tt
numbered_first n (e ∷ first) more h = (h.0, numbered_first (n + 1) first more h.1)

pub beginnings_legal : BeginningsOfLegalHistoriesAreLegal
beginnings_legal accepts terms base first more h =
    let short : length (first ++ more) ≤ terms.events = h.short in
    record {
      based = h.based;
      replies = replies_first terms.bounds base first more h.replies;
      numbered = λ session. numbered_first 1 (events_of session first) (events_of session more)
          (subst (AreNumbered 1) (filter-append (λ (e : Event). e.session == session) first more) (h.numbered session));
      sessions = all_first (λ e. e.session < terms.sessions) first more h.sessions;
      short = omega (arith, short, length-append first more);
      admitted = all_first (λ e. IsAdmitted accepts terms.committee e.call) first more h.admitted;
    }
