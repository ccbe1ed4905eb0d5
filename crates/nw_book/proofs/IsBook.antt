-- The invariant of a book after one more event.
use Rattle.nw_book.proofs.Words.{◌≡◌, ◌≢◌, ℕ, ◌+◌, ◌<◌, ◌≤◌, Bool, true, false, cond, List, [], ◌∷◌, ◌++◌, length, get_or, ap, sym, ◌∙◌, length-append, arith, refl, ◌==◌, eqb-true, length-filter, count_by-le-length, Meaning, BoundedState, after, IsReply, HasNoList, IsAdmitted, events_of, Event, Story, IsLegalStory, terms_of, bounds_of, state_of, with_event}
use Rattle.std.proofs.Common.{set, length-set, get_or-set_same, get_or-set_other}
use Rattle.std.proofs.lemmas.Bool.{eqb-false}
use Rattle.std.proofs.lemmas.Grind.{get_or_default_zero}
use Rattle.nw_history.specs.Story.{tables_of}
use Rattle.nw_book.specs.Turn.{IsInTurn, HasRoom, AreEventCounts, IsBook}
use Rattle.nw_book.proofs.Longer.{replay_last, events_of_last, legal_last}

-- an event in turn, with the reply of the step, which is not a list, keeps the history legal
pub legal_next : (accepts : Meaning) (t : BoundedState) (counts : List ℕ) (s : Story) (e : Event) → IsBook accepts t counts s → IsInTurn s e.session e.number → HasRoom s
    → IsAdmitted accepts s.committee e.call → IsReply (bounds_of s.limits) (state_of s) e.call e.reply → HasNoList e.reply → IsLegalStory accepts (with_event s e)
legal_next accepts t counts s e h turn room admitted is short =
    legal_last accepts (terms_of s) s.base s.events e h.legal is short turn.session_below turn.number_next room admitted

one_more : (b : Bool) (es : List Event) (e : Event) → length (es ++ cond b (e ∷ []) []) ≡ length es + cond b 1 0
one_more true es e = length-append es (e ∷ [])
one_more false es e = length-append es []

counted : (counts : List ℕ) (i k : ℕ) → i < length counts → k < length counts → (b : Bool) → (i == k) ≡ b
    → get_or (set counts i (get_or counts i 0 + 1)) k 0 ≡ get_or counts k 0 + cond b 1 0
counted counts i k below in_range true t = let same : i ≡ k = eqb-true i k t in rw (← same) (get_or-set_same counts i (get_or counts i 0 + 1) 0 below)
counted counts i k below in_range false t =
    let apart : k ≢ i = λ e. eqb-false i k t (sym e) in rw get_or-set_other (omega arith)

-- the counts with one more event of the session
pub counts_next : (counts : List ℕ) (s : Story) (e : Event) → AreEventCounts counts s → e.session < length counts
    → AreEventCounts (set counts e.session (get_or counts e.session 0 + 1)) (with_event s e)
counts_next counts s e h below = record {
  sessions = length-set counts e.session (get_or counts e.session 0 + 1) ∙ h.sessions;
  each = λ k in_range.
      let inside : k < length counts = omega (arith, length-set counts e.session (get_or counts e.session 0 + 1)) in
      counted counts e.session k below inside (e.session == k) refl
      ∙ ap (λ n. n + cond (e.session == k) 1 0) (h.each k inside)
      ∙ sym (one_more (e.session == k) (events_of k s.events) e)
      ∙ ap length (sym (events_of_last k s.events e));
}

-- tables and counts that take the step of an event represent the history with this event
pub book_next : (accepts : Meaning) (t u : BoundedState) (counts : List ℕ) (s n : Story) (e : Event) (session place count : ℕ) → IsBook accepts t counts s → IsLegalStory accepts (with_event s e)
    → session < s.limits.sessions → e.session ≡ session → place ≡ session → count ≡ get_or counts place count
    → n ≡ with_event s e → u ≡ record t { state = after t.bounds t.state e.call } → IsBook accepts u (set counts place (count + 1)) n
book_next accepts t u counts s n e session place count h legal below own here value story_is tables_is =
    let inside : e.session < length counts = omega (arith, h.counted.sessions) in
    let same : place ≡ e.session = here ∙ sym own in
    let number : count ≡ get_or counts e.session 0 = value ∙ ap (λ i. get_or counts i count) same ∙ get_or_default_zero counts e.session count inside in
    rw (story_is, same, number) (record {
      in_range = h.in_range;
      legal = legal;
      state = tables_is ∙ ap (λ (v : BoundedState). record v { state = after v.bounds v.state e.call }) h.state
          ∙ ap (λ x. record (tables_of s) { state = x }) (sym (replay_last (bounds_of s.limits) s.base s.events e));
      counted = counts_next counts s e h.counted inside;
    })

-- the number of a session's calls is at most 65536
pub count_fits : (accepts : Meaning) (t : BoundedState) (counts : List ℕ) (s : Story) (session place count : ℕ) → IsBook accepts t counts s → session < s.limits.sessions
    → place ≡ session → count ≡ get_or counts place count → count ≤ 65536
count_fits accepts t counts s session place count h below here value =
    let inside : session < length counts = omega (arith, h.counted.sessions, below) in
    let number : count ≡ get_or counts session 0 = value ∙ ap (λ i. get_or counts i count) here ∙ get_or_default_zero counts session count inside in
    let many : get_or counts session 0 ≡ length (events_of session s.events) = h.counted.each session inside in
    let few = length-filter (λ (e : Event). e.session == session) s.events in
    let fewer = count_by-le-length (λ (e : Event). e.session == session) s.events in
    let short : length s.events ≤ s.limits.events = h.legal.short in
    let bound : s.limits.events ≤ 65536 = h.in_range.events.bounded in
    omega (arith, number, many, few, fewer, short, bound)
