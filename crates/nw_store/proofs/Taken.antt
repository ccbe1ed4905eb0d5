-- The lock and the session after the step of one call: the book has the history `next`, the log gets the front that is lent, each count gets one
-- more, and the journal gets the answer `kept`.
use Rattle.nw_store.proofs.Words.{◌≡◌, ℕ, ◌+◌, List, [], ◌∷◌, ◌++◌, length, refl, sym, ap, ◌∙◌, subst, arith, IsPrefix, Meaning, Call, Event, Reply, Story, with_event, AnswerView, IsAnswered}
use Rattle.nw_book.specs.Answer.{Takes}
use Rattle.nw_book.specs.Turn.{event}
use Rattle.nw_book.proofs.Answered.{answered}
use Rattle.nw_store.specs.Lock.{IsLocked, IsSession}
use Rattle.nw_store.proofs.Begun.{begun_answers, begun_known, known_logged}
use Rattle.nw_store.proofs.Kept.{kept_more, session_more, answer_is, logged_last}

module _ {accepts : Meaning} {asked : Call} {reply : Reply} {told h next lent : Story} {id number : ℕ} {kept : AnswerView}
    (t : Takes accepts h next id number asked reply told) (kept_is : kept ≡ record { event = event id number asked reply; front = next }) (lent_is : lent ≡ kept.front) where
  front : kept.front ≡ next
  front = ap (λ (a : AnswerView). a.front) kept_is

  event_is : kept.event ≡ event id number asked reply
  event_is = ap (λ (a : AnswerView). a.event) kept_is

  module _ {made total more spare idle : ℕ} {log owner : List Story} (lock : IsLocked accepts (record { history = h; made = made }) total spare idle log) (counted : more ≡ total + 1) (logged : owner ≡ log ++ lent ∷ []) where
    pub lock_after : IsLocked accepts (record { history = next; made = made }) more spare idle owner
    lock_after = kept_more accepts _ _ _ _ _ _ _ _ _ _ _ lock t.history t.legal (lent_is ∙ front) counted logged

    module _ {parts amount : ℕ} {known longer : List Story} {answers room after : List AnswerView} (session : IsSession parts amount (record { id = id; answers = answers; known = known }))
        (begins : IsPrefix known owner) (known_is : longer ≡ owner) (items : after ≡ room ++ kept ∷ []) (room_is : room ≡ answers) (number_is : number ≡ length answers + 1) where
      all_items : after ≡ answers ++ kept ∷ []
      all_items = items ∙ ap (λ (l : List AnswerView). l ++ kept ∷ []) room_is

      longer_begins : IsPrefix known longer
      longer_begins = subst (λ l. IsPrefix known l) (sym known_is) begins

      pub session_after : {same greater : ℕ} → same ≡ parts → greater ≡ amount + 1 → IsSession same greater (record { id = id; answers = after; known = longer })
      session_after part one =
          let next_number : number ≡ 1 + length answers = omega (arith, number_is) in
          session_more id _ _ _ _ _ _ _ _ _ session part one longer_begins (logged_last _ _ _ _ _ logged known_is (sym lent_is)) all_items
          (answer_is id _ h kept.front (event id number asked reply) kept (front ∙ t.history) refl next_number refl event_is)

      pub answered_after : IsAnswered accepts h (record { id = id; answers = answers; known = known }) (record { id = id; answers = after; known = longer }) asked reply told
      answered_after = answered accepts h next id number asked reply told answers after known longer kept t number_is
          (begun_answers next owner known answers lock_after.begun begins session.answers_known) all_items (front ∙ sym t.front_is) event_is
          (begun_known next owner known lock_after.begun begins) (logged_last _ _ _ _ _ logged known_is (t.front_is ∙ sym (lent_is ∙ front))) (known_logged known longer longer_begins)
