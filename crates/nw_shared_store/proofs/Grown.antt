-- Journals, after the history has one more event.
use Rattle.nw_shared_store.proofs.Words.{◌≡◌, ◌≢◌, ℕ, suc, ◌<◌, Bool, cond, List, [], ◌∷◌, ◌++◌, length, map, refl, sym, ap, ◌∙◌, subst, arith, All, eq-eqb, ne_eqb, All-push, All-weaker, Event, Story, with_event, IsPrefixOf, AnswerView, Journal, IsJournalOf, prefix_itself, prefix_trans, prefix_next}
use Rattle.std.proofs.Common.{drop, append-nil}
use Rattle.nw_model.specs.History.{events_of}
use Rattle.nw_book.specs.Journal.{ArePrefixesOf}
use Rattle.nw_book.specs.Settled.{events_in}
use Rattle.nw_book.proofs.Longer.{events_of_last}
use Rattle.nw_shared_store.specs.Rule.{answered, new_journal}

drop_begun : (xs ys : List Event) → drop (length xs) (xs ++ ys) ≡ ys
drop_begun [] ys = refl
drop_begun (x ∷ xs) ys = drop_begun xs ys

-- the events of a session that made no call
none_of : (id : ℕ) (es : List Event) → All (λ (e : Event). e.session < id) es → events_of id es ≡ []
none_of id [] below = refl
none_of id (e ∷ es) below =
    let first : e.session < id = below 0 e (omega arith) in
    ap (λ (b : Bool). cond b (e ∷ events_of id es) (events_of id es)) (ne_eqb e.session id (λ is. omega arith)) ∙ none_of id es (λ k d lt. below (suc k) d (omega (arith, lt)))

events_in_last : (answers : List AnswerView) (a : AnswerView) → events_in (answers ++ a ∷ []) ≡ events_in answers ++ a.event ∷ []
events_in_last [] a = refl
events_in_last (x ∷ answers) a = ap (λ l. x.event ∷ l) (events_in_last answers a)

-- what `answered` gives after one more event
pub answered_one : (h : Story) (e : Event) (j : Journal) → answered h (with_event h e) j
    ≡ record { id = j.id; answers = j.answers ++ record { event = e; front = with_event h e } ∷ []; known = j.known ++ with_event h e ∷ [] }
answered_one h e j = ap (λ (new : List Event). record { id = j.id; answers = j.answers ++ map (λ (x : Event). record { event = x; front = with_event h e }) new; known = j.known ++ with_event h e ∷ [] }) (drop_begun h.events (e ∷ []))

begun_next : (h : Story) (e : Event) (answers : List AnswerView) → ArePrefixesOf h answers → ArePrefixesOf (with_event h e) answers
begun_next h e answers = All-weaker (λ (a : AnswerView). IsPrefixOf a.front h) (λ (a : AnswerView). IsPrefixOf a.front (with_event h e)) (λ a p. prefix_trans a.front h (with_event h e) p (prefix_next h (with_event h e) e refl)) answers

-- an event of the journal's own session, which is answered
pub part_own : (h : Story) (e : Event) (j : Journal) → e.session ≡ j.id → IsJournalOf h j.id j → IsJournalOf (with_event h e) j.id (answered h (with_event h e) j)
part_own h e j own part =
    let next = with_event h e in
    let a : AnswerView = record { event = e; front = next } in
    subst (IsJournalOf next j.id) (sym (answered_one h e j)) (record {
      id_is = refl;
      events = events_of_last j.id h.events e ∙ (ap (λ (b : Bool). events_of j.id h.events ++ cond b (e ∷ []) []) (eq-eqb e.session j.id own) ∙ (ap (λ l. l ++ e ∷ []) part.events ∙ sym (events_in_last j.answers a)));
      begun = All-push (λ (x : AnswerView). IsPrefixOf x.front next) j.answers a (begun_next h e j.answers part.begun) (prefix_itself next);
    })

-- an event of another session
pub events_other : (h : Story) (e : Event) (id : ℕ) → e.session ≢ id → events_of id (h.events ++ e ∷ []) ≡ events_of id h.events
events_other h e id apart = events_of_last id h.events e ∙ (ap (λ (b : Bool). events_of id h.events ++ cond b (e ∷ []) []) (ne_eqb e.session id apart) ∙ append-nil (events_of id h.events))

pub part_other : (h : Story) (e : Event) (j : Journal) → e.session ≢ j.id → IsJournalOf h j.id j → IsJournalOf (with_event h e) j.id j
part_other h e j apart part = record {
  id_is = refl;
  events = events_other h e j.id apart ∙ part.events;
  begun = begun_next h e j.answers part.begun;
}

-- a session that is made now
pub part_new : (h : Story) (id : ℕ) (known : List Story) → All (λ (e : Event). e.session < id) h.events → IsJournalOf h id (new_journal id known)
part_new h id known below = record { id_is = refl; events = none_of id h.events below; begun = λ k a lt. absurd (omega (arith, lt)) }
