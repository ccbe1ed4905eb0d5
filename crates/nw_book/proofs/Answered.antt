-- What an answer to a session means follows from the clauses of the book's step.
use Rattle.nw_book.proofs.Words.{◌≡◌, ℕ, ◌+◌, List, [], ◌∷◌, ◌++◌, length, refl, sym, ap, ◌∙◌, subst, Meaning, Call, Reply, Story, IsLegalStory, IsPrefixOf}
use Rattle.std.specs.List.{Contains}
use Rattle.nw_book.specs.Answer.{Takes, AnswerView}
use Rattle.nw_book.specs.Turn.{event}
use Rattle.nw_book.specs.Journal.{ArePrefixesOf, KnowsAll, with_answer}
use Rattle.nw_book.specs.Answered.{IsAnswered}

-- the session's journal after the answer was pushed
keeps_it : (id number : ℕ) (answers after : List AnswerView) (known later : List Story) (a : AnswerView) (asked : Call) (reply : Reply) (front : Story)
    → number ≡ length answers + 1 → after ≡ answers ++ a ∷ [] → a.front ≡ front → a.event ≡ event id number asked reply
    → record { id = id; answers = after; known = later } ≡ with_answer (record { id = id; answers = answers; known = known }) (event id (length answers + 1) asked reply) front later
keeps_it id number answers after known later a asked reply front next items same is =
    let pushed : a ≡ record { event = event id (length answers + 1) asked reply; front = front } = λ i. record { event = (is ∙ ap (λ n. event id n asked reply) next) i; front = same i } in
    ap (λ (l : List AnswerView). record { id = id; answers = l; known = later }) (items ∙ ap (λ (x : AnswerView). answers ++ x ∷ []) pushed)

pub answered : (accepts : Meaning) (h next : Story) (id number : ℕ) (asked : Call) (reply : Reply) (front : Story) (answers after : List AnswerView) (known later : List Story) (a : AnswerView)
    → Takes accepts h next id number asked reply front → number ≡ length answers + 1 → ArePrefixesOf next answers → after ≡ answers ++ a ∷ [] → a.front ≡ front → a.event ≡ event id number asked reply
    → ((s : Story) → Contains known s → IsPrefixOf s next) → Contains later front → KnowsAll later known
    → IsAnswered accepts h (record { id = id; answers = answers; known = known }) (record { id = id; answers = after; known = later }) asked reply front
answered accepts h next id number asked reply front answers after known later a t is begins items same event_is heard knows knew = record {
  takes = subst (λ n. Takes accepts h front id n asked reply front) is (record {
    history = t.front_is ∙ t.history;
    is_reply = t.is_reply;
    front_is = refl;
    legal = subst (λ (s : Story). IsLegalStory accepts s) (sym t.front_is) t.legal;
  });
  begins = subst (λ (s : Story). ArePrefixesOf s answers) (sym t.front_is) begins;
  heard = λ s c. subst (λ (f : Story). IsPrefixOf s f) (sym t.front_is) (heard s c);
  keeps = keeps_it id number answers after known later a asked reply front is items same event_is;
  knows = knows;
  knew = knew;
}
