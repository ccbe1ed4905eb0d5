-- The invariants of the lock and of a session, after one more answer.
use Rattle.nw_store.proofs.Words.{◌≡◌, ℕ, ◌+◌, ◌<◌, ◌≤◌, List, [], ◌∷◌, ◌++◌, length, sym, ap, ◌∙◌, subst, arith, All, Contains, All-push, IsPrefix, Meaning, Event, Story, Origin, with_event, IsPrefixOf, AnswerView, Journal}
use Rattle.std.proofs.Common.{length-append}
use Rattle.std.proofs.lemmas.List.Elements.{Contains-push}
use Rattle.nw_history.specs.Limits.{AreInRange}
use Rattle.nw_history.specs.Story.{IsLegalStory}
use Rattle.nw_book.specs.Journal.{origin_of}
use Rattle.nw_store.specs.Lock.{AnswersCall, AreAnswers, AreAmong, IsLocked, IsSession}
use Rattle.nw_store.proofs.Begun.{among_longer, log_more, answers_last}

pub kept_more : (accepts : Meaning) (h next front : Story) (made total more spare idle : ℕ) (log longer : List Story) (e : Event)
    → IsLocked accepts (record { history = h; made = made }) total spare idle log
    → next ≡ with_event h e → IsLegalStory accepts next → front ≡ next → more ≡ total + 1 → longer ≡ log ++ front ∷ []
    → IsLocked accepts (record { history = next; made = made }) more spare idle longer
kept_more accepts h next front made total more spare idle log longer e kept is legal front_is one adds = record {
  in_range = subst (λ (s : Story). AreInRange s.limits) (sym is) kept.in_range;
  legal = legal;
  few = subst (λ (s : Story). made ≤ s.limits.sessions) (sym is) kept.few;
  shared = kept.shared;
  unused = kept.unused;
  counted = one ∙ (ap (λ n. n + 1) kept.counted ∙ sym (ap (λ (s : Story). length s.events) is ∙ length-append h.events (e ∷ [])));
  begun = subst (λ (l : List Story). All (λ f. IsPrefixOf f next) l) (sym (adds ∙ ap (λ (f : Story). log ++ f ∷ []) front_is)) (log_more h next e log is kept.begun);
}

-- a history with one more event has the same origin
pub starts_so : (h next : Story) (e : Event) (o : Origin) → next ≡ with_event h e → origin_of h ≡ o → origin_of next ≡ o
starts_so h next e o is starts = ap origin_of is ∙ starts

-- the session with one more answer, whose front is in its known prefix
pub session_more : (id parts same amount more : ℕ) (known longer : List Story) (answers after : List AnswerView) (a : AnswerView)
    → IsSession parts amount (record { id = id; answers = answers; known = known })
    → same ≡ parts → more ≡ amount + 1 → IsPrefix known longer → Contains longer a.front → after ≡ answers ++ a ∷ [] → AnswersCall id (1 + length answers) a
    → IsSession same more (record { id = id; answers = after; known = longer })
session_more id parts same amount more known longer answers after a s part one p among items is = record {
  id_below = s.id_below;
  part = part ∙ s.part;
  counted = one ∙ (ap (λ n. n + 1) s.counted ∙ sym (ap length items ∙ length-append answers (a ∷ [])));
  answers_known = subst (λ l. AreAmong longer l) (sym items) (All-push (λ (x : AnswerView). Contains longer x.front) answers a (among_longer known longer answers p s.answers_known) among);
  numbered = subst (λ l. AreAnswers id 1 l) (sym items) (answers_last id 1 answers a s.numbered is);
}

pub answer_is : (id number : ℕ) (h front : Story) (e : Event) (a : AnswerView) → front ≡ with_event h e → e.session ≡ id → e.number ≡ number → a.front ≡ front → a.event ≡ e → AnswersCall id number a
answer_is id number h front e a is session number_is same event = record {
  session = ap (λ (x : Event). x.session) event ∙ session;
  number_is = ap (λ (x : Event). x.number) event ∙ number_is;
  last = (h.events, ap (λ (s : Story). s.events) (same ∙ is) ∙ ap (λ (x : Event). h.events ++ x ∷ []) (sym event));
}

-- the whole log as a known prefix has its last front
pub logged_last : (log longer known : List Story) (front f : Story) → longer ≡ log ++ front ∷ [] → known ≡ longer → f ≡ front → Contains known f
logged_last log longer known front f adds is same = subst (λ l. Contains l f) (sym (is ∙ adds ∙ ap (λ (x : Story). log ++ x ∷ []) (sym same))) (Contains-push log f)

-- the session after its known prefix is renewed
pub session_renewed : (parts amount : ℕ) (log longer : List Story) (j : Journal) → IsSession parts amount j → IsPrefix j.known log → longer ≡ log
    → IsSession parts amount (record { id = j.id; answers = j.answers; known = longer })
session_renewed parts amount log longer j s p is = record {
  id_below = s.id_below;
  part = s.part;
  counted = s.counted;
  answers_known = subst (λ l. AreAmong l j.answers) (sym is) (among_longer j.known log j.answers p s.answers_known);
  numbered = s.numbered;
}

-- the lock after one more session is made, which has one of the spare parts
pub kept_made : (accepts : Meaning) (h : Story) (made total spare left idle none : ℕ) (log same : List Story) → IsLocked accepts (record { history = h; made = made }) total spare idle log
    → made < h.limits.sessions → left + 1 ≡ spare → none + 0 ≡ idle → same ≡ log → IsLocked accepts (record { history = h; made = made + 1 }) total left none same
kept_made accepts h made total spare left idle none log same kept room parts amount is =
    let shared = kept.shared in
    let unused = kept.unused in record {
      in_range = kept.in_range;
      legal = kept.legal;
      few = omega (arith, room);
      shared = omega (arith, shared, parts);
      unused = omega (arith, unused, amount);
      counted = kept.counted;
      begun = subst (λ (l : List Story). All (λ f. IsPrefixOf f h) l) (sym is) kept.begun;
    }
