-- Fronts that are prefixes of one history.
use Rattle.nw_store.proofs.Words.{◌≡◌, ℕ, ◌+◌, List, [], ◌∷◌, ◌++◌, length, subst, arith, All, Contains, All-push, IsPrefix, Event, Story, with_event, IsPrefixOf, AnswerView, ArePrefixesOf}
use Rattle.std.proofs.lemmas.List.Elements.{All-weaker, All-contains, Contains-append_left}
use Rattle.nw_store.specs.Lock.{AnswersCall, AreAnswers, AreAmong}
use Rattle.nw_book.proofs.Prefixes.{prefix_itself, prefix_trans, prefix_next}

pub among_longer : (known log : List Story) (answers : List AnswerView) → IsPrefix known log → AreAmong known answers → AreAmong log answers
among_longer known log answers p among =
    All-weaker (λ (a : AnswerView). Contains known a.front) (λ (a : AnswerView). Contains log a.front)
    (λ a c. subst (λ l. Contains l a.front) p.1 (Contains-append_left known p.0 a.front c)) answers among

-- if each front in the log is a prefix of the history, so is the front of each answer, since a known prefix of the log has it
pub begun_answers : (h : Story) (log known : List Story) (answers : List AnswerView) → All (λ f. IsPrefixOf f h) log → IsPrefix known log → AreAmong known answers → ArePrefixesOf h answers
begun_answers h log known answers begun p among =
    All-weaker (λ (a : AnswerView). Contains log a.front) (λ (a : AnswerView). IsPrefixOf a.front h)
    (λ a c. All-contains (λ (f : Story). IsPrefixOf f h) log a.front begun c) answers (among_longer known log answers p among)

-- each front in a known prefix is in the log
pub known_logged : (known log : List Story) → IsPrefix known log → (s : Story) → Contains known s → Contains log s
known_logged known log p s c = subst (λ l. Contains l s) p.1 (Contains-append_left known p.0 s c)

-- if each front in the log is a prefix of the history, so is each front in a known prefix of it
pub begun_known : (h : Story) (log known : List Story) → All (λ f. IsPrefixOf f h) log → IsPrefix known log → (s : Story) → Contains known s → IsPrefixOf s h
begun_known h log known begun p s c = All-contains (λ (f : Story). IsPrefixOf f h) log s begun (known_logged known log p s c)

-- the log gains the history with one more event: each front in the log is a prefix of this history
pub log_more : (h next : Story) (e : Event) (log : List Story) → next ≡ with_event h e → All (λ f. IsPrefixOf f h) log → All (λ f. IsPrefixOf f next) (log ++ next ∷ [])
log_more h next e log is begun =
    All-push (λ (f : Story). IsPrefixOf f next) log next
    (All-weaker (λ (f : Story). IsPrefixOf f h) (λ (f : Story). IsPrefixOf f next) (λ f p. prefix_trans f h next p (prefix_next h next e is)) log begun)
    (prefix_itself next)

pub answers_last : (id n : ℕ) (answers : List AnswerView) (a : AnswerView) → AreAnswers id n answers → AnswersCall id (n + length answers) a → AreAnswers id n (answers ++ a ∷ [])
answers_last id n [] a h is = (subst (λ k. AnswersCall id k a) (omega arith) is, tt)
answers_last id n (x ∷ others) a h is = (h.0, answers_last id (n + 1) others a h.1 (subst (λ k. AnswersCall id k a) (omega arith) is))
