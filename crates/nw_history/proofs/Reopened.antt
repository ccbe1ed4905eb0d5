-- Histories that start where another one ends.
use Rattle.std.proofs.Common.{◌≡◌, ◌+◌, ◌<◌, List, [], ◌∷◌, ◌++◌, refl, ap, sym, ◌∙◌, subst, arith}
use Rattle.std.proofs.lemmas.List.Elements.{All-nil, All-append}
use Rattle.nw_sig.specs.Signed.{Meaning}
use Rattle.nw_model.specs.State.{State, opening}
use Rattle.nw_model.specs.Step.{Bounds, after}
use Rattle.nw_model.specs.History.{AreReplies, IsAdmitted, IsBase, IsLegal, Terms, replay}
use Rattle.nw_model.specs.declared.event.Event.{Event}
use Rattle.nw_history.specs.Story.{Story, IsLegalStory, reopened, terms_of}

-- ---- two lists of events, one after the other

replay_both : (b : Bounds) (s : State) (es fs : List Event) → replay b s (es ++ fs) ≡ replay b (replay b s es) fs
replay_both b s [] fs = refl
replay_both b s (e ∷ es) fs = replay_both b (after b s e.call) es fs

replies_both : (b : Bounds) (s : State) (es fs : List Event) → AreReplies b s es → AreReplies b (replay b s es) fs → AreReplies b s (es ++ fs)
replies_both b s [] fs is was = was
replies_both b s (e ∷ es) fs is was = (is.0, is.1, replies_both b (after b s e.call) es fs is.2 was)

-- the state after a legal history is a base
pub based : (accepts : Meaning) (terms : Terms) (base : State) (es : List Event) → IsLegal accepts terms base es → IsBase accepts terms (replay terms.bounds base es)
based accepts terms base es h = record {
  earlier = h.based.earlier ++ es;
  replies = replies_both terms.bounds opening h.based.earlier es h.based.replies (subst (λ s. AreReplies terms.bounds s es) h.based.left h.replies);
  admitted = All-append (λ (e : Event). IsAdmitted accepts terms.committee e.call) h.based.earlier es h.based.admitted h.admitted;
  left = ap (λ s. replay terms.bounds s es) h.based.left ∙ sym (replay_both terms.bounds opening h.based.earlier es);
}

-- the history without events is legal from any base
pub none_legal : (accepts : Meaning) (terms : Terms) (base : State) → IsBase accepts terms base → IsLegal accepts terms base []
none_legal accepts terms base h = record {
  based = h;
  replies = tt;
  numbered = λ session. tt;
  sessions = All-nil (λ (e : Event). e.session < terms.sessions);
  short = omega arith;
  admitted = All-nil (λ (e : Event). IsAdmitted accepts terms.committee e.call);
}

-- a history that starts where a legal one ends is legal
pub reopened_legal : (accepts : Meaning) (s : Story) → IsLegalStory accepts s → IsLegalStory accepts (reopened s)
reopened_legal accepts s h = none_legal accepts (terms_of s) _ (based accepts (terms_of s) s.base s.events h)
