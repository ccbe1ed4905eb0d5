-- Legal histories from one base: equal calls make equal events.
use Rattle.std.proofs.Common.{◌≡◌, ℕ, zero, suc, ◌+◌, ◌<◌, ◌≤◌, Bool, true, false, List, [], ◌∷◌, ◌++◌, length, Some, refl, ap, sym, ◌∙◌, subst, arith, length-append}
use Rattle.std.specs.Prelude.{◌==◌, slice_get}
use Rattle.std.proofs.lemmas.Bool.{eqb-true, eqb-false}
use mathlib.Core.List.{IsPrefix}
use Rattle.nw_model.specs.State.{State}
use Rattle.nw_model.specs.Step.{Bounds, AreSameReply, IsReply, HasNoList, after, recorded}
use Rattle.nw_model.specs.History.{AreReplies}
use Rattle.nw_model.specs.declared.event.Event.{Event}
use Rattle.nw_model.specs.declared.reply.Reply.{Reply}
use Rattle.nw_model.specs.declared.reply.Reply.TheVariants as reply
use Rattle.nw_model.proofs.OneReply.{one_reply}
use Rattle.nw_history.specs.Prefix.{AreAlike}

-- both lists have an event at this place, with the same session, number and call
abbrev pub AlikeAt : List Event → List Event → ℕ → Type 0
AlikeAt es fs k = AreAlike (slice_get es k) (slice_get fs k)

-- both lists have such events at each place before this one
abbrev pub AlikeBelow : List Event → List Event → ℕ → Type 0
AlikeBelow es fs n = (k : ℕ) → k < n → AlikeAt es fs k

short_stays : (r : Reply) → HasNoList r → recorded r ≡ r
short_stays (reply.List blocks) h = absurd h
short_stays other h = refl

same_short : (one other : Reply) → HasNoList one → HasNoList other → AreSameReply one other → one ≡ other
same_short one other short brief are = sym (short_stays one short) ∙ are.short ∙ short_stays other brief

same_event : (b : Bounds) (s : State) (e f : Event) → IsReply b s e.call e.reply → HasNoList e.reply → IsReply b s f.call f.reply → HasNoList f.reply → AreAlike (Some e) (Some f) → e ≡ f
same_event b s e f is short was brief alike =
    let at : IsReply b s e.call f.reply = subst (λ c. IsReply b s c f.reply) (sym alike.2) was in
    let replies : e.reply ≡ f.reply = same_short e.reply f.reply short brief (one_reply b s e.call e.reply f.reply is at) in
    λ i. record { session = alike.0 i; number = alike.1 i; call = alike.2 i; reply = replies i }

-- if both lists have such events at each place of the first list, the second begins with the first
pub begun : (b : Bounds) (s : State) (es fs : List Event) → AreReplies b s es → AreReplies b s fs → AlikeBelow es fs (length es) → IsPrefix es fs
begun b s [] fs is was h = (fs, refl)
begun b s (e ∷ es) [] is was h = absurd (h zero (omega arith))
begun b s (e ∷ es) (f ∷ fs) is was h =
    let same : e ≡ f = same_event b s e f is.0 is.1 was.0 was.1 (h zero (omega arith)) in
    let rest = begun b (after b s e.call) es fs is.2 (subst (λ (x : Event). AreReplies b (after b s x.call) fs) (sym same) was.2) (λ k below. h (suc k) (omega arith)) in
    (rest.0, λ i. same i ∷ rest.1 i)

-- a list that begins with another one has such events at each place of it
pub alike : (es fs : List Event) (k : ℕ) → IsPrefix es fs → k < length es → AlikeAt es fs k
alike [] fs k p below = absurd (omega arith)
alike (e ∷ es) fs zero p below = subst (λ xs. AlikeAt (e ∷ es) xs zero) p.1 (refl, refl, refl)
alike (e ∷ es) fs (suc k) p below = subst (λ xs. AlikeAt (e ∷ es) xs (suc k)) p.1 (alike es (es ++ p.0) k (p.0, refl) (omega arith))

-- if the events at the next place are such events too, the lists have such events at one more place
pub alike_next : (es fs : List Event) (n : ℕ) → AlikeBelow es fs n → AlikeAt es fs n → AlikeBelow es fs (n + 1)
alike_next es fs n below here k h = by (k == n) refl
  where
    by : (r : Bool) → (k == n) ≡ r → AlikeAt es fs k
    by true is = let same : k ≡ n = eqb-true k n is in subst (λ j. AlikeAt es fs j) (sym same) here
    by false is = let other = eqb-false k n is in below k (omega (arith, other))

-- a prefix has at most as many events as the whole list
pub no_longer : (es fs : List Event) → IsPrefix es fs → length es ≤ length fs
no_longer es fs p = omega (arith, length-append es p.0, ap length p.1)
