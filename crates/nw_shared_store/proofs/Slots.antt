-- Work on the value, which a seat has in its slot.
use Rattle.nw_shared_store.proofs.Words.{◌≡◌, ℕ, List, [], ◌∷◌, Option, Some, None, Result, Ok, Err, sym, ap, ◌∙◌, IfOk, IfErr, Me}
use Rattle.std.specs.Prelude.{IfNone, IfSome}
use Rattle.atomic_table.specs.Table.{rest}
use Rattle.nw_shared_store.specs.Locked.{Current}
use Rattle.nw_shared_store.specs.Rule.{SeatView, HasValue}

-- the value alone in the slot
abbrev pub out_at : Current → List (ℕ × Current)
out_at d = (0, d) ∷ []

abbrev pub second_of : List (ℕ × Current) → Current → Current
second_of [] g = g
second_of (x ∷ xs) g = x.1

-- the values in one slot are the same
pub one_value : (m : Me Current SeatView) (g n : Current) → m.1 ≡ (0, g) ∷ [] → m.1 ≡ (0, n) ∷ [] → g ≡ n
one_value m g n is also = ap (λ (l : List (ℕ × Current)). second_of l g) (sym is ∙ also)

-- the seat's slot, as `slot_mut` speaks of it
pub slot_of : (me : Me Current SeatView) (g : Current) → me.1 ≡ (0, g) ∷ [] → me.1 ≡ (0, g) ∷ rest me.1
slot_of me g is = is ∙ ap (λ (l : List (ℕ × Current)). (0, g) ∷ rest l) (sym is)

module _ (me : Me Current SeatView) (x g : Current) (lent : me.1 ≡ (0, x) ∷ rest me.1) (is : me.1 ≡ (0, g) ∷ []) where
  pub value_is : me.1 ≡ (0, x) ∷ []
  value_is = lent ∙ ap (λ (l : List (ℕ × Current)). (0, x) ∷ rest l) is

  both : {A : Type 0} (n : Current) (P : Current → Current → A → Type 0) (a : A) → P x n a → HasValue me (λ d. HasValue (me.0, (0, n) ∷ rest me.1) (λ e. P d e a))
  both n P a of = (x, value_is, (n, ap (λ (l : List (ℕ × Current)). (0, n) ∷ rest l) is, of))

  pub on_ok : {A E : Type 0} (n : Current) (P : Current → Current → A → Type 0) (r : Result A E) → IfOk r (P x n) → IfOk r (λ a. HasValue me (λ d. HasValue (me.0, (0, n) ∷ rest me.1) (λ e. P d e a)))
  on_ok n P (Ok a) of = both n P a of
  on_ok n P (Err e) of = tt

  pub on_some : {A : Type 0} (n : Current) (P : Current → Current → A → Type 0) (r : Option A) → IfSome r (P x n) → IfSome r (λ a. HasValue me (λ d. HasValue (me.0, (0, n) ∷ rest me.1) (λ e. P d e a)))
  on_some n P (Some a) of = both n P a of
  on_some n P None of = tt

  pub on_err : {A E : Type 0} (Q : Current → E → Type 0) (r : Result A E) → IfErr r (Q x) → IfErr r (λ e. HasValue me (λ d. Q d e))
  on_err Q (Ok a) of = tt
  on_err Q (Err e) of = (x, value_is, of)

  -- nothing changed
  pub on_same : {A E : Type 0} (Q : Current → A → Type 0) (r : Result A E) → IfOk r (Q x) → IfOk r (λ a. HasValue me (λ d. Q d a))
  on_same Q (Ok a) of = (x, value_is, of)
  on_same Q (Err e) of = tt

  -- so is one more fact
  pub on_also : {A E : Type 0} (P : Current → Type 0) (Q : Current → A → Type 0) (r : Result A E) → P x → IfOk r (Q x) → IfOk r (λ a. HasValue me (λ d. P d × Q d a))
  on_also P Q (Ok a) fact of = (x, value_is, (fact, of))
  on_also P Q (Err e) fact of = tt

  -- there is none
  pub on_none : {A : Type 0} (Q : Current → Type 0) (r : Option A) → IfNone r (Q x) → IfNone r (HasValue me Q)
  on_none Q (Some a) of = tt
  on_none Q None of = (x, value_is, of)
