-- An owner's seat is cut in two, which keeps the rule of the lock.
use Rattle.nw_shared_store.proofs.Words.{◌≡◌, ◌≢◌, ◌≤◌, ℕ, State, false, Option, Some, None, refl, sym, ap, ◌∙◌, subst, inl, inr, ⊎_elim, arith, slice_set, false≢true, some, get_elem?, at_set, at_snoc, Meaning, Story}
use Rattle.atomic_table.specs.Table.{Splits}
use Rattle.nw_shared_store.specs.Locked.{Current}
use Rattle.nw_shared_store.specs.Rule.{SeatView, FitsValue, IsOneHistory, Knows, freed, made_in, with_right}
use Rattle.nw_shared_store.specs.declared.knowledge.Right.{Right}
use Rattle.nw_shared_store.proofs.Fitting.{IsHome, IsOut, fits_set, with_holds}

-- a seat is cut into two that fit what it fits. The second has not the lock
pub splits : (accepts : Meaning) (first : Story) (id : ℕ) (v left right : SeatView) → left.holds ≡ v.holds → right.holds ≡ None
    → ((s : State Current SeatView) (h : IsOneHistory accepts first s) → FitsValue accepts h.0 h.1 h.3 h.2 id v → FitsValue accepts h.0 h.1 h.3 h.2 id left × ((by : ℕ) → FitsValue accepts h.0 h.1 h.3 h.2 by right))
    → Splits (IsOneHistory accepts first) id v left right
splits accepts first id v left right keeps free fit s h at =
    let both = fit s h (h.6 id v at) in (
      h.0,
      h.1,
      h.2,
      h.3,
      h.4,
      ⊎_elim
          (λ (x : IsHome h.2 s). inl (
            x.0,
            x.1,
            (λ by u e. ⊎_elim
                (λ (there : get_elem? (slice_set s.views id left) by ≡ some u). ⊎_elim
                (λ (y : (by ≡ id) × (left ≡ u)). ap (λ (k : SeatView). k.holds) (sym y.1) ∙ (keeps ∙ x.2 id v at))
                (λ (y : (by ≢ id) × (get_elem? s.views by ≡ some u)). x.2 by u y.1)
                (at_set s.views id by left u there))
                (λ (same : right ≡ u). ap (λ (k : SeatView). k.holds) (sym same) ∙ free)
                (at_snoc (slice_set s.views id left) right u by e)),
          ))
          (λ (x : IsOut s). inr x)
          h.5,
      (λ by u e. ⊎_elim
          (λ (there : get_elem? (slice_set s.views id left) by ≡ some u). fits_set accepts h.0 h.1 h.3 h.2 s.views id left (λ other w _ was. h.6 other w was) both.0 by u there)
          (λ (same : right ≡ u). subst (FitsValue accepts h.0 h.1 h.3 h.2 by) same (both.1 by))
          (at_snoc (slice_set s.views id left) right u by e)),
    )

-- what fits one right fits another, and a seat without a session or the lock
pub cuts : (accepts : Meaning) (first : Story) (id : ℕ) (v : SeatView) (r t : Right) → v.acts ≡ false
    → ((now : Current) → Knows accepts now v → ((g : Current) → v.holds ≡ Some g → g ≡ now) → (r.known ≤ now.made) × (t.known ≤ now.made)) → Splits (IsOneHistory accepts first) id v (with_right v r) (freed (with_right v t))
cuts accepts first id v r t idle count =
    splits accepts first id v (with_right v r) (freed (with_right v t)) refl refl
    (λ s h mine. let counts = count h.2 mine.knows (λ g is. (mine.holds g is).1) in (
      record { holds = mine.holds; owns = mine.owns; knows = with_holds accepts h.2 v v.holds r counts.0 mine.knows; same = mine.same },
      (λ by. record {
        holds = λ x has. absurd (cc (has));
        owns = λ acts. absurd (false≢true (sym idle ∙ acts));
        knows = with_holds accepts h.2 v None t counts.1 mine.knows;
        same = mine.same;
      }),
    ))

-- the holder of the lock knows the number of sessions made
pub made_below : (now : Current) (o : Option Current) → ((g : Current) → o ≡ Some g → g ≡ now) → made_in o ≤ now.made
made_below now None is = omega arith
made_below now (Some g) is = let one : g.made ≡ now.made = ap (λ (x : Current). x.made) (is g refl) in omega arith
