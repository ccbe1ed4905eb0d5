-- The rest of a list after `retain` with a closure.
use Rattle.nw_dag.proofs.Words.{◌≡◌, ◌↔◌, Bool, true, false, List, [], ◌∷◌, length, refl, subst, sym, arith, inl, inr, false≢true, Contains, contains_cases, contains_first, contains_later, contains_none}
use Rattle.std.specs.List.{items_where_true}
use Rattle.std.specs.List.Retain.{ReturnsInTurn, IsFiltered}

module _ {X F : Type 0} (R : F → X → Bool → F → Type 0) (P : X → Type 0) (f : F) (h : (x : X) (b : Bool) (g : F) → R f x b g → ((b ≡ true) ↔ P x) × (g ≡ f)) where
  told : (bs : List Bool) (xs : List X) (q : F) → length bs ≡ length xs → ReturnsInTurn R f bs xs q → (x : X) → Contains (items_where_true bs xs) x ↔ (Contains xs x × P x)
  told [] [] q e t x = (λ none. absurd (contains_none x none), λ both. absurd (contains_none x both.0))
  told [] (y ∷ ys) q e t x = absurd (omega (arith, e))
  told (b ∷ bs) [] q e t x = absurd t
  told (b ∷ bs) (y ∷ ys) q e t x =
      let one = h y b t.0 t.1 in
      by b one.0 (told bs ys q (omega (arith, e)) (subst (λ (g : F). ReturnsInTurn R g bs ys q) one.1 t.2) x)
    where
      by : (c : Bool) → ((c ≡ true) ↔ P y) → (Contains (items_where_true bs ys) x ↔ (Contains ys x × P x)) → Contains (items_where_true (c ∷ bs) (y ∷ ys)) x ↔ (Contains (y ∷ ys) x × P x)
      by true is rest = (
        λ among. elim (contains_cases y (items_where_true bs ys) x among) [
          | inl same ↦ (subst (Contains (y ∷ ys)) same (contains_first y ys), subst P same (is.0 refl))
          | inr later ↦ let both = rest.0 later in (contains_later y ys x both.0, both.1)
        ],
        λ both. elim (contains_cases y ys x both.0) [
          | inl same ↦ subst (Contains (y ∷ items_where_true bs ys)) same (contains_first y (items_where_true bs ys))
          | inr later ↦ contains_later y (items_where_true bs ys) x (rest.1 (later, both.1))
        ],
      )
      by false is rest = (
        λ among. let both = rest.0 among in (contains_later y ys x both.0, both.1),
        λ both. elim (contains_cases y ys x both.0) [
          | inl same ↦ absurd (false≢true (is.1 (subst P (sym same) both.1)))
          | inr later ↦ rest.1 (later, both.1)
        ],
      )

  -- exactly the digests with P are left
  pub retained : (xs ys : List X) → IsFiltered R f xs ys → (x : X) → Contains ys x ↔ (Contains xs x × P x)
  retained xs ys k x =
      let all = told k.0 xs k.1 k.2 k.3 x in (
        λ among. all.0 (subst (λ (l : List X). Contains l x) k.4 among),
        λ both. subst (λ (l : List X). Contains l x) (sym k.4) (all.1 both),
      )
