-- Items dealt to shares in turns.
use Rattle.std.proofs.Common.{◌≡◌, ◌≢◌, ℕ, zero, suc, ◌+◌, ◌%◌, ◌<◌, inl, inr, List, [], ◌∷◌, length, drop, slice_index_or, slice_set, if◌then◌else◌, ◌==◌, sym, ◌∙◌, ap, subst, refl, arith}
use Rattle.std.specs.List.{AllZip}
use Rattle.std.specs.declared.collections.VecDeque.{VecDeque}
use Rattle.std.proofs.lemmas.List.{get_or-set_same, get_or-set_other, length-set}
use Rattle.std.proofs.lemmas.Nat.{mod_below}
use Rattle.std.proofs.lemmas.Bool.Decides.{eqb_tells}
use Rattle.nw_intake.specs.Answers.{turns_of, IsDealtFrom}
use Rattle.nw_intake.proofs.Turns.{own_turn, others_turn}

-- the items of the share at this place; none past the last share
abbrev pub items_at : {X A : Type 0} → List (VecDeque X A) → ℕ → List X
items_at [] k = []
items_at (s ∷ ss) zero = s.items
items_at (s ∷ ss) (suc k) = items_at ss k

pub items_at_is : {X A : Type 0} (shares : List (VecDeque X A)) (k : ℕ) (d : VecDeque X A) → k < length shares → (slice_index_or shares k d).items ≡ items_at shares k
items_at_is [] k d within = absurd (omega arith)
items_at_is (s ∷ ss) zero d within = refl
items_at_is (s ∷ ss) (suc k) d within = items_at_is ss k d (omega arith)

-- the rest of a list from a place within it begins with an item
pub left_of : {X : Type 0} (xs : List X) (place : ℕ) → place < length xs → (x : X) × (drop place xs ≡ x ∷ drop (suc place) xs)
left_of [] place low = absurd (omega arith)
left_of (x ∷ xs) zero low = (x, refl)
left_of (x ∷ xs) (suc p) low = left_of xs p (omega arith)

-- the next item is the first one of the share whose turn it is
pub next_dealt : {X A : Type 0} (number : ℕ) (x : X) (xs : List X) (shares : List (VecDeque X A)) (k : ℕ) (q : VecDeque X A) → k ≡ number % length shares → k < length shares → q ≡ slice_index_or shares k q → IsDealtFrom number (x ∷ xs) shares
    → (q.items ≡ x ∷ turns_of k (length shares) (number + 1) xs)
next_dealt number x xs shares k q turn within is dealt =
    ap (λ s. s.items) is ∙ (dealt k q within ∙ own_turn k (length shares) number x xs (sym turn))

-- after this item is removed from its share, the remaining items are dealt to the shares
pub rest_dealt : {X A : Type 0} (number : ℕ) (x : X) (xs : List X) (shares : List (VecDeque X A)) (k : ℕ) (r : VecDeque X A) → k ≡ number % length shares → k < length shares → IsDealtFrom number (x ∷ xs) shares
    → r.items ≡ turns_of k (length shares) (number + 1) xs → IsDealtFrom (number + 1) xs (slice_set shares k r)
rest_dealt number x xs shares k r turn within dealt rest w d low =
    let same = length-set shares k r in
    let low' : w < length shares = subst (λ n. w < n) same low in
    let goal : Type 0 = (slice_index_or (slice_set shares k r) w d).items ≡ turns_of w (length shares) (number + 1) xs in
    let done : goal = elim (eqb_tells w k) [
      | inl h ↦ subst (λ j. (slice_index_or (slice_set shares k r) j d).items ≡ turns_of j (length shares) (number + 1) xs) (sym h.1) (ap (λ s. s.items) (get_or-set_same shares k r d within) ∙ rest)
      | inr h ↦
          let apart : number % length shares ≢ w = λ e. h.1 (sym e ∙ sym turn) in
          ap (λ s. s.items) (get_or-set_other shares k w r d h.1) ∙ (dealt w d low' ∙ others_turn w (length shares) number x xs apart)
    ] in
    subst (λ n. (slice_index_or (slice_set shares k r) w d).items ≡ turns_of w n (number + 1) xs) (sym same) done

module _ {X Y : Type 0} (R : X → Y → Type 0) where
  pub zip_nil : (ys : List Y) → AllZip R [] ys → ys ≡ []
  zip_nil [] h = refl
  zip_nil (y ∷ ys) h = absurd h

  record Split (x : X) (xs : List X) (ys : List Y) : Type 0 where
    pub first : Y
    pub rest : List Y
    pub is : ys ≡ first ∷ rest
    pub fits : R x first
    pub fit : AllZip R xs rest

  zip_cons : (x : X) (xs : List X) (ys : List Y) → AllZip R (x ∷ xs) ys → Split x xs ys
  zip_cons x xs [] h = absurd h
  zip_cons x xs (y ∷ ys) h = record { first = y; rest = ys; is = refl; fits = h.0; fit = h.1 }

  pub zip_length : (xs : List X) (ys : List Y) → AllZip R xs ys → length ys ≡ length xs
  zip_length [] [] h = refl
  zip_length [] (y ∷ ys) h = absurd h
  zip_length (x ∷ xs) [] h = absurd h
  zip_length (x ∷ xs) (y ∷ ys) h = let e = zip_length xs ys h.1 in omega arith

  -- one list that fits all items, and whose turns are these lists
  pub record Whole (workers number : ℕ) (items : List X) (lists : ℕ → List Y) : Type 0 where
    pub whole : List Y
    pub fits : AllZip R items whole
    pub dealt : (k : ℕ) → k < workers → lists k ≡ turns_of k workers number whole

  -- if lists fit the turns of the items, they are the turns of one list that fits all items
  pub dealt_back : (workers : ℕ) → 0 < workers → (items : List X) (number : ℕ) (lists : ℕ → List Y) → ((k : ℕ) → k < workers → AllZip R (turns_of k workers number items) (lists k)) → Whole workers number items lists
  dealt_back workers some [] number lists each = record { whole = []; fits = tt; dealt = λ k low. zip_nil (lists k) (each k low) }
  dealt_back workers some (x ∷ xs) number lists each =
      let turn = number % workers in
      let low = mod_below number workers some in
      let s : Split x (turns_of turn workers (number + 1) xs) (lists turn) = zip_cons x _ _ (subst (λ ls. AllZip R ls (lists turn)) (own_turn turn workers number x xs refl) (each turn low)) in
      let left : ℕ → List Y = λ k. if k == turn then s.rest else lists k in
      let fit : (k : ℕ) → k < workers → AllZip R (turns_of k workers (number + 1) xs) (left k) = λ k within. elim (eqb_tells k turn) [
        | inl h ↦ subst (AllZip R (turns_of k workers (number + 1) xs)) (sym (ap (λ b. if b then s.rest else lists k) h.0)) (subst (λ j. AllZip R (turns_of j workers (number + 1) xs) s.rest) (sym h.1) s.fit)
        | inr h ↦
            let apart : turn ≢ k = λ e. h.1 (sym e) in
            subst (AllZip R (turns_of k workers (number + 1) xs)) (sym (ap (λ b. if b then s.rest else lists k) h.0)) (subst (λ ls. AllZip R ls (lists k)) (others_turn k workers number x xs apart) (each k within))
      ] in
      let rest : Whole workers (number + 1) xs left = dealt_back workers some xs (number + 1) left fit in
      record {
        whole = s.first ∷ rest.whole;
        fits = (s.fits, rest.fits);
        dealt = λ k within. elim (eqb_tells k turn) [
          | inl h ↦
              ap lists h.1 ∙ (s.is ∙ (ap (λ ys. s.first ∷ ys) (sym (ap (λ b. if b then s.rest else lists k) h.0) ∙ rest.dealt k within) ∙ sym (own_turn k workers number s.first rest.whole (sym h.1))))
          | inr h ↦
              let apart : turn ≢ k = λ e. h.1 (sym e) in
              sym (ap (λ b. if b then s.rest else lists k) h.0) ∙ (rest.dealt k within ∙ sym (others_turn k workers number s.first rest.whole apart))
        ];
      }
