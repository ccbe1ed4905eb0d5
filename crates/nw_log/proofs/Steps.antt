-- Each step keeps the rule of the log.
use Rattle.std.proofs.Common.{◌≡◌, ◌≢◌, ℕ, zero, suc, List, [], ◌∷◌, ◌++◌, ◌<◌, true, false, true≢false, refl, sym, ap, ◌∙◌, subst, ⊎_elim, append_assoc, arith}
use Rattle.std.specs.Prelude.{slice_set}
use mathlib.Core.Option.{some, none, some-ne-none, some-injective}
use mathlib.Core.List.{IsPrefix}
use lib.ListN.{get_elem?}
use Rattle.atomic_table.specs.Table.{keeps, Allows, Splits, Joins, Me, step, opening}
use Rattle.atomic_table.specs.declared.shared.Seat.{Seat}
use Rattle.atomic_table.proofs.Lists.{at_set, at_snoc, set_again}
use Rattle.nw_log.specs.declared.rule.Knowledge.{Knowledge}
use Rattle.nw_log.specs.Log.{LogId, owner_knows, prefix_knows, knows_nothing, FitsLog, IsOneLog, known_of, with_known, Appended, Checked, IsOwnerOf, IsKnownPrefixOf}

off : false ≡ true → ⊥
off e = true≢false (sym e)

module _ {E : Type 0} where
  begins_longer : (xs ys zs : List E) → IsPrefix xs ys → IsPrefix xs (ys ++ zs)
  begins_longer xs ys zs p = (p.0 ++ zs, sym (append_assoc xs p.0 zs) ∙ ap (λ l. l ++ zs) p.1)

  begins_itself : (xs : List E) → IsPrefix xs xs
  begins_itself [] = ([], refl)
  begins_itself (x ∷ xs) = let r = begins_itself xs in (r.0, ap (λ l. x ∷ l) r.1)

  -- if one seat's new knowledge fits the log, the knowledge of all seats still fits it
  fits_set : (seat : ℕ) (log : List E) (views : List (Knowledge E)) (by : ℕ) (w : Knowledge E)
      → ((j : ℕ) (u : Knowledge E) → j ≢ by → get_elem? views j ≡ some u → FitsLog seat log j u) → FitsLog seat log by w
      → (j : ℕ) (u : Knowledge E) → get_elem? (slice_set views by w) j ≡ some u → FitsLog seat log j u
  fits_set seat log views by w others mine j u e =
      ⊎_elim
      (λ (x : (j ≡ by) × (w ≡ u)). subst (λ (y : ℕ × Knowledge E). FitsLog seat log y.0 y.1) (λ i. (sym x.0 i, x.1 i)) mine)
      (λ (x : (j ≢ by) × (get_elem? views j ≡ some u)). others j u x.0 x.1)
      (at_set views by j w u e)

  appends : (slots id : ℕ) (all : List E) (e : E)
      → Allows IsOneLog slots id (owner_knows all, []) 0 (λ n. n) (Appended (step slots 0 0 0 (some e)) (owner_knows all, []))
  appends slots id all e s h same at fits =
      let mine = (h.2 id (owner_knows all) at).0 refl in
      let w = owner_knows (all ++ e ∷ []) in
      let log = h.1 ++ e ∷ [] in (
        w,
        keeps,
        tt,
        (
          h.0,
          log,
          fits_set h.0 log s.views id w
              (λ j u apart there. ((λ k. absurd (apart (((h.2 j u there).0 k).0 ∙ sym mine.0))), (λ c. begins_longer u.known h.1 (e ∷ []) ((h.2 j u there).1 c))))
              ((λ _. (mine.0, ap (λ l. l ++ e ∷ []) mine.1)), (λ c. absurd (off c))),
        ),
        refl,
      )

  -- the whole log is a prefix of itself
  new_fits : (seat : ℕ) (log : List E) (j : ℕ) (all : List E) → all ≡ log → FitsLog seat log j (prefix_knows all)
  new_fits seat log j all same = ((λ k. absurd (off k)), (λ _. subst (λ l. IsPrefix all l) same (begins_itself all)))

  splits : (id : ℕ) (all : List E) → Splits IsOneLog id (owner_knows all) (owner_knows all) (known_of (owner_knows all))
  splits id all s h at =
      let mine = (h.2 id (owner_knows all) at).0 refl in (
        h.0,
        h.1,
        λ j u there. ⊎_elim
            (λ was. h.2 j u (subst (λ l. get_elem? l j ≡ some u) (set_again s.views id (owner_knows all) at) was))
            (λ (same : prefix_knows all ≡ u). subst (FitsLog h.0 h.1 j) same (new_fits h.0 h.1 j all mine.1))
            (at_snoc (slice_set s.views id (owner_knows all)) (prefix_knows all) u j there),
      )

  -- a copy of a known prefix is the same prefix
  copies : (id : ℕ) (known : List E) → Splits IsOneLog id (prefix_knows known) (prefix_knows known) (prefix_knows known)
  copies id known s h at =
      let mine = h.2 id (prefix_knows known) at in (
        h.0,
        h.1,
        λ j u there. ⊎_elim
            (λ was. h.2 j u (subst (λ l. get_elem? l j ≡ some u) (set_again s.views id (prefix_knows known) at) was))
            (λ (same : prefix_knows known ≡ u). subst (FitsLog h.0 h.1 j) same ((λ k. absurd (off k)), mine.1))
            (at_snoc (slice_set s.views id (prefix_knows known)) (prefix_knows known) u j there),
      )

  joins : (id : ℕ) (all : List E) (other : ℕ) (known : List E) → Joins IsOneLog id (owner_knows all) other (prefix_knows known) (with_known (owner_knows all) (prefix_knows known)) knows_nothing
  joins id all other known s h at apart there =
      let w = with_known (owner_knows all) (prefix_knows known) in
      let mine = (h.2 id (owner_knows all) at).0 refl in
      let theirs : FitsLog h.0 h.1 other (prefix_knows known) = ⊎_elim (λ (t : (other ≡ id) × (w ≡ prefix_knows known)). absurd (apart t.0)) (λ (t : (other ≢ id) × (get_elem? s.views other ≡ some (prefix_knows known))). h.2 other (prefix_knows known) t.1) (at_set s.views id other w (prefix_knows known) there) in
      (h.0, h.1, fits_set h.0 h.1 (slice_set s.views id w) other knows_nothing (λ j v _ e. fits_set h.0 h.1 s.views id w (λ i y _ e'. h.2 i y e') ((λ _. mine), theirs.1) j v e) ((λ k. absurd (off k)), (λ c. absurd (off c))))

  checks : (slots id : ℕ) (all known : List E) → let v = with_known (owner_knows all) (prefix_knows known) in
      Allows IsOneLog slots id (v, []) 0 (λ n. n) (Checked (step slots 0 0 0 none) (v, []))
  checks slots id all known s h same at fits =
      let v = with_known (owner_knows all) (prefix_knows known) in
      let mine = h.2 id v at in
      let whole = mine.0 refl in
      let w = owner_knows all in (
        w,
        keeps,
        tt,
        (h.0, h.1, fits_set h.0 h.1 s.views id w (λ j u apart e. h.2 j u e) ((λ _. whole), (λ c. absurd (off c)))),
        (refl, λ c. subst (λ l. IsPrefix known l) (sym whole.1) (mine.1 refl)),
      )

-- the preconditions of each step, for the owner at its table
module _ {E : Type 0} (table log : LogId) (named : table ≡ log) (seat : Seat E (Knowledge E)) (owner : IsOwnerOf log seat) where
  at_table : seat.table_id ≡ table
  at_table = owner.at_log ∙ sym named

  has_word : 0 < table.words
  has_word = subst (λ n. 0 < n) (sym (ap (λ (t : LogId). t.words) named ∙ owner.one_word)) (omega arith)

  pub may_append : (event : E) → (seat.table_id ≡ table) × (0 < table.words) × Allows IsOneLog table.slots seat.id seat.me 0 (λ n. n) (Appended (step table.slots 0 0 0 (some event)) seat.me)
  may_append event = (at_table, has_word, subst (λ (me : Me E (Knowledge E)). Allows IsOneLog table.slots seat.id me 0 (λ n. n) (Appended (step table.slots 0 0 0 (some event)) me)) (sym owner.knows) (appends table.slots seat.id seat.me.0.all event))

  pub may_know : (seat.table_id ≡ table) × (0 < table.words) × Splits IsOneLog seat.id seat.me.0 seat.me.0 (known_of seat.me.0)
  may_know = (at_table, has_word, subst (λ (v : Knowledge E). Splits IsOneLog seat.id v v (known_of v)) (sym (ap (λ (me : Me E (Knowledge E)). me.0) owner.knows)) (splits seat.id seat.me.0.all))

  module _ (other : Seat E (Knowledge E)) (prefix : IsKnownPrefixOf log other) where
    pub may_show : (seat.table_id ≡ table) × (other.table_id ≡ table) × (other.me.1 ≡ []) × (0 < table.words) × Joins IsOneLog seat.id seat.me.0 other.id other.me.0 (with_known seat.me.0 other.me.0) knows_nothing
    may_show =
        let mine = seat.me.0.all in
        let theirs = other.me.0.known in (
          at_table,
          prefix.at_log ∙ sym named,
          ap (λ (me : Me E (Knowledge E)). me.1) prefix.knows,
          has_word,
          subst (λ (x : Knowledge E × Knowledge E). Joins IsOneLog seat.id x.0 other.id x.1 (with_known x.0 x.1) knows_nothing) (λ i. ((sym owner.knows i).0, (sym prefix.knows i).0)) (joins seat.id mine other.id theirs),
        )

    pub may_copy : (other.table_id ≡ table) × (0 < table.words) × Splits IsOneLog other.id other.me.0 other.me.0 other.me.0
    may_copy = (prefix.at_log ∙ sym named, has_word, subst (λ (v : Knowledge E). Splits IsOneLog other.id v v v) (sym (ap (λ (me : Me E (Knowledge E)). me.0) prefix.knows)) (copies other.id other.me.0.known))

    -- the owner's seat after a known prefix was shown to it
    pub may_check : (after : Seat E (Knowledge E)) → after.table_id ≡ seat.table_id → after.me ≡ (with_known seat.me.0 other.me.0, seat.me.1)
        → (after.table_id ≡ table) × (0 < table.words) × Allows IsOneLog table.slots after.id after.me 0 (λ n. n) (Checked (step table.slots 0 0 0 none) after.me)
    may_check after same me =
        let both : after.me ≡ (with_known (owner_knows seat.me.0.all) (prefix_knows other.me.0.known), []) = me ∙ (λ i. (with_known (owner.knows i).0 (prefix.knows i).0, (owner.knows i).1)) in (
          same ∙ at_table,
          has_word,
          subst (λ (x : Me E (Knowledge E)). Allows IsOneLog table.slots after.id x 0 (λ n. n) (Checked (step table.slots 0 0 0 none) x)) (sym both) (checks table.slots after.id seat.me.0.all other.me.0.known),
        )

-- a new log is empty, and its only seat knows it
pub opens : (E : Type 0) → IsOneLog {E = E} (opening [] [] (owner_knows []))
opens E = (0, [], one)
  where
    one : (by : ℕ) (v : Knowledge E) → get_elem? (owner_knows [] ∷ []) by ≡ some v → FitsLog 0 [] by v
    one zero v e = subst (FitsLog 0 [] 0) (some-injective _ _ e) ((λ _. (refl, refl)), (λ c. absurd (off c)))
    one (suc by) v e = absurd (some-ne-none v (sym e))
