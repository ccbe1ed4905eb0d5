-- The two sets of pairs after each call.
use Rattle.nw_waiting.proofs.Words.{◌≡◌, ◌∙◌, Bool, true, false, cond, not, ◌&&◌, ◌||◌, List, [], ◌∷◌, refl, sym, ap, arith, subst, eq_by_cmp_equiv, contains, contains-insert, contains-retain, insert, same_set, IsStrictlySortedBy, eq_by_cmp, and_from, and_parts, Contains-from_any, list_any-from_Contains, Digest, digest_cmp, Wanted, wanted_cmp, digests_total, same_digest, one_wanted, wanted_total}
use Rattle.std.proofs.Common.{◌⊎◌, inl, inr}
use Rattle.std.specs.Prelude.{◌↔◌, IsTrue}
use Rattle.std.specs.FinSet.{contains-empty, empty}
use Rattle.std.proofs.lemmas.Bool.{false≢true}
use Rattle.nw_waiting.specs.Pairs.{AreMissing, AreWanted, Lacks, Pair, Pairs, pair_cmp, without_holder, without_wanted}
use Rattle.nw_waiting.specs.Parted.{AreSameForOthers, HaveHolders, IsMetForAll, Parted, is_one, parted}
use Rattle.nw_waiting.proofs.Orders.{pair_tied, pairs_apart, pairs_total}
use Rattle.nw_waiting.proofs.Relation.{contains_without_holder, contains_without_wanted}

pub at_unmet : (s : Pairs) (ks : List Wanted) (w : Wanted) (h : Digest) → contains (parted s ks).unmet (w, h) ≡ (contains s (w, h) && is_one ks w)
at_unmet s ks w h = contains-retain s (λ p. is_one ks p.0) (w, h) (λ x e. ap (λ (p : Pair). is_one ks p.0) (sym (pairs_apart (w, h) x e)))

-- any set with exactly the pairs of these parents is the set of unmet pairs
unmet_is : (s : Pairs) (ks : List Wanted) (t : Pairs) → ((w : Wanted) (h : Digest) → (contains s (w, h) && is_one ks w) ≡ contains t (w, h)) → (parted s ks).unmet ≡ t
unmet_is s ks t is = same_set pairs_total pairs_apart _ t (λ p. at_unmet s ks p.0 p.1 ∙ is p.0 p.1)

pub nothing_unmet : (ks : List Wanted) (s : Pairs) → s ≡ empty → (parted s ks).unmet ≡ empty
nothing_unmet ks s is = unmet_is s ks empty (λ w h. ap (λ t. contains t (w, h) && is_one ks w) is ∙ ap (λ b. b && is_one ks w) (contains-empty pair_cmp (w, h)) ∙ sym (contains-empty pair_cmp (w, h)))

module _ (s : Pairs) (ks : List Wanted) (held : HaveHolders s ks) where
  held_unmet : (w : Wanted) → is_one ks w ≡ true → (h : Digest) × Lacks (parted s ks).unmet h w
  held_unmet w is = ((held w is).0, at_unmet s ks w (held w is).0 ∙ and_from (contains s (w, (held w is).0)) (is_one ks w) (held w is).1 is)

  -- the unmet parents are the wanted parents of the unmet pairs
  pub unmet_wanted : IsStrictlySortedBy wanted_cmp ks → AreWanted (parted s ks).unmet ks
  unmet_wanted sorted = record {
    exactly = λ w. (
      (λ has. held_unmet w (list_any-from_Contains (eq_by_cmp_equiv wanted_total) w ks has)),
      (λ some. Contains-from_any one_wanted w ks (and_parts (contains s (w, some.0)) (is_one ks w) (sym (at_unmet s ks w some.0) ∙ some.1)).1),
    );
    ascending = sorted;
  }

-- ---- a parent is taken from those that are unmet
module _ (s t : Pairs) (ks ls : List Wanted) (wanted : Wanted) (took : (w : Wanted) → is_one ls w ≡ cond (eq_by_cmp wanted_cmp wanted w) false (is_one ks w))
    (keeps : (w : Wanted) (h : Digest) → eq_by_cmp wanted_cmp wanted w ≡ false → contains t (w, h) ≡ contains s (w, h)) where
  pub taken : (parted t ls).unmet ≡ without_wanted (parted s ks).unmet wanted
  taken = unmet_is t ls _ (λ w h.
      ap (λ b. contains t (w, h) && b) (took w) ∙ by (eq_by_cmp wanted_cmp wanted w) (contains t (w, h)) (contains s (w, h)) (is_one ks w) (keeps w h)
      ∙ ap (λ b. b && not (eq_by_cmp wanted_cmp wanted w)) (sym (at_unmet s ks w h)) ∙ contains_without_wanted (parted s ks).unmet wanted w h)
    where
      by : (b m n k : Bool) → (b ≡ false → m ≡ n) → (m && cond b false k) ≡ ((n && k) && not b)
      by b m n k is = grind arith

  pub held_taken : HaveHolders s ks → HaveHolders t ls
  held_taken held w is = by (eq_by_cmp wanted_cmp wanted w) refl (sym (took w) ∙ is)
    where
      by : (b : Bool) → eq_by_cmp wanted_cmp wanted w ≡ b → cond b false (is_one ks w) ≡ true → (h : Digest) × Lacks t h w
      by true e never = cc
      by false e one = ((held w one).0, keeps w (held w one).0 e ∙ (held w one).1)

pub others_stay : (s t : Pairs) (wanted : Wanted) → t ≡ without_wanted s wanted → (w : Wanted) (h : Digest) → eq_by_cmp wanted_cmp wanted w ≡ false → contains t (w, h) ≡ contains s (w, h)
others_stay s t wanted is w h other = ap (λ u. contains u (w, h)) is ∙ sym (contains_without_wanted s wanted w h) ∙ by (contains s (w, h)) (eq_by_cmp wanted_cmp wanted w) other
  where
    by : (m b : Bool) → b ≡ false → (m && not b) ≡ m
    by m b e = grind arith

-- ---- a parent is taken with all its pairs
module _ (s t : Pairs) (ks : List Wanted) (wanted : Wanted) (rest : t ≡ without_wanted s wanted) where
  pub satisfied : (parted t ks).unmet ≡ without_wanted (parted s ks).unmet wanted
  satisfied = unmet_is t ks _ (λ w h.
      ap (λ u. contains u (w, h) && is_one ks w) rest ∙ ap (λ b. b && is_one ks w) (sym (contains_without_wanted s wanted w h)) ∙ by (contains s (w, h)) (eq_by_cmp wanted_cmp wanted w) (is_one ks w)
      ∙ ap (λ b. b && not (eq_by_cmp wanted_cmp wanted w)) (sym (at_unmet s ks w h)) ∙ contains_without_wanted (parted s ks).unmet wanted w h)
    where
      by : (m b k : Bool) → ((m && not b) && k) ≡ ((m && k) && not b)
      by m b k = grind arith

  -- each unmet parent keeps its holders, if the one that is taken is met
  pub held_satisfied : IsMetForAll (parted s ks) wanted true → HaveHolders s ks → HaveHolders t ks
  held_satisfied met held w is = (h, by (eq_by_cmp wanted_cmp wanted w) refl)
    where
      h : Digest
      h = (held w is).0

      by : (b : Bool) → eq_by_cmp wanted_cmp wanted w ≡ b → Lacks t h w
      by true same = absurd (met h (subst (λ (x : Wanted). Lacks (parted s ks).unmet h x) (sym (one_wanted wanted w same)) (at_unmet s ks w h ∙ and_from (contains s (w, h)) (is_one ks w) (held w is).1 is)))
      by false other = others_stay s t wanted rest w h other ∙ (held w is).1

-- ---- one more pair
module _ (s t : Pairs) (ks : List Wanted) (wanted : Wanted) (holder : Digest) (added : t ≡ insert s (wanted, holder)) where
  at_insert : (u : Pairs) (w : Wanted) (h : Digest) → contains (insert u (wanted, holder)) (w, h) ≡ ((eq_by_cmp wanted_cmp wanted w && eq_by_cmp digest_cmp h holder) || contains u (w, h))
  at_insert u w h =
      contains-insert pairs_total u (wanted, holder) (w, h) ∙ ap (λ b. b || contains u (w, h)) (pair_tied (w, h) (wanted, holder) ∙ ap (λ b. b && eq_by_cmp digest_cmp h holder) ((eq_by_cmp_equiv wanted_total).symm w wanted))

  at_more : (w : Wanted) (h : Digest) → contains t (w, h) ≡ ((eq_by_cmp wanted_cmp wanted w && eq_by_cmp digest_cmp h holder) || contains s (w, h))
  at_more w h = ap (λ u. contains u (w, h)) added ∙ at_insert s w h

  lacks_new : Lacks t holder wanted
  lacks_new = at_more wanted holder ∙ ap (λ b. b || contains s (wanted, holder)) (and_from _ _ ((eq_by_cmp_equiv wanted_total).refl wanted) ((eq_by_cmp_equiv digests_total).refl holder))

  pub held_more : HaveHolders s ks → HaveHolders t ks
  held_more held w is = ((held w is).0, at_more w (held w is).0 ∙ by (eq_by_cmp wanted_cmp wanted w && eq_by_cmp digest_cmp (held w is).0 holder) (contains s (w, (held w is).0)) (held w is).1)
    where
      by : (a b : Bool) → b ≡ true → (a || b) ≡ true
      by a b one = grind arith

  module _ (old : Parted) (view : parted s ks ≡ old) where
    at_old : (w : Wanted) (h : Digest) → contains old.unmet (w, h) ≡ (contains s (w, h) && is_one ks w)
    at_old w h = ap (λ (o : Parted). contains o.unmet (w, h)) (sym view) ∙ at_unmet s ks w h

    -- the pairs of other holders stay
    others_same : (ls : List Wanted) → ((w : Wanted) (h : Digest) → (contains s (w, h) && is_one ls w) ≡ (contains s (w, h) && is_one ks w)) → AreSameForOthers holder old (parted t ls)
    others_same ls same h w other = (
      iff (at_unmet t ls w h ∙ ap (λ b. b && is_one ls w) all ∙ same w h ∙ sym (at_old w h)),
      iff (all ∙ ap (λ (o : Parted). contains o.lacking (w, h)) view),
    )
      where
        by : (a b m : Bool) → (b ≡ true → ⊥) → ((a && b) || m) ≡ m
        by a b m never = grind arith

        all : contains t (w, h) ≡ contains s (w, h)
        all = at_more w h ∙ by (eq_by_cmp wanted_cmp wanted w) (eq_by_cmp digest_cmp h holder) (contains s (w, h)) (λ e. other (same_digest h holder e))

        iff : {a b : Bool} → a ≡ b → IsTrue a ↔ IsTrue b
        iff e = ((λ is. sym e ∙ is), (λ is. e ∙ is))

    pub others_kept : (ls : List Wanted) → ls ≡ ks → AreSameForOthers holder old (parted t ls)
    others_kept ls same = others_same ls (λ w h. ap (λ vs. contains s (w, h) && is_one vs w) same)

    -- the pair of a met parent
    pub met_more : IsMetForAll old wanted true → HaveHolders s ks → (parted t ks).unmet ≡ old.unmet
    met_more met held = unmet_is t ks _ (λ w h.
        ap (λ b. b && is_one ks w) (at_more w h) ∙ by (eq_by_cmp wanted_cmp wanted w) (eq_by_cmp digest_cmp h holder) (contains s (w, h)) (is_one ks w) (absent w) ∙ sym (at_old w h))
      where
        absent : (w : Wanted) → eq_by_cmp wanted_cmp wanted w ≡ true → is_one ks w ≡ true → ⊥
        absent w e is =
            let some = held_unmet s ks held w is in
            met some.0 (subst (λ v. Lacks old.unmet some.0 v) (sym (one_wanted wanted w e)) (subst (λ (o : Parted). Lacks o.unmet some.0 w) view some.1))

        by : (a b m k : Bool) → (a ≡ true → k ≡ true → ⊥) → (((a && b) || m) && k) ≡ (m && k)
        by a b m k never = grind arith

    -- the pair of an unmet parent
    module _ (ls : List Wanted) (put : (w : Wanted) → is_one ls w ≡ cond (eq_by_cmp wanted_cmp wanted w) true (is_one ks w)) where
      pub held_put : HaveHolders s ks → HaveHolders t ls
      held_put held w is = by (eq_by_cmp wanted_cmp wanted w) refl (sym (put w) ∙ is)
        where
          by : (b : Bool) → eq_by_cmp wanted_cmp wanted w ≡ b → cond b true (is_one ks w) ≡ true → (h : Digest) × Lacks t h w
          by true e one = (holder, subst (λ v. Lacks t holder v) (one_wanted wanted w e) lacks_new)
          by false e one = held_more held w one

      module _ (unmet : IsMetForAll old wanted false) where
        -- the pairs of this parent were unmet already
        were : (w : Wanted) (h : Digest) → eq_by_cmp wanted_cmp wanted w ≡ true → contains s (w, h) ≡ true → is_one ks w ≡ true
        were w h e has =
            let all = subst (λ v. (d : Digest) → Lacks old.lacking d v → Lacks old.unmet d v) (one_wanted wanted w e) unmet in
            (and_parts (contains s (w, h)) (is_one ks w) (sym (at_old w h) ∙ all h (ap (λ (o : Parted). contains o.lacking (w, h)) (sym view) ∙ has))).1

        pub unmet_put : (parted t ls).unmet ≡ insert old.unmet (wanted, holder)
        unmet_put = unmet_is t ls _ (λ w h.
            ap (λ b. b && is_one ls w) (at_more w h)
            ∙ ap (λ b. ((eq_by_cmp wanted_cmp wanted w && eq_by_cmp digest_cmp h holder) || contains s (w, h)) && b) (put w)
            ∙ by (eq_by_cmp wanted_cmp wanted w) (eq_by_cmp digest_cmp h holder) (contains s (w, h)) (is_one ks w) (were w h)
            ∙ ap (λ b. (eq_by_cmp wanted_cmp wanted w && eq_by_cmp digest_cmp h holder) || b) (sym (at_old w h))
            ∙ sym (at_insert old.unmet w h))
          where
            by : (a b m k : Bool) → (a ≡ true → m ≡ true → k ≡ true) → (((a && b) || m) && cond a true k) ≡ ((a && b) || (m && k))
            by a b m k is = grind arith

        pub others_put : AreSameForOthers holder old (parted t ls)
        others_put = others_same ls (λ w h. ap (λ b. contains s (w, h) && b) (put w) ∙ by (eq_by_cmp wanted_cmp wanted w) (contains s (w, h)) (is_one ks w) (were w h))
          where
            by : (a m k : Bool) → (a ≡ true → m ≡ true → k ≡ true) → (m && cond a true k) ≡ (m && k)
            by a m k is = grind arith

-- ---- nothing changes

pub others_same_state : (holder : Digest) (old new : Parted) → new ≡ old → AreSameForOthers holder old new
others_same_state holder old new same = subst (AreSameForOthers holder old) (sym same) (λ h w other. ((λ is. is, λ is. is), (λ is. is, λ is. is)))

-- a parent that was not unmet is put in, and then taken out
module _ (s t : Pairs) (ks ls ms : List Wanted) (wanted : Wanted) (same : t ≡ s) (put : (w : Wanted) → is_one ls w ≡ cond (eq_by_cmp wanted_cmp wanted w) true (is_one ks w))
    (took : (w : Wanted) → is_one ms w ≡ cond (eq_by_cmp wanted_cmp wanted w) false (is_one ls w)) (fresh : not (is_one ks wanted) ≡ true) where
  back : (w : Wanted) → is_one ms w ≡ is_one ks w
  back w = took w ∙ ap (λ k. cond (eq_by_cmp wanted_cmp wanted w) false k) (put w) ∙ by (eq_by_cmp wanted_cmp wanted w) (is_one ks w) (λ e. subst (λ v. not (is_one ks v) ≡ true) (one_wanted wanted w e) fresh)
    where
      by : (b k : Bool) → (b ≡ true → not k ≡ true) → cond b false (cond b true k) ≡ k
      by b k is = grind arith

  pub held_back : HaveHolders s ks → HaveHolders t ms
  held_back held w is = subst (λ u. (h : Digest) × Lacks u h w) (sym same) (held w (sym (back w) ∙ is))

  pub taken_back : parted t ms ≡ parted s ks
  taken_back =
      ap (λ u. let p : Parted = record { unmet = u; lacking = t } in p) unmet ∙ ap (λ l. let p : Parted = record { unmet = (parted s ks).unmet; lacking = l } in p) same
    where
      unmet : (parted t ms).unmet ≡ (parted s ks).unmet
      unmet = unmet_is t ms _ (λ w h. ap (λ u. contains u (w, h) && is_one ms w) same ∙ ap (λ b. contains s (w, h) && b) (back w) ∙ sym (at_unmet s ks w h))

-- ---- a holder no longer waits

-- `now` has each parent of `ks` that is still wanted, and else only parents of `rest`
pub record AreLeft (t : Pairs) (ks now rest : List Wanted) : Type 0 where
  pub same : (w : Wanted) (h : Digest) → (contains t (w, h) && is_one now w) ≡ (contains t (w, h) && is_one ks w)
  pub held : (w : Wanted) → is_one now w ≡ true → ((h : Digest) × Lacks t h w) ⊎ (is_one rest w ≡ true)

module _ (s t : Pairs) (ks : List Wanted) (holder : Digest) (without : t ≡ without_holder s holder) where
  at_rest : (w : Wanted) (h : Digest) → contains t (w, h) ≡ (contains s (w, h) && not (eq_by_cmp digest_cmp holder h))
  at_rest w h = ap (λ u. contains u (w, h)) without ∙ sym (contains_without_holder s holder h w)

  pub left_first : (rest : List Wanted) → HaveHolders s ks → AreMissing s holder rest → AreLeft t ks ks rest
  left_first rest held missing = record { same = λ w h. refl; held = λ w is. by w (held w is).0 (held w is).1 (eq_by_cmp digest_cmp holder (held w is).0) refl }
    where
      by : (w : Wanted) (h : Digest) → Lacks s h w → (b : Bool) → eq_by_cmp digest_cmp holder h ≡ b → ((h : Digest) × Lacks t h w) ⊎ (is_one rest w ≡ true)
      by w h lacks true e = inr (list_any-from_Contains (eq_by_cmp_equiv wanted_total) w rest ((missing.exactly w).1 (subst (λ d. Lacks s d w) (sym (same_digest holder h e)) lacks)))
      by w h lacks false e = inl (h, at_rest w h ∙ and_from (contains s (w, h)) (not (eq_by_cmp digest_cmp holder h)) lacks (ap not e))

  pub left_unmet : (now rest : List Wanted) → AreLeft t ks now rest → (parted t now).unmet ≡ without_holder (parted s ks).unmet holder
  left_unmet now rest was = unmet_is t now _ (λ w h.
      was.same w h ∙ ap (λ b. b && is_one ks w) (at_rest w h) ∙ by (contains s (w, h)) (eq_by_cmp digest_cmp holder h) (is_one ks w)
      ∙ ap (λ b. b && not (eq_by_cmp digest_cmp holder h)) (sym (at_unmet s ks w h)) ∙ contains_without_holder (parted s ks).unmet holder h w)
    where
      by : (m b k : Bool) → ((m && not b) && k) ≡ ((m && k) && not b)
      by m b k = grind arith

module _ (t : Pairs) (ks now : List Wanted) where
  pub left_last : AreLeft t ks now [] → HaveHolders t now
  left_last was w is = elim (was.held w is) [ inl some ↦ some | inr never ↦ absurd (false≢true never) ]

  module _ (rest : List Wanted) (x : Wanted) (was : AreLeft t ks now (x ∷ rest)) where
    -- the next parent is still wanted
    pub left_wanted : (h : Digest) × Lacks t h x → AreLeft t ks now rest
    left_wanted some = record { same = was.same; held = λ w is. elim (was.held w is) [ inl one ↦ inl one | inr one ↦ by w (eq_by_cmp wanted_cmp w x) refl one ] }
      where
        by : (w : Wanted) (b : Bool) → eq_by_cmp wanted_cmp w x ≡ b → (b || is_one rest w) ≡ true → ((h : Digest) × Lacks t h w) ⊎ (is_one rest w ≡ true)
        by w true e one = inl (some.0, subst (λ v. Lacks t some.0 v) (sym (one_wanted w x e)) some.1)
        by w false e one = inr one

    -- nobody wants the next parent
    pub left_unwanted : (then : List Wanted) → ((h : Digest) × Lacks t h x → ⊥) → ((w : Wanted) → is_one then w ≡ cond (eq_by_cmp wanted_cmp x w) false (is_one now w)) → AreLeft t ks then rest
    left_unwanted then none took = record {
      same = λ w h. ap (λ b. contains t (w, h) && b) (took w) ∙ nobody (eq_by_cmp wanted_cmp x w) (contains t (w, h)) (is_one now w) (λ e has. none (h, subst (λ v. Lacks t h v) (sym (one_wanted x w e)) has)) ∙ was.same w h;
      held = λ w is. by w (eq_by_cmp wanted_cmp x w) refl (sym (took w) ∙ is);
    }
      where
        nobody : (b m k : Bool) → (b ≡ true → m ≡ true → ⊥) → (m && cond b false k) ≡ (m && k)
        nobody b m k never = grind arith

        by : (w : Wanted) (b : Bool) → eq_by_cmp wanted_cmp x w ≡ b → cond b false (is_one now w) ≡ true → ((h : Digest) × Lacks t h w) ⊎ (is_one rest w ≡ true)
        by w true e never = cc
        by w false e one = elim (was.held w one) [ inl some ↦ inl some | inr one ↦ inr (sym (ap (λ b. b || is_one rest w) ((eq_by_cmp_equiv wanted_total).symm w x ∙ e)) ∙ one) ]
