-- The parents that a holder lacks after one more reference is tested.
use Rattle.nw_dag.proofs.Words.{◌≡◌, ◌↔◌, ℕ, List, [], ◌∷◌, ◌++◌, length, Bool, true, false, Result, Ok, Err, sym, ◌∙◌, subst, arith, inl, inr, Contains, IsTrue, nat_eq, insert, Contains-push_cases, Contains-append_left, Contains-push, Digest, Ref, Wanted, Pairs, Lacks, LacksCount, State, contains_first, contains_none, Stands, IsMet, IsNamedBy}
use Rattle.std.specs.Prelude.{OnOk}
use Rattle.nw_dag.specs.Lacking.{AreSplit, IsNamedAmong, LacksNothing, LacksSomething, IsReady}
use Rattle.nw_dag.specs.Changes.{AreSameExcept, LacksAlso}
use Rattle.nw_waiting.specs.Parted.{Parted}
use Rattle.nw_dag.proofs.Pairs.{lacks_more, lacks_new, lacks_still}

-- ---- counts

-- no parent is lacked exactly when the count is 0
pub lacks_zero : (pairs : Pairs) (d : Digest) (n : ℕ) → LacksCount pairs d n → IsTrue (nat_eq n 0) ↔ LacksNothing pairs d
lacks_zero pairs d n (all, are, counts) = (
  λ zero w lacks. none all (counts ∙ nothing n zero) w ((are.exactly w).1 lacks),
  λ never. empty all n counts (λ w among. never w ((are.exactly w).0 among)),
)
  where
    nothing : (n : ℕ) → IsTrue (nat_eq n 0) → n ≡ 0
    nothing n e = grind arith

    none : (xs : List Wanted) → length xs ≡ 0 → (w : Wanted) → Contains xs w → ⊥
    none [] e w among = contains_none w among
    none (x ∷ xs) e w among = omega (arith, e)

    empty : (xs : List Wanted) (n : ℕ) → length xs ≡ n → ((w : Wanted) → Contains xs w → ⊥) → IsTrue (nat_eq n 0)
    empty [] n e never = grind (arith, e)
    empty (x ∷ xs) n e never = absurd (never x (contains_first x xs))

-- some parent is lacked if the count is not 0
pub lacks_some : (pairs : Pairs) (d : Digest) (n : ℕ) → LacksCount pairs d n → nat_eq n 0 ≡ false → LacksSomething pairs d
lacks_some pairs d n (all, are, counts) fails = first all counts (λ w among. (are.exactly w).0 among)
  where
    is_zero : (n : ℕ) → 0 ≡ n → nat_eq n 0 ≡ true
    is_zero n e = grind (arith, e)

    not_both : {b : Bool} → b ≡ true → b ≡ false → ⊥
    not_both is fails = cc

    first : (xs : List Wanted) → length xs ≡ n → ((w : Wanted) → Contains xs w → Lacks pairs d w) → LacksSomething pairs d
    first [] e from = absurd (not_both (is_zero n e) fails)
    first (x ∷ xs) e from = (x, from x (contains_first x xs))

-- a test that fails refutes what it decides
pub refuted : (b : Bool) (P : Type 0) → IsTrue b ↔ P → b ≡ false → P → ⊥
refuted b P decides fails p = let yes : b ≡ true = decides.1 p in cc

-- ---- one pair

pub same_through : (holder : Digest) (a b c : Pairs) → AreSameExcept holder a b → AreSameExcept holder b c → AreSameExcept holder a c
same_through holder a b c one two h w other = (λ lacks. (one h w other).0 ((two h w other).0 lacks), λ lacks. (two h w other).1 ((one h w other).1 lacks))

-- a pair of a met parent is added
split_met : (s : State) (v : Wanted) (holder : Digest) (unmet lacking more : Pairs) → IsMet s v → more ≡ insert lacking (v, holder) → AreSplit s unmet lacking → AreSplit s unmet more
split_met s v holder unmet lacking more met is split d w = (
  λ lacks. let both = (split d w).0 lacks in (subst (λ (m : Pairs). Lacks m d w) (sym is) (lacks_still lacking v w holder d both.0), both.1),
  λ (lacks, fails). elim (lacks_more lacking v w holder d (subst (λ (m : Pairs). Lacks m d w) is lacks)) [ inl new ↦ absurd (fails (subst (IsMet s) (sym new.0) met)) | inr was ↦ (split d w).1 (was, fails) ],
)

-- a pair of a parent that is not met is added to both sets
split_unmet : (s : State) (v : Wanted) (holder : Digest) (unmet lacking one more : Pairs) → (IsMet s v → ⊥) → one ≡ insert unmet (v, holder) → more ≡ insert lacking (v, holder) → AreSplit s unmet lacking → AreSplit s one more
split_unmet s v holder unmet lacking one more fails is_one is_more split d w = (
  λ lacks. elim (lacks_more unmet v w holder d (subst (λ (m : Pairs). Lacks m d w) is_one lacks)) [
    | inl new ↦ (added lacking more is_more new.0 new.1, λ met. fails (subst (IsMet s) new.0 met))
    | inr was ↦ let both = (split d w).0 was in (subst (λ (m : Pairs). Lacks m d w) (sym is_more) (lacks_still lacking v w holder d both.0), both.1)
  ],
  λ (lacks, none). elim (lacks_more lacking v w holder d (subst (λ (m : Pairs). Lacks m d w) is_more lacks)) [
    | inl new ↦ added unmet one is_one new.0 new.1
    | inr was ↦ subst (λ (m : Pairs). Lacks m d w) (sym is_one) (lacks_still unmet v w holder d ((split d w).1 (was, none)))
  ],
)
  where
    added : (old new : Pairs) → new ≡ insert old (v, holder) → w ≡ v → d ≡ holder → Lacks new d w
    added old new is named here = subst (λ (m : Pairs). Lacks m d w) (sym is) (subst (λ (x : Wanted). Lacks (insert old (v, holder)) d x) (sym named) (subst (λ h. Lacks (insert old (v, holder)) h v) (sym here) (lacks_new old v holder)))

pub split_met_on_ok : {E : Type 0} (r : Result (Unit {0}) E) (s : State) (v : Wanted) (holder : Digest) (old new : Parted) → IsMet s v → OnOk r (new.unmet ≡ old.unmet) → OnOk r (new.lacking ≡ insert old.lacking (v, holder))
    → AreSplit s old.unmet old.lacking → OnOk r (AreSplit s new.unmet new.lacking)
split_met_on_ok (Ok x) s v holder old new met same more split = subst (λ (m : Pairs). AreSplit s m new.lacking) (sym same) (split_met s v holder old.unmet old.lacking new.lacking met more split)
split_met_on_ok (Err e) s v holder old new met same more split = tt

pub split_unmet_on_ok : {E : Type 0} (r : Result (Unit {0}) E) (s : State) (v : Wanted) (holder : Digest) (old new : Parted) → (IsMet s v → ⊥) → OnOk r (new.unmet ≡ insert old.unmet (v, holder)) → OnOk r (new.lacking ≡ insert old.lacking (v, holder))
    → AreSplit s old.unmet old.lacking → OnOk r (AreSplit s new.unmet new.lacking)
split_unmet_on_ok (Ok x) s v holder old new fails one more split = split_unmet s v holder old.unmet old.lacking new.unmet new.lacking fails one more split
split_unmet_on_ok (Err e) s v holder old new fails one more split = tt

-- a parent without Q is lacked
wants_inserted : (Q : Wanted → Type 0) (v : Wanted) (holder : Digest) (old new : Pairs) → (Q v → ⊥) → new ≡ insert old (v, holder) → LacksAlso Q (λ w. w ≡ v) holder old new
wants_inserted Q v holder old new lacks_it is = record {
  each = λ w named. inl (subst (λ (m : Pairs). Lacks m holder w) (sym is) (subst (λ (x : Wanted). Lacks (insert old (v, holder)) holder x) (sym named) (lacks_new old v holder)));
  only = λ h w lacks. elim (lacks_more old v w holder h (subst (λ (m : Pairs). Lacks m h w) is lacks)) [
    | inl more ↦ inr (more.1, more.0, λ q. lacks_it (subst Q more.0 q))
    | inr was ↦ inl was
  ];
  still = λ h w lacks. subst (λ (m : Pairs). Lacks m h w) (sym is) (lacks_still old v w holder h lacks);
}

pub wants_on_ok : {E : Type 0} (r : Result (Unit {0}) E) (Q : Wanted → Type 0) (v : Wanted) (holder : Digest) (old new : Pairs) → (Q v → ⊥) → OnOk r (new ≡ insert old (v, holder)) → OnOk r (LacksAlso Q (λ w. w ≡ v) holder old new)
wants_on_ok (Ok x) Q v holder old new lacks_it is = wants_inserted Q v holder old new lacks_it is
wants_on_ok (Err e) Q v holder old new lacks_it is = tt

-- ---- one more reference

named_once : (round : ℕ) (r : Ref) (v w : Wanted) → IsNamedBy round r v → IsNamedBy round r w → w ≡ v
named_once round r v w one other =
    let before : w.round ≡ v.round = omega (arith, one.0, other.0) in
    let author : w.author ≡ v.author = other.1 ∙ sym one.1 in
    let digest : w.digest ≡ v.digest = other.2 ∙ sym one.2 in
    λ i. record { round = before i; author = author i; digest = digest i }

pub wants_more : (Q R : Wanted → Type 0) (round : ℕ) (xs : List Ref) (r : Ref) (v : Wanted) (holder : Digest) (a b c : Pairs) → IsNamedBy round r v → (R v → Q v) → (Q v → R v)
    → LacksAlso Q (IsNamedAmong round xs) holder a b → LacksAlso R (λ w. w ≡ v) holder b c → LacksAlso Q (IsNamedAmong round (xs ++ r ∷ [])) holder a c
wants_more Q R round xs r v holder a b c by_r down up one two = record {
  each = λ w (x, among, named). elim (Contains-push_cases xs r x among) [
    | inl before ↦ elim (one.each w (x, before, named)) [ inl lacks ↦ inl (two.still holder w lacks) | inr q ↦ inr q ]
    | inr last ↦
        let same : w ≡ v = named_once round r v w by_r (subst (λ (y : Ref). IsNamedBy round y w) (sym last) named) in
        elim (two.each w same) [ inl lacks ↦ inl lacks | inr has ↦ inr (subst Q (sym same) (down (subst R same has))) ]
  ];
  only = λ h w lacks. elim (two.only h w lacks) [
    | inl before ↦ elim (one.only h w before) [
      | inl was ↦ inl was
      | inr (here, named, fails) ↦ inr (here, (named.0, Contains-append_left xs (r ∷ []) named.0 named.1, named.2), fails)
    ]
    | inr (here, same, fails) ↦ inr (here, (r, Contains-push xs r, subst (λ (y : Wanted). IsNamedBy round r y) (sym same) by_r), λ q. fails (subst R (sym same) (up (subst Q same q))))
  ];
  still = λ h w lacks. two.still h w (one.still h w lacks);
}

-- ready digests stay ready, if only a digest that does not stand lacks more
pub ready_same : (s : State) (holder x : Digest) (a b : Pairs) → AreSameExcept holder a b → (Stands s holder → ⊥) → IsReady s a x → IsReady s b x
ready_same s holder x a b same absent ready = (ready.0, λ w lacks. ready.1 w ((same x w (λ here. absent (subst (λ q. Stands s q) here ready.0))).0 lacks))

pub ready_back : (s : State) (holder x : Digest) (a b : Pairs) → AreSameExcept holder a b → (Stands s holder → ⊥) → IsReady s b x → IsReady s a x
ready_back s holder x a b same absent ready = (ready.0, λ w lacks. ready.1 w ((same x w (λ here. absent (subst (λ q. Stands s q) here ready.0))).1 lacks))
