-- Looks at slots and at rounds.
use Rattle.nw_dag.proofs.Words.{◌≡◌, ◌↔◌, ◌∙◌, ℕ, ◌+◌, ◌<◌, Bool, false, List, [], ◌∷◌, ◌++◌, length, Option, None, Some, ap, get_or, sym, subst, take, inl, inr, Contains, State, IsComplete, contains_cases, contains_first, contains_later, contains_none, none-some, false≢true, take_more, Less, Digest}
use Rattle.std.specs.Prelude.{IsTrue, map}
use Rattle.std.specs.Ordering.{nat_cmp}
use Rattle.std.specs.List.{AllByRecursion}
use Rattle.std.specs.List.Sorted.{IsStrictlySortedBy}
use Rattle.std.proofs.lemmas.List.{map-append}
use Rattle.std.proofs.lemmas.List.Elements.{Contains-push_cases}
use Rattle.std.proofs.lemmas.Option.{same_Some}
use Rattle.nw_model.specs.declared.look.Look.{Look}
use Rattle.nw_model.specs.Look.{AreLooks, HasDigest, IsLook, look_cmp}
use Rattle.nw_model.specs.Missing.{ListsExactly}
use Rattle.nw_model.proofs.Looks.{one_look}

-- a slot with no certified digest has no complete one
pub complete_none : (s : State) (b : Bool) (found : Option Digest) → b ≡ false → found ≡ None → IsTrue b ↔ ((d : Digest) × (found ≡ Some d) × IsComplete s d)
complete_none s b found fails none = (λ yes. absurd (false≢true (sym fails ∙ yes)), λ (d, is, whole). absurd (none-some d (sym none ∙ is)))

-- the certified digest of a slot is complete if a test says so
pub complete_some : (s : State) (b test : Bool) (found : Option Digest) (d : Digest) → b ≡ test → found ≡ Some d → IsTrue test ↔ IsComplete s d → IsTrue b ↔ ((d : Digest) × (found ≡ Some d) × IsComplete s d)
complete_some s b test found d same at tells = (
  λ yes. (d, at, tells.0 (sym same ∙ yes)),
  λ (e, is, whole). same ∙ tells.1 (subst (λ x. IsComplete s x) (same_Some e d (sym is ∙ at)) whole),
)

-- the authors of the looks
abbrev pub authors_of : List (ℕ × Look) → List ℕ
authors_of looks = map (λ e. e.0) looks

author_among : (looks : List (ℕ × Look)) (e : ℕ × Look) → Contains looks e → Contains (authors_of looks) e.0
author_among [] e among = absurd (contains_none e among)
author_among (x ∷ looks) e among = elim (contains_cases x looks e among) [
  | inl here ↦ subst (λ (y : ℕ × Look). Contains (authors_of (x ∷ looks)) y.0) here (contains_first x.0 (authors_of looks))
  | inr later ↦ contains_later x.0 (authors_of looks) e.0 (author_among looks e later)
]

look_at : (looks : List (ℕ × Look)) (author : ℕ) → Contains (authors_of looks) author → (look : Look) × Contains looks (author, look)
look_at [] author among = absurd (contains_none author among)
look_at (x ∷ looks) author among = elim (contains_cases x.0 (authors_of looks) author among) [
  | inl here ↦ (x.1, subst (λ (a : ℕ). Contains (x ∷ looks) (a, x.1)) here (contains_first x looks))
  | inr later ↦ let (look, there) = look_at looks author later in (look, contains_later x looks (author, look) there)
]

-- looks ascend as their authors do
below_all : (x : ℕ × Look) (looks : List (ℕ × Look)) → AllByRecursion (λ a. nat_cmp x.0 a ≡ Less) (authors_of looks) → AllByRecursion (λ y. look_cmp x y ≡ Less) looks
below_all x [] all = tt
below_all x (y ∷ looks) all = (all.0, below_all x looks all.1)

ascend : (looks : List (ℕ × Look)) → IsStrictlySortedBy nat_cmp (authors_of looks) → IsStrictlySortedBy look_cmp looks
unfolding IsStrictlySortedBy
ascend [] sorted = tt
ascend (x ∷ looks) sorted = (below_all x looks sorted.0, ascend looks sorted.1)

-- each of the looks is the one at its author's slot
abbrev pub AreLooksFor : State → ℕ → List (ℕ × Look) → Type 0
AreLooksFor s round looks = (e : ℕ × Look) → Contains looks e → IsLook s (round, e.0) e.1

-- the look of the next author is added
pub next_author : (looks new : List (ℕ × Look)) (authors : List ℕ) (i : ℕ) (look : Look) → i < length authors → new ≡ looks ++ (get_or authors i 0, look) ∷ [] → authors_of looks ≡ take i authors → authors_of new ≡ take (i + 1) authors
next_author looks new authors i look below is same =
    ap authors_of is ∙ map-append (λ (e : ℕ × Look). e.0) looks ((get_or authors i 0, look) ∷ []) ∙ ap (λ xs. xs ++ get_or authors i 0 ∷ []) same ∙ sym (take_more authors i 0 below)

pub next_look : (s : State) (round : ℕ) (looks new : List (ℕ × Look)) (author : ℕ) (look : Look) → new ≡ looks ++ (author, look) ∷ [] → AreLooksFor s round looks → IsLook s (round, author) look → AreLooksFor s round new
next_look s round looks new author look is all one e among = elim (Contains-push_cases looks (author, look) e (subst (λ xs. Contains xs e) is among)) [
  | inl before ↦ all e before
  | inr here ↦ subst (λ (x : ℕ × Look). IsLook s (round, x.0) x.1) here one
]

pub no_looks : (s : State) (round : ℕ) (looks : List (ℕ × Look)) → looks ≡ [] → AreLooksFor s round looks
no_looks s round looks none e among = absurd (contains_none e (subst (λ xs. Contains xs e) none among))

-- a look for each author with a digest makes the looks at the round
pub all_looks : (s : State) (round : ℕ) (authors : List ℕ) (looks : List (ℕ × Look)) → ListsExactly nat_cmp (λ author. HasDigest s (round, author)) authors → authors_of looks ≡ authors → AreLooksFor s round looks → AreLooks s round looks
all_looks s round authors looks exact same look_of = record {
  exactly = λ e. (
    λ among. ((exact.exactly e.0).0 (subst (λ listed. Contains listed e.0) same (author_among looks e among)), look_of e among),
    λ (has, is).
        let (look, there) = look_at looks e.0 (subst (λ listed. Contains listed e.0) (sym same) ((exact.exactly e.0).1 has)) in
        subst (λ (l : Look). Contains looks (e.0, l)) (one_look s (round, e.0) look e.1 (look_of (e.0, look) there) is) there,
  );
  ascending = ascend looks (subst (IsStrictlySortedBy nat_cmp) (sym same) exact.ascending);
}
