-- The weights of the members that pass a test of their numbers.
use Rattle.std.proofs.Common.{◌≡◌, ◌∙◌, ℕ, zero, suc, ◌+◌, ◌<◌, ◌≤◌, Bool, true, false, Option, cond, nat_eq, List, [], ◌∷◌, ◌++◌, length, map, take, get_or, refl, sym, ap, arith}
use Rattle.std.specs.Prelude.{◌&&◌, ◌||◌, option_map, unwrap_or, slice_get}
use Rattle.std.specs.List.{filter, sum_by, enumerate_from}
use Rattle.std.specs.List.Sorted.{IsStrictlyIncreasing}
use Rattle.std.proofs.lemmas.Bool.Decides.{nat_tests}
use Rattle.std.proofs.lemmas.List.{take_more, take_all, get_or-take, get_or_default, get_or-map, length-take, length-map}
use Rattle.std.proofs.lemmas.List.Folds.{list_any-append, list_any_none}
use Rattle.std.proofs.lemmas.List.Kept.{AllPairs-from_increasing}
use Rattle.std.proofs.lemmas.List.Sums.{sum_by-cons}
use Rattle.nw_committee.specs.declared.member.Member.{Member}
use Rattle.nw_committee.specs.Committee.{total, is_listed, listed_weight}

-- the sum of the weights of the members whose numbers pass the test
abbrev pub weight_where : (ℕ → Bool) → List (ℕ × Member) → ℕ
weight_where t ps = sum_by (λ p. p.1.weight) (filter (λ p. t p.0) ps)

-- the weight of the member with this number, or 0
abbrev pub weight_at : List Member → ℕ → ℕ
weight_at members number = unwrap_or (option_map (λ m. m.weight) (slice_get members number)) 0

weight_where-cons : (t : ℕ → Bool) (p : ℕ × Member) (ps : List (ℕ × Member)) → weight_where t (p ∷ ps) ≡ cond (t p.0) p.1.weight 0 + weight_where t ps
weight_where-cons t p ps =
    let weigh : ℕ × Member → ℕ = λ q. q.1.weight in
    let rest : List (ℕ × Member) = filter (λ q. t q.0) ps in
    elim (t p.0) as (λ b. sum_by weigh (cond b (p ∷ rest) rest) ≡ cond b p.1.weight 0 + sum_by weigh rest) [
      | true ↦ sum_by-cons weigh p rest
      | false ↦ omega arith
    ]

shared : (a b : Bool) (w : ℕ) → cond a w 0 + cond b w 0 ≡ cond (a || b) w 0 + cond (a && b) w 0
shared true true w = refl
shared true false w = omega arith
shared false true w = omega arith
shared false false w = omega arith

-- the weight that passes one test, plus the weight that passes another, is the weight that passes either plus the weight that passes both
pub either_and_both : (s t u v : ℕ → Bool) → ((n : ℕ) → u n ≡ (s n || t n)) → ((n : ℕ) → v n ≡ (s n && t n)) → (ps : List (ℕ × Member))
    → weight_where s ps + weight_where t ps ≡ weight_where u ps + weight_where v ps
either_and_both s t u v either both [] = refl
either_and_both s t u v either both (p ∷ ps) =
    let rest = either_and_both s t u v either both ps in
    let here = shared (s p.0) (t p.0) p.1.weight in
    let in_either : cond (u p.0) p.1.weight 0 ≡ cond (s p.0 || t p.0) p.1.weight 0 = ap (λ (b : Bool). cond b p.1.weight 0) (either p.0) in
    let in_both : cond (v p.0) p.1.weight 0 ≡ cond (s p.0 && t p.0) p.1.weight 0 = ap (λ (b : Bool). cond b p.1.weight 0) (both p.0) in
    omega (arith, rest, here, in_either, in_both, weight_where-cons s p ps, weight_where-cons t p ps, weight_where-cons u p ps, weight_where-cons v p ps)

cond-le : (b : Bool) (w : ℕ) → cond b w 0 ≤ w
cond-le true w = omega arith
cond-le false w = omega arith

-- the members that pass a test weigh no more than all members
pub weight_where-le : (t : ℕ → Bool) (n : ℕ) (members : List Member) → weight_where t (enumerate_from n members) ≤ total members
weight_where-le t n [] = omega arith
weight_where-le t n (m ∷ members) =
    omega (arith, weight_where-cons t (n, m) (enumerate_from (n + 1) members), weight_where-le t (n + 1) members, cond-le (t n) m.weight, sum_by-cons (λ (q : Member). q.weight) m members)

weight_where-none : (ps : List (ℕ × Member)) → weight_where (λ _. false) ps ≡ 0
weight_where-none [] = refl
weight_where-none (p ∷ ps) = weight_where-none ps

-- no member of a list numbered from n on has a number below n
weight_below : (x n : ℕ) (members : List Member) → x < n → weight_where (λ k. nat_eq x k) (enumerate_from n members) ≡ 0
weight_below x n [] low = refl
weight_below x n (m ∷ members) low =
    let rest = weight_below x (n + 1) members (omega arith) in
    let other : nat_eq x n ≡ false = grind (arith, nat_tests) in
    let here : cond (nat_eq x n) m.weight 0 ≡ 0 = ap (λ (b : Bool). cond b m.weight 0) other in
    omega (arith, rest, here, weight_where-cons (λ (k : ℕ). nat_eq x k) (n, m) (enumerate_from (n + 1) members))

weight_from : (k x n : ℕ) (members : List Member) → x ≡ n + k → weight_where (λ q. nat_eq x q) (enumerate_from n members) ≡ weight_at members k
weight_from k x n [] e = refl
weight_from zero x n (m ∷ members) e =
    let rest = weight_below x (n + 1) members (omega arith) in
    let same : nat_eq x n ≡ true = grind (arith, nat_tests) in
    let here : cond (nat_eq x n) m.weight 0 ≡ m.weight = ap (λ (b : Bool). cond b m.weight 0) same in
    omega (arith, rest, here, weight_where-cons (λ (q : ℕ). nat_eq x q) (n, m) (enumerate_from (n + 1) members))
weight_from (suc k) x n (m ∷ members) e =
    let rest = weight_from k x (n + 1) members (omega arith) in
    let other : nat_eq x n ≡ false = grind (arith, nat_tests) in
    let here : cond (nat_eq x n) m.weight 0 ≡ 0 = ap (λ (b : Bool). cond b m.weight 0) other in
    omega (arith, rest, here, weight_where-cons (λ (q : ℕ). nat_eq x q) (n, m) (enumerate_from (n + 1) members))

pub weight_of_one : (members : List Member) (x : ℕ) → weight_where (λ k. nat_eq x k) (enumerate_from 0 members) ≡ weight_at members x
weight_of_one members x = weight_from x x 0 members (omega arith)

-- ---- lists of numbers

nat_eq-same : (x y : ℕ) → nat_eq x y ≡ true → x ≡ y
nat_eq-same x y h = grind (arith, nat_tests)

kept : (is_kept same before there : Bool) (x : ℕ) (rest : List ℕ) (n : ℕ) → nat_eq x n ≡ same → is_listed rest n ≡ (before && there) → (same ≡ true → is_kept ≡ there)
    → is_listed (cond is_kept (x ∷ rest) rest) n ≡ ((same || before) && there)
kept true true before there x rest n e r h = rw e (h refl)
kept true false before there x rest n e r h = rw e r
kept false true true there x rest n e r h = r
kept false true false there x rest n e r h = r ∙ h refl
kept false false before there x rest n e r h = r

-- a number is in the filtered list exactly when it is in both lists
pub is_listed-filter : (one other : List ℕ) (n : ℕ) → is_listed (filter (is_listed other) one) n ≡ (is_listed one n && is_listed other n)
is_listed-filter [] other n = refl
is_listed-filter (x ∷ one) other n =
    let rest = is_listed-filter one other n in
    let same : nat_eq x n ≡ true → is_listed other x ≡ is_listed other n = λ h. ap (is_listed other) (nat_eq-same x n h) in
    kept (is_listed other x) (nat_eq x n) (is_listed one n) (is_listed other n) x (filter (is_listed other) one) n refl rest same

or_false : (a b : Bool) → (a || (b || false)) ≡ (a || b)
or_false true b = refl
or_false false true = refl
or_false false false = refl

never_both : (a b : Bool) → (b ≡ true → a ≡ false) → false ≡ (a && b)
never_both true true h = sym (h refl)
never_both true false h = refl
never_both false b h = refl

-- a number that was not in the list adds the weight of its member
pub listed_weight-push : (members : List Member) (listed : List ℕ) (x : ℕ) → is_listed listed x ≡ false
    → listed_weight members (listed ++ x ∷ []) ≡ listed_weight members listed + weight_at members x
listed_weight-push members listed x fresh =
    let either : (n : ℕ) → is_listed (listed ++ x ∷ []) n ≡ (is_listed listed n || nat_eq x n) =
    λ n. list_any-append (λ q. nat_eq q n) listed (x ∷ []) ∙ or_false (is_listed listed n) (nat_eq x n) in
    let both : (n : ℕ) → false ≡ (is_listed listed n && nat_eq x n) =
    λ n. never_both (is_listed listed n) (nat_eq x n) (λ h. sym (ap (is_listed listed) (nat_eq-same x n h)) ∙ fresh) in
    let all = either_and_both (is_listed listed) (λ n. nat_eq x n) (is_listed (listed ++ x ∷ [])) (λ _. false) either both (enumerate_from 0 members) in
    omega (arith, all, weight_of_one members x, weight_where-none (enumerate_from 0 members))

-- no number of an ascending list is among those before it
fresh_next : (listed : List ℕ) (i : ℕ) → IsStrictlyIncreasing listed → i < length listed → is_listed (take i listed) (get_or listed i 0) ≡ false
fresh_next listed i rising h =
    list_any_none (λ q. nat_eq q (get_or listed i 0)) (take i listed) (λ k d low.
    let short = length-take i listed in
    let before : k < i = omega (arith, low, short) in
    let at : get_or (take i listed) k d ≡ get_or listed k d = get_or-take i listed k d before in
    let below = AllPairs-from_increasing listed rising k i d before h in
    let same : get_or listed i d ≡ get_or listed i 0 = get_or_default listed i d 0 h in
    rw at (grind (arith, nat_tests))
    )

-- the next number of an ascending list adds the weight of its member
pub listed_weight-more : (members : List Member) (listed : List ℕ) (i : ℕ) → IsStrictlyIncreasing listed → i < length listed
    → listed_weight members (take (i + 1) listed) ≡ listed_weight members (take i listed) + weight_at members (get_or listed i 0)
listed_weight-more members listed i rising h =
    rw (take_more listed i 0 h) (listed_weight-push members (take i listed) (get_or listed i 0) (fresh_next listed i rising h))

-- the listed members weigh no more than all members
pub listed_weight-le : (members : List Member) (listed : List ℕ) → listed_weight members listed ≤ total members
listed_weight-le members listed = weight_where-le (is_listed listed) 0 members

-- an empty list has weight 0
pub listed_weight-none : (members : List Member) → listed_weight members [] ≡ 0
listed_weight-none members = weight_where-none (enumerate_from 0 members)

-- the weight of an ascending list up to any index is at most the total
pub listed_weight-fits : (members : List Member) (listed : List ℕ) (i : ℕ) → IsStrictlyIncreasing listed → i < length listed
    → listed_weight members (take i listed) + weight_at members (get_or listed i 0) ≤ total members
listed_weight-fits members listed i rising h = omega (arith, listed_weight-more members listed i rising h, listed_weight-le members (take (i + 1) listed))

-- ---- values with numbers

module _ {X : Type 0} (f : X → ℕ) (xs : List X) (i : ℕ) (x : X) (h : i < length xs) (is : x ≡ get_or xs i x) where
  -- the number at a place is that of the value at the place
  pub number_at : get_or (map f xs) i 0 ≡ f x
  number_at = get_or-map f xs i x 0 h ∙ ap f (sym is)

  pub number-within : i < length (map f xs)
  number-within = omega (arith, length-map xs f)

  -- the weight that was read for the value at a place
  pub number_weighs : (members : List Member) (number weight : ℕ) (read : Option ℕ) → number ≡ f x → read ≡ option_map (λ m. m.weight) (slice_get members number) → weight ≡ unwrap_or read 0
      → weight ≡ weight_at members (get_or (map f xs) i 0)
  number_weighs members number weight read own found is_read =
      is_read ∙ (ap (λ (o : Option ℕ). unwrap_or o 0) found ∙ ap (weight_at members) (own ∙ sym number_at))

-- the first i values of a function on a list with at most i elements are all of them
pub whole_front : {X Y : Type 0} (f : X → Y) (xs : List X) (i : ℕ) → length xs ≤ i → take i (map f xs) ≡ map f xs
whole_front f xs i h = take_all i (map f xs) (omega (arith, length-map xs f))
