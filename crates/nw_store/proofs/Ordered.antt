-- Journals in the order of their ids, and which ids those are.
use Rattle.nw_store.proofs.Words.{◌≡◌, ◌≢◌, ℕ, zero, suc, ◌+◌, ◌<◌, ◌≤◌, true, false, cond, List, [], ◌∷◌, length, ⊎_elim, refl, sym, ap, ◌∙◌, subst, arith, ◌==◌, All, sum_by, IsPermutation, eqb_tells, sum_by-cons, length_permutation, sum_by-IsPermutation, Journal}
use Rattle.std.proofs.Common.{◌⊎◌, inl, inr}
use lib.Dec.{leb}
use Rattle.std.specs.List.{range_with_len}
use Rattle.std.specs.List.Sorted.{IsNonDecreasingBy}
use Rattle.std.proofs.lemmas.Bool.Decides.{leb_tells}
use Rattle.std.proofs.lemmas.List.Sorted.{IsPermutation-map, IsPermutation-refl}
use Rattle.nw_store.specs.Lock.{Guarded}
use Rattle.nw_store.specs.Settled.{AreInOrder, AreAllSessions, ids_of}
use Rattle.nw_store.specs.Fault.{IsStray, times}

abbrev one : ℕ → ℕ → ℕ
one s x = cond (x == s) 1 0

-- the number of times that s is in the list
abbrev count : ℕ → List ℕ → ℕ
count s [] = 0
count s (x ∷ xs) = one s x + count s xs

count_is : (s : ℕ) (xs : List ℕ) → count s xs ≡ sum_by (one s) xs
count_is s [] = refl
count_is s (x ∷ xs) = ap (λ n. one s x + n) (count_is s xs) ∙ sym (sum_by-cons (one s) x xs)

one_itself : (x : ℕ) → one x x ≡ 1
one_itself x =
    ⊎_elim
    (λ (t : ((x == x) ≡ true) × (x ≡ x)). ap (λ b. cond b 1 0) t.0)
    (λ (t : ((x == x) ≡ false) × (x ≢ x)). absurd (t.1 refl))
    (eqb_tells x x)

one_other : (s x : ℕ) → x ≢ s → one s x ≡ 0
one_other s x apart =
    ⊎_elim
    (λ (t : ((x == s) ≡ true) × (x ≡ s)). absurd (apart t.1))
    (λ (t : ((x == s) ≡ false) × (x ≢ s)). ap (λ b. cond b 1 0) t.0)
    (eqb_tells x s)

-- the first number is at least n, and each further number is at least the one before it
abbrev Rise : ℕ → List ℕ → Type 0
Rise n [] = Unit {0}
Rise n (x ∷ xs) = (n ≤ x) × Rise x xs

none_below : (s n : ℕ) (xs : List ℕ) → Rise n xs → s < n → count s xs ≡ 0
none_below s n [] h lt = refl
none_below s n (x ∷ xs) h lt =
    let le : n ≤ x = h.0 in
    let apart : x ≢ s = λ e. absurd (omega (arith, e, le, lt)) in
    let here = one_other s x apart in
    let rest = none_below s x xs h.1 (omega (arith, le, lt)) in
    omega (arith, here, rest)

range_rises : (m n : ℕ) → Rise m (range_with_len m n)
range_rises m zero = tt
range_rises m (suc n) = (omega arith, rise_weaker m (m + 1) (range_with_len (m + 1) n) (omega arith) (range_rises (m + 1) n))
  where
    rise_weaker : (a b : ℕ) (xs : List ℕ) → a ≤ b → Rise b xs → Rise a xs
    rise_weaker a b [] le h = tt
    rise_weaker a b (x ∷ xs) le h = (let l = h.0 in omega (arith, le, l), h.1)

-- a is at most b if b is not less than a
pub apart_or : (a b : ℕ) → (b < a → ⊥) → a ≤ b
apart_or a b none =
    ⊎_elim
    (λ (t : (leb a b ≡ true) × (a ≤ b)). t.1)
    (λ (t : (leb a b ≡ false) × (b < a)). absurd (none t.1))
    (leb_tells a b)

-- a range has each number at most once, and only numbers below its end
range_once : (s m n : ℕ) → count s (range_with_len m n) ≤ 1
range_once s m zero = omega arith
range_once s m (suc n) =
    ⊎_elim
    (λ (t : ((m == s) ≡ true) × (m ≡ s)). let is = t.1 in let others = none_below s (m + 1) (range_with_len (m + 1) n) (range_rises (m + 1) n) (omega (arith, is)) in let here : one s m ≡ 1 = ap (λ b. cond b 1 0) t.0 in omega (arith, others, here))
    (λ (t : ((m == s) ≡ false) × (m ≢ s)). let others = range_once s (m + 1) n in let here = one_other s m t.1 in omega (arith, others, here))
    (eqb_tells m s)

range_below : (s m n : ℕ) → 0 < count s (range_with_len m n) → s < m + n
range_below s m zero given = absurd (omega (arith, given))
range_below s m (suc n) given =
    ⊎_elim
    (λ (t : ((m == s) ≡ true) × (m ≡ s)). let is = t.1 in omega (arith, is))
    (λ (t : ((m == s) ≡ false) × (m ≢ s)). let here = one_other s m t.1 in let given' : 0 < one s m + count s (range_with_len (m + 1) n) = given in let others = range_below s (m + 1) n (omega (arith, given', here)) in omega (arith, others))
    (eqb_tells m s)

-- the first id is stray if its session was not made, or if the next id is the same
stray_unmade : (made x : ℕ) (xs : List ℕ) → made ≤ x → IsStray made (x ∷ xs) x
stray_unmade made x xs unmade =
    let head = sum_by-cons (one x) x xs in
    let here = one_itself x in
    inr (omega (arith, head, here), unmade)

stray_twice : (made x y : ℕ) (xs : List ℕ) → y ≡ x → IsStray made (x ∷ y ∷ xs) x
stray_twice made x y xs is =
    let head = sum_by-cons (one x) x (y ∷ xs) in
    let next = sum_by-cons (one x) y xs in
    let here = one_itself x in
    let there : one x y ≡ one x x = ap (one x) is in
    inl (omega (arith, head, next, here, there))

-- an id that is stray among the later ids is stray among all
stray_more : (made x id : ℕ) (xs : List ℕ) → IsStray made xs id → IsStray made (x ∷ xs) id
stray_more made x id xs stray =
    let head = sum_by-cons (one id) x xs in
    ⊎_elim
    (λ (twice : 1 < times xs id). inl (omega (arith, head, twice)))
    (λ (t : (0 < times xs id) × (made ≤ id)). let given = t.0 in inr (omega (arith, head, given), t.1))
    stray

-- if the first id is not stray, the others are greater
climbs : (made x : ℕ) (xs : List ℕ) → Rise x xs → (IsStray made (x ∷ xs) x → ⊥) → Rise (x + 1) xs
climbs made x [] rise none = tt
climbs made x (y ∷ ys) rise none =
    let le : x ≤ y = rise.0 in
    (apart_or (x + 1) y (λ lt. none (stray_twice made x y ys (omega (arith, le, lt)))), rise.1)

-- rising ids of which none is stray, and which are at least as many as the made sessions, are exactly the ids of the made sessions
range_from : (made n : ℕ) (xs : List ℕ) → Rise n xs → n ≤ made → made ≤ n + length xs → ((id : ℕ) → IsStray made xs id → ⊥) → (n + length xs ≡ made) × (xs ≡ range_with_len n (length xs))
range_from made n [] rise le enough none = (omega (arith, le, enough), refl)
range_from made n (x ∷ xs) rise le enough none =
    let no_less : n ≤ x = rise.0 in
    let below : x + 1 ≤ made = apart_or (x + 1) made (λ lt. none x (stray_unmade made x xs (omega (arith, lt)))) in
    let others = range_from made (x + 1) xs (climbs made x xs rise.1 (none x)) below (omega (arith, no_less, enough)) (λ id stray. none id (stray_more made x id xs stray)) in
    let whole = others.0 in
    let is : x ≡ n = omega (arith, no_less, whole, enough) in
    let rest : xs ≡ range_with_len (n + 1) (length xs) = others.1 ∙ ap (λ k. range_with_len (k + 1) (length xs)) is in
    (omega (arith, whole, is), λ i. is i ∷ rest i)

length_ids : (js : List Journal) → length (ids_of js) ≡ length js
length_ids [] = refl
length_ids (j ∷ js) = ap suc (length_ids js)

length_range : (m n : ℕ) → length (range_with_len m n) ≡ n
length_range m zero = refl
length_range m (suc n) = ap suc (length_range (m + 1) n)

ids_in_order : (n : ℕ) (js : List Journal) → AreInOrder n js → ids_of js ≡ range_with_len n (length js)
ids_in_order n [] h = refl
ids_in_order n (j ∷ js) h = λ i. h.0 i ∷ ids_in_order (n + 1) js h.1 i

in_order_ids : (n k : ℕ) (js : List Journal) → ids_of js ≡ range_with_len n k → AreInOrder n js
in_order_ids n k [] is = tt
in_order_ids n zero (j ∷ js) is = absurd (cc (is))
in_order_ids n (suc k) (j ∷ js) is = (cc (is), in_order_ids (n + 1) k js (cc (is)))

rises_after : (j : Journal) (js : List Journal) → IsNonDecreasingBy (λ x. x.id) (j ∷ js) → Rise j.id (ids_of js)
rises_after j [] h = tt
rises_after j (x ∷ js) h = (h 0 1 j (omega arith) (omega arith), rises_after x js (λ i k d le lt. h (suc i) (suc k) d (omega (arith, le)) (omega (arith, lt))))

rises : (js : List Journal) → IsNonDecreasingBy (λ x. x.id) js → Rise 0 (ids_of js)
rises [] h = tt
rises (j ∷ js) h = (omega arith, rises_after j js h)

pub all_length : (made : ℕ) (js : List Journal) → AreAllSessions made js → length js ≡ made
all_length made js all = let l = length_permutation (ids_of js) (range_with_len 0 made) all in let r = length_range 0 made in let m = length_ids js in omega (arith, l, r, m)

-- if the sorted journals are as many as the made sessions and in order, the journals are those of all made sessions
pub all_from_order : (made : ℕ) (js sorted : List Journal) → IsPermutation js sorted → length sorted ≡ made → AreInOrder 0 sorted → AreAllSessions made js
all_from_order made js sorted p len order =
    subst (λ l. IsPermutation (ids_of js) l) (ids_in_order 0 sorted order ∙ ap (range_with_len 0) len) (IsPermutation-map (λ (j : Journal). j.id) js sorted p)

-- if the journals are those of all made sessions, no id is stray
pub none_of_all : (made : ℕ) (js : List Journal) → AreAllSessions made js → (id : ℕ) → IsStray made (ids_of js) id → ⊥
none_of_all made js all id stray =
    let same : times (ids_of js) id ≡ count id (range_with_len 0 made) = sym (sum_by-IsPermutation (one id) (ids_of js) (range_with_len 0 made) all) ∙ sym (count_is id (range_with_len 0 made)) in
    let once = range_once id 0 made in
    ⊎_elim
    (λ (twice : 1 < times (ids_of js) id). omega (arith, same, once, twice))
    (λ (t : (0 < times (ids_of js) id) × (made ≤ id)). let given = t.0 in let unmade = t.1 in let below = range_below id 0 made (omega (arith, given, same)) in omega (arith, below, unmade))
    stray

-- an id that is stray among the sorted journals is stray among the journals
stray_kept : (made id : ℕ) (js sorted : List Journal) → IsPermutation js sorted → IsStray made (ids_of sorted) id → IsStray made (ids_of js) id
stray_kept made id js sorted p stray =
    let same : times (ids_of sorted) id ≡ times (ids_of js) id = sum_by-IsPermutation (one id) (ids_of js) (ids_of sorted) (IsPermutation-map (λ (j : Journal). j.id) js sorted p) in
    subst (λ l. (1 < l) ⊎ ((0 < l) × (made ≤ id))) same stray

-- if there are at least as many journals as made sessions, and no id is stray, the sorted journals are as many as the made sessions and
-- in order
pub order_from_none : (made : ℕ) (js sorted : List Journal) → IsPermutation js sorted → IsNonDecreasingBy (λ j. j.id) sorted → made ≤ length js → ((id : ℕ) → IsStray made (ids_of js) id → ⊥) → (length sorted ≡ made) × AreInOrder 0 sorted
order_from_none made js sorted p rising enough none =
    let kept = length_permutation js sorted p in
    let many = length_ids sorted in
    let range = range_from made 0 (ids_of sorted) (rises sorted rising) (omega arith) (omega (arith, enough, kept, many)) (λ id stray. none id (stray_kept made id js sorted p stray)) in
    let whole = range.0 in
    (omega (arith, whole, many), in_order_ids 0 (length (ids_of sorted)) sorted range.1)

-- if the journals are those of all made sessions, so are the sorted journals
pub all_in_order : (made : ℕ) (js sorted : List Journal) → AreAllSessions made js → IsPermutation js sorted → IsNonDecreasingBy (λ j. j.id) sorted → AreAllSessions made sorted
all_in_order made js sorted all p rising =
    let whole = all_length made js all in
    let order = order_from_none made js sorted p rising (omega (arith, whole)) (none_of_all made js all) in
    all_from_order made sorted sorted (IsPermutation-refl sorted) order.0 order.1

pub all_still : (old new : Guarded) (js after : List Journal) → new ≡ old → after ≡ js → AreAllSessions old.made js → AreAllSessions new.made after
all_still old new js after same items all = subst (λ (h : Guarded). AreAllSessions h.made after) (sym same) (subst (λ (l : List Journal). AreAllSessions old.made l) (sym items) all)

-- no id below n is stray
abbrev pub NoneBelow : ℕ → List Journal → ℕ → Type 0
NoneBelow made js n = (id : ℕ) → id < n → IsStray made (ids_of js) id → ⊥

pub none_next : (made : ℕ) (js : List Journal) (n : ℕ) → NoneBelow made js n → (IsStray made (ids_of js) n → ⊥) → NoneBelow made js (n + 1)
none_next made js n none here id below stray =
    ⊎_elim
    (λ (t : (leb n id ≡ true) × (n ≤ id)). let above = t.1 in let is : id ≡ n = omega (arith, below, above) in here (subst (λ x. IsStray made (ids_of js) x) is stray))
    (λ (t : (leb n id ≡ false) × (id < n)). none id t.1 stray)
    (leb_tells n id)

-- if each id is below `most`, no id from there on is stray
none_above : (made most : ℕ) (js : List Journal) → All (λ j. j.id < most) js → (id : ℕ) → most ≤ id → IsStray made (ids_of js) id → ⊥
none_above made most js below id above stray =
    let none = none_given most js below id above in
    ⊎_elim
    (λ (twice : 1 < times (ids_of js) id). omega (arith, none, twice))
    (λ (t : (0 < times (ids_of js) id) × (made ≤ id)). let given = t.0 in omega (arith, none, given))
    stray
  where
    none_given : (most : ℕ) (js : List Journal) → All (λ j. j.id < most) js → (id : ℕ) → most ≤ id → times (ids_of js) id ≡ 0
    none_given most [] below id above = refl
    none_given most (j ∷ js) below id above =
        let here : j.id < most = below 0 j (omega arith) in
        let head = sum_by-cons (one id) j.id (ids_of js) in
        let other = one_other id j.id (λ is. absurd (omega (arith, here, above, is))) in
        let rest = none_given most js (λ i d lt. below (suc i) d (omega (arith, lt))) id above in
        omega (arith, head, other, rest)

-- if each id is below `most`, and no id below it is stray, no id is stray
pub none_at_all : (made most : ℕ) (js : List Journal) → All (λ j. j.id < most) js → NoneBelow made js most → (id : ℕ) → IsStray made (ids_of js) id → ⊥
none_at_all made most js below none id stray =
    ⊎_elim
    (λ (t : (leb most id ≡ true) × (most ≤ id)). none_above made most js below id t.1 stray)
    (λ (t : (leb most id ≡ false) × (id < most)). none id t.1 stray)
    (leb_tells most id)
