-- One step of a sum over tables of multiples: what a loop's invariant takes to keep that its point represents s P + k Q.
use Rattle.std.proofs.Common.{◌≡◌, ℕ, zero, suc, ◌+◌, ◌*◌, ◌/◌, ◌%◌, ◌≢◌, Bool, true, false, refl, sym, ◌∙◌, ap, subst, arith, ◌==◌, if◌then◌else◌}
use Rattle.std.proofs.lemmas.Bool.Decides.{nat_tests}
use Rattle.nw_curve.specs.declared.curve.point.Point.{Point}
use Rattle.nw_curve.specs.Curve.{added, doubled, identity}
use Rattle.nw_curve.specs.Completed.{normalized}
use Rattle.nw_curve.specs.Table.{odd_multiple}
use Rattle.nw_curve.proofs.AffineGroup.{Affine, IsOnCurve, affine_sum, sum_valid, sum_associative, sum_commutative, neutral, neutral_valid, neutral_sum, times, times_valid, times_sum}
use Rattle.nw_curve.proofs.Normalized.{normalized_represents}
use Rattle.nw_curve.proofs.Extended.{Represents, added_represents, doubled_represents, identity_represents}

-- m P + n P, of which a table is built
pub entries_add : (m n : ℕ) (p q : Point) (a : Affine) → IsOnCurve a → Represents p (times m a) → Represents q (times n a) → Represents (added p q) (times (m + n) a)
entries_add m n p q a u r s = subst (Represents (added p q)) (sym (times_sum m n a u)) (added_represents p q (times m a) (times n a) (times_valid m a u) (times_valid n a u) r s)

pub entry_doubles : (n : ℕ) (p : Point) (a : Affine) → IsOnCurve a → Represents p (times n a) → Represents (doubled p) (times (n + n) a)
entry_doubles n p a u r = subst (Represents (doubled p)) (sym (times_sum n n a u)) (doubled_represents p (times n a) (times_valid n a u) r)

-- the point s a + k b
abbrev pub combination : ℕ → ℕ → Affine → Affine → Affine
combination s k a b = affine_sum (times s a) (times k b)

-- the loop begins at the neutral element
pub combination_of_zeros : (a b : Affine) → Represents identity (combination 0 0 a b)
unfolding times
combination_of_zeros a b = subst (Represents identity) (sym (neutral_sum neutral neutral_valid)) identity_represents

-- an entry x a is added
pub first_added : (s k x : ℕ) (p q : Point) (a b : Affine) → IsOnCurve a → IsOnCurve b → Represents p (combination s k a b) → Represents q (times x a)
    → Represents (added p q) (combination (s + x) k a b)
first_added s k x p q a b u v r e =
    let sa = times s a in
    let kb = times k b in
    let xa = times x a in
    let vs = times_valid s a u in
    let vk = times_valid k b v in
    let vx = times_valid x a u in
    let same = sum_associative sa kb xa vs vk vx ∙ (ap (λ (c : Affine). affine_sum sa c) (sum_commutative kb xa vk vx)
    ∙ (sym (sum_associative sa xa kb vs vx vk) ∙ ap (λ (c : Affine). affine_sum c kb) (sym (times_sum s x a u)))) in
    subst (Represents (added p q)) same (added_represents p q (affine_sum sa kb) xa (sum_valid sa kb vs vk) vx r e)

-- an entry x b is added
pub second_added : (s k x : ℕ) (p q : Point) (a b : Affine) → IsOnCurve a → IsOnCurve b → Represents p (combination s k a b) → Represents q (times x b)
    → Represents (added p q) (combination s (k + x) a b)
second_added s k x p q a b u v r e =
    let sa = times s a in
    let kb = times k b in
    let xb = times x b in
    let vs = times_valid s a u in
    let vk = times_valid k b v in
    let vx = times_valid x b v in
    let same = sum_associative sa kb xb vs vk vx ∙ ap (λ (c : Affine). affine_sum sa c) (sym (times_sum k x b v)) in
    subst (Represents (added p q)) same (added_represents p q (affine_sum sa kb) xb (sum_valid sa kb vs vk) vx r e)

-- (x + y) + (x + y) is (x + x) + (y + y)
doubled_sum : (x y : Affine) → IsOnCurve x → IsOnCurve y → affine_sum (affine_sum x y) (affine_sum x y) ≡ affine_sum (affine_sum x x) (affine_sum y y)
doubled_sum x y u v =
    let xy = affine_sum x y in
    let w = sum_valid x y u v in
    sum_associative x y xy u v w
    ∙ (ap (λ (c : Affine). affine_sum x c) (sym (sum_associative y x y v u v) ∙ (ap (λ (c : Affine). affine_sum c y) (sum_commutative y x v u) ∙ sum_associative x y y u v v))
    ∙ sym (sum_associative x x (affine_sum y y) u u (sum_valid y y v v)))

-- the sum is doubled
pub combination_doubled : (s k : ℕ) (p : Point) (a b : Affine) → IsOnCurve a → IsOnCurve b → Represents p (combination s k a b) → Represents (doubled p) (combination (s + s) (k + k) a b)
combination_doubled s k p a b u v r =
    let x = times s a in
    let y = times k b in
    let vx = times_valid s a u in
    let vy = times_valid k b v in
    let same = doubled_sum x y vx vy
    ∙ (ap (λ (c : Affine). affine_sum c (affine_sum y y)) (sym (times_sum s s a u)) ∙ ap (λ (c : Affine). affine_sum (times (s + s) a) c) (sym (times_sum k k b v))) in
    subst (Represents (doubled p)) same (doubled_represents p (combination s k a b) (sum_valid x y vx vy) r)

-- entry i of a table of odd multiples
pub odd_represents : (i : ℕ) (p : Point) (a : Affine) → IsOnCurve a → Represents p a → Represents (odd_multiple i p) (times (suc (i + i)) a)
unfolding odd_multiple times
odd_represents zero p a u r = subst (Represents p) (sym (neutral_sum a u)) r
odd_represents (suc i) p a u r =
    let e : suc (i + i) + (1 + 1) ≡ suc (suc i + suc i) = omega arith in
    let double = entry_doubles 1 p a u (subst (Represents p) (sym (neutral_sum a u)) r) in
    subst (λ (n : ℕ). Represents (added (odd_multiple i p) (doubled p)) (times n a)) e (entries_add (suc (i + i)) (1 + 1) (odd_multiple i p) (doubled p) a u (odd_represents i p a u r) double)

-- the sum with the entry of a digit, which is 0 or odd
abbrev pub with_entry : ℕ → Point → Point → Point
with_entry d p q = if d == 0 then p else added p (odd_multiple (d / 2) q)

entry_of_digit : (d : ℕ) (q : Point) (a : Affine) → IsOnCurve a → Represents q a → d % 2 ≡ 1 → Represents (odd_multiple (d / 2) q) (times d a)
entry_of_digit d q a u r odd =
    let i = d / 2 in
    let e : suc (i + i) ≡ d = omega arith in
    subst (λ (n : ℕ). Represents (odd_multiple i q) (times n a)) e (odd_represents i q a u r)

-- the sum with the entry of a digit in a table of points with Z 1
abbrev pub with_normalized_entry : ℕ → Point → Point → Point
with_normalized_entry d p q = if d == 0 then p else added p (normalized (odd_multiple (d / 2) q))

first_entry : (s k d : ℕ) (p q : Point) (a b : Affine) → IsOnCurve a → IsOnCurve b → Represents p (combination s k a b) → Represents q a → (d ≢ 0 → d % 2 ≡ 1)
    → (t : Bool) → (d == 0) ≡ t → Represents (if t then p else added p (normalized (odd_multiple (d / 2) q))) (combination (s + d) k a b)
first_entry s k d p q a b u v r e odd true h =
    let z : s ≡ s + d = grind (arith, nat_tests) in
    subst (λ (n : ℕ). Represents p (combination n k a b)) z r
first_entry s k d p q a b u v r e odd false h =
    let nz : d ≢ 0 = grind (arith, nat_tests) in
    let entry = odd_multiple (d / 2) q in
    first_added s k d p (normalized entry) a b u v r (normalized_represents entry (times d a) (entry_of_digit d q a u e (odd nz)))

second_entry : (s k d : ℕ) (p q : Point) (a b : Affine) → IsOnCurve a → IsOnCurve b → Represents p (combination s k a b) → Represents q b → (d ≢ 0 → d % 2 ≡ 1)
    → (t : Bool) → (d == 0) ≡ t → Represents (if t then p else added p (odd_multiple (d / 2) q)) (combination s (k + d) a b)
second_entry s k d p q a b u v r e odd true h =
    let z : k ≡ k + d = grind (arith, nat_tests) in
    subst (λ (n : ℕ). Represents p (combination s n a b)) z r
second_entry s k d p q a b u v r e odd false h =
    let nz : d ≢ 0 = grind (arith, nat_tests) in
    second_added s k d p (odd_multiple (d / 2) q) a b u v r (entry_of_digit d q b v e (odd nz))

-- one step of the sum: it is doubled, and then an entry of each table is added, by the digits i and j. The first table has points with Z 1
pub digits_added : (s k i j : ℕ) (p q e f : Point) (a b : Affine) → IsOnCurve a → IsOnCurve b → Represents e a → Represents f b → (i ≢ 0 → i % 2 ≡ 1) → (j ≢ 0 → j % 2 ≡ 1)
    → Represents p (combination s k a b) → q ≡ with_entry j (with_normalized_entry i (doubled p) e) f → Represents q (combination (i + 2 * s) (j + 2 * k) a b)
digits_added s k i j p q e f a b u v re rf oi oj r eq =
    let one = combination_doubled s k p a b u v r in
    let two = first_entry (s + s) (k + k) i (doubled p) e a b u v one re oi (i == 0) refl in
    let three = second_entry (s + s + i) (k + k) j (with_normalized_entry i (doubled p) e) f a b u v two rf oj (j == 0) refl in
    let es : s + s + i ≡ i + 2 * s = omega arith in
    let ek : k + k + j ≡ j + 2 * k = omega arith in
    rw (eq, ← es, ← ek) three
