-- Polynomials with coefficients modulo n, as sorted lists of terms: a normal form of sums and products, reduced by rules. Two expressions with the
-- same normal form are congruent modulo n wherever the rules hold (`identity`).
use Rattle.std.proofs.Common.{◌≡◌, ℕ, zero, suc, ◌+◌, ◌-◌, ◌*◌, ◌%◌, ◌^◌, Bool, true, false, List, [], ◌∷◌, refl, sym, ◌∙◌, ap, arith, ◌==◌, nat_lt, rules}
use Rattle.std.proofs.Math.Nat.{pow-zero, pow-suc, mul-one, one-mul, mul_assoc, mul-mul-mul_comm}
use Rattle.std.proofs.lemmas.Nat.{pow-add}
use Rattle.nw_curve.proofs.Congruence.{Congruent, equal, itself, turned, chained, sums, products, remainder}

infixl 20 ◌⊞◌
infixl 30 ◌⊠◌
-- The definitions

-- the value of a monomial, given by its exponents, at these values of the variables
abbrev pub monomial_value : List ℕ → List ℕ → ℕ
monomial_value [] _ = 1
monomial_value (v ∷ vs) [] = 1
monomial_value (v ∷ vs) (e ∷ es) = v ^ e * monomial_value vs es

abbrev pub product : List ℕ → List ℕ → List ℕ
product [] m = m
product (a ∷ m) [] = a ∷ m
product (a ∷ m) (b ∷ k) = (a + b) ∷ product m k

-- the quotient, if k divides m
abbrev pub quotient : List ℕ → List ℕ → List ℕ
quotient [] k = []
quotient (a ∷ m) [] = a ∷ m
quotient (a ∷ m) (b ∷ k) = (a - b) ∷ quotient m k

abbrev pub is_same : List ℕ → List ℕ → Bool
is_same [] [] = true
is_same [] (b ∷ k) = false
is_same (a ∷ m) [] = false
is_same (a ∷ m) (b ∷ k) = elim (a == b) [ true ↦ is_same m k | false ↦ false ]

-- m comes before k
abbrev pub is_before : List ℕ → List ℕ → Bool
is_before [] _ = false
is_before (a ∷ m) [] = false
is_before (a ∷ m) (b ∷ k) = elim (a == b) [ true ↦ is_before m k | false ↦ nat_lt a b ]

-- a sum of terms: coefficient, monomial, and the rest
pub data Polynomial : Type 0 where
  none : Polynomial
  term : ℕ → List ℕ → Polynomial → Polynomial

abbrev pub value : List ℕ → Polynomial → ℕ
value vs none = 0
value vs (term c m p) = c * monomial_value vs m + value vs p

-- the first if the test holds, else the second; only that one is computed
abbrev pub pick : {A : Type 0} → Bool → (Unit {0} → A) → (Unit {0} → A) → A
pick true f g = f tt
pick false f g = g tt

abbrev pub with_coefficient : ℕ → List ℕ → Polynomial → Polynomial
with_coefficient c m p = pick (c == 0) (λ _. p) (λ _. term c m p)

-- the polynomial and one more term
abbrev pub inserted : ℕ → ℕ → List ℕ → Polynomial → Polynomial
inserted n c m none = with_coefficient (c % n) m none
inserted n c m (term d k p) =
    pick (is_same m k) (λ _. with_coefficient ((c + d) % n) m p) (λ _. pick (is_before m k) (λ _. with_coefficient (c % n) m (term d k p)) (λ _. term d k (inserted n c m p)))

-- a rule replaces a monomial by a polynomial
pub data Rules : Type 0 where
  no_rule : Rules
  rule : List ℕ → Polynomial → Rules → Rules

abbrev pub Adds : Type 0
Adds = ℕ → List ℕ → Polynomial → Polynomial

-- q plus c times m times p, each term added by f
abbrev pub scaled : Adds → ℕ → List ℕ → Polynomial → Polynomial → Polynomial
scaled f c m none q = q
scaled f c m (term d k p) q = f (c * d) (product m k) (scaled f c m p q)

-- one more term, after the first rule that fits it; f adds the terms that come of it
abbrev pub by_rules : ℕ → Adds → ℕ → List ℕ → Polynomial → Rules → Polynomial
by_rules n f c m q no_rule = inserted n c m q
by_rules n f c m q (rule k p rs) = pick (is_same (product (quotient m k) k) m) (λ _. scaled f c (quotient m k) p q) (λ _. by_rules n f c m q rs)

-- one more term, after at most so many rules in a row
abbrev pub reduced : ℕ → Rules → ℕ → Adds
reduced n rs zero = inserted n
reduced n rs (suc depth) = λ c m q. by_rules n (reduced n rs depth) c m q rs

abbrev pub poly_sum : ℕ → Polynomial → Polynomial → Polynomial
poly_sum n none q = q
poly_sum n (term c m p) q = inserted n c m (poly_sum n p q)

abbrev pub poly_product : Adds → Polynomial → Polynomial → Polynomial
poly_product f none q = none
poly_product f (term c m p) q = scaled f c m q (poly_product f p q)

pub data Expression : Type 0 where
  variable : ℕ → Expression
  constant : ℕ → Expression
  ◌⊞◌ : Expression → Expression → Expression
  ◌⊠◌ : Expression → Expression → Expression

-- the value of the variable of this number
abbrev pub variable_value : List ℕ → ℕ → ℕ
variable_value [] i = 1
variable_value (v ∷ vs) zero = v
variable_value (v ∷ vs) (suc i) = variable_value vs i

abbrev pub expression_value : List ℕ → Expression → ℕ
expression_value vs (variable i) = variable_value vs i
expression_value vs (constant c) = c
expression_value vs (e ⊞ f) = expression_value vs e + expression_value vs f
expression_value vs (e ⊠ f) = expression_value vs e * expression_value vs f

-- the exponents of 1, for so many variables
abbrev pub unit_monomial : List ℕ → List ℕ
unit_monomial [] = []
unit_monomial (v ∷ vs) = 0 ∷ unit_monomial vs

abbrev pub variable_monomial : List ℕ → ℕ → List ℕ
variable_monomial [] i = []
variable_monomial (v ∷ vs) zero = 1 ∷ unit_monomial vs
variable_monomial (v ∷ vs) (suc i) = 0 ∷ variable_monomial vs i

-- the normal form; the first list stands for the variables, and only its length matters
abbrev pub normal : List ℕ → ℕ → Adds → Expression → Polynomial
normal vs n f (variable i) = f 1 (variable_monomial vs i) none
normal vs n f (constant c) = with_coefficient (c % n) (unit_monomial vs) none
normal vs n f (d ⊞ e) = poly_sum n (normal vs n f d) (normal vs n f e)
normal vs n f (d ⊠ e) = poly_product f (normal vs n f d) (normal vs n f e)

-- Soundness

product_value : (vs m k : List ℕ) → monomial_value vs (product m k) ≡ monomial_value vs m * monomial_value vs k
product_value [] m k = refl
product_value (v ∷ vs) [] k = sym (one-mul (monomial_value (v ∷ vs) k))
product_value (v ∷ vs) (a ∷ m) [] = sym (mul-one (monomial_value (v ∷ vs) (a ∷ m)))
product_value (v ∷ vs) (a ∷ m) (b ∷ k) = rw (pow-add v a b, product_value vs m k) (mul-mul-mul_comm (v ^ a) (v ^ b) (monomial_value vs m) (monomial_value vs k))

unit_value : (vs : List ℕ) → monomial_value vs (unit_monomial vs) ≡ 1
unit_value [] = refl
unit_value (v ∷ vs) = rw (pow-zero v, unit_value vs) refl

variable_monomial_value : (vs : List ℕ) (i : ℕ) → monomial_value vs (variable_monomial vs i) ≡ variable_value vs i
variable_monomial_value [] i = refl
variable_monomial_value (v ∷ vs) zero = rw (unit_value vs, pow-suc v 0, pow-zero v) (omega arith)
variable_monomial_value (v ∷ vs) (suc i) = rw (pow-zero v, variable_monomial_value vs i) (omega arith)

pick_either : {A : Type 0} (P : A → Type 0) (b : Bool) (f g : Unit {0} → A) → (b ≡ true → P (f tt)) → (b ≡ false → P (g tt)) → P (pick b f g)
pick_either P true f g if_true if_false = if_true refl
pick_either P false f g if_true if_false = if_false refl

pub equal_numbers : (a b : ℕ) → (a == b) ≡ true → a ≡ b
equal_numbers a b h = search rules

equal_lists : (a b : ℕ) (m k : List ℕ) (t : Bool) → (a == b) ≡ t → (is_same m k ≡ true → m ≡ k) → elim t [ true ↦ is_same m k | false ↦ false ] ≡ true → a ∷ m ≡ b ∷ k
equal_lists a b m k true e ih h = let heads = equal_numbers a b e in let tails = ih h in cc
equal_lists a b m k false e ih h = cc

same_monomials : (m k : List ℕ) → is_same m k ≡ true → m ≡ k
same_monomials [] [] h = refl
same_monomials [] (b ∷ k) h = cc
same_monomials (a ∷ m) [] h = cc
same_monomials (a ∷ m) (b ∷ k) h = equal_lists a b m k (a == b) refl (same_monomials m k) h

-- f adds the term that it is given
abbrev pub Sound : ℕ → List ℕ → Adds → Type 0
Sound n vs f = (c : ℕ) (m : List ℕ) (p : Polynomial) → Congruent n (value vs (f c m p)) (c * monomial_value vs m + value vs p)

with_coefficient_value : (vs : List ℕ) (c : ℕ) (m : List ℕ) (p : Polynomial) → value vs (with_coefficient c m p) ≡ c * monomial_value vs m + value vs p
with_coefficient_value vs c m p = pick_either (λ (r : Polynomial). value vs r ≡ c * monomial_value vs m + value vs p) (c == 0) (λ _. p) (λ _. term c m p)
    (λ e. let z = equal_numbers c 0 e in rw z (omega arith)) (λ _. refl)

remainder_value : (n : ℕ) (vs : List ℕ) (c : ℕ) (m : List ℕ) (p : Polynomial) → Congruent n (value vs (with_coefficient (c % n) m p)) (c * monomial_value vs m + value vs p)
remainder_value n vs c m p = chained (equal (with_coefficient_value vs (c % n) m p)) (sums (products remainder itself) itself)

inserted_sound : (n : ℕ) (vs : List ℕ) → Sound n vs (inserted n)
inserted_sound n vs c m none = remainder_value n vs c m none
inserted_sound n vs c m (term d k p) =
    let P = λ (r : Polynomial). Congruent n (value vs r) (c * monomial_value vs m + value vs (term d k p)) in
    let x = monomial_value vs m in
    let y = monomial_value vs k in
    let ih = inserted_sound n vs c m p in
    pick_either P (is_same m k) (λ _. with_coefficient ((c + d) % n) m p) (λ _. pick (is_before m k) (λ _. with_coefficient (c % n) m (term d k p)) (λ _. term d k (inserted n c m p)))
    (λ e. chained (remainder_value n vs (c + d) m p) (equal (rw (← same_monomials m k e) (omega arith))))
    (λ _. pick_either P (is_before m k) (λ _. with_coefficient (c % n) m (term d k p)) (λ _. term d k (inserted n c m p))
    (λ _. remainder_value n vs c m (term d k p))
    (λ _. chained (sums itself ih) (equal (omega arith))))

scaled_sound : (n : ℕ) (vs : List ℕ) (f : Adds) → Sound n vs f → (c : ℕ) (m : List ℕ) (p q : Polynomial)
    → Congruent n (value vs (scaled f c m p q)) (c * monomial_value vs m * value vs p + value vs q)
scaled_sound n vs f s c m none q = equal (omega arith)
scaled_sound n vs f s c m (term d k p) q =
    let x = monomial_value vs m in
    let y = monomial_value vs k in
    let ih = scaled_sound n vs f s c m p q in
    chained (s (c * d) (product m k) (scaled f c m p q)) (chained (sums itself ih) (equal (rw (product_value vs m k) (omega arith))))

-- each rule's two sides are congruent
abbrev pub Hold : ℕ → List ℕ → Rules → Type 0
Hold n vs no_rule = Unit {0}
Hold n vs (rule k p rs) = Congruent n (monomial_value vs k) (value vs p) × Hold n vs rs

by_rules_sound : (n : ℕ) (vs : List ℕ) (f : Adds) → Sound n vs f → (rs : Rules) → Hold n vs rs → (c : ℕ) (m : List ℕ) (q : Polynomial)
    → Congruent n (value vs (by_rules n f c m q rs)) (c * monomial_value vs m + value vs q)
by_rules_sound n vs f s no_rule h c m q = inserted_sound n vs c m q
by_rules_sound n vs f s (rule k p rs) h c m q =
    let t = quotient m k in
    let x = monomial_value vs t in
    let ih = by_rules_sound n vs f s rs h.1 c m q in
    pick_either (λ (r : Polynomial). Congruent n (value vs r) (c * monomial_value vs m + value vs q)) (is_same (product t k) m) (λ _. scaled f c t p q) (λ _. by_rules n f c m q rs)
    (λ e. chained (scaled_sound n vs f s c t p q) (chained (sums (products (itself {a = c * x}) (turned h.0)) itself)
    (equal (ap (λ (z : ℕ). z + value vs q) (mul_assoc c x (monomial_value vs k) ∙ ap (λ (z : ℕ). c * z) (sym (product_value vs t k) ∙ ap (monomial_value vs) (same_monomials (product t k) m e)))))))
    (λ _. ih)

pub reduced_sound : (n : ℕ) (vs : List ℕ) (rs : Rules) → Hold n vs rs → (depth : ℕ) → Sound n vs (reduced n rs depth)
reduced_sound n vs rs h zero = inserted_sound n vs
reduced_sound n vs rs h (suc depth) = λ c m q. by_rules_sound n vs (reduced n rs depth) (reduced_sound n vs rs h depth) rs h c m q

sum_sound : (n : ℕ) (vs : List ℕ) (p q : Polynomial) → Congruent n (value vs (poly_sum n p q)) (value vs p + value vs q)
sum_sound n vs none q = equal (omega arith)
sum_sound n vs (term c m p) q = chained (inserted_sound n vs c m (poly_sum n p q)) (chained (sums itself (sum_sound n vs p q)) (equal (omega arith)))

product_sound : (n : ℕ) (vs : List ℕ) (f : Adds) → Sound n vs f → (p q : Polynomial) → Congruent n (value vs (poly_product f p q)) (value vs p * value vs q)
product_sound n vs f s none q = equal (omega arith)
product_sound n vs f s (term c m p) q =
    chained (scaled_sound n vs f s c m q (poly_product f p q)) (chained (sums itself (product_sound n vs f s p q)) (equal (omega arith)))

-- the normal form has the value of its expression
pub normal_sound : (n : ℕ) (vs : List ℕ) (f : Adds) → Sound n vs f → (e : Expression) → Congruent n (value vs (normal vs n f e)) (expression_value vs e)
normal_sound n vs f s (variable i) = chained (s 1 (variable_monomial vs i) none) (equal (rw (variable_monomial_value vs i) (omega arith)))
normal_sound n vs f s (constant c) = chained (remainder_value n vs c (unit_monomial vs) none) (equal (rw (unit_value vs) (omega arith)))
normal_sound n vs f s (d ⊞ e) = chained (sum_sound n vs (normal vs n f d) (normal vs n f e)) (sums (normal_sound n vs f s d) (normal_sound n vs f s e))
normal_sound n vs f s (d ⊠ e) = chained (product_sound n vs f s (normal vs n f d) (normal vs n f e)) (products (normal_sound n vs f s d) (normal_sound n vs f s e))

-- expressions with one normal form are congruent
pub identity : (n : ℕ) (vs : List ℕ) (rs : Rules) → Hold n vs rs → (depth : ℕ) (d e : Expression) → normal vs n (reduced n rs depth) d ≡ normal vs n (reduced n rs depth) e
    → Congruent n (expression_value vs d) (expression_value vs e)
identity n vs rs h depth d e same =
    let f = reduced n rs depth in
    let s = reduced_sound n vs rs h depth in
    chained (turned (normal_sound n vs f s d)) (chained (equal (ap (value vs) same)) (normal_sound n vs f s e))
