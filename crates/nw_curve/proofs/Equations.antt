-- What follows from equations modulo n by sums and products. The left side of each equation is a product of variables, and is replaced by the right
-- side (`follows`).
use Rattle.std.proofs.Common.{◌≡◌, ℕ, List, [], sym, ◌∙◌, ap, arith}
use Rattle.nw_curve.proofs.Congruence.{Congruent, equal, turned, chained}
use Rattle.nw_curve.proofs.Polynomial.{Expression, expression_value, monomial_value, Polynomial, none, term, value, Rules, no_rule, rule, Hold, inserted, reduced, normal, normal_sound, reduced_sound, identity}

pub data Equations : Type 0 where
  no_equation : Equations
  equation : Expression → Expression → Equations → Equations

-- the equations hold at these values of the variables
abbrev pub Given : ℕ → List ℕ → Equations → Type 0
Given n vs no_equation = Unit {0}
Given n vs (equation d e es) = Congruent n (expression_value vs d) (expression_value vs e) × Given n vs es

abbrev pub expanded : ℕ → List ℕ → Expression → Polynomial
expanded n vs e = normal vs n (inserted n) e

abbrev pub leading : Polynomial → List ℕ
leading none = []
leading (term c m p) = m

-- the left sides are products of variables
abbrev pub AreRules : ℕ → List ℕ → Equations → Type 0
AreRules n vs no_equation = Unit {0}
AreRules n vs (equation d e es) = expanded n vs d ≡ term 1 (leading (expanded n vs d)) none × AreRules n vs es

abbrev pub to_rules : ℕ → List ℕ → Equations → Rules
to_rules n vs no_equation = no_rule
to_rules n vs (equation d e es) = rule (leading (expanded n vs d)) (expanded n vs e) (to_rules n vs es)

rules_hold : (n : ℕ) (vs : List ℕ) (es : Equations) → Given n vs es → AreRules n vs es → Hold n vs (to_rules n vs es)
rules_hold n vs no_equation g r = tt
rules_hold n vs (equation d e es) g r =
    let s = reduced_sound n vs no_rule tt 0 in
    let m = monomial_value vs (leading (expanded n vs d)) in
    let one : m ≡ value vs (expanded n vs d) = sym (ap (value vs) r.0 ∙ omega arith) in
    let left = chained (equal one) (normal_sound n vs (inserted n) s d) in
    (chained left (chained g.0 (turned (normal_sound n vs (inserted n) s e))), rules_hold n vs es g.1 r.1)

abbrev pub Alike : ℕ → List ℕ → Equations → Expression → Expression → Type 0
Alike n vs es d e = normal vs n (reduced n (to_rules n vs es) 12) d ≡ normal vs n (reduced n (to_rules n vs es) 12) e

-- expressions with one normal form under the equations are congruent
pub follows : (n : ℕ) (vs : List ℕ) (es : Equations) → Given n vs es → AreRules n vs es → (d e : Expression) → Alike n vs es d e
    → Congruent n (expression_value vs d) (expression_value vs e)
follows n vs es g r d e same = identity n vs (to_rules n vs es) (rules_hold n vs es g r) 12 d e same

-- expressions with one expansion are congruent
pub ring : (n : ℕ) (vs : List ℕ) (d e : Expression) → Alike n vs no_equation d e → Congruent n (expression_value vs d) (expression_value vs e)
ring n vs d e same = follows n vs no_equation tt tt d e same
