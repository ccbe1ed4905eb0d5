-- The tests of counts and orders pass at the encoding of a number within the limits.
use Rattle.nw_decode.proofs.Words.{◌≡◌, ℕ, ◌≤◌, true, false, cond, ltb, Option, Ok, Err, refl, sym, subst, le-ltb}
use Rattle.nw_decode.specs.declared.error.DecodeError.{DecodeError}
use Rattle.nw_decode.specs.Faults.{Stage, comes_after}
use Rattle.nw_decode.proofs.Ascending.{IsAfter, after_test}

pub count_passes : (k n high : ℕ) (d : DecodeError) (f : ℕ → Stage) → k ≡ n → n ≤ high → cond (ltb high k) (Err d) (Ok (f k)) ≡ Ok (f n)
count_passes k n high d f same low =
    let test : ltb high n ≡ false = le-ltb _ _ low in
    rw (same, test) refl

pub order_passes : (k n : ℕ) (before : Option ℕ) (d : DecodeError) (f : ℕ → Stage) → k ≡ n → IsAfter before n → cond (comes_after before k) (Ok (f k)) (Err d) ≡ Ok (f n)
order_passes k n before d f same after =
    let test : comes_after before n ≡ true = after_test before n after in
    let there : cond (comes_after before n) (Ok (f n)) (Err d) ≡ Ok (f n) = rw test refl in
    subst (λ (x : ℕ). cond (comes_after before x) (Ok (f x)) (Err d) ≡ Ok (f n)) (sym same) there
