-- Properties of each item of a list and its place.
use Rattle.std.proofs.Common.{ℕ, zero, suc, ◌<◌, List, [], ◌∷◌, ◌++◌, length, slice_index_or, arith}

pub each_nil : {X : Type 0} (P : ℕ → X → Type 0) → (k : ℕ) (d : X) → k < length {A = X} [] → P k (slice_index_or [] k d)
each_nil P k d within = absurd (omega arith)

pub each_more : {X : Type 0} (P : ℕ → X → Type 0) (xs : List X) (x : X) → ((k : ℕ) (d : X) → k < length xs → P k (slice_index_or xs k d)) → P (length xs) x → (k : ℕ) (d : X) → k < length (xs ++ x ∷ []) → P k (slice_index_or (xs ++ x ∷ []) k d)
each_more P [] x each here zero d within = here
each_more P [] x each here (suc k) d within = absurd (omega arith)
each_more P (y ∷ ys) x each here zero d within = each zero d (omega arith)
each_more P (y ∷ ys) x each here (suc k) d within = each_more (λ j. P (suc j)) ys x (λ j e low. each (suc j) e (omega arith)) here k d (omega arith)
