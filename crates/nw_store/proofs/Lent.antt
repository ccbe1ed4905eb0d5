-- The items of a vector after a slice of all of it was borrowed mutably.
use Rattle.nw_store.proofs.Words.{◌≡◌, ℕ, List, [], ◌∷◌, ◌++◌, length, refl, ap, subst}
use Rattle.std.proofs.Common.{take, drop}

take_whole : {X : Type 0} (ys zs : List X) → take (length ys) (ys ++ zs) ≡ ys
take_whole [] zs = refl
take_whole (y ∷ ys) zs = ap (λ l. y ∷ l) (take_whole ys zs)

pub lent : {X : Type 0} (n : ℕ) (ys xs : List X) → length ys ≡ n → take n (ys ++ drop (length ys) xs) ≡ ys
lent n ys xs len = subst (λ m. take m (ys ++ drop (length ys) xs) ≡ ys) len (take_whole ys (drop (length ys) xs))
