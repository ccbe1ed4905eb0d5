-- Texts that are copied into an array piece by piece.
use Rattle.nw_codec.proofs.Words.{◌≡◌, ℕ, ◌+◌, List, [], ◌++◌, length, drop, sym, ap, ◌∙◌, arith, common_steps}
use Rattle.std.proofs.Common.{append-nil}
use Rattle.std.proofs.lemmas.List.{drop-drop}
use borrow.Rule.Slice.PartMut.{put_mid}

-- copying a piece at index n leaves the first n bytes, then the piece, then the rest
pub put_next : (n k : ℕ) (front back piece : List ℕ) → length front ≡ n → put_mid n k (front ++ back) piece ≡ (front ++ piece) ++ drop k back
put_next n k front back piece en = grind (arith, common_steps)

drop_whole : (k : ℕ) (xs : List ℕ) → length xs ≡ k → drop k xs ≡ []
drop_whole k xs e = grind (arith, common_steps)

-- a second piece that fills the array ends the text
pub put_last : (n k : ℕ) (front back piece a b : List ℕ) → length front ≡ n → length back ≡ k → front ≡ a → piece ≡ b → put_mid n k (front ++ back) piece ≡ a ++ b
put_last n k front back piece a b en ek ea eb =
    let e = put_next n k front back piece en in
    let d = drop_whole k back ek in
    rw (e, d, ea, eb) (append-nil (a ++ b))

-- two lists that are the same from one place on are so from each later one
pub same_behind : (n k : ℕ) (xs ys : List ℕ) → drop n xs ≡ drop n ys → drop (n + k) xs ≡ drop (n + k) ys
same_behind n k xs ys e = sym (drop-drop k n xs) ∙ ap (drop k) e ∙ drop-drop k n ys
