-- Lists that are cut at known lengths, and numbers as bytes.
use Rattle.nw_codec.proofs.Words.{◌≡◌, ℕ, zero, suc, ◌<◌, ◌≤◌, List, [], ◌∷◌, ◌++◌, length, get_or, take, drop, refl, sym, ap, subst, ◌∙◌, arith, w16, w32, to_be_bytes, from_be_bytes, common_steps, take_at, drop_at, from_be_bytes-to_be_bytes_4}
use Rattle.std.proofs.Common.{◌^◌, ◌/◌, ◌%◌}
use Rattle.std.specs.Int.{w64}
use Rattle.std.proofs.lemmas.List.Elements.{All-take, All-drop}
use Rattle.std.proofs.lemmas.Nat.{be_bytes_2, be_bytes_4, be_bytes_8, from_be_bytes-to_be_bytes_2, from_be_bytes-to_be_bytes_8}
use Rattle.nw_digest.specs.Bytes.{AreBytes}
use Rattle.nw_digest.proofs.Bytes.{byte_below}
use Rattle.nw_codec.specs.Grammar.{round_bytes}

pub first_is : (a b : ℕ) (x y : List ℕ) → a ∷ x ≡ b ∷ y → a ≡ b
first_is a b x y e = cc

-- two lists that begin with pieces of one length begin with the same piece
pub same_start : {A : Type 0} (a b x y : List A) → length a ≡ length b → a ++ x ≡ b ++ y → (a ≡ b) × (x ≡ y)
same_start [] [] x y l e = (refl, e)
same_start [] (d ∷ b) x y l e = absurd (omega (arith, l))
same_start (c ∷ a) [] x y l e = absurd (omega (arith, l))
same_start (c ∷ a) (d ∷ b) x y l e =
    let heads : c ≡ d = cc in
    let tails : a ++ x ≡ b ++ y = cc in
    let both = same_start a b x y (omega (arith, l)) tails in
    (cc (heads, both.0), both.1)

front_length : (n : ℕ) (xs : List ℕ) → n ≤ length xs → length (take n xs) ≡ n
front_length n xs low = grind (arith, common_steps)

-- a list whose first n items are this text, and that is as before behind them
pub filled_front : (n size : ℕ) (now before text : List ℕ) → n ≤ length now → (take n now ≡ text) × (drop n now ≡ drop n before) → length text ≡ size
    → (take size now ≡ text) × (drop size now ≡ drop size before)
filled_front n size now before text low written e =
    let filled : n ≡ size = sym (front_length n now low) ∙ ap length written.0 ∙ e in
    subst (λ (k : ℕ). (take k now ≡ text) × (drop k now ≡ drop k before)) filled written

-- numbers of 16 bits

pub back16 : (bytes : List ℕ) → length bytes ≡ 2 → AreBytes bytes → to_be_bytes w16 (from_be_bytes w16 bytes) ≡ bytes
back16 bytes len h = be_bytes_2 bytes _ len (byte_below bytes h) refl

pub again16 : (n : ℕ) → n < 2 ^ 16 → from_be_bytes w16 (to_be_bytes w16 n) ≡ n
again16 n lt = from_be_bytes-to_be_bytes_2 n lt

pub below16 : (bytes : List ℕ) → AreBytes bytes → from_be_bytes w16 bytes < 2 ^ 16
below16 bytes h = omega (arith, byte_below bytes h 0, byte_below bytes h 1)

pub same16 : (m n : ℕ) → m < 2 ^ 16 → n < 2 ^ 16 → to_be_bytes w16 m ≡ to_be_bytes w16 n → m ≡ n
same16 m n low high e = sym (again16 m low) ∙ ap (from_be_bytes w16) e ∙ again16 n high

-- numbers of 32 bits

pub back32 : (bytes : List ℕ) → length bytes ≡ 4 → AreBytes bytes → to_be_bytes w32 (from_be_bytes w32 bytes) ≡ bytes
back32 bytes len h = be_bytes_4 bytes _ len (byte_below bytes h) refl

pub again32 : (n : ℕ) → n < 2 ^ 32 → from_be_bytes w32 (to_be_bytes w32 n) ≡ n
again32 n lt = from_be_bytes-to_be_bytes_4 n lt

pub same32 : (m n : ℕ) → m < 2 ^ 32 → n < 2 ^ 32 → to_be_bytes w32 m ≡ to_be_bytes w32 n → m ≡ n
same32 m n low high e = sym (again32 m low) ∙ ap (from_be_bytes w32) e ∙ again32 n high

-- rounds

-- the number of six bytes
abbrev pub round_of : List ℕ → ℕ
round_of bytes = from_be_bytes w64 (0 ∷ 0 ∷ bytes)

padded : (bytes : List ℕ) → AreBytes bytes → (i : ℕ) → get_or (0 ∷ 0 ∷ bytes) i 0 < 256
padded bytes h zero = omega arith
padded bytes h (suc zero) = omega arith
padded bytes h (suc (suc i)) = byte_below bytes h i

pub back48 : (bytes : List ℕ) → length bytes ≡ 6 → AreBytes bytes → round_bytes (round_of bytes) ≡ bytes
back48 bytes len h =
    let whole : to_be_bytes w64 (round_of bytes) ≡ 0 ∷ 0 ∷ bytes = be_bytes_8 (0 ∷ 0 ∷ bytes) _ (omega (arith, len)) (padded bytes h) refl in
    ap (λ (x : List ℕ). drop 2 x) whole

pub below48 : (bytes : List ℕ) → AreBytes bytes → round_of bytes < 2 ^ 48
below48 bytes h = omega (arith, byte_below bytes h 0, byte_below bytes h 1, byte_below bytes h 2, byte_below bytes h 3, byte_below bytes h 4, byte_below bytes h 5)

high_bytes : (n : ℕ) → n < 2 ^ 48 → to_be_bytes w64 n ≡ 0 ∷ 0 ∷ round_bytes n
high_bytes n lt =
    let seventh : n / 256 ^ 7 % 256 ≡ 0 = omega arith in
    let sixth : n / 256 ^ 6 % 256 ≡ 0 = omega arith in
    rw (seventh, sixth) refl

pub again48 : (n : ℕ) → n < 2 ^ 48 → round_of (round_bytes n) ≡ n
again48 n lt = ap (from_be_bytes w64) (sym (high_bytes n lt)) ∙ from_be_bytes-to_be_bytes_8 n (omega arith)

pub same48 : (m n : ℕ) → m < 2 ^ 48 → n < 2 ^ 48 → round_bytes m ≡ round_bytes n → m ≡ n
same48 m n low high e = sym (again48 m low) ∙ ap round_of e ∙ again48 n high

-- both parts of a text of bytes are texts of bytes
pub bytes_of : (front back text : List ℕ) → text ≡ front ++ back → AreBytes text → AreBytes front × AreBytes back
bytes_of front back text cut h =
    let whole : AreBytes (front ++ back) = subst AreBytes cut h in
    let first : AreBytes (take (length front) (front ++ back)) = All-take (λ b. b < 256) (length front) (front ++ back) whole in
    let second : AreBytes (drop (length front) (front ++ back)) = All-drop (λ b. b < 256) (length front) (front ++ back) whole in
    (subst AreBytes (take_at front back (length front) refl) first, subst AreBytes (drop_at front back (length front) refl) second)
