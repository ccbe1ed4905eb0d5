-- Runs with one more move, and runs that stop.
use Rattle.nw_book.proofs.Words.{◌≡◌, ℕ, ◌+◌, ◌<◌, List, [], ◌∷◌, ◌++◌, Some, length, take, get_or, refl, ap, sym, subst, ◌∙◌, arith, length-append, slice_get, slice_get_read, Meaning}
use Rattle.std.proofs.Common.{length-take}
use Rattle.std.proofs.lemmas.List.{take_more}
use Rattle.nw_book.specs.Run.{Progress, IsStop, Makes, Runs}
use Rattle.nw_book.specs.declared.moves.Move.{Move}
use Rattle.nw_book.specs.declared.moves.Cause.{Cause}

-- a run with one more move
runs_last : {S : Type 0} (accepts : Meaning) (old : Progress S) (ms : List (Move S)) (between : Progress S) (m : Move S) (new : Progress S)
    → Runs accepts old ms between → Makes accepts between m new → Runs accepts old (ms ++ m ∷ []) new
runs_last accepts old [] between m new h made = (new, subst (λ p. Makes accepts p m new) h made, refl)
runs_last accepts old (x ∷ ms) between m new h made = (h.0, h.1, runs_last accepts h.0 ms between m new h.2 made)

-- a run has one more answer for each move
runs_length : {S : Type 0} (accepts : Meaning) (old : Progress S) (ms : List (Move S)) (new : Progress S) → Runs accepts old ms new → length new.answers ≡ length old.answers + length ms
runs_length {S = S} accepts old [] new h = let same : length new.answers ≡ length old.answers = ap (λ (p : Progress S). length p.answers) h in omega (arith, same)
runs_length accepts old (x ∷ ms) new h =
    let next = h.0 in
    let one : length next.answers ≡ length (old.answers ++ h.1.0 ∷ []) = ap length h.1.2 in
    let longer = length-append old.answers (h.1.0 ∷ []) in
    let rest : length new.answers ≡ length next.answers + length ms = runs_length accepts next ms new h.2 in
    omega (arith, one, longer, rest)

-- a run of the first i moves, followed by the next move, is a run of the first i + 1 moves
pub runs_more : {S : Type 0} (accepts : Meaning) (old : Progress S) (ms : List (Move S)) (i : ℕ) (between new : Progress S) (m : Move S)
    → i < length ms → m ≡ get_or ms i m → Runs accepts old (take i ms) between → Makes accepts between m new → Runs accepts old (take (i + 1) ms) new
runs_more accepts old ms i between new m inside here h made =
    let longer : Runs accepts old (take i ms ++ m ∷ []) new = runs_last accepts old (take i ms) between m new h made in
    let moves : take (i + 1) ms ≡ take i ms ++ m ∷ [] = take_more ms i m inside ∙ ap (λ x. take i ms ++ x ∷ []) (sym here) in
    rw moves longer

-- a run stops at a refused move, which changed nothing
pub stopped : {S : Type 0} (accepts : Meaning) (old : Progress S) (ms : List (Move S)) (i at : ℕ) (now last : Progress S) (m : Move S) (cause : Cause)
    → length old.answers ≡ 0 → i < length ms → m ≡ get_or ms i m → Runs accepts old (take i ms) now → IsStop now m cause → last ≡ now → at ≡ length last.answers
    → (n : Move S) × Runs accepts old (take at ms) last × (slice_get ms at ≡ Some n) × IsStop last n cause
stopped {S = S} accepts old ms i at now last m cause none inside here h stop same place =
    let many : length now.answers ≡ length old.answers + length (take i ms) = runs_length accepts old (take i ms) now h in
    let at_is : at ≡ i = omega (arith, place, ap (λ (p : Progress S). length p.answers) same, none, many, length-take i ms) in
    let there : slice_get ms i ≡ Some m = slice_get_read ms (length ms) i m refl inside here in
    rw (at_is, same) (m, h, there, stop)
