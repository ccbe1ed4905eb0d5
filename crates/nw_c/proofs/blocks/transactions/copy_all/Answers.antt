use Rattle.std.proofs.Common.{◌≡◌, ◌≤◌, ◌<◌, ◌-◌, length, map, take, ℕ, suc, ◌+◌, List, [], ◌∷◌, ◌++◌, ap, sym, ◌∙◌, arith, append_assoc, length-append}
use Rattle.std.specs.Prelude.{slice_set}
use Rattle.std.proofs.lemmas.Slice.{take-put_mid}
use Rattle.std.proofs.lemmas.List.{take_more_set, length-set}
use borrow.Rule.Slice.PartMut.{put_mid, same_len_mid}
use Rattle.nw_c.proofs.Cut.{joined}
use Rattle.nw_c.proofs.blocks.transactions.copy_all.Goals as goal

pub loop-transaction-preserved : goal.loop-transaction-preserved
loop-transaction-preserved c =
    let start : ℕ = c.loop-transaction.start in
    let bytes : List ℕ = c.loop-transaction.bytes in
    let lengths : List ℕ = c.loop-transaction.lengths in
    let t : List ℕ = c.in-Some.transaction.now in
    let rest : List (List ℕ) = c.next.new.self in
    let piece : List ℕ = c.copy_from_slice.new.self in
    let steps : c.loop-transaction.transaction-iterator ≡ t ∷ rest = c.in-Some.ensures.steps in
    let size : length (joined c.loop-transaction.transaction-iterator) ≡ length t + length (joined rest) = ap (λ ts. length (joined ts)) steps ∙ length-append t (joined rest) in
    let count : length c.loop-transaction.transaction-iterator ≡ suc (length rest) = ap length steps in
    let copied : piece ≡ t = c.copy_from_slice.ensures.after in
    let ends : start + length t ≡ start + length piece = ap (λ xs. start + length xs) (sym copied) in
    let room : start + length (joined c.loop-transaction.transaction-iterator) ≤ length bytes = c.loop-transaction.invariant.2 in
    let within : start ≤ length bytes = omega (arith, room) in
    let place : c.loop-transaction.index < length lengths = let most = c.loop-transaction.invariant.3 in omega (arith, most, count) in
    let kept : length (put_mid start (start + length t - start) bytes piece) ≡ length bytes = same_len_mid start (start + length t - start) bytes piece c.copy_from_slice.ensures.len in
    let same : length (slice_set lengths c.loop-transaction.index (length t)) ≡ length lengths = length-set lengths c.loop-transaction.index (length t) in (
      ap (λ bs. bs ++ joined rest) (take-put_mid start (start + length t - start) bytes piece (start + length t) ends within ∙ ap (λ xs. take start bytes ++ xs) copied)
          ∙ append_assoc (take start bytes) t (joined rest) ∙ ap (λ ts. take start bytes ++ joined ts) (sym steps) ∙ c.loop-transaction.invariant.0,
      ap (λ ns. ns ++ map length rest) (take_more_set lengths c.loop-transaction.index (length t) place)
          ∙ append_assoc (take c.loop-transaction.index lengths) (length t ∷ []) (map length rest) ∙ ap (λ ts. take c.loop-transaction.index lengths ++ map length ts) (sym steps) ∙ c.loop-transaction.invariant.1,
      omega (arith, room, size, kept),
      let most = c.loop-transaction.invariant.3 in omega (arith, most, count, same),
    )
