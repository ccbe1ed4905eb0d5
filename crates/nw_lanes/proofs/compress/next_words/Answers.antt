use Rattle.std.proofs.Common.{◌≡◌, ℕ, List, ◌+◌, ◌%◌, ◌<◌, slice_index, [], refl, ap, ◌∙◌, arith}
use Rattle.std.proofs.lemmas.List.{get_or-map}
use Rattle.sha2.specs.Sha256.{add32, small_sigma0, small_sigma1}
use Rattle.nw_lanes.specs.Lanes.{lane, row}
use Rattle.nw_lanes.proofs.Vectors.{of_lanes_at}
use Rattle.nw_lanes.proofs.compress.next_words.Goals as goal

pub returns-clause-value : goal.returns-clause-value
returns-clause-value c = λ i lt.
    let w = c.args.w.now in
    let t = c.args.t in
    let at : (k : ℕ) → k < 16 → slice_index (lane w i) k ≡ slice_index (row w k) i =
    λ k l. get_or-map (λ (x : List ℕ). slice_index x i) w k [] 0 (omega (arith, c.told-w)) in
    let next : ℕ → ℕ =
    λ j. add32 (add32 (add32 (small_sigma1 (slice_index (row w ((t + 14) % 16)) j)) (slice_index (row w ((t + 9) % 16)) j))
    (small_sigma0 (slice_index (row w ((t + 1) % 16)) j))) (slice_index (row w (t % 16)) j) in
    rw (at ((t + 14) % 16) (omega arith), at ((t + 9) % 16) (omega arith), at ((t + 1) % 16) (omega arith), at (t % 16) (omega arith))
    (ap (λ (x : List ℕ). slice_index x i) c.next_word-next.ensures ∙ of_lanes_at next i lt)

pub returns-clause-vector : goal.returns-clause-vector
returns-clause-vector c = rw c.next_word-next.ensures refl
