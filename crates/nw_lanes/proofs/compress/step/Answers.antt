use Rattle.std.proofs.Common.{◌≡◌, ℕ, List, ◌%◌, slice_index, refl, ap, ◌∙◌}
use Rattle.std.proofs.lemmas.List.{map-set}
use Rattle.std.proofs.lemmas.List.Elements.{All-set}
use Rattle.sha2.specs.Sha256.{round, round_constants}
use Rattle.sha2.proofs.Schedule256.{rounds_window}
use Rattle.nw_lanes.specs.Lanes.{IsVector, lane, vectors}
use Rattle.nw_lanes.proofs.Vectors.{lane_at}
use Rattle.nw_lanes.proofs.compress.step.Goals as goal

pub returns-clause-next : goal.returns-clause-next
returns-clause-next c = λ i b h lt held.
    let words = c.next_words-words in
    let v = c.args.v in
    let k = slice_index round_constants c.args.t in
    let after : c.round_lanes.result ≡ vectors (λ j. round (lane v j) k (slice_index words.result j)) = c.round_lanes.ensures in
    let next : lane c.round_lanes.result i ≡ round (lane v i) k (slice_index words.result i) =
    ap (λ (x : List (List ℕ)). lane x i) after ∙ lane_at (λ j. round (lane v j) k (slice_index words.result j)) i lt in
    rounds_window b h (lane c.args.w.now i) (lane v i) c.args.t k (slice_index words.result i) _ _ c.requires.low c.requires.high held.0 held.1
    (words.ensures.value i lt) (rw words.ensures.window (map-set (λ (y : List ℕ). slice_index y i) c.args.w.now (c.args.t % 16) words.result)) refl next

pub returns-clause-words : goal.returns-clause-words
returns-clause-words c = rw c.next_words-words.ensures.window (All-set IsVector c.args.w.now (c.args.t % 16) c.next_words-words.result c.next_words-words.ensures.vector c.requires.words)
