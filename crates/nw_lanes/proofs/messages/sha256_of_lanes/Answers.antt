use Rattle.std.proofs.Common.{◌≡◌, ℕ, List, ◌+◌, ◌*◌, ◌/◌, ◌<◌, ◌≤◌, length, take, drop, slice_index, refl, sym, ap, ◌∙◌, arith, inl, inr}
use Rattle.std.proofs.lemmas.Bool.{cases_lt}
use Rattle.sha2.specs.Sha256.{digest_bytes, hash_after, initial_hash_256, padded_message, sha256}
use Rattle.sha2.proofs.Absorbing256.{hash_after_next}
use Rattle.nw_lanes.specs.Lanes.{contents, lane, row}
use Rattle.nw_lanes.proofs.Padded.{block_at_within, length_padded}
use Rattle.nw_lanes.proofs.Vectors.{lane_at}
use Rattle.nw_lanes.proofs.messages.sha256_of_lanes.Goals as goal

digest_at : (m : List ℕ) (n : ℕ) → n ≡ length (padded_message m) / 64 → digest_bytes (hash_after initial_hash_256 (padded_message m) n) 8 ≡ sha256 m
unfolding sha256
digest_at m n e = rw e refl

pub steps-init : goal.steps-init
unfolding hash_after
steps-init c = (
  refl,
  λ i lt le. lane_at (λ (j : ℕ). initial_hash_256) i lt,
  λ i lt le. absurd (omega (arith, length_padded (row (contents c.args.messages.now) i))),
)

pub steps-preserved : goal.steps-preserved
steps-preserved c =
    let k = c.steps.k in
    let message : ℕ → List ℕ = λ i. row (contents c.args.messages.now) i in
    let padded : ℕ → List ℕ = λ i. padded_message (message i) in
    let held = c.steps.invariant in
    let hash : (i : ℕ) → i < 8 → k + 1 ≤ length (padded i) / 64 → lane c.compress_lanes.new.state i ≡ hash_after initial_hash_256 (padded i) (k + 1) =
    λ i lt le.
    let old : lane c.steps.state i ≡ hash_after initial_hash_256 (padded i) k = held.1 i lt (omega arith) in
    let block : row c.blocks_at-blocks.result i ≡ take 64 (drop (k * 64) (padded i)) =
    c.blocks_at-blocks.ensures i lt ∙ block_at_within (message i) k (omega arith) in
    c.compress_lanes.ensures.value i lt ∙ rw (old, block) (sym (hash_after_next initial_hash_256 (padded i) k)) in (
      c.compress_lanes.ensures.lanes,
      hash,
      λ i lt le.
          let count : slice_index c.block_counts-counts.result i ≡ length (padded i) / 64 = c.block_counts-counts.ensures i lt in
          elim (cases_lt k (length (padded i) / 64)) [
            | inl more ↦
                let ends : k + 1 ≡ length (padded i) / 64 = omega arith in
                c.write_finished.ensures.finished i lt (count ∙ sym ends)
                ∙ ap (λ (h : List ℕ). digest_bytes h 8) (hash i lt (omega arith)) ∙ digest_at (message i) (k + 1) ends
            | inr ended ↦ c.write_finished.ensures.others i lt (λ same. absurd (omega arith)) ∙ held.2 i lt (omega arith)
          ],
    )

pub returns : goal.returns
returns c = λ i lt. c.steps.invariant.2 i lt (omega (arith, c.block_counts-counts.ensures i lt, c.largest-most.ensures i lt))
