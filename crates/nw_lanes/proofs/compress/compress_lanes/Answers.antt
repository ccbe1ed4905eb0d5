use Rattle.std.proofs.Common.{◌≡◌, ℕ, List, ◌*◌, length, slice_index, refl, sym, ap, ◌∙◌, arith}
use Rattle.std.proofs.lemmas.List.{get_or-map, length-map}
use Rattle.std.proofs.lemmas.List.Elements.{All-set}
use Rattle.sha2.specs.Sha256.{add_state, compress, round, round_constants, rounds, word_at}
use Rattle.sha2.proofs.Schedule256.{IsWindow_first, rounds_first}
use Rattle.nw_lanes.specs.Lanes.{IsVector, lane, of_lanes, row, vectors}
use Rattle.nw_lanes.proofs.Filled.{lane_filled_next}
use Rattle.nw_lanes.proofs.Vectors.{lane_at, of_lanes_at}
use Rattle.nw_lanes.proofs.compress.compress_lanes.Goals as goal

pub load-preserved : goal.load-preserved
load-preserved c =
    let blocks = c.args.blocks.now in
    let word : ℕ → ℕ = λ i. word_at (row blocks i) (4 * c.load.t) in
    let loaded : c.load-in-load.result ≡ of_lanes word = c.load-in-load.ensures in (
      λ j lt.
          lane_filled_next c.load.w c.load-in-load.result j c.load.t 16 (λ k. word_at (row blocks j) (4 * k)) (omega arith) (c.load.invariant.0 j lt)
          (ap (λ (x : List ℕ). slice_index x j) loaded ∙ of_lanes_at word j lt),
      All-set IsVector c.load.w c.load.t c.load-in-load.result (rw loaded refl) c.load.invariant.1,
    )

pub first-init : goal.first-init
unfolding rounds
first-init c = (
  λ j lt.
      let held = c.load.invariant.0 j lt in
      (IsWindow_first (row c.args.blocks.now j) (lane c.load.w j) held.0 (λ k l. held.1 k (omega arith)), refl),
  c.requires,
  c.load.invariant.1,
)

pub first-preserved : goal.first-preserved
first-preserved c =
    let v = c.first.v in
    let w = c.load.w in
    let k = slice_index round_constants c.first.t in
    let word = row w c.first.t in
    let next : ℕ → List ℕ = λ i. round (lane v i) k (slice_index word i) in
    let after : c.round_lanes-next.result ≡ vectors next = c.round_lanes-next.ensures in (
      λ j lt.
          let held = c.first.invariant.0 j lt in
          let len : length (lane w j) ≡ length w = length-map w (λ (y : List ℕ). slice_index y j) in (
            held.0,
            rounds_first (row c.args.blocks.now j) (lane c.args.state.now j) (lane w j) (lane v j) c.first.t k (slice_index word j) _ (omega arith) held.0 held.1 refl
                (sym (get_or-map (λ (y : List ℕ). slice_index y j) w c.first.t _ 0 (omega (arith, held.0.0, len))))
                (ap (λ (x : List (List ℕ)). lane x j) after ∙ lane_at next j lt),
          ),
      rw after refl,
      c.load.invariant.1,
    )

pub round_lanes-next-requires-clause-word : goal.round_lanes-next-requires-clause-word
round_lanes-next-requires-clause-word c =
    c.load.invariant.1 c.first.t _ (omega (arith, (c.load.invariant.0 0 (omega arith)).0, length-map c.load.w (λ (y : List ℕ). slice_index y 0)))

pub rest-preserved : goal.rest-preserved
rest-preserved c = (
  λ j lt. c.step-next.ensures.next j (row c.args.blocks.now j) (lane c.args.state.now j) lt (c.rest.invariant.0 j lt),
  c.step-next.ensures.lanes,
  c.step-next.ensures.words,
)

pub returns-clause-value : goal.returns-clause-value
unfolding compress
returns-clause-value c = λ i lt.
    let state = c.args.state.now in
    let done : c.rest.t ≡ 64 = omega (arith, c.rest.auto.t-end (omega arith)) in
    let sum : ℕ → List ℕ = λ j. add_state (lane state j) (lane c.rest.v j) in
    let added : c.add_states.result ≡ vectors sum = c.add_states.ensures in
    ap (λ (x : List (List ℕ)). lane x i) added ∙ lane_at sum i lt ∙ ap (add_state (lane state i)) (rw done at (c.rest.invariant.0 i lt).1)
