use Rattle.std.proofs.Common.{◌≡◌, ℕ, List, [], slice_index, ap, ◌∙◌, arith, inl, inr}
use Rattle.std.proofs.lemmas.List.{get_or-set_same, get_or-set_other, length-set}
use Rattle.std.proofs.lemmas.Bool.{cases_lt}
use Rattle.sha2.specs.Sha256.{digest_bytes}
use Rattle.nw_lanes.proofs.messages.write_finished.Goals.{then-counts-i, else-counts-i}
use Rattle.nw_lanes.proofs.messages.write_finished.Goals as goal

pub lanes-preserved : goal.lanes-preserved
lanes-preserved c =
    let i = c.lanes.i in
    let old = c.lanes.digests in
    let held = c.lanes.invariant in
    elim c.if-counts-i.branch [
      | then-counts-i w ↦
          let digest = w.bytes_of.result in
          rw w.digests-is (
            length-set old i digest ∙ held.0,
            λ j lt same. elim (cases_lt j i) [
              | inl a ↦ get_or-set_other old i j digest [] (omega arith) ∙ held.1 j a same
              | inr b ↦
                  let here : i ≡ j = omega arith in
                  rw (← here) (get_or-set_same old i digest [] (omega (arith, held.0)) ∙ w.bytes_of.ensures ∙ ap (λ (h : List ℕ). digest_bytes h 8) w.lane_of.ensures)
            ],
            λ j lt other. get_or-set_other old i j digest [] (λ (e : j ≡ i). other (rw e w.if-counts-i.true)) ∙ held.2 j lt other,
          )
      | else-counts-i w ↦
          rw w.digests-is (
            held.0,
            λ j lt same. elim (cases_lt j i) [
              | inl a ↦ held.1 j a same
              | inr b ↦
                  let here : i ≡ j = omega arith in
                  let again : slice_index c.args.counts.now i ≡ c.args.k = rw here same in
                  absurd (omega arith)
            ],
            held.2,
          )
    ]
