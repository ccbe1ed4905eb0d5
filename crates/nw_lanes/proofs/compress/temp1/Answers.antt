use Rattle.std.proofs.Common.{◌≡◌, slice_index, refl}
use Rattle.sha2.specs.Sha256.{big_sigma1, ch}
use Rattle.nw_lanes.specs.Lanes.{of_lanes, row}
use Rattle.nw_lanes.proofs.compress.temp1.Goals as goal

pub returns : goal.returns
returns c =
    let v = c.args.v in
    let sigma : c.big_sigma1.result ≡ of_lanes (λ i. big_sigma1 (slice_index (row v 4) i)) = c.big_sigma1.ensures in
    let choice : c.ch.result ≡ of_lanes (λ i. ch (slice_index (row v 4) i) (slice_index (row v 5) i) (slice_index (row v 6) i)) = c.ch.ensures in
    rw (sigma, choice) (rw (c.requires.lanes, c.requires.word) refl)
