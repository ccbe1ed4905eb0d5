use Rattle.std.proofs.Common.{◌≡◌, slice_index, refl}
use Rattle.sha2.specs.Sha256.{big_sigma0, maj}
use Rattle.nw_lanes.specs.Lanes.{of_lanes, row}
use Rattle.nw_lanes.proofs.compress.temp2.Goals as goal

pub returns : goal.returns
returns c =
    let v = c.args.v in
    let sigma : c.big_sigma0.result ≡ of_lanes (λ i. big_sigma0 (slice_index (row v 0) i)) = c.big_sigma0.ensures in
    let majority : c.maj.result ≡ of_lanes (λ i. maj (slice_index (row v 0) i) (slice_index (row v 1) i) (slice_index (row v 2) i)) = c.maj.ensures in
    rw (sigma, majority) (rw c.requires refl)
