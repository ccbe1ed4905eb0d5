use Rattle.std.proofs.Common.{◌≡◌, slice_index, refl}
use Rattle.sha2.specs.Sha256.{temp1, temp2}
use Rattle.nw_lanes.specs.Lanes.{lane, of_lanes}
use Rattle.nw_lanes.proofs.compress.round_lanes.Goals as goal

pub returns : goal.returns
returns c =
    let v = c.args.v in
    let first : c.temp1-first.result ≡ of_lanes (λ i. temp1 (lane v i) c.args.k (slice_index c.args.word i)) = c.temp1-first.ensures in
    let second : c.temp2-second.result ≡ of_lanes (λ i. temp2 (lane v i)) = c.temp2-second.ensures in
    rw (first, second) (rw c.requires.lanes refl)
