use Rattle.nw_check.proofs.Words.{ℕ, [], ◌<◌, ◌≤◌, length, get_or, arith, All-more, signers}
use Rattle.nw_check.proofs.Places.{place_here, place_end}
use Rattle.nw_check.proofs.Gathered.{signer_at, length-signers}
use Rattle.nw_check.proofs.gather.place_of.Goals as goal

pub returns-then-seal-signer-2 : goal.returns-then-seal-signer-2
returns-then-seal-signer-2 c =
    let len = length-signers c.args.seals.now in
    let test : c.loop-place.place < length c.args.seals.now = c.loop-place-test.true in
    let at = signer_at c.args.seals.now c.loop-place.place (record { signer = 0; signature = record { 0 = [] } }) test in
    let above = c.if-seal-signer-2.true in
    place_here (signers c.args.seals.now) c.args.signer c.loop-place.place c.requires (omega (arith, len)) (rw at above) c.loop-place.invariant

pub loop-place-preserved : goal.loop-place-preserved
loop-place-preserved c =
    let len = length-signers c.args.seals.now in
    let test : c.loop-place.place < length c.args.seals.now = c.loop-place-test.true in
    let low = c.if-seal-signer-2.false in
    let other = c.if-seal-signer.false in
    let below : get_or (signers c.args.seals.now) c.loop-place.place 0 < c.args.signer = rw (signer_at c.args.seals.now c.loop-place.place (record { signer = 0; signature = record { 0 = [] } }) test) (omega (arith, low, other)) in
    All-more (λ (n : ℕ). n < c.args.signer) (signers c.args.seals.now) c.loop-place.place 0 (omega (arith, len)) c.loop-place.invariant below

pub returns : goal.returns
returns c =
    let len = length-signers c.args.seals.now in
    let test : length c.args.seals.now ≤ c.loop-place.place = c.loop-place-test.false in
    place_end (signers c.args.seals.now) c.args.signer c.loop-place.place (length c.args.seals.now) len (omega (arith, len)) c.loop-place.invariant
