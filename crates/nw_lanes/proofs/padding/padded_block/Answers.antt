use Rattle.std.proofs.Common.{◌≡◌, ◌+◌, ◌-◌, ◌*◌, sym, ◌∙◌, arith}
use Rattle.sha2.specs.Sha256.{padded_message}
use Rattle.nw_lanes.proofs.Padded.{block_at_within, block_at_past, block_filled, block_front, length_padded}
use Rattle.nw_lanes.proofs.padding.padded_block.Goals as goal

pub returns-then-k-message : goal.returns-then-k-message
returns-then-k-message c =
    let m = c.args.message.now in
    let k = c.args.k in
    let long : k * 64 + 64 - k * 64 ≡ 64 = omega arith in
    c.copy_from_slice.ensures.after
    ∙ rw long (sym (block_at_within m k (omega (arith, length_padded m)) ∙ block_front m (k * 64) (omega arith)))

pub returns-after-bytes : goal.returns-after-bytes
returns-after-bytes c =
    let m = c.args.message.now in
    let k = c.args.k in
    let done : c.bytes.j ≡ 64 = omega arith in
    block_filled c.bytes.block (padded_message m) (k * 64) (omega (arith, c.block_count.ensures)) (rw done at c.bytes.invariant)
    ∙ sym (block_at_within m k (omega (arith, c.block_count.ensures)))

pub returns-else-k-block_count : goal.returns-else-k-block_count
returns-else-k-block_count c = sym (block_at_past c.args.message.now c.args.k (omega (arith, c.block_count.ensures)))
