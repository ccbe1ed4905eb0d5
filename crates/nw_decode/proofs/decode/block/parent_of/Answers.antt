use Rattle.nw_decode.proofs.Words.{◌≡◌, length, ap, arith, length-take, are_bytes}
use Rattle.nw_decode.proofs.Fields.{number_len, item_at}
use Rattle.nw_decode.proofs.decode.block.parent_of.Goals as goal

pub returns : goal.returns
returns c =
    let author = c.number_of-author.ensures in
    let long : length c.first.result.0.now ≡ 32 = omega (arith, ap length c.first.ensures.front, length-take 32 c.number_of-author.result.1.now, number_len _ _ _ author) in
    let item = item_at 32 c.number_of-author.result.0 _ _ _ _ (are_bytes _ c.type_inv.text) long author c.first.ensures.front c.first.ensures.back in
    (record { author = author.low; digest = item.len; digest_bytes = item.each }, item.whole)
