use Rattle.nw_decode.proofs.Words.{◌≡◌, length, ap, arith, length-take, are_bytes}
use Rattle.nw_decode.proofs.Fields.{number_len, item_at}
use Rattle.nw_decode.proofs.decode.certificate.seal_of.Goals as goal

pub returns : goal.returns
returns c =
    let signer = c.number_of-signer.ensures in
    let long : length c.first.result.0.now ≡ 64 = omega (arith, ap length c.first.ensures.front, length-take 64 c.number_of-signer.result.1.now, number_len _ _ _ signer) in
    let item = item_at 64 c.number_of-signer.result.0 _ _ _ _ (are_bytes _ c.type_inv.text) long signer c.first.ensures.front c.first.ensures.back in
    (record { signer = signer.low; signature = record { len = item.len; bytes = item.each } }, item.whole)
