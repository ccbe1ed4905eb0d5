use Rattle.nw_decode.proofs.Words.{are_bytes}
use Rattle.nw_decode.proofs.Fields.{number_at}
use Rattle.nw_decode.proofs.decode.fields.number_of.Goals as goal

pub returns : goal.returns
returns c =
    let bytes = are_bytes _ c.type_inv.text in
    number_at _ _ _ _ bytes c.requires c.first.ensures.front c.first.ensures.back c.from_be_bytes.ensures
