use Rattle.nw_decode.proofs.Words.{are_bytes}
use Rattle.nw_decode.proofs.Fields.{number_at}
use Rattle.nw_decode.proofs.decode.fields.read_number.Goals as goal

pub returns : goal.returns
returns c =
    let bytes = are_bytes _ c.type_inv.text in
    let field = c.in_ok-bytes.ensures in
    number_at _ _ _ _ bytes field.0 field.1 field.2 c.from_be_bytes.ensures
