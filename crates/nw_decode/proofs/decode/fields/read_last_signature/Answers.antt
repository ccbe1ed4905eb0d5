use Rattle.nw_decode.specs.Faults.{AtEnd}
use Rattle.nw_decode.proofs.Fronts.{later}
use Rattle.nw_decode.proofs.Words.{are_bytes}
use Rattle.nw_decode.proofs.Fields.{exit, passed_as, short_as, signature_at}
use Rattle.nw_decode.proofs.decode.fields.read_last_signature.Goals as goal

pub returns-in_err-signature : goal.returns-in_err-signature
returns-in_err-signature c stage last = exit _ _ _ _ c.from_residual.ensures.1 (short_as stage 64 _ _ last.wide c.in_err-signature.ensures.0 c.in_err-signature.ensures.1)

pub returns-in_err-at_end : goal.returns-in_err-at_end
returns-in_err-at_end c stage last =
    let signature = c.in_ok-signature.ensures in
    exit _ _ _ _ c.from_residual-in_err-at_end.ensures.1 (later stage AtEnd _ _ _ (passed_as stage AtEnd 64 _ _ _ last.wide signature.0 signature.1 signature.2 (last.passes _)) c.in_err-at_end.ensures)

pub returns : goal.returns
returns c stage last =
    let signature = c.in_ok-signature.ensures in
    let bytes = are_bytes _ c.type_inv.text in
    signature_at _ _ _ bytes signature.0 signature.1 signature.2 c.in_ok-at_end.ensures
