use Rattle.nw_check.proofs.Words.{◌≡◌, refl}
use Rattle.nw_decode.specs.declared.error.DecodeError.TheVariants.{NoMemory}
use Rattle.nw_check.proofs.message.check_message_by.Goals as goal

pub returns-in_default : goal.returns-in_default
returns-in_default g c =
    let other : c.in-Err.error ≡ NoMemory → ⊥ = c.in_default.not-NoMemory in
    record { checked = ((c.in-Err.ensures.fault c.in-Err.error other).0 refl, other); memory = tt }
