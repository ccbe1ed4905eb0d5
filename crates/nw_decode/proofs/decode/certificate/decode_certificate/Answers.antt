use Rattle.nw_decode.proofs.Words.{[], ◌∷◌, inl, inr, refl, sym, subst, Certificate, Spells}
use Rattle.nw_codec.specs.declared.message.Message.TheVariants as messages
use Rattle.nw_decode.specs.Faults.{OfCertificate, AtTag, AtDigest}
use Rattle.nw_decode.proofs.Fronts.{later, one_field}
use Rattle.nw_decode.proofs.Fields.{exit}
use Rattle.nw_decode.proofs.decode.certificate.decode_certificate.Goals as goal

pub returns-in_err-parts : goal.returns-in_err-parts
returns-in_err-parts c = exit _ _ _ _ c.from_residual.ensures.1 (inl (later AtTag (AtDigest OfCertificate) _ _ _ (one_field AtTag (AtDigest OfCertificate) (2 ∷ []) c.args.text.now refl refl) c.in_err-parts.ensures))

pub certificate_of-requires : goal.certificate_of-requires
certificate_of-requires c = (c.in_ok-parts.ensures.0, c.in_ok-parts.ensures.2)

pub returns-in_err-certificate_of : goal.returns-in_err-certificate_of
returns-in_err-certificate_of c =
    let parts = c.in_ok-parts.ensures in
    exit _ _ _ _ c.from_residual-in_err-certificate_of.ensures.1 (inr (refl, inr (parts.0, parts.1)))

pub returns : goal.returns
returns c =
    let parts = c.in_ok-parts.ensures in
    subst (λ (x : Certificate). Spells (2 ∷ c.args.text.now) (messages.Certificate x)) (sym (c.in_ok-certificate_of.ensures parts.0 parts.2)) parts.1
