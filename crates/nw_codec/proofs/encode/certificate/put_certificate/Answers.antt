use Rattle.nw_codec.proofs.Words.{arith, subst, All, common_steps, on_ok_weaker}
use Rattle.nw_codec.specs.Grammar.{message}
use Rattle.nw_codec.specs.Typed.{IsSeal, IsSubject}
use Rattle.nw_codec.proofs.encode.certificate.put_certificate.Goals as goal

pub returns-clause-text : goal.returns-clause-text
unfolding message
returns-clause-text g c = on_ok_weaker c.put_seals.result
    (λ put before start. let all = put before _ (c.in_ok-put.ensures.text before _ (c.in_ok-put_subject.ensures.text before start)) in
    grind (arith, common_steps))
    c.put_seals.ensures.text

pub returns-clause-typed : goal.returns-clause-typed
returns-clause-typed g c = on_ok_weaker c.put_seals.result
    (λ seals. record { subject = subst IsSubject c.subject.ensures c.in_ok-put_subject.ensures.typed; votes = subst (All IsSeal) c.as_slice-seals.ensures seals })
    c.put_seals.ensures.typed
