use Rattle.nw_codec.proofs.Words.{rules, arith, subst, common_steps, on_ok_weaker}
use Rattle.nw_codec.specs.Grammar.{message}
use Rattle.nw_codec.specs.Typed.{IsSubject}
use Rattle.nw_codec.proofs.encode.certificate.put_vote.Goals as goal

pub returns-clause-text : goal.returns-clause-text
unfolding message
returns-clause-text g c = on_ok_weaker c.put-2.result
    (λ put before start. let all = put before _ (c.in_ok-put.ensures.text before _ (c.in_ok-put_subject.ensures.text before start)) in
    grind (arith, common_steps))
    c.put-2.ensures.text

pub returns-clause-typed : goal.returns-clause-typed
returns-clause-typed g c = on_ok_weaker c.put-2.result
    (λ put. record { subject = subst IsSubject c.subject.ensures c.in_ok-put_subject.ensures.typed; sealed = record { signer = search rules; signature = record { len = search rules; bytes = c.put-2.ensures.bytes } } })
    c.put-2.ensures.text
