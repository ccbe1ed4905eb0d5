use Rattle.nw_codec.proofs.Words.{rules, nat_lt, answers_always}
use Rattle.nw_codec.specs.declared.certificate.Seal.{Seal}
use Rattle.nw_codec.proofs.Rising.{rising_answer}
use Rattle.nw_codec.proofs.certificate.is_ascending.Goals as goal

pub returns : goal.returns
returns c = rising_answer (λ (v : Seal). v.signer) c.args.votes.now c.is_sorted_by.result
    (c.is_sorted_by.ensures.cases (λ v w. nat_lt v.signer w.signer) (answers_always _ _ _ (λ f a r g h. search rules)))
