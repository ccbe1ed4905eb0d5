use Rattle.nw_codec.proofs.Words.{rules, nat_lt, answers_always}
use Rattle.nw_codec.specs.declared.block.Ref.{Ref}
use Rattle.nw_codec.proofs.Rising.{rising_answer}
use Rattle.nw_codec.proofs.block.is_ascending.Goals as goal

pub returns : goal.returns
returns c = rising_answer (λ (p : Ref). p.author) c.args.parents.now c.is_sorted_by.result
    (c.is_sorted_by.ensures.cases (λ p q. nat_lt p.author q.author) (answers_always _ _ _ (λ f a r g h. search rules)))
