use Rattle.nw_codec.proofs.Words.{rules, [], ◌∷◌, on_ok_weaker}
use Rattle.nw_codec.specs.Grammar.{message}
use Rattle.nw_codec.proofs.encode.put_block.Goals as goal

pub returns-clause-text : goal.returns-clause-text
unfolding message
returns-clause-text g c = on_ok_weaker c.put-2.result
    (λ put before start. put before _ (c.in_ok-put_body.ensures.text before (1 ∷ []) (c.in_ok-put.ensures.text before [] start)))
    c.put-2.ensures.text

pub returns-clause-typed : goal.returns-clause-typed
returns-clause-typed g c = on_ok_weaker c.put-2.result
    (λ put. (c.in_ok-put_body.ensures.typed, record { len = search rules; bytes = c.put-2.ensures.bytes }))
    c.put-2.ensures.text
