use Rattle.std.proofs.Common.{◌∙◌, ◌+◌, ◌*◌, sym, arith}
use Rattle.nw_digest.proofs.Bytes.{next_word, decides, passes}
use Rattle.nw_digest.proofs.digest.order.Goals as goal

pub returns-then-one-two : goal.returns-then-one-two
returns-then-one-two c =
    let i = c.loop-index.index in
    let words = next_word c.args.these.now c.args.those.now (8 * i) (8 * (i + 1)) _ _ (omega arith) (omega arith) (omega arith)
    (λ k. omega (arith, c.type_inv.these k)) (λ k. omega (arith, c.type_inv.those k)) c.word-one.ensures c.word-two.ensures in
    c.cmp.ensures ∙ sym (c.loop-index.invariant ∙ words ∙ decides _ _ _ c.if-one-two.true)

pub loop-index-preserved : goal.loop-index-preserved
loop-index-preserved c =
    let i = c.loop-index.index in
    let words = next_word c.args.these.now c.args.those.now (8 * i) (8 * (i + 1)) _ _ (omega arith) (omega arith) (omega arith)
    (λ k. omega (arith, c.type_inv.these k)) (λ k. omega (arith, c.type_inv.those k)) c.word-one.ensures c.word-two.ensures in
    c.loop-index.invariant ∙ words ∙ passes _ _ _ c.if-one-two.false
