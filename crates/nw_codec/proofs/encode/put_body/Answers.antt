use Rattle.nw_codec.proofs.Words.{ℕ, List, length, refl, subst, ap, ◌∙◌, take, drop, rules, All, on_ok_weaker}
use Rattle.nw_codec.specs.Typed.{AreBytes, IsRef}
use Rattle.nw_codec.proofs.BodyPieces.{pieces_of_body}
use Rattle.nw_codec.proofs.Packed.{bytes_of_each}
use Rattle.nw_codec.proofs.Sizes.{length-transactions}
use Rattle.nw_codec.proofs.encode.put_body.Goals as goal

pub put-requires-6 : goal.put-requires-6
put-requires-6 g c =
    let size = ap length c.text.ensures ∙ length-transactions c.args.block.now.transactions in
    search (rules, size)

pub returns-clause-room : goal.returns-clause-room
returns-clause-room g c =
    let size = ap length c.text.ensures ∙ length-transactions c.args.block.now.transactions in
    on_ok_weaker c.put-6.result (λ put. search (rules, size)) c.put-6.ensures.text

pub returns-clause-text : goal.returns-clause-text
returns-clause-text g c = on_ok_weaker c.put-6.result
    (λ put before text start. subst (λ (t : List ℕ). g.S.Sink.holds c.put-6.new.self before t)
    (pieces_of_body text c.args.block.now
    c.to_be_bytes.result (take 6 (drop 2 c.to_be_bytes-2.result)) c.to_be_bytes-3.result c.as_slice-parents.result.now c.to_be_bytes-4.result c.args.block.now.transactions
    c.to_be_bytes.ensures (rw (c.to_be_bytes-2.ensures, c.get.ensures.number) refl) (search rules) c.as_slice-parents.ensures (search rules) refl)
    (rw c.text.ensures at (put before _ (c.in_ok-put-5.ensures.text before _ (c.in_ok-put_parents.ensures.text before _ (c.in_ok-put-4.ensures.text before _ (c.in_ok-put-3.ensures.text before _ (c.in_ok-put-2.ensures.text before _ (c.in_ok-put.ensures.text before text start)))))))))
    c.put-6.ensures.text

pub returns-clause-typed : goal.returns-clause-typed
returns-clause-typed g c = on_ok_weaker c.put-6.result
    (λ put. record {
      author = search rules;
      round = search rules;
      parents = subst (All IsRef) c.as_slice-parents.ensures c.in_ok-put_parents.ensures.typed;
      transactions = bytes_of_each c.args.block.now.transactions (subst AreBytes c.text.ensures c.put-6.ensures.bytes);
    })
    c.put-6.ensures.text
