use Rattle.nw_decode.proofs.Words.{◌≡◌, length, ap, arith, rules, refl, length-drop, are_bytes}
use Rattle.nw_decode.proofs.Fields.{round_leaves}
use Rattle.nw_decode.proofs.Parts.{subject_read}
use Rattle.nw_decode.proofs.decode.fields.subject_of.Goals as goal

pub round_of-round-requires : goal.round_of-round-requires
round_of-round-requires c =
    let long : length c.args.text.now ≡ 40 = search rules in
    omega (arith, long, ap length c.first.ensures.back, length-drop 32 c.args.text.now)

pub number_of-author-requires : goal.number_of-author-requires
number_of-author-requires c =
    let long : length c.args.text.now ≡ 40 = search rules in
    omega (arith, long, ap length c.first.ensures.back, length-drop 32 c.args.text.now, round_leaves _ _ _ c.round_of-round.ensures)

pub returns-clause-typed : goal.returns-clause-typed
returns-clause-typed c = (subject_read _ _ _ _ _ _ _ (are_bytes _ (search rules)) (search rules) c.first.ensures.front c.first.ensures.back c.round_of-round.ensures c.number_of-author.ensures _ refl).0

pub returns-clause-bytes : goal.returns-clause-bytes
returns-clause-bytes c = (subject_read _ _ _ _ _ _ _ (are_bytes _ (search rules)) (search rules) c.first.ensures.front c.first.ensures.back c.round_of-round.ensures c.number_of-author.ensures _ refl).1
