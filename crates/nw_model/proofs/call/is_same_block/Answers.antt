use Rattle.nw_model.proofs.Words.{◌≡◌, ◌∙◌, rules, sym, same_block}
use Rattle.nw_model.proofs.Sames.{same_block_decides}
use Rattle.nw_model.proofs.call.is_same_block.Goals as goal

pub returns : goal.returns
returns c =
    let answer : c.eq.result ≡ same_block c.args.one.now c.args.other.now = search rules in
    let decides = same_block_decides c.args.one.now c.args.other.now in
    (λ same. decides.0 (sym answer ∙ same), λ equal. answer ∙ decides.1 equal)
