use Rattle.nw_waiting.proofs.Words.{◌≡◌, ◌∙◌, ◌∷◌, ◌++◌, [], ap, arith, get, common_steps}
use Rattle.nw_waiting.specs.Lists.{list_of}
use Rattle.nw_waiting.proofs.Members.{rewritten, written}
use Rattle.nw_waiting.proofs.Relation.{on_err}
use Rattle.nw_waiting.proofs.lists.add.Goals as goal

pub returns-in_err-push-clause-kept : goal.returns-in_err-push-clause-kept
returns-in_err-push-clause-kept g c =
    let was : c.in_ok-list.list.now.items ≡ list_of (λ v. v.items) (get g.K.Ord.cmp c.args.lists.now c.args.key) = grind (arith, common_steps) in
    on_err c.from_residual-in_err-push.result
    (rewritten g.met.K.Ord.total (λ v. v.items) c.args.lists.now.entries _ c.args.key c.push.new.self (λ q. grind (arith, c.in_ok-lists.ensures.update.0 c.push.new.self)) (c.in_err-push.ensures.items ∙ was))

pub returns-clause-added : goal.returns-clause-added
returns-clause-added g c =
    let was : c.in_ok-list.list.now.items ≡ list_of (λ v. v.items) (get g.K.Ord.cmp c.args.lists.now c.args.key) = grind (arith, common_steps) in
    written g.met.K.Ord.total (λ v. v.items) c.args.lists.now.entries _ c.args.key c.push.new.self (λ q. grind (arith, c.in_ok-lists.ensures.update.0 c.push.new.self)) (λ xs. xs ++ c.args.value ∷ [])
    (c.in_ok-push.ensures.items ∙ ap (λ xs. xs ++ c.args.value ∷ []) was)
