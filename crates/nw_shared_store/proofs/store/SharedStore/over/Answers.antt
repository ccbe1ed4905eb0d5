use Rattle.nw_shared_store.proofs.Words.{◌≡◌, List, ◌∷◌, [], ◌++◌, ◌∙◌, refl, sym, ap, subst, opening, Story}
use Rattle.nw_shared_store.specs.Locked.{Current}
use Rattle.nw_shared_store.specs.Rule.{IsOneHistory, owner_of}
use Rattle.nw_shared_store.proofs.Steps.{opens}
use Rattle.nw_shared_store.proofs.store.SharedStore.over.Goals as goal

pub new-requires : goal.new-requires
new-requires g c =
    let locked : Current = record { run = 0; history = c.args.book; made = 0 } in
    let items : c.push_reserved.new.self.items ≡ locked ∷ [] = c.push_reserved.ensures.items ∙ (ap (λ (l : List Current). l ++ c.over.result ∷ []) c.in_ok-slots.ensures.items ∙ ap (λ (h : Current). h ∷ []) c.over.ensures) in
    subst (λ (x : List Current × Story). IsOneHistory g.S.Scheme.accepts x.1 (opening (0 ∷ []) x.0 (owner_of x.1 0 0 0))) (λ i. (sym items i, sym (c.in_ok-first.ensures.same ∙ c.history.ensures.history) i)) (opens g.S.Scheme.accepts locked refl)
