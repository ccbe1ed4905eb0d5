use Rattle.nw_shared_store.proofs.Words.{◌≡◌, ℕ, List, ◌∷◌, subst, sym, ◌<◌, arith, ◌∙◌, ap, ◌==◌, none, either, Allows, step}
use Rattle.nw_shared_store.specs.Locked.{Current}
use Rattle.nw_shared_store.specs.Rule.{IsOneHistory, Acquires, holder_of}
use Rattle.nw_shared_store.proofs.Steps.{acquires}
use Rattle.nw_shared_store.proofs.lock.try_take.Goals as goal

pub compare_exchange-requires : goal.compare_exchange-requires
compare_exchange-requires g c =
    let lock = c.args.lock.now.shared in
    let slots = lock.table_id.slots in
    let me = c.args.seat.now.me in (
      c.requires.lock.same,
      subst (λ n. 0 < n) (sym c.requires.lock.words) (omega arith),
      subst (λ (l : List (ℕ × Current)). Allows (IsOneHistory g.S.Scheme.accepts lock.key) slots c.args.seat.now.id (me.0, l) 0 (λ n. either (n == 0) 1 n) (Acquires g.S.Scheme.accepts (step slots 0 0 1 none) (me.0, l))) (sym c.requires.out) (acquires g.S.Scheme.accepts lock.key slots c.args.seat.now.id me.0),
    )

pub returns-clause-got : goal.returns-clause-got
returns-clause-got g c =
    let free : c.compare_exchange.result ≡ 0 = omega arith in
    let told = c.compare_exchange.ensures.2.0 free in
    let v = c.args.seat.now.me.0 in
    (told.0, told.1 ∙ ap (λ (l : List (ℕ × Current)). (holder_of told.0 v, (0, told.0) ∷ l)) c.requires.out, told.2)
