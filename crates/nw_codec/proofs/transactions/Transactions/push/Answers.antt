use Rattle.nw_codec.proofs.Words.{◌+◌, ◌∷◌, ◌++◌, [], List, ℕ, ap, sym, ◌∙◌, subst, rules, arith}
use Rattle.nw_codec.specs.Packed.{ArePacked, cut}
use Rattle.nw_codec.proofs.Packed.{are_packed_one_more, packed_count, packed_one_more}
use Rattle.nw_codec.proofs.transactions.Transactions.push.Goals as goal

pub overflow_add-self : goal.overflow_add-self
overflow_add-self c =
    let many = packed_count c.self.inside.count c.self.inside.text.items c.self.invariant in
    search rules

pub invariant_of-self-2 : goal.invariant_of-self-2
invariant_of-self-2 c =
    subst (ArePacked (c.self.inside.count + 1)) (sym c.in_ok-append.ensures.appended)
    (are_packed_one_more c.self.inside.count c.self.inside.text.items c.args.transaction.now c.self.invariant (omega (arith, c.if-transaction-gt-MAX_TRANSACTION.false)))

pub returns-clause-pushed : goal.returns-clause-pushed
returns-clause-pushed c =
    ap (cut (c.self.inside.count + 1)) c.in_ok-append.ensures.appended
    ∙ packed_one_more c.self.inside.count c.self.inside.text.items c.args.transaction.now c.self.invariant (omega (arith, c.if-transaction-gt-MAX_TRANSACTION.false))
    ∙ ap (λ (l : List (List ℕ)). l ++ c.args.transaction.now ∷ []) c.self.view_is
