use Rattle.nw_codec.proofs.Words.{◌≡◌, ℕ, suc, ◌∷◌, length, rules, ap, sym, ◌∙◌, subst, arith}
use Rattle.nw_codec.specs.Packed.{ArePacked, cut}
use Rattle.nw_codec.proofs.Packed.{IsNext, next_packed}
use Rattle.nw_codec.proofs.transactions.TransactionsIterIterator.next.Goals as goal

pub first_transaction-requires : goal.first_transaction-requires
first_transaction-requires c =
    let one_more : c.self.inside.left ≡ suc c.in_ok-self-inside.field-0 = search rules in
    let n : IsNext c.in_ok-self-inside.field-0 c.self.inside.text.now = next_packed _ _ (subst (λ (count : ℕ). ArePacked count c.self.inside.text.now) one_more c.self.invariant) in
    record { length = n.number; bytes = n.enough }

pub invariant_of-self : goal.invariant_of-self
invariant_of-self c =
    let one_more : c.self.inside.left ≡ suc c.in_ok-self-inside.field-0 = search rules in
    let n : IsNext c.in_ok-self-inside.field-0 c.self.inside.text.now = next_packed _ _ (subst (λ (count : ℕ). ArePacked count c.self.inside.text.now) one_more c.self.invariant) in
    subst (ArePacked c.in_ok-self-inside.field-0) (sym c.first_transaction.ensures.back) n.others

pub returns-clause-steps : goal.returns-clause-steps
returns-clause-steps c =
    let one_more : c.self.inside.left ≡ suc c.in_ok-self-inside.field-0 = search rules in
    sym c.self.view_is ∙ ap (λ (count : ℕ). cut count c.self.inside.text.now) one_more
    ∙ sym (λ i. c.first_transaction.ensures.front i ∷ cut c.in_ok-self-inside.field-0 (c.first_transaction.ensures.back i))

pub returns-clause-goes : goal.returns-clause-goes
returns-clause-goes c =
    let steps = ap length (returns-clause-steps c) in
    record { on = λ f. (tt, tt, omega (arith, steps)); keeps = tt; rests = λ f. tt }
