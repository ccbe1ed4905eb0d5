use Rattle.nw_codec.proofs.Words.{◌≡◌, ℕ, ap, ◌∙◌, sym, subst, pointwise}
use Rattle.nw_codec.specs.Packed.{ArePacked, cut}
use Rattle.nw_codec.specs.Same.{same_bytes}
use Rattle.nw_codec.proofs.Packed.{other_counts, same_texts}
use Rattle.nw_codec.proofs.transactions.TransactionsPartialEq.eq.Goals as goal

pub returns-then-self-other : goal.returns-then-self-other
returns-then-self-other c =
    let e : c.self.inside.count ≡ c.other.inside.count = c.if-self-other.true in
    let q : ArePacked c.self.inside.count c.other.inside.text.items = subst (λ (n : ℕ). ArePacked n c.other.inside.text.items) (sym e) c.other.invariant in
    c.eq.ensures ∙ same_texts c.self.inside.count c.self.inside.text.items c.other.inside.text.items c.self.invariant q
    ∙ (λ i. pointwise same_bytes (c.self.view_is i) ((ap (λ (n : ℕ). cut n c.other.inside.text.items) e ∙ c.other.view_is) i))

pub returns-else-self-other : goal.returns-else-self-other
returns-else-self-other c =
    other_counts c.self.inside.count c.other.inside.count c.self.inside.text.items c.other.inside.text.items c.if-self-other.false
    ∙ (λ i. pointwise same_bytes (c.self.view_is i) (c.other.view_is i))
