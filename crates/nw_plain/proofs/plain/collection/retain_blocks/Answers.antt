use Rattle.nw_plain.proofs.Words.{◌≡◌, nat_le, rules, refl, ap, ◌∙◌, filter_from_retain_pairs}
use Rattle.nw_plain.proofs.plain.collection.retain_blocks.Goals as goal

pub returns-clause-kept : goal.returns-clause-kept
returns-clause-kept c =
    filter_from_retain_pairs _ (λ f. f.0.now ≡ c.args.round) (λ e. nat_le c.args.round e.1.round)
    (λ g k v b w g' i t. (search rules, search rules, ap (λ x. x.now) t.called.met.1 ∙ i)) _ c.args.blocks.now.entries c.retain.new.self.entries refl c.retain.ensures.filtered
