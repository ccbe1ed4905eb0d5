use Rattle.nw_plain.proofs.Words.{◌≡◌, nat_le, rules, refl, ap, ◌∙◌, filter_from_retain_pairs}
use Rattle.nw_plain.proofs.plain.collection.retain_slots.Goals as goal

pub returns : goal.returns
returns c =
    filter_from_retain_pairs _ (λ f. f.0.now ≡ c.args.round) (λ e. nat_le c.args.round e.0.0)
    (λ g k v b w g' i t. (search rules, search rules, ap (λ x. x.now) t.called.met.1 ∙ i)) _ c.args.slots.now.entries c.retain.new.self.entries refl c.retain.ensures.filtered
