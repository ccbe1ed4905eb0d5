use Rattle.nw_shared_store.proofs.Words.{◌≡◌, ◌∙◌, ap, length, sym, subst, refl, IsPrefixOf, Story, prefix_itself, Journal}
use Rattle.std.proofs.Common.{true≢false}
use Rattle.nw_shared_store.proofs.Parts.{part, same_story}
use Rattle.nw_shared_store.proofs.settlement.compare_one.Goals.{then-id-via-then-id, then-id-via-else-id+then-len, then-id-via-else-id+else-len+then-not-is_prefix_of}
use Rattle.nw_shared_store.proofs.settlement.compare_one.Goals as goal

pub returns-else-not-is_prefix_of-clause-part : goal.returns-else-not-is_prefix_of-clause-part
returns-else-not-is_prefix_of-clause-part g c =
    let id : c.args.session.now.journal.id ≡ c.args.id = sym (ap (λ (j : Journal). j.id) c.in-Ok.ensures.knows) ∙ (sym c.id.ensures ∙ c.if-id.false) in
    part g.S.Scheme.accepts c.args.id c.args.history.now c.in-Ok.now c.in-Ok.field-0-1 c.args.session.now c.history.new.self c.in-Ok.ensures.present c.in-Ok.ensures.knows c.history.ensures.same id
    (same_story c.in-Ok.now c.args.history.now (c.if-not-is_prefix_of.ensures.prefix.0 refl) (sym c.len.ensures.length ∙ (c.if-len.false ∙ c.len-else-id.ensures.length)))

pub returns-then-id-clause-refused : goal.returns-then-id-clause-refused
returns-then-id-clause-refused g c = (
  refl,
  (
    c.in-Ok.now,
    c.in-Ok.field-0-1,
    (c.in-Ok.ensures.present, c.in-Ok.ensures.knows),
    (λ one same. elim c.then-id.branch [
      | then-id-via-then-id w ↦ w.if-id.true (c.id.ensures ∙ (ap (λ (j : Journal). j.id) c.in-Ok.ensures.knows ∙ one))
      | then-id-via-else-id+then-len w ↦ w.if-len.true (w.len.ensures.length ∙ (ap (λ (h : Story). length h.events) same ∙ sym w.len-else-id.ensures.length))
      | then-id-via-else-id+else-len+then-not-is_prefix_of w ↦ true≢false (sym (w.is_prefix_of.ensures.prefix.1 (subst (IsPrefixOf c.in-Ok.now) same (prefix_itself c.in-Ok.now))) ∙ w.if-not-is_prefix_of.true)
    ]),
  ),
)
