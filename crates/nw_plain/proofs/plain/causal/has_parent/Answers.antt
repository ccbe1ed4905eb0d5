use Rattle.nw_plain.proofs.Words.{Some, sym, ◌∙◌, ap, from_entries, digest_cmp, get_lookup, digests_total}
use Rattle.nw_model.proofs.Complete.{no_parent, round_decides, other_author}
use Rattle.nw_plain.proofs.plain.causal.has_parent.Goals as goal

pub returns-in-None : goal.returns-in-None
returns-in-None c = (
  λ t. absurd cc,
  λ has. absurd (no_parent (from_entries {R = digest_cmp} c.args.blocks.now.entries) c.args.round c.args.reference.now
      (get_lookup digests_total c.args.blocks.now.entries c.args.reference.now.digest ∙ sym c.in-None.ensures.value) has),
)

pub returns-then-parent-reference : goal.returns-then-parent-reference
returns-then-parent-reference c = round_decides (from_entries {R = digest_cmp} c.args.blocks.now.entries) c.args.round c.args.reference.now c.get-parent.result.now _ _
    (get_lookup digests_total c.args.blocks.now.entries c.args.reference.now.digest ∙ sym c.in-Some.ensures.value ∙ ap Some (sym c.get-parent.ensures))
    c.if-parent-reference.true c.get-then-parent-reference.ensures.number c.get-then-parent-reference-2.ensures.number

pub returns-else-parent-reference : goal.returns-else-parent-reference
returns-else-parent-reference c = other_author (from_entries {R = digest_cmp} c.args.blocks.now.entries) c.args.round c.args.reference.now c.get-parent.result.now
    (get_lookup digests_total c.args.blocks.now.entries c.args.reference.now.digest ∙ sym c.in-Some.ensures.value ∙ ap Some (sym c.get-parent.ensures))
    c.if-parent-reference.false
