use Rattle.nw_plain.proofs.Words.{[], subst, ◌∙◌, take_all, Ref}
use Rattle.nw_plain.specs.Added.{IsUnionWith, NamesMissing}
use Rattle.nw_plain.proofs.Wanting.{Of, adds_next, of_references}
use Rattle.nw_plain.proofs.plain.Plain.add_unsatisfied.Goals as goal

pub loop-reference-preserved : goal.loop-reference-preserved
loop-reference-preserved c =
    let none : Ref = record { author = 0; digest = record { 0 = [] } } in (
      adds_next (NamesMissing c.args.self.now.state c.args.block.now.round) c.as_slice-reference-items.result.now c.loop-reference.reference-index none
          c.args.wanted.now.keys c.loop-reference.wanted.keys c.add_if_unsatisfied.new.wanted.keys c.loop-reference-test.true c.loop-reference.invariant.0 c.in_ok-add_if_unsatisfied.ensures.added,
      λ ordered. c.add_if_unsatisfied.ensures.ordered (c.loop-reference.invariant.1 ordered),
    )

pub returns-clause-added : goal.returns-clause-added
returns-clause-added c =
    of_references c.args.self.now.state c.args.block.now c.args.wanted.now.keys c.loop-reference.wanted.keys c.requires.above
    (subst (λ refs. IsUnionWith (Of (NamesMissing c.args.self.now.state c.args.block.now.round) refs) c.args.wanted.now.keys c.loop-reference.wanted.keys)
    (take_all c.loop-reference.reference-index c.as_slice-reference-items.result.now c.loop-reference-test.false ∙ c.as_slice-reference-items.ensures)
    c.loop-reference.invariant.0)
