use Rattle.nw_plain.proofs.Words.{subst, sym}
use Rattle.nw_plain.specs.Added.{IsUnionWith, NamesMissing}
use Rattle.nw_plain.proofs.Wanting.{lacks_one}
use Rattle.nw_plain.proofs.plain.Plain.add_if_unsatisfied.Goals as goal

pub returns-in_ok-insert-clause-added : goal.returns-in_ok-insert-clause-added
returns-in_ok-insert-clause-added c =
    subst (λ new. IsUnionWith (NamesMissing c.args.self.now.state c.args.round c.args.reference.now) c.args.wanted.now.keys new) (sym c.in_ok-insert.ensures.keys)
    (lacks_one c.args.self.now.state c.args.round c.args.reference.now c.args.before c.requires (λ satisfied. let yes = c.is_satisfied.ensures.1 satisfied in let no = c.if-not-is_satisfied.true in absurd cc) c.args.wanted.now.keys)
