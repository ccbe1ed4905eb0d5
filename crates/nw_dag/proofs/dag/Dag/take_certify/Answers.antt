use Rattle.nw_dag.proofs.Words.{◌≡◌, None, refl, ap, sym, ◌∙◌, subst, get, State, with_certificate, Certificate}
use Rattle.nw_model.proofs.Carried.{certified_anew}
use Rattle.nw_dag.specs.Frozen.{AreFrozenExcept}
use Rattle.nw_dag.proofs.Freezing.{frozen_arrived}
use Rattle.nw_dag.proofs.Written.{certified, certificate_arrives, since_certified}
use Rattle.nw_dag.proofs.dag.Dag.take_certify.Goals as goal

pub arrive-requires : goal.arrive-requires
arrive-requires c = rw (c.in_ok-put_certificate.ensures.state, c.in_ok-try_clone.ensures, c.get.ensures)
    (certified c.self.inside.held.state c.args.certificate.now (certified_anew c.self.inside.held.bounds c.self.inside.held.state c.args.certificate.now (rw (← c.self.view_is) at (sym c.requires ∙ c.in-Certified.is))) c.self.inside.waits.missing.unmet c.self.inside.waits.missing.lacking c.self.inside.waits.completions.pending c.self.invariant.at_rest)

pub invariant_of-self-2 : goal.invariant_of-self-2
invariant_of-self-2 c =
    let s : State = c.self.inside.held.state in
    let none : get s.certificates c.args.certificate.now.digest ≡ None = certified_anew c.self.inside.held.bounds c.self.inside.held.state c.args.certificate.now (rw (← c.self.view_is) at (sym c.requires ∙ c.in-Certified.is)) in
    let waits = c.self.inside.waits in
    let new = c.arrive.new.self in
    let put : c.put_certificate.new.self.state ≡ with_certificate s c.args.certificate.now = c.in_ok-put_certificate.ensures.state ∙ ap (λ (x : Certificate). with_certificate s x) c.in_ok-try_clone.ensures in
    record {
      at_rest = c.arrive.ensures.at_rest;
      frozen = subst (λ (t : State). AreFrozenExcept t new.missing.lacking new.completions.fresh.items c.self.inside.generations.blocks) (sym put)
          (frozen_arrived s (with_certificate s c.args.certificate.now) c.args.certificate.now.digest waits.missing.lacking waits.missing.lacking new.missing.lacking waits.completions.fresh.items waits.completions.fresh.items new.completions.fresh.items c.self.inside.generations.blocks
          (certificate_arrives s c.args.certificate.now none) (since_certified s c.args.certificate.now none waits.missing.lacking c.self.invariant.at_rest.coming_to_rest.promoted) (λ x other. refl) refl c.self.invariant.frozen (λ x among ready. among)
          (rw (put, c.get.ensures) at c.arrive.ensures.grown));
    }
