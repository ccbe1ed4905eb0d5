use Rattle.nw_rounds.proofs.Words.{◌∙◌, ℕ, ap, subst, sym, nat_le, retain_keys}
use Rattle.nw_rounds.specs.declared.kind.DigestKind.TheVariants.{First, Certified}
use Rattle.nw_rounds.specs.Slots.{Tables}
use Rattle.nw_rounds.specs.Places.{AreRounds}
use Rattle.nw_rounds.proofs.AtRound.{none_lower}
use Rattle.nw_rounds.proofs.Newest.{stay_rounds}
use Rattle.nw_rounds.proofs.OfKind.{kept_in}
use Rattle.nw_rounds.proofs.rounds.Rounds.drop_below.Goals as goal

pub returns-clause-firsts : goal.returns-clause-firsts
returns-clause-firsts g c =
    kept_in c.self.inside.digests.entries c.loop-self.self-inside.digests.entries c.get-round.result (sym (none_lower c.get-round.result _ c.loop-self-test.ensures) ∙ c.loop-self.invariant) First
    ∙ ap (λ (t : Tables). retain_keys t.firsts (λ slot. nat_le c.get-round.result slot.0)) c.self.view_is
    ∙ ap (λ (n : ℕ). retain_keys c.args.self.now.firsts (λ slot. nat_le n slot.0)) c.get-round.ensures.number

pub returns-clause-certified : goal.returns-clause-certified
returns-clause-certified g c =
    kept_in c.self.inside.digests.entries c.loop-self.self-inside.digests.entries c.get-round.result (sym (none_lower c.get-round.result _ c.loop-self-test.ensures) ∙ c.loop-self.invariant) Certified
    ∙ ap (λ (t : Tables). retain_keys t.certified (λ slot. nat_le c.get-round.result slot.0)) c.self.view_is
    ∙ ap (λ (n : ℕ). retain_keys c.args.self.now.certified (λ slot. nat_le n slot.0)) c.get-round.ensures.number

pub invariant_of-self : goal.invariant_of-self
invariant_of-self g c =
    subst AreRounds (sym c.loop-self.invariant ∙ none_lower c.get-round.result _ c.loop-self-test.ensures) (stay_rounds (λ p. nat_le c.get-round.result p.0.0) c.self.inside.digests.entries c.self.invariant)
