use Rattle.nw_rounds.proofs.Words.{◌∙◌, sym, ap, subst, refl, insert}
use Rattle.std.proofs.lemmas.Map.Views.{All-keys-insert_entry}
use Rattle.nw_rounds.specs.declared.kind.DigestKind.TheVariants.{First, Certified}
use Rattle.nw_rounds.specs.Slots.{Tables}
use Rattle.nw_rounds.specs.Places.{AreRounds, IsOfRound, place_cmp}
use Rattle.nw_rounds.proofs.OfKind.{put_elsewhere, put_there}
use Rattle.nw_rounds.proofs.rounds.Rounds.put_first.Goals as goal

pub returns-clause-firsts : goal.returns-clause-firsts
returns-clause-firsts g c =
    put_there c.self.inside.digests.entries c.insert.new.self.entries (c.get.result, c.args.author) First c.args.digest (λ p. c.in_ok-insert.ensures.updates.0 p)
    ∙ ap (λ (t : Tables). insert t.firsts (c.get.result, c.args.author) c.args.digest) c.self.view_is
    ∙ ap (λ round. insert c.args.self.now.firsts (round, c.args.author) c.args.digest) c.get.ensures.number

pub returns-clause-certified : goal.returns-clause-certified
returns-clause-certified g c =
    put_elsewhere c.self.inside.digests.entries c.insert.new.self.entries (c.get.result, c.args.author) First c.args.digest (λ p. c.in_ok-insert.ensures.updates.0 p) Certified refl
    ∙ ap (λ (t : Tables). t.certified) c.self.view_is

pub invariant_of-self-2 : goal.invariant_of-self-2
invariant_of-self-2 g c =
    subst AreRounds (sym c.in_ok-insert.ensures.entries)
    (All-keys-insert_entry place_cmp ((c.get.result, c.args.author), First) c.args.digest IsOfRound c.self.inside.digests.entries c.self.invariant c.get.ensures.in_range)
