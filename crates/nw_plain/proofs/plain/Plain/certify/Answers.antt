use Rattle.nw_plain.proofs.Words.{◌≡◌, List, None, sym, ◌∙◌, ap, refl, FinMap, from_entries, lookup, is_at, on_ok_weaker, Digest, Certificate, digest_cmp, Slot, slot_cmp, State, certificate_slot, certified_digest, get_lookup, put_entries, digests_total, digests_apart, slots_total, slots_apart, absent, index_answers}
use Rattle.std.proofs.Common.{Result, Ok, Err}
use Rattle.std.specs.BTreeMap.{insert_entry}
use Rattle.std.specs.Prelude.{OnErr}
use Rattle.nw_plain.proofs.Held.{held_certificate}
use Rattle.nw_model.proofs.Kept.{kept_after_certify}
use Rattle.nw_plain.proofs.plain.Plain.certify.Goals as goal

-- the maps after a failed allocation, as finite maps
unchanged : {E : Type 0} (r : Result (Unit {0}) E) (m n : List (Digest × Certificate)) (i j : List (Slot × Digest)) → OnErr r (m ≡ n) → OnErr r (i ≡ j)
    → OnErr r ((from_entries {R = digest_cmp} m ≡ from_entries n) × (from_entries {R = slot_cmp} i ≡ from_entries j))
unchanged (Ok x) m n i j one two = tt
unchanged (Err e) m n i j one two = (ap (λ es. from_entries {R = digest_cmp} es) one, ap (λ es. from_entries {R = slot_cmp} es) two)

pub insert_both-requires : goal.insert_both-requires
insert_both-requires c =
    let s : State = record {
      blocks = from_entries {R = digest_cmp} c.self.inside.blocks.entries;
      certificates = from_entries {R = digest_cmp} c.self.inside.certificates.entries;
      firsts = from_entries {R = slot_cmp} c.self.inside.firsts.entries;
      floor = c.self.inside.floor;
    } in
    let slot : Slot = (c.get-held.result.now.round, c.get-held.result.now.author) in
    let first : certified_digest s slot ≡ None = rw (c.get-held.ensures) (rw (← c.self.view_is) at c.requires.open) in
    let found : lookup (is_at (slot_cmp slot)) c.self.inside.certified.entries ≡ None =
    sym (get_lookup slots_total c.self.inside.certified.entries slot) ∙ index_answers s (from_entries {R = slot_cmp} c.self.inside.certified.entries) slot c.self.invariant.indexed ∙ first in
    rw found refl

pub invariant_of-self : goal.invariant_of-self
invariant_of-self c =
    let s : State = record {
      blocks = from_entries {R = digest_cmp} c.self.inside.blocks.entries;
      certificates = from_entries {R = digest_cmp} c.self.inside.certificates.entries;
      firsts = from_entries {R = slot_cmp} c.self.inside.firsts.entries;
      floor = c.self.inside.floor;
    } in
    let certificate : Certificate = c.args.certificate in
    let index : FinMap slot_cmp Digest = from_entries c.self.inside.certified.entries in
    kept_after_certify c.insert_both.result s index certificate
    (from_entries {R = digest_cmp} c.insert_both.new.held.entries) (from_entries {R = slot_cmp} c.insert_both.new.slots.entries)
    c.self.invariant
    (absent _ (rw (← c.self.view_is) at c.requires.absent))
    (rw (← c.self.view_is) at c.requires.open)
    (rw (← c.self.view_is) at c.requires.misfit)
    (rw (← c.self.view_is) at c.requires.kept)
    (on_ok_weaker c.insert_both.result (λ both. (
      put_entries digests_total digests_apart c.self.inside.certificates.entries c.insert_both.new.held.entries certificate.digest certificate
          (both.0 ∙ ap (λ (x : Certificate). insert_entry digest_cmp c.self.inside.certificates.entries x.digest certificate) c.get-held.ensures),
      put_entries slots_total slots_apart c.self.inside.certified.entries c.insert_both.new.slots.entries (certificate_slot certificate) certificate.digest
          (both.1 ∙ ap (λ (x : Certificate). insert_entry slot_cmp c.self.inside.certified.entries (certificate_slot x) x.digest) c.get-held.ensures),
    )) c.insert_both.ensures.both)
    (unchanged c.insert_both.result _ _ _ _ c.insert_both.ensures.same_held c.insert_both.ensures.same_slots)

pub returns-clause-state : goal.returns-clause-state
returns-clause-state c = on_ok_weaker c.insert_both.result
    (λ both. rw (← c.self.view_is)
    (held_certificate _ _ c.args.certificate
    (put_entries digests_total digests_apart c.self.inside.certificates.entries c.insert_both.new.held.entries c.args.certificate.digest c.args.certificate
    (both.0 ∙ ap (λ (x : Certificate). insert_entry digest_cmp c.self.inside.certificates.entries x.digest c.args.certificate) c.get-held.ensures))))
    c.insert_both.ensures.both
