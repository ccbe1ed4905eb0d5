use Rattle.nw_state.proofs.Words.{◌≡◌, ◌+◌, List, [], ◌∷◌, ◌++◌, get_or, take, sym, ap, ◌∙◌, subst, take_all, take_more, option_copied, insert_entry, from_entries, Digest, slot_cmp, Certificate, State, certificate_slot, slots_total}
use Rattle.nw_state.proofs.Gathered.{gathered, gathers_none}
use Rattle.nw_state.proofs.Copied.{GathersSlots, IsCertifiedAt, certified_put, certified_skip}
use Rattle.nw_state.proofs.tables.StateTables.copy_certified.Goals as goal
use Rattle.nw_state.proofs.tables.StateTables.copy_certified.Goals.{in-Some+in_ok-insert, in_default}

pub loop-digest-init : goal.loop-digest-init
loop-digest-init c = rw c.new-certified.ensures.empty (gathers_none (λ slot d. d) (IsCertifiedAt c.args.self.now.state) slots_total)

pub loop-digest-preserved : goal.loop-digest-preserved
loop-digest-preserved c =
    let none : Digest = record { 0 = [] } in
    let s : State = c.args.self.now.state in
    let seen : List Digest = take c.loop-digest.digest-index c.args.digests.now in
    let d : Digest = get_or c.args.digests.now c.loop-digest.digest-index none in
    let more : take (c.loop-digest.digest-index + 1) c.args.digests.now ≡ seen ++ d ∷ [] = take_more c.args.digests.now c.loop-digest.digest-index none c.loop-digest-test.true in
    subst (λ xs. GathersSlots s (IsCertifiedAt s) xs (from_entries c.match-certificate.certified.entries)) (sym more)
    (elim c.match-certificate.branch [
      | in-Some+in_ok-insert w ↦
          certified_put s c.certificate.ensures.sound seen d w.in-Some.certificate.now c.loop-digest.certified.entries c.match-certificate.certified.entries c.loop-digest.invariant
          (sym c.certificate.ensures.value ∙ ap option_copied w.in-Some.is)
          (rw w.certified-is (w.in_ok-insert.ensures.entries ∙ ap (λ (x : Certificate). insert_entry slot_cmp c.loop-digest.certified.entries (certificate_slot x) d) w.get-certificate.ensures))
      | in_default w ↦
          rw w.certified-is (certified_skip s seen d (from_entries c.loop-digest.certified.entries) c.loop-digest.invariant (sym c.certificate.ensures.value ∙ ap option_copied w.in_default.is))
    ])

pub returns : goal.returns
returns c =
    let s : State = c.args.self.now.state in
    let whole : GathersSlots s (IsCertifiedAt s) c.args.digests.now (from_entries c.loop-digest.certified.entries) =
    subst (λ xs. GathersSlots s (IsCertifiedAt s) xs (from_entries c.loop-digest.certified.entries)) (take_all c.loop-digest.digest-index c.args.digests.now c.loop-digest-test.false) c.loop-digest.invariant in
    gathered (λ slot d. d) (IsCertifiedAt s) c.args.digests.now _ whole (λ slot d (x, is, at). c.requires d x is)
