use Rattle.nw_state.proofs.Words.{◌≡◌, None, refl, ap, sym, ◌∙◌, get, insert, lookup, remove_entry, is_at, insert_entry, Certificate, digest_cmp, State, certificate_slot, certified_digest, get_lookup, digests_total, absent, index_answers}
use Rattle.nw_state.specs.StateTables.{state_of}
use Rattle.nw_state.proofs.Puts.{taken_back, certificate_held, same_certified}
use Rattle.nw_state.proofs.tables.StateTables.put_certificate.Goals as goal

pub put_certified-requires : goal.put_certified-requires
put_certified-requires c =
    let s : State = state_of c.self.inside.blocks c.self.inside.certificates c.self.inside.slots c.self.inside.floor in
    let first : certified_digest s (certificate_slot c.args.certificate) ≡ None = rw (← c.self.view_is) at c.requires.open in
    let found : get c.self.inside.slots.certified (certificate_slot c.get-kept.result.now) ≡ None =
    ap (λ (x : Certificate). get c.self.inside.slots.certified (certificate_slot x)) c.get-kept.ensures ∙ index_answers s c.self.inside.slots.certified (certificate_slot c.args.certificate) c.self.invariant.kept.indexed ∙ first in
    rw found refl

pub invariant_of-self-in-Err : goal.invariant_of-self-in-Err
invariant_of-self-in-Err c =
    let digest = c.get-kept.result.now.digest in
    let none : lookup (is_at (digest_cmp digest)) c.self.inside.certificates ≡ None =
    ap (λ (x : Certificate). lookup (is_at (digest_cmp x.digest)) c.self.inside.certificates) c.get-kept.ensures ∙ sym (get_lookup digests_total c.self.inside.certificates c.args.certificate.digest) ∙ absent _ (rw (← c.self.view_is) at c.requires.absent) in
    let back : c.remove-certificate.new.self ≡ c.self.inside.certificates =
    c.remove-certificate.ensures.entries ∙ ap (remove_entry (is_at (digest_cmp digest))) c.in_ok-put.ensures.put ∙ taken_back c.self.inside.certificates digest c.args.certificate none in
    rw (back, c.in-Err.ensures.unchanged) c.self.invariant

pub returns-in-Err-clause-unchanged : goal.returns-in-Err-clause-unchanged
returns-in-Err-clause-unchanged c =
    let digest = c.get-kept.result.now.digest in
    let none : lookup (is_at (digest_cmp digest)) c.self.inside.certificates ≡ None =
    ap (λ (x : Certificate). lookup (is_at (digest_cmp x.digest)) c.self.inside.certificates) c.get-kept.ensures ∙ sym (get_lookup digests_total c.self.inside.certificates c.args.certificate.digest) ∙ absent _ (rw (← c.self.view_is) at c.requires.absent) in
    let back : c.remove-certificate.new.self ≡ c.self.inside.certificates =
    c.remove-certificate.ensures.entries ∙ ap (remove_entry (is_at (digest_cmp digest))) c.in_ok-put.ensures.put ∙ taken_back c.self.inside.certificates digest c.args.certificate none in
    rw (back, c.in-Err.ensures.unchanged) c.self.view_is

pub invariant_of-self-in_default : goal.invariant_of-self-in_default
invariant_of-self-in_default c =
    certificate_held c.self.inside.blocks c.self.inside.certificates c.put.new.self c.self.inside.slots c.put_certified.new.self c.self.inside.floor c.args.certificate c.self.invariant
    (absent _ (rw (← c.self.view_is) at c.requires.absent)) (rw (← c.self.view_is) at c.requires.open) (rw (← c.self.view_is) at c.requires.misfit) (rw (← c.self.view_is) at c.requires.kept)
    (c.in_ok-put.ensures.put ∙ ap (λ (x : Certificate). insert_entry digest_cmp c.self.inside.certificates x.digest c.args.certificate) c.get-kept.ensures)
    (c.in_default.ensures.certified ∙ ap (λ (x : Certificate). insert c.self.inside.slots.certified (certificate_slot x) x.digest) c.get-kept.ensures) c.put_certified.ensures.firsts

pub returns-clause-state : goal.returns-clause-state
returns-clause-state c =
    rw (← c.self.view_is)
    (same_certified c.self.inside.blocks c.self.inside.certificates c.put.new.self c.self.inside.slots c.put_certified.new.self c.self.inside.floor c.args.certificate
    (c.in_ok-put.ensures.put ∙ ap (λ (x : Certificate). insert_entry digest_cmp c.self.inside.certificates x.digest c.args.certificate) c.get-kept.ensures)
    c.put_certified.ensures.firsts)
