use Rattle.nw_state.proofs.Words.{◌≡◌, ap, sym, subst, ◌∙◌, from_entries, HasAllDigests, State, digests_total, get_lookup}
use Rattle.nw_state.proofs.Copied.{block_listed, certificate_listed, sound_copy}
use Rattle.nw_state.proofs.tables.StateTables.copy.Goals as goal

pub shared_entries-requires : goal.shared_entries-requires
shared_entries-requires c =
    let all : HasAllDigests c.self.inside.slots c.as_slice-digests.result.now = subst (HasAllDigests c.self.inside.slots) (sym c.as_slice-digests.ensures.value) c.in_ok-listed.ensures in
    λ d b is. block_listed c.self.inside.blocks c.self.inside.certificates c.self.inside.slots c.self.inside.floor c.self.invariant _ all d b (get_lookup digests_total c.self.inside.blocks d ∙ is)

pub shared_entries-requires-2 : goal.shared_entries-requires-2
shared_entries-requires-2 c =
    let all : HasAllDigests c.self.inside.slots c.as_slice-digests.result.now = subst (HasAllDigests c.self.inside.slots) (sym c.as_slice-digests.ensures.value) c.in_ok-listed.ensures in
    λ d x is. certificate_listed c.self.inside.blocks c.self.inside.certificates c.self.inside.slots c.self.inside.floor c.self.invariant _ all d x (get_lookup digests_total c.self.inside.certificates d ∙ is)

pub copy_firsts-requires : goal.copy_firsts-requires
copy_firsts-requires c =
    let all : HasAllDigests c.self.inside.slots c.as_slice-digests.result.now = subst (HasAllDigests c.self.inside.slots) (sym c.as_slice-digests.ensures.value) c.in_ok-listed.ensures in
    rw (← c.self.view_is) (block_listed c.self.inside.blocks c.self.inside.certificates c.self.inside.slots c.self.inside.floor c.self.invariant _ all)

pub copy_certified-requires : goal.copy_certified-requires
copy_certified-requires c =
    let all : HasAllDigests c.self.inside.slots c.as_slice-digests.result.now = subst (HasAllDigests c.self.inside.slots) (sym c.as_slice-digests.ensures.value) c.in_ok-listed.ensures in
    rw (← c.self.view_is) (certificate_listed c.self.inside.blocks c.self.inside.certificates c.self.inside.slots c.self.inside.floor c.self.invariant _ all)

pub of_maps-requires : goal.of_maps-requires
of_maps-requires c =
    let s : State = c.args.self.now.state in
    let t : State = record {
      blocks = from_entries c.in_ok-blocks.blocks.entries;
      certificates = from_entries c.in_ok-certificates.certificates.entries;
      firsts = from_entries c.in_ok-firsts.firsts.entries;
      floor = c.self.inside.floor;
    } in
    let blocks : t.blocks ≡ s.blocks = c.in_ok-blocks.ensures ∙ ap (λ x. x.state.blocks) c.self.view_is in
    let certificates : t.certificates ≡ s.certificates = c.in_ok-certificates.ensures ∙ ap (λ x. x.state.certificates) c.self.view_is in
    let firsts : t.firsts ≡ s.firsts = c.in_ok-firsts.ensures in
    let floor : t.floor ≡ s.floor = ap (λ x. x.state.floor) c.self.view_is in
    let same : t ≡ s = λ i. record { blocks = blocks i; certificates = certificates i; firsts = firsts i; floor = floor i } in
    sound_copy s t (from_entries c.in_ok-certified.certified.entries) same (rw (← c.self.view_is) c.self.invariant.kept.sound) c.in_ok-certified.ensures
