use Rattle.std.proofs.Common.{◌≡◌, length, refl}
use Rattle.std.proofs.lemmas.Option.{slice_get_read, slice_get_past}
use Rattle.nw_committee.specs.Committee.{keys}
use Rattle.nw_prepared.specs.Keys.{prepared_keys}
use Rattle.nw_prepared.proofs.Members.{member_at, no_member_at, not_signed, expected_decides}
use Rattle.nw_prepared.proofs.committee.PreparedCommittee.expected.Goals as goal

pub returns-in-Some : goal.returns-in-Some
returns-in-Some c =
    let members = c.args.self.now in
    let items = c.self.inside.prepared.items in
    let same : prepared_keys items ≡ keys members = rw c.self.view_is at c.self.invariant in
    let within = rw (c.from.ensures, c.deref.ensures.value) at c.in-Some.ensures.lookup.3.0 in
    let found = rw (c.from.ensures, c.deref.ensures.value) at c.in-Some.ensures.lookup.1 in
    let m = member_at items members same c.args.number c.in-Some.key.now (slice_get_read items (length items) c.args.number c.in-Some.key.now refl within found) in
    expected_decides members c.args.number c.args.text.now c.args.signature.now m.0 c.in-Some.key.now.key c.expected.result c.note_size.ensures m.1 m.2 c.expected.ensures

pub returns-in-None : goal.returns-in-None
returns-in-None c =
    let members = c.args.self.now in
    let items = c.self.inside.prepared.items in
    let same : prepared_keys items ≡ keys members = rw c.self.view_is at c.self.invariant in
    let past = rw (c.from.ensures, c.deref.ensures.value) at c.in-None.ensures.lookup.3 in
    not_signed members c.args.number c.args.text.now c.args.signature.now (no_member_at items members same c.args.number (slice_get_past items c.args.number past))
