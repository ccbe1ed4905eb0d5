use Rattle.std.proofs.Common.{◌≡◌, ◌∙◌, true, length, ap, sym, subst}
use Rattle.std.proofs.lemmas.List.{map-id}
use Rattle.nw_committee.specs.Committee.{IsEqualSize, AreDistinct}
use Rattle.nw_committee.proofs.DistinctKeys.{equal_members-committee}
use Rattle.nw_committee.proofs.committee.Committee.new.Goals as goal

pub of-requires : goal.of-requires
of-requires c =
    let equal : c.is_equal_size.result ≡ true = cc in
    let apart : c.are_distinct.result ≡ true = cc in
    let keys = c.deref.ensures in
    let len : c.len.result ≡ length c.args.keys.items = c.len.ensures ∙ sym keys.len ∙ ap length keys.value in
    let size : IsEqualSize (length c.args.keys.items) = subst IsEqualSize len (c.is_equal_size.ensures.0 equal) in
    let distinct : AreDistinct c.args.keys.items = subst AreDistinct (map-id c.deref.result.now ∙ keys.value) (c.are_distinct.ensures.0 apart) in
    rw (c.in_ok-equal_members.ensures, c.deref-2.ensures.value) (equal_members-committee _ size distinct)
