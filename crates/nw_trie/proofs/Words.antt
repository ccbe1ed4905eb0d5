-- The words of other crates that the proofs of this crate share.
pub use Rattle.nw_digest.proofs.Maps.{digests_total}
pub use Rattle.nw_digest.specs.Bytes.{AreBytes}
pub use Rattle.nw_digest.specs.Order.{digest_cmp}
pub use Rattle.nw_digest.specs.declared.digest.Digest.{Digest}
pub use Rattle.std.proofs.Common.{◌≡◌, ◌∙◌, inl, inr, ℕ, ◌+◌, ◌<◌, ◌≤◌, Bool, true, false, cond, List, [], ◌∷◌, ◌++◌, Option, Some, None, Box, length, refl, sym, ap, subst, arith, length-append, Bor, suc, ◌-◌, ◌/◌, ◌%◌, get_or, zero, ◌*◌, append-nil, ◌^◌}
pub use Rattle.std.proofs.Math.Nat.{div-div-eq-div-mul, pow-suc}
pub use Rattle.std.proofs.lemmas.Bool.{cases_lt, eqb-true, eqb-false}
pub use Rattle.std.specs.BTreeMap.{insert_entry, is_at}
pub use Rattle.std.specs.List.{AllByRecursion}
pub use Rattle.std.specs.Map.{lookup, keys_of, remove_entry}
pub use Rattle.std.specs.Map.Iter.{deref_pair}
pub use Rattle.std.specs.Option.{MatchOption, option_copied}
pub use Rattle.std.specs.Ordering.{is_eq, match_ordering, ordering_reverse}
pub use Rattle.std.specs.Prelude.{filter, is_some, ◌==◌}
pub use Rattle.std.specs.Vec.Iter.{into_iter_items}
pub use Rattle.std.specs.declared.cmp.Ordering.{Ordering}
pub use Rattle.std.specs.declared.cmp.Ordering.TheVariants.{Equal, Less, Greater}
pub use lib.Dec.{eqb}
