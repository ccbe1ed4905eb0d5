-- The words of other crates that the proofs of this crate share.
pub use Rattle.nw_digest.proofs.Maps.{slots_apart, slots_total, tie}
pub use Rattle.nw_digest.specs.Order.{Slot, slot_cmp, digest_cmp}
pub use Rattle.nw_digest.specs.declared.digest.Digest.{Digest}
pub use Rattle.std.proofs.Common.{◌≡◌, ◌∙◌, ℕ, Bool, true, false, cond, ◌&&◌, List, [], ◌∷◌, Option, Some, None, refl, sym, ap, subst, ◌⊎◌, inl, inr, ◌<◌, ◌++◌, map, Bor, zero, suc, arith}
pub use Rattle.std.proofs.lemmas.List.Kept.{Contains-from_dedup}
pub use Rattle.std.proofs.lemmas.Map.Entries.{lookup-filter-keys}
pub use Rattle.std.proofs.lemmas.Map.Iter.{iter_end}
pub use Rattle.std.specs.BTreeMap.{is_at}
pub use Rattle.std.specs.Cmp.{eq_by_cmp_equiv, nat_cmp_is}
pub use Rattle.std.specs.FinMap.{get, insert, retain_keys}
pub use Rattle.std.specs.List.{dedup}
pub use Rattle.std.specs.List.Retain.{IsFiltered, DiffersFromLast}
pub use Rattle.std.specs.List.Sorted.{IsSorted, IsStrictlySortedBy}
pub use Rattle.std.specs.Map.{lookup, keys_of, values_of}
pub use Rattle.std.specs.Map.Iter.{deref_pair}
pub use Rattle.std.specs.Ordering.{eq_by_cmp, nat_cmp, ordering_then}
pub use Rattle.std.specs.Prelude.{filter, nat_le, Contains, IsPermutation, slice_get}
pub use Rattle.std.specs.declared.cmp.Ordering.TheVariants.{Less, Equal, Greater}
pub use lib.Dec.{eqb}
