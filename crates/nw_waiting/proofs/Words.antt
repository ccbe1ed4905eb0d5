-- The words of other crates that the proofs of this crate share.
pub use Rattle.nw_digest.proofs.Maps.{digests_total, same_digest}
pub use Rattle.nw_digest.specs.Order.{digest_cmp}
pub use Rattle.nw_digest.specs.declared.digest.Digest.{Digest}
pub use Rattle.nw_model.proofs.WantedOrder.{wanted_total, one_wanted, wanted_apart}
pub use Rattle.nw_model.specs.Missing.{ListsExactly, wanted_cmp}
pub use Rattle.nw_model.specs.declared.wanted.Wanted.{Wanted}
pub use Rattle.std.proofs.Common.{◌≡◌, ◌∙◌, ℕ, ◌+◌, ◌<◌, length, take, get_or, Bool, true, false, cond, not, ◌&&◌, ◌||◌, List, [], ◌∷◌, ◌++◌, Some, refl, sym, ap, subst, None, arith, drop}
pub use Rattle.std.proofs.lemmas.Bool.{and_from, and_parts}
pub use Rattle.std.proofs.lemmas.Grind.{common_steps}
pub use Rattle.std.proofs.lemmas.List.{take_more}
pub use Rattle.std.proofs.lemmas.List.Folds.{list_any-append}
pub use Rattle.std.proofs.lemmas.Map.Keys.{IsDistinct-head, IsDistinct-tail}
pub use Rattle.std.proofs.lemmas.Map.Views.{Contains-from_any, list_any-from_Contains}
pub use Rattle.std.specs.BTreeMap.{is_at, get, keys}
pub use Rattle.std.specs.Cmp.{IsTotalOrder, eq_by_cmp_equiv}
pub use Rattle.std.specs.FinSet.{contains, contains-insert, contains-retain, from_list, insert, same_set}
pub use Rattle.std.specs.List.{list_any}
pub use Rattle.std.specs.List.Sorted.{IsStrictlySortedBy}
pub use Rattle.std.specs.Map.{lookup, keys_of}
pub use Rattle.std.specs.Ordering.{eq_by_cmp}
pub use Rattle.std.specs.Prelude.{filter, IsPermutation}
pub use Rattle.std.specs.declared.cmp.Ordering.{Ordering}
