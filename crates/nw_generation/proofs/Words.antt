-- The words of other crates that the proofs of this crate share.
pub use Rattle.nw_codec.specs.declared.block.Block.{Block}
pub use Rattle.nw_digest.proofs.Maps.{same_digest, digests_total, digests_apart, get_lookup}
pub use Rattle.nw_digest.specs.Order.{digest_cmp}
pub use Rattle.nw_digest.specs.declared.digest.Digest.{Digest}
pub use Rattle.std.proofs.Common.{◌≡◌, ℕ, ◌<◌, true, List, [], ◌∷◌, ◌++◌, Some, cond, length, get_or, ap, sym, ◌∙◌, subst, arith, Bool, false, None, take, drop, refl, Option, All}
pub use Rattle.std.specs.BTreeMap.{is_at}
pub use Rattle.std.specs.FinMap.{FinMap, get, same_map, from_entries}
pub use Rattle.std.specs.List.{AllByRecursion}
pub use Rattle.std.specs.Map.{keys_of}
pub use Rattle.std.specs.Option.{option_or}
pub use Rattle.std.specs.Ordering.{is_eq, ordering_reverse}
pub use Rattle.std.specs.Prelude.{filter, nat_le}
pub use Rattle.std.specs.Str.{bytes_eq}
pub use Rattle.std.specs.declared.cmp.Ordering.{Ordering}
pub use Rattle.std.specs.declared.cmp.Ordering.TheVariants.{Less, Equal}
