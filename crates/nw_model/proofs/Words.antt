-- The words of other crates that the proofs of this crate share.
pub use Rattle.nw_codec.specs.Same.{same_block}
pub use Rattle.nw_codec.specs.declared.block.Block.{Block}
pub use Rattle.nw_codec.specs.declared.block.Ref.{Ref}
pub use Rattle.nw_codec.specs.declared.certificate.Certificate.{Certificate}
pub use Rattle.nw_committee.specs.declared.member.Member.{Member}
pub use Rattle.nw_digest.proofs.Elements.{contains_filter, contains_first, contains_later, contains_cases, contains_none, same_map}
pub use Rattle.nw_digest.proofs.Found.{which, is_there, is_absent}
pub use Rattle.nw_digest.proofs.Maps.{slots_total, slots_apart, same_digest, digests_total, tie, get_lookup, digests_apart}
pub use Rattle.nw_digest.specs.Order.{digest_cmp, Slot, slot_cmp}
pub use Rattle.nw_digest.specs.declared.digest.Digest.{Digest}
pub use Rattle.nw_sig.specs.Signed.{Meaning}
pub use Rattle.std.proofs.Common.{◌≡◌, ℕ, ◌+◌, ◌<◌, ◌≤◌, Bool, true, false, cond, List, [], ◌∷◌, Some, get_or, map, refl, ap, sym, ◌∙◌, subst, arith, ◌↔◌, ◌⊎◌, Option, None, IsSome, is_some, IsTrue, nat_eq, inl, inr, length, take, not, zero, suc, ◌-◌, ◌++◌, ◌≢◌, rules}
pub use Rattle.std.proofs.lemmas.Cmp.{on_total}
pub use Rattle.std.proofs.lemmas.List.Elements.{All-contains, Contains-get_or, All-head, All-tail, All-from_recursion, recursion_from_All, Contains-push, Contains-push_cases}
pub use Rattle.std.proofs.lemmas.Map.Keys.{IsDistinct-from_sorted}
pub use Rattle.std.proofs.lemmas.Option.{none-some, same_Some}
pub use Rattle.std.specs.BTreeMap.{is_at}
pub use Rattle.std.specs.Cmp.{IsTotalOrder, eq_by_cmp_equiv}
pub use Rattle.std.specs.FinMap.{get, FinMap, keys, contains_key-keys, insert, get-empty, get-insert, len, from_entries, IsAntisymmetric}
pub use Rattle.std.specs.List.{AllByRecursion}
pub use Rattle.std.specs.Map.{keys_of}
pub use Rattle.std.specs.Option.{option_map_or}
pub use Rattle.std.specs.Ordering.{nat_cmp, eq_by_cmp}
pub use Rattle.std.specs.Prelude.{Contains, filter, nat_le, All, ◌||◌, nat_lt, slice_get, ◌==◌}
pub use Rattle.std.specs.declared.cmp.Ordering.{Ordering}
pub use Rattle.std.specs.declared.cmp.Ordering.TheVariants.{Less}
