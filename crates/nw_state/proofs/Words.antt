-- The words of other crates that the proofs of this crate share.
pub use Rattle.nw_codec.specs.declared.block.Block.{Block}
pub use Rattle.nw_codec.specs.declared.certificate.Certificate.{Certificate}
pub use Rattle.nw_digest.proofs.Elements.{contains_cases, contains_none}
pub use Rattle.nw_digest.proofs.Found.{which, absent}
pub use Rattle.nw_digest.proofs.Maps.{put_entries, digests_total, digests_apart, get_lookup, len_sorted, same_digest, slots_apart, slots_total}
pub use Rattle.nw_digest.specs.Order.{digest_cmp, Slot, slot_cmp}
pub use Rattle.nw_digest.specs.declared.digest.Digest.{Digest}
pub use Rattle.nw_model.proofs.Complete.{one_block}
pub use Rattle.nw_model.proofs.Kept.{index_answers, some_none}
pub use Rattle.nw_model.proofs.Sames.{same_digest_decides}
pub use Rattle.nw_model.specs.Sound.{IsSoundWithIndex}
pub use Rattle.nw_model.specs.State.{State, block_slot, certificate_slot}
pub use Rattle.nw_model.specs.Step.{is_digest, certified_digest, from_round, raised}
pub use Rattle.nw_model.specs.declared.wanted.Wanted.{Wanted}
pub use Rattle.nw_rounds.specs.Slots.{Tables, HasAllDigests}
pub use Rattle.std.proofs.Common.{◌≡◌, ◌⊎◌, ℕ, ◌≤◌, true, false, not, Bool, List, [], ◌∷◌, Option, Some, None, IsSome, is_some, cond, refl, ap, sym, ◌∙◌, subst, inl, inr, ◌+◌, ◌++◌, filter, length, arith, ◌↔◌, take, get_or, map}
pub use Rattle.std.proofs.lemmas.List.{take_all, take_more}
pub use Rattle.std.proofs.lemmas.List.Elements.{Contains-push_cases}
pub use Rattle.std.proofs.lemmas.Map.Keys.{IsDistinct-from_sorted}
pub use Rattle.std.proofs.lemmas.Option.{none-some, same_Some}
pub use Rattle.std.proofs.lemmas.Result.{IfOk-weaker}
pub use Rattle.std.specs.BTreeMap.{is_at, insert_entry}
pub use Rattle.std.specs.Cmp.{eq_by_cmp_equiv}
pub use Rattle.std.specs.FinMap.{FinMap, get, insert, from_entries, get-empty, len, same_map}
pub use Rattle.std.specs.List.{AllByRecursion}
pub use Rattle.std.specs.Map.{lookup, remove_entry, keys_of}
pub use Rattle.std.specs.Map.Iter.{deref_pair}
pub use Rattle.std.specs.Option.{option_copied}
pub use Rattle.std.specs.Ordering.{eq_by_cmp}
pub use Rattle.std.specs.Prelude.{Contains, nat_lt}
pub use Rattle.std.specs.declared.cmp.Ordering.{Ordering}
pub use Rattle.std.specs.declared.cmp.Ordering.TheVariants.{Less}
