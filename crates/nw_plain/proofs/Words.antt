-- The words of other crates that the proofs of this crate share.
pub use Rattle.nw_codec.specs.declared.block.Block.{Block}
pub use Rattle.nw_codec.specs.declared.block.Ref.{Ref}
pub use Rattle.nw_codec.specs.declared.certificate.Certificate.{Certificate}
pub use Rattle.nw_digest.proofs.Found.{which, absent}
pub use Rattle.nw_digest.proofs.Maps.{digests_total, get_lookup, same_digest, len_sorted, slots_total, slots_apart, put_entries, digests_apart, inserted}
pub use Rattle.nw_digest.specs.Order.{digest_cmp, Slot, slot_cmp}
pub use Rattle.nw_digest.specs.declared.digest.Digest.{Digest}
pub use Rattle.nw_model.proofs.Finding.{there_is, finds_nothing, under_more}
pub use Rattle.nw_model.proofs.Kept.{index_answers}
pub use Rattle.nw_model.proofs.Raised.{filtered_round}
pub use Rattle.nw_model.proofs.Sames.{maps_decide, other_length, same_digest_decides}
pub use Rattle.nw_model.proofs.Views.{complete_there}
pub use Rattle.nw_model.specs.Missing.{ListsExactly, Wants, wanted_cmp}
pub use Rattle.nw_model.specs.Paths.{IsComplete}
pub use Rattle.nw_model.specs.Search.{Finds}
pub use Rattle.nw_model.specs.Sound.{IsSound}
pub use Rattle.nw_model.specs.State.{State, block_slot, certificate_slot}
pub use Rattle.nw_model.specs.Step.{certified_digest}
pub use Rattle.nw_model.specs.View.{AreComplete, IsCompletedBy, Frozen}
pub use Rattle.std.proofs.Common.{◌≡◌, ℕ, List, filter, ap, sym, ◌∙◌, subst, nat_le, ◌↔◌, ◌⊎◌, ◌+◌, [], ◌∷◌, take, length, get_or, Some, refl, arith, inl, inr, Bool, true, false, cond, None, IsSome, rules}
pub use Rattle.std.proofs.lemmas.List.{take_all}
pub use Rattle.std.proofs.lemmas.Map.Entries.{filter_from_retain_pairs}
pub use Rattle.std.proofs.lemmas.Map.Keys.{sorted_head, sorted_tail}
pub use Rattle.std.proofs.lemmas.Option.{none-some}
pub use Rattle.std.proofs.lemmas.Result.{on_ok_weaker}
pub use Rattle.std.specs.BTreeMap.{is_at}
pub use Rattle.std.specs.Cmp.{eq_by_cmp_equiv}
pub use Rattle.std.specs.FinMap.{from_entries, get, len, FinMap, insert}
pub use Rattle.std.specs.List.{AllByRecursion}
pub use Rattle.std.specs.Map.{keys_of, lookup, values_of}
pub use Rattle.std.specs.Map.Iter.{deref}
pub use Rattle.std.specs.Option.{is_some}
pub use Rattle.std.specs.declared.cmp.Ordering.{Ordering}
pub use Rattle.std.specs.declared.cmp.Ordering.TheVariants.{Less}
