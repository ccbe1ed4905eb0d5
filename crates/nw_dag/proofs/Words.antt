-- The words of other crates that the proofs of this crate share.
pub use Rattle.nw_codec.specs.declared.block.Block.{Block}
pub use Rattle.nw_codec.specs.declared.block.Ref.{Ref}
pub use Rattle.nw_codec.specs.declared.certificate.Certificate.{Certificate}
pub use Rattle.nw_digest.proofs.Elements.{contains_cases, contains_first, contains_later, contains_none, ordered_none}
pub use Rattle.nw_digest.proofs.Found.{which, is_there, not_there}
pub use Rattle.nw_digest.proofs.Maps.{digests_total, same_digest, digests_apart, put_entries}
pub use Rattle.nw_digest.specs.Order.{digest_cmp, Slot}
pub use Rattle.nw_digest.specs.declared.digest.Digest.{Digest}
pub use Rattle.nw_model.proofs.Complete.{one_block, parents_complete}
pub use Rattle.nw_model.proofs.Kept.{after_insert, at_insert}
pub use Rattle.nw_model.proofs.Raised.{was_there, is_kept}
pub use Rattle.nw_model.specs.Missing.{wanted_cmp, IsNamedBy, HasCount, IsWanted}
pub use Rattle.nw_model.specs.Paths.{IsStanding, IsComplete}
pub use Rattle.nw_model.specs.Sound.{IsSound}
pub use Rattle.nw_model.specs.State.{State, opening}
pub use Rattle.nw_model.specs.Step.{is_held, with_block, with_certificate, raised}
pub use Rattle.nw_model.specs.View.{Frozen, Shows}
pub use Rattle.nw_model.specs.declared.wanted.Wanted.{Wanted}
pub use Rattle.nw_state.specs.Collection.{AreDigestsUpTo}
pub use Rattle.nw_state.specs.Standing.{Stands, IsMet, name_of}
pub use Rattle.nw_trie.proofs.Inserts.{sorted_insert}
pub use Rattle.nw_waiting.proofs.Orders.{pairs_apart, pairs_total}
pub use Rattle.nw_waiting.specs.Pairs.{Pairs, Lacks, pair_cmp, without_holder, without_wanted, LacksCount}
pub use Rattle.std.proofs.Common.{◌≡◌, ◌⊎◌, ◌≤◌, Bool, true, false, List, [], ◌∷◌, ◌++◌, length, refl, sym, ◌∙◌, subst, inl, inr, append_assoc, append-nil, ◌↔◌, not, ap, ℕ, Result, Ok, Err, arith, ◌+◌, ◌-◌, ◌<◌, zero, suc, Some, get_or, None, IsSome, is_some, cond, Option, length-append, drop, take, rules}
pub use Rattle.std.proofs.lemmas.Bool.{true≢false, cases_lt, false≢true}
pub use Rattle.std.proofs.lemmas.List.{length-map, length_push, drop_at, get_or_default, get_or-take, length-take, take_all, take_more}
pub use Rattle.std.proofs.lemmas.List.Elements.{All-contains, All-from_recursion, Contains-append_cases, Contains-push_cases, Contains-append_left, Contains-push, Contains-get_or, Contains-append_right, All-weaker}
pub use Rattle.std.proofs.lemmas.Map.Keys.{IsDistinct-head, IsDistinct-tail}
pub use Rattle.std.proofs.lemmas.Map.Made.{length-le_from_is_member}
pub use Rattle.std.proofs.lemmas.Map.Views.{Contains-from_any, list_any-from_Contains}
pub use Rattle.std.proofs.lemmas.Option.{none-some}
pub use Rattle.std.specs.BTreeMap.{insert_entry}
pub use Rattle.std.specs.Cmp.{eq_by_cmp_equiv}
pub use Rattle.std.specs.FinMap.{FinMap, entries, keys, get, len, len-insert, get-empty, from_entries, len-entries, contains_key-keys}
pub use Rattle.std.specs.FinSet.{contains, insert, empty}
pub use Rattle.std.specs.List.Sorted.{IsStrictlySortedBy}
pub use Rattle.std.specs.Map.{keys_of}
pub use Rattle.std.specs.Ordering.{eq_by_cmp}
pub use Rattle.std.specs.Prelude.{◌&&◌, Contains, IsTrue, nat_eq}
pub use Rattle.std.specs.declared.cmp.Ordering.TheVariants.{Less, Greater}
