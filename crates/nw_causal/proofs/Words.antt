-- The words of other crates that the proofs of this crate share.
pub use Rattle.nw_codec.specs.declared.block.Block.{Block}
pub use Rattle.nw_codec.specs.declared.block.Ref.{Ref}
pub use Rattle.nw_digest.proofs.Elements.{contains_first, contains_later, contains_cases, contains_none}
pub use Rattle.nw_digest.specs.Order.{digest_cmp}
pub use Rattle.nw_digest.specs.declared.digest.Digest.{Digest}
pub use Rattle.nw_model.proofs.Complete.{one_block}
pub use Rattle.nw_model.specs.Search.{IsParentOfAny, IsNamed}
pub use Rattle.nw_model.specs.View.{Frozen, HasParent, IsClosed, HasBlock, IsParentIn, IsPathIn, IsAncestorIn, IsWalk}
pub use Rattle.std.proofs.Common.{◌≡◌, ◌⊎◌, ◌+◌, ◌<◌, List, [], ◌∷◌, Some, map, refl, ap, sym, ◌∙◌, subst, arith, inl, inr, ℕ, ◌≤◌, ◌++◌, All, length, take, reverse, get_or}
pub use Rattle.std.proofs.lemmas.List.{length-map, take_all}
pub use Rattle.std.proofs.lemmas.List.Elements.{All-contains, All-nil, All-append}
pub use Rattle.std.specs.FinMap.{FinMap, get}
pub use Rattle.std.specs.List.{insert}
pub use Rattle.std.specs.Ordering.{nat_cmp}
pub use Rattle.std.specs.Prelude.{Contains}
