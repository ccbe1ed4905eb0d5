-- The words of other crates that the proofs of this crate share.
pub use Rattle.nw_codec.specs.Fits.{signers}
pub use Rattle.nw_codec.specs.declared.block.Block.{Block}
pub use Rattle.nw_codec.specs.declared.certificate.Certificate.{Certificate}
pub use Rattle.nw_codec.specs.declared.certificate.Seal.{Seal}
pub use Rattle.nw_codec.specs.declared.certificate.Signature.{Signature}
pub use Rattle.nw_codec.specs.declared.vote.Vote.{Vote}
pub use Rattle.nw_committee.specs.Committee.{ReachesQuorum}
pub use Rattle.nw_committee.specs.declared.member.Member.{Member}
pub use Rattle.nw_model.specs.Checks.{IsSealOf, IsMember, IsValid}
pub use Rattle.nw_sig.specs.Signed.{Meaning}
pub use Rattle.std.proofs.Common.{◌≡◌, ◌∙◌, ℕ, ◌<◌, List, [], ◌∷◌, ◌++◌, refl, sym, ap, subst, arith, ◌+◌, ◌≤◌, length, map, take, drop, get_or, Option, Some, None, true, false}
pub use Rattle.std.proofs.lemmas.List.{take-append-drop, take_all}
pub use Rattle.std.proofs.lemmas.List.Elements.{All-more}
pub use Rattle.std.specs.List.{All}
pub use Rattle.std.specs.Prelude.{Contains, insert, IsTrue}
