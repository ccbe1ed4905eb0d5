-- The words of other crates that the proofs of this crate share.
pub use Rattle.nw_codec.proofs.Building.{AreBuilt, one_more_built, all_built}
pub use Rattle.nw_codec.proofs.Pieces.{first_is, same_start, same16, same48, back16, below16, round_of, back48, below48, bytes_of, again16}
pub use Rattle.nw_codec.proofs.Sizes.{length-subject}
pub use Rattle.nw_codec.specs.Fits.{Fits, MessageFits, authors, transactions_size, signers, CertificateFits}
pub use Rattle.nw_codec.specs.Grammar.{round_bytes, parent_bytes, subject_bytes, seal_bytes, seal}
pub use Rattle.nw_codec.specs.Packed.{transaction_bytes}
pub use Rattle.nw_codec.specs.Spelled.{Spells, IsSpelled}
pub use Rattle.nw_codec.specs.Subject.{vote_subject, certificate_subject}
pub use Rattle.nw_codec.specs.Typed.{IsRef, IsBlock, IsSignature, IsMessage, AreBytes, IsSubject, IsSeal, IsCertificate, IsVote}
pub use Rattle.nw_codec.specs.declared.block.Block.{Block}
pub use Rattle.nw_codec.specs.declared.block.Ref.{Ref}
pub use Rattle.nw_codec.specs.declared.certificate.Certificate.{Certificate}
pub use Rattle.nw_codec.specs.declared.certificate.Seal.{Seal}
pub use Rattle.nw_codec.specs.declared.certificate.Signature.{Signature}
pub use Rattle.nw_codec.specs.declared.message.Message.{Message}
pub use Rattle.nw_codec.specs.declared.subject.Subject.{Subject}
pub use Rattle.nw_codec.specs.declared.vote.Vote.{Vote}
pub use Rattle.nw_digest.proofs.Bytes.{are_bytes}
pub use Rattle.std.proofs.Common.{◌≡◌, ℕ, ◌^◌, ◌<◌, ◌≤◌, List, [], ◌∷◌, ◌++◌, length, refl, sym, ap, ◌∙◌, append_assoc, arith, zero, suc, ◌+◌, ◌*◌, ltb, None, get_or, take, drop, Option, Some, inl, inr, subst, ◌≢◌, ◌↔◌, ◌⊎◌, Result, Ok, Err, Bool, true, false, cond, eqb, ◌-◌, rules}
pub use Rattle.std.proofs.lemmas.Bool.{ltb-false, ltb-true, eqb-true, le-ltb, lt-ltb}
pub use Rattle.std.proofs.lemmas.List.{append-nil, length-append, take-append-drop, length-drop, length-take, nil_from_length, take_at}
pub use Rattle.std.proofs.lemmas.List.Elements.{recursion_from_All, All-from_recursion}
pub use Rattle.std.proofs.lemmas.List.Sums.{sum_by-cons}
pub use Rattle.std.proofs.lemmas.Result.{MatchResult-weaker}
pub use Rattle.std.specs.Bool.{MatchBool}
pub use Rattle.std.specs.Int.{w16, w32, to_be_bytes}
pub use Rattle.std.specs.List.{flat_map, AllByRecursion}
pub use Rattle.std.specs.Result.{IfOk}
