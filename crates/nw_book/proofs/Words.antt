-- The words of other crates that the proofs of this crate share.
pub use Rattle.nw_codec.specs.declared.block.Block.{Block}
pub use Rattle.nw_digest.specs.declared.digest.Digest.{Digest}
pub use Rattle.nw_history.specs.Prefix.{IsPrefixOf}
pub use Rattle.nw_history.specs.Story.{Story, IsLegalStory, terms_of, bounds_of, state_of, with_event}
pub use Rattle.nw_model.proofs.Admitted.{admitted_left}
pub use Rattle.nw_model.proofs.Views.{there_held}
pub use Rattle.nw_model.specs.Checks.{digest_of}
pub use Rattle.nw_model.specs.History.{AreReplies, replay, IsAdmitted, events_of}
pub use Rattle.nw_model.specs.Paths.{IsComplete}
pub use Rattle.nw_model.specs.State.{State}
pub use Rattle.nw_model.specs.Step.{Bounds, after, IsReply, BoundedState, HasNoList}
pub use Rattle.nw_model.specs.View.{Frozen, Shows, HasBlock, IsWalk}
pub use Rattle.nw_model.specs.declared.call.Call.{Call}
pub use Rattle.nw_model.specs.declared.event.Event.{Event}
pub use Rattle.nw_model.specs.declared.reply.Reply.{Reply}
pub use Rattle.nw_sig.specs.Signed.{Meaning}
pub use Rattle.std.proofs.Common.{◌≡◌, ℕ, ◌+◌, ◌<◌, List, [], ◌∷◌, ◌++◌, Some, length, take, get_or, refl, ap, sym, subst, ◌∙◌, arith, length-append, Result, Ok, Err, ◌≢◌, ◌≤◌, Bool, true, false, cond, ◌-◌}
pub use Rattle.std.proofs.lemmas.Bool.{eqb-true}
pub use Rattle.std.proofs.lemmas.List.Sums.{length-filter, count_by-le-length}
pub use Rattle.std.proofs.lemmas.Option.{slice_get_read}
pub use Rattle.std.specs.Option.{option_copied}
pub use Rattle.std.specs.Prelude.{slice_get, IfOk, ◌==◌}
