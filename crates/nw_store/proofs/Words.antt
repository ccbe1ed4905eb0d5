-- The words of other crates that the proofs of this crate share.
pub use Rattle.nw_book.proofs.Prefixes.{comparable}
pub use Rattle.nw_book.specs.Answer.{AnswerView, front_of, reply_of}
pub use Rattle.nw_book.specs.Answered.{IsAnswered}
pub use Rattle.nw_book.specs.Command.{committee_of}
pub use Rattle.nw_book.specs.Journal.{Journal, ArePrefixesOf, IsHistoryOf, next_in_journal}
pub use Rattle.nw_history.specs.Prefix.{IsPrefixOf}
pub use Rattle.nw_history.specs.Story.{Story, with_event, Origin}
pub use Rattle.nw_model.specs.History.{events_of, AreNumbered}
pub use Rattle.nw_model.specs.declared.call.Call.{Call}
pub use Rattle.nw_model.specs.declared.event.Event.{Event}
pub use Rattle.nw_model.specs.declared.reply.Reply.{Reply}
pub use Rattle.nw_sig.specs.Signed.{Meaning}
pub use Rattle.std.proofs.Common.{◌≡◌, ℕ, ◌+◌, List, [], ◌∷◌, ◌++◌, length, refl, sym, ap, ◌∙◌, subst, arith, ◌<◌, ◌≤◌, ◌≢◌, zero, suc, true, false, cond, ⊎_elim, Some, Result, Ok, Err, true≢false}
pub use Rattle.std.proofs.lemmas.Bool.Decides.{eqb_tells}
pub use Rattle.std.proofs.lemmas.List.Elements.{All-push, All-cons}
pub use Rattle.std.proofs.lemmas.List.Sorted.{length_permutation, sum_by-IsPermutation}
pub use Rattle.std.proofs.lemmas.List.Sums.{sum_by-cons}
pub use Rattle.std.specs.List.{Contains}
pub use Rattle.std.specs.List.Sorted.{IsPermutation}
pub use Rattle.std.specs.Prelude.{All, ◌==◌, slice_get, sum_by}
pub use Rattle.std.specs.Result.{IfOk}
pub use denote.Param.Send.{IsSend, IsSync}
pub use denote.Param.SendFields.{declared_send, declared_sync}
pub use denote.RattleType.{RattleType}
pub use mathlib.Core.List.{IsPrefix}
