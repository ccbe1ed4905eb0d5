-- The words of other crates that the proofs of this crate share.
pub use Rattle.atomic_table.proofs.Lists.{at_set, at_snoc}
pub use Rattle.atomic_table.specs.Seated.{TableId}
pub use Rattle.atomic_table.specs.Table.{State, gives, Me, step, Allows, opening}
pub use Rattle.nw_book.proofs.Prefixes.{prefix_itself, prefix_trans, prefix_next}
pub use Rattle.nw_book.specs.Answer.{AnswerView, Takes, front_of, reply_of}
pub use Rattle.nw_book.specs.Answered.{IsExplained}
pub use Rattle.nw_book.specs.Command.{call_of, committee_of}
pub use Rattle.nw_book.specs.Journal.{Journal, IsHistoryOf, origin_of}
pub use Rattle.nw_book.specs.Settled.{IsJournalOf}
pub use Rattle.nw_book.specs.Turn.{event, MatchesCommittee}
pub use Rattle.nw_committee.specs.declared.member.Member.{Member}
pub use Rattle.nw_history.specs.Prefix.{IsPrefixOf}
pub use Rattle.nw_history.specs.Story.{Story, bounds_of, reopened, state_of, with_event, IsLegalStory}
pub use Rattle.nw_model.specs.Look.{AreLooks}
pub use Rattle.nw_model.specs.declared.call.Call.{Call}
pub use Rattle.nw_model.specs.declared.event.Event.{Event}
pub use Rattle.nw_model.specs.declared.reply.Reply.{Reply}
pub use Rattle.nw_sig.specs.Signed.{Meaning}
pub use Rattle.std.proofs.Common.{◌≡◌, ◌≢◌, ◌≤◌, ℕ, suc, ◌<◌, List, [], ◌∷◌, ◌++◌, Option, Some, None, refl, sym, ap, ◌∙◌, subst, inl, ⊎_elim, arith, ◌+◌, true, false, length, inr, Bool, cond, map, zero, Result, Ok, Err, rules}
pub use Rattle.std.proofs.lemmas.Bool.{false≢true, eq-eqb, ne_eqb}
pub use Rattle.std.proofs.lemmas.List.Elements.{All-nil, All-cons, Contains-push, All-push, All-weaker, Contains-append_left}
pub use Rattle.std.specs.List.{Contains}
pub use Rattle.std.specs.Prelude.{slice_set, All, ◌==◌, ⊤}
pub use Rattle.std.specs.Result.{IfErr, IfOk}
pub use lib.ListN.{get_elem?}
pub use mathlib.Core.Option.{some, none}
pub use prog.Atomic.{either}
