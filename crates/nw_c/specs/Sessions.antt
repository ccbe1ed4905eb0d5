-- Calls of sessions and their notes.
use Rattle.std.specs.Prelude.{◌≡◌, ℕ, List, Option, Some, None, false}
use Rattle.nw_committee.specs.declared.member.Member.{Member}
use Rattle.nw_digest.specs.declared.digest.Digest.{Digest}
use Rattle.nw_sig.specs.Signed.{Meaning}
use Rattle.nw_model.specs.Checks.{digest_of}
use Rattle.nw_model.specs.declared.call.Call.{Call}
use Rattle.nw_model.specs.declared.call.Call.TheVariants as call
use Rattle.nw_model.specs.declared.reply.CausalReply.{CausalReply}
use Rattle.nw_model.specs.declared.reply.Reply.{Reply}
use Rattle.nw_model.specs.declared.reply.Reply.TheVariants as reply
use Rattle.nw_history.specs.Prefix.{IsPrefixOf}
use Rattle.nw_history.specs.Story.{Story}
use Rattle.nw_check.specs.declared.message.Checked.TheVariants as checked
use Rattle.nw_book.specs.Answered.{IsExplained}
use Rattle.nw_book.specs.Journal.{origin_of}
use Rattle.nw_book.specs.Settled.{IsJournalOf}
use Rattle.nw_book.specs.Turn.{MatchesCommittee}
use Rattle.nw_shared_store.specs.Recorded.{AreRecorded}
use Rattle.nw_shared_store.specs.Rule.{knowing}
use Rattle.nw_shared_store.specs.Session.{HasSeen, IsPresent, IsRefusedBy, IsSameSession, SessionView, ended}
use Rattle.nw_shared_store.specs.declared.error.Refusal.{Refusal}
use Rattle.nw_c.specs.declared.content.Content.{Content}
use Rattle.nw_c.specs.declared.content.Content.TheVariants as kind

-- it is the session with this number
abbrev pub HasNumber : Content → ℕ → Type 0
HasNumber (kind.Session session) number = number ≡ session.journal.id
HasNumber other number = ⊥

-- the session's next call got this reply, and the answer carries this history
pub record IsCallOf (accepts : Meaning) (asked : Call) (old new : SessionView) (told : Reply) (front : Story) : Type 0 where
  -- it is still the same session, of the same run
  pub same : IsSameSession old new
  -- there is a legal history of the run, after which the plain store's reply to the call is this one. The answer's history is this
  -- history with the call, and all that the session knew is a prefix of the answer's history
  pub explained : IsExplained accepts (origin_of old.first) old.journal new.journal asked told front
  -- of this session, the answer's history has exactly the calls that the session made, in order
  pub own_calls : IsJournalOf front old.journal.id new.journal
  -- each event's call is recorded with its reply
  pub recorded : AreRecorded front.events
  -- no call was told before that the run has ended
  pub goes_on : new.over ≡ false

-- the session made this call, and this is the answer
abbrev pub IsCalled : Meaning → Call → Content → Content → Content → Type 0
IsCalled accepts asked (kind.Session old) (kind.Session new) (kind.Answer told) = IsCallOf accepts asked old new told.event.reply told.front
IsCalled accepts asked old new answer = ⊥

-- the session made a causal read: the answer is a ticket for the digest, or says why there is none
abbrev pub IsReadBy : Meaning → Digest → SessionView → SessionView → Content → Type 0
IsReadBy accepts d old new (kind.Ticket given) = IsCallOf accepts (call.Causal d) old new reply.Ready given.front × (given.digest ≡ d)
IsReadBy accepts d old new (kind.Answer told) =
    IsCallOf accepts (call.Causal d) old new told.event.reply told.front × ((why : CausalReply) × (told.event.reply ≡ reply.Causal why))
IsReadBy accepts d old new other = ⊥

-- it is a session that made a causal read of the digest
abbrev pub IsCausalRead : Meaning → Digest → Content → Content → Content → Type 0
IsCausalRead accepts d (kind.Session old) (kind.Session new) answer = IsReadBy accepts d old new answer
IsCausalRead accepts d old new answer = ⊥

-- the committee under which the block or certificate was checked
abbrev pub committee_checked_under : Content → Option (List Member)
committee_checked_under (kind.Checked (checked.Block b)) = Some b.committee
committee_checked_under (kind.Checked (checked.Cert c)) = Some c.committee
committee_checked_under other = None

-- the session handed in the checked block as a write, or the checked certificate as a certification, and this is the answer
abbrev pub IsHandedInBy : Meaning → Content → Content → Content → Content → Type 0
IsHandedInBy accepts (kind.Checked (checked.Block b)) old new answer = IsCalled accepts (call.Write (digest_of b.block) b.block) old new answer
IsHandedInBy accepts (kind.Checked (checked.Cert c)) old new answer = IsCalled accepts (call.Certify c.certificate) old new answer
IsHandedInBy accepts other old new answer = ⊥

-- it is a session, whose store is under the second committee, if there is one
abbrev pub IsUnderOwn : Content → Option (List Member) → Type 0
IsUnderOwn (kind.Session session) under = MatchesCommittee session.first.committee under
IsUnderOwn other under = ⊥

-- it is the same session, whose next call is refused for this cause; `under` is the committee of the value handed in, if the call hands one in.
-- The cause is never its turn. If the lock was taken, nothing changed. If the session's run has ended, the session knows it from now on. Each
-- other cause applies after the present history of the run, and from now on the session knows of this history
abbrev pub IsRefusedTo : Meaning → Content → Content → Option (List Member) → Refusal → Type 0
IsRefusedTo accepts (kind.Session old) (kind.Session new) under why = IsSameSession old new × IsRefusedBy accepts old new under why
IsRefusedTo accepts old new under why = ⊥

-- it is the same session, which knows from now on that its run has ended
abbrev pub KnowsEnd : Content → Content → Type 0
KnowsEnd (kind.Session old) (kind.Session new) = new ≡ ended old
KnowsEnd old new = ⊥

-- the history is the present one of the session's run. Of this session it has exactly the calls that it made, in order, and all that the
-- session knew is a prefix of it. From now on, the session knows of this history
abbrev pub IsNoteOf : Meaning → Content → Content → Content → Type 0
IsNoteOf accepts (kind.Session old) (kind.Session new) (kind.History history) =
    IsSameSession old new × (new.journal ≡ knowing old.journal history) × ((made : ℕ) × IsPresent accepts (origin_of old.first) old.journal history made)
IsNoteOf accepts old new answer = ⊥

-- it is the same session, which saw the present history of its run. This is true of the history, and from now on the session knows of it
abbrev pub Sees : Meaning → Content → Content → (Story → Type 0) → Type 0
Sees accepts (kind.Session old) (kind.Session new) then = IsSameSession old new × HasSeen accepts old new then
Sees accepts old new then = ⊥

-- there is a note, and the history begins with it
abbrev pub BeginsWith : Option Story → Story → Type 0
BeginsWith (Some note) h = IsPrefixOf note h
BeginsWith None h = ⊥
