-- The histories of answers and tickets as C sees them.
use Rattle.std.specs.Prelude.{◌≡◌, ◌↔◌, ℕ, Bool, IsTrue, Option, Some, None, length, slice_get}
use Rattle.nw_model.specs.declared.call.Call.{Call}
use Rattle.nw_model.specs.declared.call.Call.TheVariants as call
use Rattle.nw_model.specs.declared.event.Event.{Event}
use Rattle.nw_history.specs.Prefix.{IsPrefixOf}
use Rattle.nw_history.specs.Story.{Story}
use Rattle.nw_c.specs.Plain.{digest_in}
use Rattle.nw_c.specs.Replies.{EncodesReplyTo}
use Rattle.nw_c.specs.declared.plain.CTagged.{CTagged}
use Rattle.nw_c.specs.declared.events.CEvent.{CEvent}
use Rattle.nw_c.specs.declared.events.TheConstants.{CALL_WRITE, CALL_CERTIFY, CALL_CERTIFICATE, CALL_READ, CALL_CAUSAL, CALL_COLLECT, CALL_MISSING, CALL_MISSING_OF, CALL_STATUS}
use Rattle.nw_c.specs.declared.content.Content.{Content}
use Rattle.nw_c.specs.declared.content.Content.TheVariants as kind

-- t has the kind of the call, and its digest or number if it has one. The question what a write or a certificate would get has the kind of
-- the write or the certificate: a history records a refused one so
abbrev pub EncodesCall : Call → CTagged → Type 0
EncodesCall (call.Write d b) t = (t.kind ≡ CALL_WRITE) × (digest_in t.digest ≡ d)
EncodesCall (call.Certify c) t = (t.kind ≡ CALL_CERTIFY) × (digest_in t.digest ≡ c.digest)
EncodesCall (call.Certificate d) t = (t.kind ≡ CALL_CERTIFICATE) × (digest_in t.digest ≡ d)
EncodesCall (call.Read d) t = (t.kind ≡ CALL_READ) × (digest_in t.digest ≡ d)
EncodesCall (call.Causal d) t = (t.kind ≡ CALL_CAUSAL) × (digest_in t.digest ≡ d)
EncodesCall (call.Collect round) t = (t.kind ≡ CALL_COLLECT) × (t.number ≡ round)
EncodesCall (call.Missing most) t = (t.kind ≡ CALL_MISSING) × (t.number ≡ most)
EncodesCall (call.MissingOf d) t = (t.kind ≡ CALL_MISSING_OF) × (digest_in t.digest ≡ d)
EncodesCall call.Status t = t.kind ≡ CALL_STATUS
EncodesCall (call.AskWrite q) t = (t.kind ≡ CALL_WRITE) × (digest_in t.digest ≡ q.digest)
EncodesCall (call.AskCertify q) t = (t.kind ≡ CALL_CERTIFY) × (digest_in t.digest ≡ q.digest)

-- t is the event: its session, its number, its call and its reply
abbrev pub EncodesEvent : Event → CEvent → Type 0
EncodesEvent e t = (t.session ≡ e.session) × (t.number ≡ e.number) × EncodesCall e.call t.call × EncodesReplyTo e.reply t.reply

-- the history of an answer or a ticket, or the history itself
abbrev pub front_in : Content → Option Story
front_in (kind.Answer told) = Some told.front
front_in (kind.Ticket given) = Some given.front
front_in (kind.History history) = Some history
front_in other = None

-- there is a history, and it has n events
abbrev pub HasLength : Option Story → ℕ → Type 0
HasLength (Some s) n = n ≡ length s.events
HasLength None n = ⊥

-- there is an event, and t is that event
abbrev pub EncodesSomeEvent : Option Event → CEvent → Type 0
EncodesSomeEvent (Some e) t = EncodesEvent e t
EncodesSomeEvent None t = ⊥

-- there is a history, and t is its event at the index
abbrev pub HasEventAt : Option Story → ℕ → CEvent → Type 0
HasEventAt (Some s) index t = EncodesSomeEvent (slice_get s.events index) t
HasEventAt None index t = ⊥

-- there are two histories, and b says whether the first is a prefix of the second
abbrev pub ComparesHistories : Option Story → Option Story → Bool → Type 0
ComparesHistories (Some one) (Some other) b = IsTrue b ↔ IsPrefixOf one other
ComparesHistories one other b = ⊥

-- there is a history, and it has no event at the index
abbrev pub HasNoEventAt : Option Story → ℕ → Type 0
HasNoEventAt (Some s) index = slice_get s.events index ≡ None
HasNoEventAt None index = ⊥
