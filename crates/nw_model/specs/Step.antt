-- The step table: the reply to each call, and the state after it.
use Rattle.std.specs.Prelude.{◌≡◌, ◌==◌, ◌&&◌, ℕ, ◌+◌, ◌-◌, Bool, false, not, nat_lt, nat_le, List, Option, Some, None, IsSome, is_some, option_and_then, find, if◌then◌else◌, refl}
use Rattle.std.specs.Coded.{Coded, code_by, coded×, coded_ℕ}
use Rattle.std.specs.Option.{option_map_or}
use Rattle.std.specs.FinMap.{FinMap, get, insert, len, keys, retain_keys}
use Rattle.nw_digest.specs.declared.digest.Digest.{Digest}
use Rattle.nw_codec.specs.Same.{same_block, same_bytes}
use Rattle.nw_codec.specs.declared.block.Block.{Block}
use Rattle.nw_codec.specs.declared.certificate.Certificate.{Certificate}
use Rattle.nw_digest.specs.Order.{digest_cmp, Slot}
use Rattle.nw_codec.specs.declared.subject.Subject.{Subject}
use Rattle.nw_codec.specs.Subject.{block_subject, certificate_subject}
use Rattle.nw_model.specs.State.{State, block_slot, certificate_slot, subject_slot, coded_state}
use Rattle.nw_model.specs.Paths.{IsComplete, IsCausalList}
use Rattle.nw_model.specs.Missing.{AreFirstWanted, AreMissingOf, AreCounts}
use Rattle.nw_model.specs.declared.call.Call.{Call}
use Rattle.nw_model.specs.declared.call.Call.TheVariants as call
use Rattle.nw_model.specs.declared.reply.WriteReply.{WriteReply}
use Rattle.nw_model.specs.declared.reply.WriteReply.TheVariants as write
use Rattle.nw_model.specs.declared.reply.CertifyReply.{CertifyReply}
use Rattle.nw_model.specs.declared.reply.CertifyReply.TheVariants as certify
use Rattle.nw_model.specs.declared.reply.CausalReply.TheVariants as causal
use Rattle.nw_model.specs.declared.reply.CollectReply.{CollectReply}
use Rattle.nw_model.specs.declared.reply.CollectReply.TheVariants as collect
use Rattle.nw_model.specs.declared.reply.Reply.{Reply}
use Rattle.nw_model.specs.declared.reply.Reply.TheVariants as reply

-- the bounds of a store, which no call changes
pub record Bounds : Type 0 where
  -- the largest number of held blocks, and separately of certificates
  pub blocks : ℕ
  -- the number of rounds, from the garbage round on, whose blocks and certificates the store accepts
  pub window : ℕ

-- a state with the bounds of its store
pub record BoundedState : Type 0 where
  -- the bounds under which the store takes its steps
  pub bounds : Bounds
  -- its state
  pub state : State

-- the code of a state with its bounds
abbrev pub coded_bounded_state : Coded BoundedState
coded_bounded_state =
    code_by (ℕ × (ℕ × State)) (coded× coded_ℕ (coded× coded_ℕ coded_state))
    (λ t. (t.bounds.blocks, (t.bounds.window, t.state)))
    (λ p. record { bounds = record { blocks = p.0; window = p.1.0 }; state = p.1.1 }) (λ _. refl)

-- whether the two slots are equal
abbrev pub is_slot : Slot → Slot → Bool
is_slot a b = (a.0 == b.0) && (a.1 == b.1)

-- whether the two digests are equal
abbrev pub is_digest : Digest → Digest → Bool
is_digest a b = same_bytes a.0 b.0

-- whether there is a value, and it has another slot than this one
abbrev pub has_other_slot : {X : Type 0} → (X → Slot) → Option X → Slot → Bool
has_other_slot slot_of found slot = option_map_or (λ x. not (is_slot (slot_of x) slot)) found false

-- the first digest of the slot, if there is one, it is not d, and d is not certified
abbrev pub other_first : State → Digest → Slot → Option Digest
other_first s d slot = if is_some (get s.certificates d) then None else option_and_then (λ first. if is_digest first d then None else Some first) (get s.firsts slot)

-- whether the round is below the garbage round
abbrev pub is_collected : State → ℕ → Bool
is_collected s round = nat_lt round s.floor

-- whether the round is at or above the garbage round plus the window
abbrev pub is_too_far : Bounds → State → ℕ → Bool
is_too_far bounds s round = nat_le (s.floor + bounds.window) round

-- whether some block is held under d
abbrev pub is_held : State → Digest → Bool
is_held s d = is_some (get s.blocks d)

-- whether the block b is held under d
abbrev pub is_held_block : State → Digest → Block → Bool
is_held_block s d b = option_map_or (same_block b) (get s.blocks d) false

-- whether d is certified
abbrev pub is_certified : State → Digest → Bool
is_certified s d = is_some (get s.certificates d)

-- whether d is certified for another slot than this one
abbrev pub is_certified_elsewhere : State → Digest → Slot → Bool
is_certified_elsewhere s d slot = has_other_slot certificate_slot (get s.certificates d) slot

-- whether a block of another slot than this one is held under d
abbrev pub is_held_elsewhere : State → Digest → Slot → Bool
is_held_elsewhere s d slot = has_other_slot block_slot (get s.blocks d) slot

-- whether this number of entries has reached the bound
abbrev pub is_full : Bounds → ℕ → Bool
is_full bounds entries = nat_le bounds.blocks entries

-- whether the slot has no first digest
abbrev pub is_open : State → Slot → Bool
is_open s slot = not (is_some (get s.firsts slot))

-- the reply to a write of a block of this slot under d, if its round is accepted and no block is held under d: the first of these whose test
-- holds
abbrev pub new_write_reply : Bounds → State → Digest → Slot → WriteReply
new_write_reply bounds s d slot =
    if is_certified_elsewhere s d slot then write.Misfit
    -- Equivocates with the other_first if there is one; otherwise the next line
    else option_map_or write.Equivocates (other_first s d slot)
    (if is_full bounds (len s.blocks) then write.Full else write.Stored (is_open s slot))

-- the reply to a write of the block b under d: the first of these whose test holds
abbrev pub write_reply : Bounds → State → Digest → Block → WriteReply
write_reply bounds s d b =
    if is_collected s b.round then write.Collected s.floor
    else if is_too_far bounds s b.round then write.TooFar
    else if is_held_block s d b then write.Held
    else if is_held s d then write.Clash
    else new_write_reply bounds s d (block_slot b)

-- the reply to the question what a write with this subject would get: the same, but Held also in place of Clash
abbrev pub asked_write_reply : Bounds → State → Subject → WriteReply
asked_write_reply bounds s q =
    if is_collected s q.round then write.Collected s.floor
    else if is_too_far bounds s q.round then write.TooFar
    else if is_held s q.digest then write.Held
    else new_write_reply bounds s q.digest (subject_slot q)

-- the state in which b is held under d, and d is the first digest of b's slot if there is a vote
abbrev pub with_block : State → Digest → Block → Bool → State
with_block s d b vote = record s {
  blocks = insert s.blocks d b;
  firsts = if vote then insert s.firsts (block_slot b) d else s.firsts;
}

-- the state after a write with this reply: only Stored changes it
abbrev pub after_write : State → Digest → Block → WriteReply → State
after_write s d b (write.Stored vote) = with_block s d b vote
after_write s d b other = s

-- whether the digest is certified for this slot
abbrev pub is_certified_for : State → Slot → Digest → Bool
is_certified_for s slot d = option_map_or (λ c. is_slot (certificate_slot c) slot) (get s.certificates d) false

-- the certified digest of the slot, if there is one
abbrev pub certified_digest : State → Slot → Option Digest
certified_digest s slot = find (is_certified_for s slot) (keys s.certificates)

-- the reply to the question what a certificate for this subject would get: the first of these whose test holds
abbrev pub asked_certify_reply : Bounds → State → Subject → CertifyReply
asked_certify_reply bounds s q =
    if is_collected s q.round then certify.Collected s.floor
    else if is_too_far bounds s q.round then certify.TooFar
    else if is_certified_for s (subject_slot q) q.digest then certify.Already
    else if is_certified s q.digest then certify.Misfit
    else if is_held_elsewhere s q.digest (subject_slot q) then certify.Misfit
    -- Conflict with the slot's certified digest if there is one; otherwise the next line
    else option_map_or certify.Conflict (certified_digest s (subject_slot q))
    (if is_full bounds (len s.certificates) then certify.Full else certify.Certified)

-- the reply to the certificate c depends on its subject only
abbrev pub certify_reply : Bounds → State → Certificate → CertifyReply
certify_reply bounds s c = asked_certify_reply bounds s (certificate_subject c)

-- the state in which c is kept under its digest
abbrev pub with_certificate : State → Certificate → State
with_certificate s c = record s { certificates = insert s.certificates c.digest c }

-- the state after a certificate with this reply: only Certified changes it
abbrev pub after_certify : State → Certificate → CertifyReply → State
after_certify s c certify.Certified = with_certificate s c
after_certify s c other = s

-- the map without the values of rounds below this one
abbrev pub from_round : {X : Type 0} → (X → ℕ) → ℕ → FinMap digest_cmp X → FinMap digest_cmp X
from_round round_of round m = retain_keys m (λ d. option_map_or (λ x. nat_le round (round_of x)) (get m d) false)

-- the state with this garbage round, and without the entries of lower rounds
abbrev pub raised : State → ℕ → State
raised s round = record {
  blocks = from_round (λ b. b.round) round s.blocks;
  certificates = from_round (λ c. c.round) round s.certificates;
  firsts = retain_keys s.firsts (λ slot. nat_le round slot.0);
  floor = round;
}

-- the reply to a collection: NotHigher if the round is not above the garbage round; otherwise Raised, with the number of dropped blocks
abbrev pub collect_reply : State → ℕ → CollectReply
collect_reply s round = if nat_le round s.floor then collect.NotHigher s.floor else collect.Raised (len s.blocks - len (raised s round).blocks)

-- the state after a collection with this reply: only Raised changes it
abbrev pub after_collect : State → ℕ → CollectReply → State
after_collect s round (collect.Raised dropped) = raised s round
after_collect s round other = s

-- the state after a call: only writes, certificates and collections may change it
abbrev pub after : Bounds → State → Call → State
after bounds s (call.Write d b) = after_write s d b (write_reply bounds s d b)
after bounds s (call.Certify c) = after_certify s c (certify_reply bounds s c)
after bounds s (call.Collect round) = after_collect s round (collect_reply s round)
after bounds s other = s

-- the reply to a causal read of d. Ready may be in place of the list
abbrev pub IsCausalReply : State → Digest → Reply → Type 0
IsCausalReply s d (reply.Causal causal.Unknown) = get s.blocks d ≡ None
IsCausalReply s d (reply.Causal causal.Uncertified) = IsSome (get s.blocks d) × (get s.certificates d ≡ None)
IsCausalReply s d (reply.Causal causal.Incomplete) = IsSome (get s.blocks d) × IsSome (get s.certificates d) × (IsComplete s d → ⊥)
IsCausalReply s d reply.Ready = IsComplete s d
IsCausalReply s d (reply.List blocks) = IsComplete s d × IsCausalList s d blocks
IsCausalReply s d other = ⊥

-- the reply to each call
abbrev pub IsReply : Bounds → State → Call → Reply → Type 0
IsReply bounds s (call.Write d b) (reply.Write r) = r ≡ write_reply bounds s d b
IsReply bounds s (call.Certify c) (reply.Certify r) = r ≡ certify_reply bounds s c
IsReply bounds s (call.Certificate d) (reply.Certificate r) = r ≡ get s.certificates d
IsReply bounds s (call.Read d) (reply.Read r) = r ≡ get s.blocks d
IsReply bounds s (call.Causal d) r = IsCausalReply s d r
IsReply bounds s (call.Collect round) (reply.Collect r) = r ≡ collect_reply s round
IsReply bounds s (call.Missing most) (reply.Missing first) = AreFirstWanted s most first
IsReply bounds s (call.MissingOf d) (reply.MissingOf missing) = AreMissingOf s d missing
IsReply bounds s call.Status (reply.Status counts) = AreCounts s counts
IsReply bounds s (call.AskWrite q) (reply.Write r) = r ≡ asked_write_reply bounds s q
IsReply bounds s (call.AskCertify q) (reply.Certify r) = r ≡ asked_certify_reply bounds s q
IsReply bounds s asked other = ⊥

-- the reply is one that a history may record: no list
abbrev pub HasNoList : Reply → Type 0
HasNoList (reply.List blocks) = ⊥
HasNoList other = Unit {0}

-- the reply as a history records it: Ready in place of a list
abbrev pub recorded : Reply → Reply
recorded (reply.List blocks) = reply.Ready
recorded other = other

-- the call as a history records it with its reply: a write or a certificate that changes nothing becomes the question with its subject. A
-- write with the reply Clash stays, since only its block tells it from Held
abbrev pub recorded_call : Call → Reply → Call
recorded_call (call.Write d b) (reply.Write (write.Stored vote)) = call.Write d b
recorded_call (call.Write d b) (reply.Write write.Clash) = call.Write d b
recorded_call (call.Write d b) (reply.Write other) = call.AskWrite (block_subject d b)
recorded_call (call.Certify c) (reply.Certify certify.Certified) = call.Certify c
recorded_call (call.Certify c) (reply.Certify other) = call.AskCertify (certificate_subject c)
recorded_call asked r = asked

-- the two replies are equal, except that one may have Ready in place of the list
pub record AreSameReply (one other : Reply) : Type 0 where
  -- a history records both in the same way
  pub short : recorded one ≡ recorded other
  -- if both are lists, the lists are equal
  pub list : (blocks others : List Block) → one ≡ reply.List blocks → other ≡ reply.List others → blocks ≡ others

-- two replies to the same call in the same state are equal, except that one may have Ready in place of the list
abbrev pub StepIsAFunction : Type 0
StepIsAFunction = (bounds : Bounds) (s : State) (asked : Call) (one other : Reply) → IsReply bounds s asked one → IsReply bounds s asked other → AreSameReply one other

-- the call that a history records has the same reply, and leaves the same state
abbrev pub RecordedCallsTakeTheSameStep : Type 0
RecordedCallsTakeTheSameStep =
    (bounds : Bounds) (s : State) (asked : Call) (r : Reply) → IsReply bounds s asked r
    → IsReply bounds s (recorded_call asked r) r × (after bounds s (recorded_call asked r) ≡ after bounds s asked)
