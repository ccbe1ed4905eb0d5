-- A slot with a first digest gets no vote from then on.
use Rattle.nw_model.proofs.Words.{◌≡◌, ◌⊎◌, ℕ, zero, suc, ◌≤◌, ◌<◌, inl, inr, arith, Bool, true, false, not, cond, List, [], ◌∷◌, Option, Some, IsSome, is_some, refl, ap, sym, subst, nat_lt, nat_le, slice_get, eq_by_cmp, get, insert, get-insert, len, Digest, Block, Slot, slot_cmp, slots_total, is_there}
use Rattle.nw_model.specs.State.{State, block_slot}
use Rattle.nw_model.specs.Step.{Bounds, IsReply, after, after_write, after_certify, after_collect, raised, write_reply, certify_reply, collect_reply, other_first}
use Rattle.nw_model.specs.History.{AreReplies}
use Rattle.nw_model.specs.Laws.{IsVotingEvent, LegalHistoriesVoteOnce, FirstsOfABaseGetNoVote}
use Rattle.nw_model.specs.declared.call.Call.{Call}
use Rattle.nw_model.specs.declared.call.Call.TheVariants as call
use Rattle.nw_model.specs.declared.event.Event.{Event}
use Rattle.nw_model.specs.declared.reply.Reply.TheVariants as reply
use Rattle.nw_model.specs.declared.reply.WriteReply.{WriteReply}
use Rattle.nw_model.specs.declared.reply.WriteReply.TheVariants as write
use Rattle.nw_model.specs.declared.reply.CertifyReply.{CertifyReply}
use Rattle.nw_model.specs.declared.reply.CertifyReply.TheVariants as certify
use Rattle.nw_model.specs.declared.reply.CollectReply.{CollectReply}
use Rattle.nw_model.specs.declared.reply.CollectReply.TheVariants as collect
use Rattle.nw_model.proofs.Replayed.{past, past_found, is_stored, not_below}
use Rattle.nw_model.proofs.Raised.{slot_is_kept}
use Rattle.nw_model.proofs.Kept.{at_slot}

-- a lookup after an insertion
some_put : {X : Type 0} (here : Bool) (v : X) (found : Option X) → IsSome found → IsSome (cond here (Some v) found)
some_put true v found h = refl
some_put false v found h = h

-- the slot is spent: it has a first digest, or is below the garbage round
abbrev pub IsSpent : State → Slot → Type 0
IsSpent s slot = IsSome (get s.firsts slot) ⊎ (slot.0 < s.floor)

stays_after_write : (s : State) (d : Digest) (b : Block) (r : WriteReply) (slot : Slot) → IsSpent s slot → IsSpent (after_write s d b r) slot
stays_after_write s d b (write.Stored true) slot (inl h) =
    inl (subst IsSome (sym (get-insert slots_total s.firsts (block_slot b) d slot)) (some_put (eq_by_cmp slot_cmp slot (block_slot b)) d (get s.firsts slot) h))
stays_after_write s d b (write.Stored true) slot (inr below) = inr below
stays_after_write s d b (write.Stored false) slot h = h
stays_after_write s d b other slot h = h

stays_after_certify : (s : State) (c : _) (r : CertifyReply) (slot : Slot) → IsSpent s slot → IsSpent (after_certify s c r) slot
stays_after_certify s c certify.Certified slot h = h
stays_after_certify s c other slot h = h

abbrev is_raised : CollectReply → Bool
is_raised (collect.Raised dropped) = true
is_raised (collect.NotHigher floor) = false

-- a collection with the reply Raised has a higher round
pub higher : (s : State) (round dropped : ℕ) → collect_reply s round ≡ collect.Raised dropped → s.floor < round
higher s round dropped is = above (past is_raised (nat_le round s.floor) (collect.NotHigher s.floor) _ (collect.Raised dropped) refl refl is).0
  where
    above : nat_le round s.floor ≡ false → s.floor < round
    above e = grind arith

stays_after_collect : (s : State) (round : ℕ) (r : CollectReply) (slot : Slot) → collect_reply s round ≡ r → IsSpent s slot → IsSpent (after_collect s round r) slot
stays_after_collect s round (collect.NotHigher floor) slot is h = h
stays_after_collect s round (collect.Raised dropped) slot is (inr below) = inr (let above = higher s round dropped is in grind arith)
stays_after_collect s round (collect.Raised dropped) slot is (inl some) = by (nat_le round slot.0) refl
  where
    by : (b : Bool) → nat_le round slot.0 ≡ b → IsSpent (raised s round) slot
    by true e = inl (subst IsSome (sym (slot_is_kept round s.firsts slot (grind arith))) some)
    by false e = inr (grind arith)

-- each call leaves a spent slot spent
stays : (bounds : Bounds) (s : State) (asked : Call) (slot : Slot) → IsSpent s slot → IsSpent (after bounds s asked) slot
stays bounds s (call.Write d b) slot h = stays_after_write s d b (write_reply bounds s d b) slot h
stays bounds s (call.Certify c) slot h = stays_after_certify s c (certify_reply bounds s c) slot h
stays bounds s (call.Collect round) slot h = stays_after_collect s round (collect_reply s round) slot refl h
stays bounds s other slot h = h

one_vote : (v w : Bool) → write.Stored v ≡ write.Stored w → v ≡ w
one_vote v w e = cc

-- before a write is stored with a vote, its slot has no first digest and is not below the garbage round
voted : (bounds : Bounds) (s : State) (d : Digest) (b : Block) → write_reply bounds s d b ≡ write.Stored true → (is_some (get s.firsts (block_slot b)) ≡ false) × (s.floor ≤ b.round)
voted bounds s d b is =
    let low = past is_stored (nat_lt b.round s.floor) (write.Collected s.floor) _ (write.Stored true) refl refl is in
    let far = past is_stored _ write.TooFar _ (write.Stored true) refl refl low.1 in
    let held = past is_stored _ write.Held _ (write.Stored true) refl refl far.1 in
    let clash = past is_stored _ write.Clash _ (write.Stored true) refl refl held.1 in
    let misfit = past is_stored _ write.Misfit _ (write.Stored true) refl refl clash.1 in
    let other = past_found is_stored write.Equivocates (other_first s d (block_slot b)) _ (write.Stored true) (λ _. refl) refl misfit.1 in
    let full = past is_stored (nat_le bounds.blocks (len s.blocks)) write.Full _ (write.Stored true) refl refl other.1 in
    (negated (is_some (get s.firsts (block_slot b))) (one_vote _ true full.1), not_below b.round s.floor low.0)
  where
    negated : (b : Bool) → not b ≡ true → b ≡ false
    negated true e = absurd cc
    negated false e = refl

-- a spent slot gets no vote
unvoted : (bounds : Bounds) (s : State) (slot : Slot) (e : Event) → IsReply bounds s e.call e.reply → IsSpent s slot → IsVotingEvent slot e → ⊥
unvoted bounds s slot e is spent (d, b, is_call, is_reply, here) =
    let at : IsReply bounds s (call.Write d b) (reply.Write (write.Stored true)) = subst (λ c. IsReply bounds s c (reply.Write (write.Stored true))) is_call (subst (λ r. IsReply bounds s e.call r) is_reply is) in
    let free = voted bounds s d b (sym at) in
    elim (subst (λ q. IsSpent s q) (sym here) spent) [
      | inl some ↦ let none : is_some (get s.firsts (block_slot b)) ≡ false = free.0 in absurd cc
      | inr below ↦ let high : s.floor ≤ b.round = free.1 in absurd (omega arith)
    ]

-- a vote spends its slot
spends : (bounds : Bounds) (s : State) (slot : Slot) (e : Event) → IsReply bounds s e.call e.reply → IsVotingEvent slot e → IsSpent (after bounds s e.call) slot
spends bounds s slot e is (d, b, is_call, is_reply, here) =
    let at : IsReply bounds s (call.Write d b) (reply.Write (write.Stored true)) = subst (λ c. IsReply bounds s c (reply.Write (write.Stored true))) is_call (subst (λ r. IsReply bounds s e.call r) is_reply is) in
    let stored : write_reply bounds s d b ≡ write.Stored true = sym (the_reply at) in
    let first : get (after_write s d b (write.Stored true)).firsts (block_slot b) ≡ Some d = at_slot s.firsts (block_slot b) d in
    let spent : IsSpent (after_write s d b (write.Stored true)) slot = inl (subst (λ q. IsSome (get (insert s.firsts (block_slot b) d) q)) here (is_there _ d first)) in
    subst (λ c. IsSpent (after bounds s c) slot) (sym is_call) (subst (λ r. IsSpent (after_write s d b r) slot) (sym stored) spent)
  where
    the_reply : {x y : WriteReply} → x ≡ y → x ≡ y
    the_reply e = e

-- no later event votes for it
none_votes : (bounds : Bounds) (s : State) (es : List Event) (slot : Slot) → AreReplies bounds s es → IsSpent s slot → (j : ℕ) (e : Event) → slice_get es j ≡ Some e → IsVotingEvent slot e → ⊥
none_votes bounds s [] slot are spent j e at vote = absurd cc
none_votes bounds s (x ∷ es) slot are spent zero e at vote = let same : x ≡ e = cc in unvoted bounds s slot x are.0 spent (subst (λ y. IsVotingEvent slot y) (sym same) vote)
none_votes bounds s (x ∷ es) slot are spent (suc j) e at vote = none_votes bounds (after bounds s x.call) es slot are.2 (stays bounds s x.call slot spent) j e at vote

-- two events that vote for the same slot are the same event
one_votes : (bounds : Bounds) (s : State) (es : List Event) (slot : Slot) → AreReplies bounds s es → (i j : ℕ) (e f : Event) → slice_get es i ≡ Some e → slice_get es j ≡ Some f → IsVotingEvent slot e → IsVotingEvent slot f → i ≡ j
one_votes bounds s [] slot are i j e f at_i at_j vote_e vote_f = absurd cc
one_votes bounds s (x ∷ es) slot are zero zero e f at_i at_j vote_e vote_f = refl
one_votes bounds s (x ∷ es) slot are zero (suc j) e f at_i at_j vote_e vote_f =
    let same : x ≡ e = cc in
    absurd (none_votes bounds (after bounds s x.call) es slot are.2 (spends bounds s slot x are.0 (subst (λ y. IsVotingEvent slot y) (sym same) vote_e)) j f at_j vote_f)
one_votes bounds s (x ∷ es) slot are (suc i) zero e f at_i at_j vote_e vote_f =
    let same : x ≡ f = cc in
    absurd (none_votes bounds (after bounds s x.call) es slot are.2 (spends bounds s slot x are.0 (subst (λ y. IsVotingEvent slot y) (sym same) vote_f)) i e at_i vote_e)
one_votes bounds s (x ∷ es) slot are (suc i) (suc j) e f at_i at_j vote_e vote_f = ap suc (one_votes bounds (after bounds s x.call) es slot are.2 i j e f at_i at_j vote_e vote_f)

pub one_vote_for_a_slot : LegalHistoriesVoteOnce
one_vote_for_a_slot accepts terms base es legal slot i j e f at_i at_j vote_e vote_f = one_votes terms.bounds base es slot legal.replies i j e f at_i at_j vote_e vote_f

pub no_vote_over_a_base : FirstsOfABaseGetNoVote
no_vote_over_a_base accepts terms base es legal slot some j e at vote = none_votes terms.bounds base es slot legal.replies (inl some) j e at vote
