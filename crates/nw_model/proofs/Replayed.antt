-- A legal history leaves a sound state.
use Rattle.nw_model.proofs.Words.{◌≡◌, ℕ, ◌≤◌, Bool, true, false, cond, List, [], ◌∷◌, Option, Some, None, refl, ap, sym, subst, arith, nat_lt, option_map_or, get, Digest, Block, Certificate, Meaning}
use Rattle.nw_model.specs.State.{State, block_slot, certificate_slot, opening}
use Rattle.nw_model.specs.Sound.{IsSound}
use Rattle.nw_model.specs.Step.{Bounds, after, after_write, after_certify, write_reply, certify_reply, after_collect, collect_reply, has_other_slot, certified_digest}
use Rattle.nw_model.specs.History.{Terms, IsBase, replay}
use Rattle.nw_model.specs.Laws.{LegalHistoriesLeaveSoundStates}
use Rattle.nw_model.specs.declared.call.Call.{Call}
use Rattle.nw_model.specs.declared.call.Call.TheVariants as call
use Rattle.nw_model.specs.declared.event.Event.{Event}
use Rattle.nw_model.specs.declared.reply.WriteReply.{WriteReply}
use Rattle.nw_model.specs.declared.reply.WriteReply.TheVariants as write
use Rattle.nw_model.specs.declared.reply.CertifyReply.{CertifyReply}
use Rattle.nw_model.specs.declared.reply.CertifyReply.TheVariants as certify
use Rattle.nw_model.specs.declared.reply.CollectReply.{CollectReply}
use Rattle.nw_model.specs.declared.reply.CollectReply.TheVariants as collect
use Rattle.nw_model.proofs.Kept.{sound_with_block, sound_with_certificate, kept_opening}
use Rattle.nw_model.proofs.Raised.{sound_raised}

-- if the result of an `if` has the mark and its first branch does not, the test fails and the result is the second branch
pub past : {X : Type 0} (mark : X → Bool) (test : Bool) (x rest r : X) → mark x ≡ false → mark r ≡ true → cond test x rest ≡ r → (test ≡ false) × (rest ≡ r)
past mark true x rest r unmarked marked is = let same = ap mark is in absurd cc
past mark false x rest r unmarked marked is = (refl, is)

pub past_found : {X Y : Type 0} (mark : Y → Bool) (reply : X → Y) (found : Option X) (rest r : Y) → ((x : X) → mark (reply x) ≡ false) → mark r ≡ true → option_map_or reply found rest ≡ r → (found ≡ None) × (rest ≡ r)
past_found mark reply None rest r unmarked marked is = (refl, is)
past_found mark reply (Some x) rest r unmarked marked is = let same = ap mark is in let not_this = unmarked x in absurd cc

pub not_below : (a b : ℕ) → nat_lt a b ≡ false → b ≤ a
not_below a b e = grind arith

-- ---- what the replies Stored and Certified imply

abbrev pub is_stored : WriteReply → Bool
is_stored (write.Stored vote) = true
is_stored other = false

abbrev pub is_certified : CertifyReply → Bool
is_certified certify.Certified = true
is_certified other = false

stored : (bounds : Bounds) (s : State) (d : Digest) (b : Block) (vote : Bool) → write_reply bounds s d b ≡ write.Stored vote
    → (s.floor ≤ b.round) × (has_other_slot certificate_slot (get s.certificates d) (block_slot b) ≡ false)
stored bounds s d b vote is =
    let low = past is_stored (nat_lt b.round s.floor) (write.Collected s.floor) _ (write.Stored vote) refl refl is in
    let far = past is_stored _ write.TooFar _ (write.Stored vote) refl refl low.1 in
    let held = past is_stored _ write.Held _ (write.Stored vote) refl refl far.1 in
    let clash = past is_stored _ write.Clash _ (write.Stored vote) refl refl held.1 in
    let misfit = past is_stored _ write.Misfit _ (write.Stored vote) refl refl clash.1 in
    (not_below b.round s.floor low.0, misfit.0)

certified : (bounds : Bounds) (s : State) (c : Certificate) → certify_reply bounds s c ≡ certify.Certified
    → (s.floor ≤ c.round) × (has_other_slot block_slot (get s.blocks c.digest) (certificate_slot c) ≡ false) × (certified_digest s (certificate_slot c) ≡ None)
certified bounds s c is =
    let low = past is_certified (nat_lt c.round s.floor) (certify.Collected s.floor) _ certify.Certified refl refl is in
    let far = past is_certified _ certify.TooFar _ certify.Certified refl refl low.1 in
    let already = past is_certified _ certify.Already _ certify.Certified refl refl far.1 in
    let misfit = past is_certified _ certify.Misfit _ certify.Certified refl refl already.1 in
    let elsewhere = past is_certified _ certify.Misfit _ certify.Certified refl refl misfit.1 in
    let conflict = past_found is_certified certify.Conflict (certified_digest s (certificate_slot c)) _ certify.Certified (λ _. refl) refl elsewhere.1 in
    (not_below c.round s.floor low.0, elsewhere.0, conflict.0)

-- ---- the state after each call

sound_after_write : (bounds : Bounds) (s : State) (d : Digest) (b : Block) (r : WriteReply) → IsSound s → write_reply bounds s d b ≡ r → IsSound (after_write s d b r)
sound_after_write bounds s d b (write.Stored vote) sound is = let known = stored bounds s d b vote is in sound_with_block s d b vote sound known.1 known.0
sound_after_write bounds s d b other sound is = sound

sound_after_certify : (bounds : Bounds) (s : State) (c : Certificate) (r : CertifyReply) → IsSound s → certify_reply bounds s c ≡ r → IsSound (after_certify s c r)
sound_after_certify bounds s c certify.Certified sound is = let known = certified bounds s c is in sound_with_certificate s c sound known.2 known.1 known.0
sound_after_certify bounds s c other sound is = sound

sound_after_collect : (s : State) (round : ℕ) (r : CollectReply) → IsSound s → IsSound (after_collect s round r)
sound_after_collect s round (collect.Raised dropped) sound = sound_raised s round sound
sound_after_collect s round (collect.NotHigher floor) sound = sound

-- each call keeps a sound state sound
pub sound_after : (bounds : Bounds) (s : State) (asked : Call) → IsSound s → IsSound (after bounds s asked)
sound_after bounds s (call.Write d b) sound = sound_after_write bounds s d b (write_reply bounds s d b) sound refl
sound_after bounds s (call.Certify c) sound = sound_after_certify bounds s c (certify_reply bounds s c) sound refl
sound_after bounds s (call.Collect round) sound = sound_after_collect s round (collect_reply s round) sound
sound_after bounds s other sound = sound

-- the calls of these events keep a sound state sound
pub sound_replay : (bounds : Bounds) (s : State) (es : List Event) → IsSound s → IsSound (replay bounds s es)
sound_replay bounds s [] sound = sound
sound_replay bounds s (e ∷ es) sound = sound_replay bounds (after bounds s e.call) es (sound_after bounds s e.call sound)

pub sound_opening : IsSound opening
sound_opening = kept_opening.sound

-- a base is sound
pub sound_base : (accepts : Meaning) (terms : Terms) (base : State) → IsBase accepts terms base → IsSound base
sound_base accepts terms base based = subst IsSound (sym based.left) (sound_replay terms.bounds opening based.earlier sound_opening)

pub legal_sound : LegalHistoriesLeaveSoundStates
legal_sound accepts terms base es legal = sound_replay terms.bounds base es (sound_base accepts terms base legal.based)
