-- A call and the one that a history records take the same step.
use Rattle.nw_model.proofs.Words.{◌≡◌, ◌≢◌, Bool, true, false, cond, Option, Some, None, refl, ap, sym, ◌∙◌, option_map_or, get, Digest, Block, Certificate}
use Rattle.std.specs.Prelude.{is_some}
use Rattle.nw_codec.specs.Subject.{block_subject, certificate_subject}
use Rattle.nw_model.specs.State.{State}
use Rattle.nw_model.specs.Step.{Bounds, IsReply, RecordedCallsTakeTheSameStep, after, after_write, after_certify, write_reply, certify_reply, asked_write_reply, new_write_reply, is_collected, is_too_far, is_held, is_held_block}
use Rattle.nw_model.specs.declared.call.Call.TheVariants as call
use Rattle.nw_model.specs.declared.reply.Reply.TheVariants as reply
use Rattle.nw_model.specs.declared.reply.WriteReply.{WriteReply}
use Rattle.nw_model.specs.declared.reply.WriteReply.TheVariants as write
use Rattle.nw_model.specs.declared.reply.CertifyReply.{CertifyReply}
use Rattle.nw_model.specs.declared.reply.CertifyReply.TheVariants as certify
use Rattle.nw_model.proofs.Replayed.{is_stored}

abbrev is_clash : WriteReply → Bool
is_clash write.Clash = true
is_clash other = false

-- a value of the map that passes a test is in the map
found_of : {X : Type 0} (test : X → Bool) (found : Option X) → option_map_or test found false ≡ true → is_some found ≡ true
found_of test None is = absurd cc
found_of test (Some x) is = refl

-- Held is also the reply in place of Clash
asks : (collected far same held : Bool) (low rest w : WriteReply) → (same ≡ true → held ≡ true) → is_clash w ≡ false
    → w ≡ cond collected low (cond far write.TooFar (cond same write.Held (cond held write.Clash rest)))
    → w ≡ cond collected low (cond far write.TooFar (cond held write.Held rest))
asks true far same held low rest w found kept is = is
asks false true same held low rest w found kept is = is
asks false false true held low rest w found kept is = let it = found refl in is ∙ sym (ap (λ b. cond b write.Held rest) it)
asks false false false true low rest w found kept is = let clash = ap is_clash is in absurd cc
asks false false false false low rest w found kept is = is

asked : (bounds : Bounds) (s : State) (d : Digest) (b : Block) (w : WriteReply) → is_clash w ≡ false → w ≡ write_reply bounds s d b → w ≡ asked_write_reply bounds s (block_subject d b)
asked bounds s d b w kept is =
    asks (is_collected s b.round) (is_too_far bounds s b.round) (is_held_block s d b) (is_held s d) (write.Collected s.floor) (new_write_reply bounds s d (b.round, b.author)) w
    (found_of _ (get s.blocks d)) kept is

unchanged : (s : State) (d : Digest) (b : Block) (w : WriteReply) → is_stored w ≡ false → s ≡ after_write s d b w
unchanged s d b (write.Stored vote) refused = absurd cc
unchanged s d b other refused = refl

written : (bounds : Bounds) (s : State) (d : Digest) (b : Block) (w : WriteReply) → is_clash w ≡ false → is_stored w ≡ false → w ≡ write_reply bounds s d b
    → IsReply bounds s (call.AskWrite (block_subject d b)) (reply.Write w) × (s ≡ after bounds s (call.Write d b))
written bounds s d b w kept refused is = (asked bounds s d b w kept is, unchanged s d b w refused ∙ ap (after_write s d b) is)

unchanged_by : (s : State) (c : Certificate) (w : CertifyReply) → (w ≢ certify.Certified) → s ≡ after_certify s c w
unchanged_by s c certify.Certified refused = absurd (refused refl)
unchanged_by s c other refused = refl

certified : (bounds : Bounds) (s : State) (c : Certificate) (w : CertifyReply) → (w ≢ certify.Certified) → w ≡ certify_reply bounds s c
    → IsReply bounds s (call.AskCertify (certificate_subject c)) (reply.Certify w) × (s ≡ after bounds s (call.Certify c))
certified bounds s c w refused is = (is, unchanged_by s c w refused ∙ ap (after_certify s c) is)

pub same_step : RecordedCallsTakeTheSameStep
same_step bounds s (call.Write d b) (reply.Write (write.Stored vote)) is = (is, refl)
same_step bounds s (call.Write d b) (reply.Write write.Clash) is = (is, refl)
same_step bounds s (call.Write d b) (reply.Write (write.Collected floor)) is = written bounds s d b (write.Collected floor) refl refl is
same_step bounds s (call.Write d b) (reply.Write write.TooFar) is = written bounds s d b write.TooFar refl refl is
same_step bounds s (call.Write d b) (reply.Write write.Held) is = written bounds s d b write.Held refl refl is
same_step bounds s (call.Write d b) (reply.Write write.Misfit) is = written bounds s d b write.Misfit refl refl is
same_step bounds s (call.Write d b) (reply.Write (write.Equivocates first)) is = written bounds s d b (write.Equivocates first) refl refl is
same_step bounds s (call.Write d b) (reply.Write write.Full) is = written bounds s d b write.Full refl refl is
same_step bounds s (call.Certify c) (reply.Certify certify.Certified) is = (is, refl)
same_step bounds s (call.Certify c) (reply.Certify (certify.Collected floor)) is = certified bounds s c (certify.Collected floor) (λ e. cc) is
same_step bounds s (call.Certify c) (reply.Certify certify.TooFar) is = certified bounds s c certify.TooFar (λ e. cc) is
same_step bounds s (call.Certify c) (reply.Certify certify.Already) is = certified bounds s c certify.Already (λ e. cc) is
same_step bounds s (call.Certify c) (reply.Certify certify.Misfit) is = certified bounds s c certify.Misfit (λ e. cc) is
same_step bounds s (call.Certify c) (reply.Certify (certify.Conflict other)) is = certified bounds s c (certify.Conflict other) (λ e. cc) is
same_step bounds s (call.Certify c) (reply.Certify certify.Full) is = certified bounds s c certify.Full (λ e. cc) is
same_step bounds s (call.Write d b) other is = absurd is
same_step bounds s (call.Certify c) other is = absurd is
same_step bounds s c r is = (is, refl)
