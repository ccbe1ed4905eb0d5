-- Calls keep the entries of a state, except those that a collection drops.
use Rattle.nw_model.proofs.Words.{◌≡◌, ℕ, ◌≤◌, Bool, List, [], ◌∷◌, Some, None, is_some, refl, arith, get, Digest, is_absent, Block, Certificate}
use Rattle.nw_model.specs.State.{State}
use Rattle.nw_model.specs.Step.{Bounds, after, after_write, after_certify, after_collect, write_reply, certify_reply, collect_reply}
use Rattle.nw_model.specs.History.{replay}
use Rattle.nw_model.specs.declared.call.Call.{Call}
use Rattle.nw_model.specs.declared.call.Call.TheVariants as call
use Rattle.nw_model.specs.declared.event.Event.{Event}
use Rattle.nw_model.specs.declared.reply.WriteReply.{WriteReply}
use Rattle.nw_model.specs.declared.reply.WriteReply.TheVariants as write
use Rattle.nw_model.specs.declared.reply.CertifyReply.{CertifyReply}
use Rattle.nw_model.specs.declared.reply.CertifyReply.TheVariants as certify
use Rattle.nw_model.specs.declared.reply.CollectReply.{CollectReply}
use Rattle.nw_model.specs.declared.reply.CollectReply.TheVariants as collect
use Rattle.nw_model.proofs.Kept.{still_insert}
use Rattle.nw_model.proofs.Raised.{is_kept}
use Rattle.nw_model.proofs.Replayed.{past, is_stored, is_certified}
use Rattle.nw_model.proofs.Firsts.{higher}

-- from s to t, the garbage round does not fall, and entries that are not below the new one are kept
pub record Carries (s t : State) : Type 0 where
  pub floor : s.floor ≤ t.floor
  pub blocks : (d : Digest) (b : Block) → get s.blocks d ≡ Some b → t.floor ≤ b.round → get t.blocks d ≡ Some b
  pub certificates : (d : Digest) (c : Certificate) → get s.certificates d ≡ Some c → t.floor ≤ c.round → get t.certificates d ≡ Some c

carries_itself : (s : State) → Carries s s
carries_itself s = record {
  floor = omega arith;
  blocks = λ d b at high. at;
  certificates = λ d c at high. at;
}

carries_on : (s t u : State) → Carries s t → Carries t u → Carries s u
carries_on s t u one two =
    let first : s.floor ≤ t.floor = one.floor in
    let second : t.floor ≤ u.floor = two.floor in
    record {
      floor = omega arith;
      blocks = λ d b at high. two.blocks d b (one.blocks d b at (omega arith)) high;
      certificates = λ d c at high. two.certificates d c (one.certificates d c at (omega arith)) high;
    }

-- a block is stored only if none is held under its digest
pub stored_anew : (bounds : Bounds) (s : State) (d : Digest) (b : Block) (vote : Bool) → write_reply bounds s d b ≡ write.Stored vote → get s.blocks d ≡ None
stored_anew bounds s d b vote is =
    let low = past is_stored _ (write.Collected s.floor) _ (write.Stored vote) refl refl is in
    let far = past is_stored _ write.TooFar _ (write.Stored vote) refl refl low.1 in
    let held = past is_stored _ write.Held _ (write.Stored vote) refl refl far.1 in
    let clash = past is_stored (is_some (get s.blocks d)) write.Clash _ (write.Stored vote) refl refl held.1 in
    is_absent (get s.blocks d) clash.0

-- a certificate is kept only if its digest is not certified
pub certified_anew : (bounds : Bounds) (s : State) (c : Certificate) → certify_reply bounds s c ≡ certify.Certified → get s.certificates c.digest ≡ None
certified_anew bounds s c is =
    let low = past is_certified _ (certify.Collected s.floor) _ certify.Certified refl refl is in
    let far = past is_certified _ certify.TooFar _ certify.Certified refl refl low.1 in
    let already = past is_certified _ certify.Already _ certify.Certified refl refl far.1 in
    let misfit = past is_certified (is_some (get s.certificates c.digest)) certify.Misfit _ certify.Certified refl refl already.1 in
    is_absent (get s.certificates c.digest) misfit.0

carries_after_write : (bounds : Bounds) (s : State) (d : Digest) (b : Block) (r : WriteReply) → write_reply bounds s d b ≡ r → Carries s (after_write s d b r)
carries_after_write bounds s d b (write.Stored vote) is = record {
  floor = omega arith;
  blocks = λ e x at high. still_insert s.blocks d b e x (stored_anew bounds s d b vote is) at;
  certificates = λ e c at high. at;
}
carries_after_write bounds s d b other is = carries_itself s

carries_after_certify : (bounds : Bounds) (s : State) (c : Certificate) (r : CertifyReply) → certify_reply bounds s c ≡ r → Carries s (after_certify s c r)
carries_after_certify bounds s c certify.Certified is = record {
  floor = omega arith;
  blocks = λ e x at high. at;
  certificates = λ e x at high. still_insert s.certificates c.digest c e x (certified_anew bounds s c is) at;
}
carries_after_certify bounds s c other is = carries_itself s

carries_after_collect : (s : State) (round : ℕ) (r : CollectReply) → collect_reply s round ≡ r → Carries s (after_collect s round r)
carries_after_collect s round (collect.Raised dropped) is = record {
  floor = let above = higher s round dropped is in omega arith;
  blocks = λ d b at high. is_kept (λ (x : Block). x.round) round s.blocks d b at high;
  certificates = λ d c at high. is_kept (λ (x : Certificate). x.round) round s.certificates d c at high;
}
carries_after_collect s round (collect.NotHigher floor) is = carries_itself s

-- each call carries entries over to the next state
pub carries_after : (bounds : Bounds) (s : State) (asked : Call) → Carries s (after bounds s asked)
carries_after bounds s (call.Write d b) = carries_after_write bounds s d b (write_reply bounds s d b) refl
carries_after bounds s (call.Certify c) = carries_after_certify bounds s c (certify_reply bounds s c) refl
carries_after bounds s (call.Collect round) = carries_after_collect s round (collect_reply s round) refl
carries_after bounds s other = carries_itself s

-- the calls of these events carry entries over to the state after them
pub carries_replay : (bounds : Bounds) (s : State) (es : List Event) → Carries s (replay bounds s es)
carries_replay bounds s [] = carries_itself s
carries_replay bounds s (e ∷ es) = carries_on s (after bounds s e.call) (replay bounds (after bounds s e.call) es) (carries_after bounds s e.call) (carries_replay bounds (after bounds s e.call) es)
