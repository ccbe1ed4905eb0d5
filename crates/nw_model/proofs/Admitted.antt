-- Each held block and certificate was admitted.
use Rattle.nw_model.proofs.Words.{◌≡◌, ℕ, List, [], ◌∷◌, Some, ap, sym, ◌∙◌, subst, inl, inr, All, get, get-empty, All-head, All-tail, Digest, Block, Certificate, Member, Meaning, digest_cmp}
use Rattle.nw_model.specs.State.{State, opening}
use Rattle.nw_model.specs.Checks.{digest_of, IsWellFormed, IsValid}
use Rattle.nw_model.specs.Step.{Bounds, after, after_write, after_certify, after_collect, write_reply, certify_reply, collect_reply}
use Rattle.nw_model.specs.History.{Terms, IsAdmitted, IsBase, IsLegal, replay}
use Rattle.nw_model.specs.declared.call.Call.{Call}
use Rattle.nw_model.specs.declared.call.Call.TheVariants as call
use Rattle.nw_model.specs.declared.event.Event.{Event}
use Rattle.nw_model.specs.declared.reply.WriteReply.{WriteReply}
use Rattle.nw_model.specs.declared.reply.WriteReply.TheVariants as write
use Rattle.nw_model.specs.declared.reply.CertifyReply.{CertifyReply}
use Rattle.nw_model.specs.declared.reply.CertifyReply.TheVariants as certify
use Rattle.nw_model.specs.declared.reply.CollectReply.{CollectReply}
use Rattle.nw_model.specs.declared.reply.CollectReply.TheVariants as collect
use Rattle.nw_model.proofs.Kept.{after_insert, some_none}
use Rattle.nw_model.proofs.Raised.{was_there}

module _ (accepts : Meaning) (members : List Member) where
  -- the blocks and certificates that a state holds were admitted
  pub record AreAdmitted (s : State) : Type 0 where
    -- each held block is held under its own digest and is well formed
    pub blocks : (d : Digest) (b : Block) → get s.blocks d ≡ Some b → (d ≡ digest_of b) × IsWellFormed accepts members b
    -- each certificate is valid
    pub certificates : (d : Digest) (c : Certificate) → get s.certificates d ≡ Some c → IsValid accepts members c

  admitted_after_write : (s : State) (d : Digest) (b : Block) (r : WriteReply) → (d ≡ digest_of b) × IsWellFormed accepts members b → AreAdmitted s → AreAdmitted (after_write s d b r)
  admitted_after_write s d b (write.Stored vote) this are = record {
    blocks = λ e x at. elim (after_insert s.blocks d b e x at) [
      | inl new ↦ (new.0 ∙ this.0 ∙ ap digest_of new.1, subst (IsWellFormed accepts members) new.1 this.1)
      | inr old ↦ are.blocks e x old
    ];
    certificates = are.certificates;
  }
  admitted_after_write s d b other this are = are

  admitted_after_certify : (s : State) (c : Certificate) (r : CertifyReply) → IsValid accepts members c → AreAdmitted s → AreAdmitted (after_certify s c r)
  admitted_after_certify s c certify.Certified this are = record {
    blocks = are.blocks;
    certificates = λ e x at. elim (after_insert s.certificates c.digest c e x at) [
      | inl new ↦ subst (IsValid accepts members) new.1 this
      | inr old ↦ are.certificates e x old
    ];
  }
  admitted_after_certify s c other this are = are

  admitted_after_collect : (s : State) (round : ℕ) (r : CollectReply) → AreAdmitted s → AreAdmitted (after_collect s round r)
  admitted_after_collect s round (collect.Raised dropped) are = record {
    blocks = λ d b at. are.blocks d b (was_there (λ (x : Block). x.round) round s.blocks d b at).0;
    certificates = λ d c at. are.certificates d c (was_there (λ (x : Certificate). x.round) round s.certificates d c at).0;
  }
  admitted_after_collect s round (collect.NotHigher floor) are = are

  -- after an admitted call, what is held was admitted if it was before
  pub admitted_after : (bounds : Bounds) (s : State) (asked : Call) → IsAdmitted accepts members asked → AreAdmitted s → AreAdmitted (after bounds s asked)
  admitted_after bounds s (call.Write d b) this are = admitted_after_write s d b (write_reply bounds s d b) this are
  admitted_after bounds s (call.Certify c) this are = admitted_after_certify s c (certify_reply bounds s c) this are
  admitted_after bounds s (call.Collect round) this are = admitted_after_collect s round (collect_reply s round) are
  admitted_after bounds s other this are = are

  -- after events with admitted calls, what is held was admitted if it was before
  pub admitted_replay : (bounds : Bounds) (s : State) (es : List Event) → All (λ e. IsAdmitted accepts members e.call) es → AreAdmitted s → AreAdmitted (replay bounds s es)
  admitted_replay bounds s [] each are = are
  admitted_replay bounds s (e ∷ es) each are =
      admitted_replay bounds (after bounds s e.call) es (All-tail (λ (x : Event). IsAdmitted accepts members x.call) e es each)
      (admitted_after bounds s e.call (All-head (λ (x : Event). IsAdmitted accepts members x.call) e es each) are)

  admitted_opening : AreAdmitted opening
  admitted_opening = record {
    blocks = λ d b at. absurd (some_none b (sym at ∙ get-empty digest_cmp d));
    certificates = λ d c at. absurd (some_none c (sym at ∙ get-empty digest_cmp d));
  }

-- what a base holds was admitted
pub admitted_base : (accepts : Meaning) (terms : Terms) (base : State) → IsBase accepts terms base → AreAdmitted accepts terms.committee base
admitted_base accepts terms base based =
    subst (AreAdmitted accepts terms.committee) (sym based.left)
    (admitted_replay accepts terms.committee terms.bounds opening based.earlier based.admitted (admitted_opening accepts terms.committee))

-- what the state after a legal history holds was admitted
pub admitted_left : (accepts : Meaning) (terms : Terms) (base : State) (es : List Event) → IsLegal accepts terms base es → AreAdmitted accepts terms.committee (replay terms.bounds base es)
admitted_left accepts terms base es legal = admitted_replay accepts terms.committee terms.bounds base es legal.admitted (admitted_base accepts terms base legal.based)
