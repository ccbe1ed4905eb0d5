-- The answers of all workers are the answers to all texts.
use Rattle.std.proofs.Common.{◌≡◌, ℕ, ◌<◌, Bool, Result, List, length, sym, ◌∙◌, ap, subst, Vec}
use Rattle.std.specs.List.{AllZip}
use Rattle.std.specs.declared.alloc.Global.{Global}
use Rattle.std.specs.declared.collections.VecDeque.{VecDeque}
use Rattle.nw_committee.specs.declared.member.Member.{Member}
use Rattle.nw_sig.specs.Signed.{Meaning}
use Rattle.nw_check.specs.declared.message.Checked.{Checked}
use Rattle.nw_intake.specs.Answers.{AnswersText, IsDealt, turns_of}
use Rattle.nw_intake.specs.Faults.{IsWorkerCount}
use Rattle.nw_intake.specs.Shares.{AreShareResults, IsIntakeFault, IsJointFault, IsShareResult}
use Rattle.nw_intake.specs.declared.point.Point.{Point}
use Rattle.nw_intake.specs.declared.fault.ShareFault.{ShareFault}
use Rattle.nw_intake.specs.declared.fault.IntakeFault.{IntakeFault}
use Rattle.nw_intake.specs.declared.fault.IntakeFault.TheVariants as fault
use Rattle.nw_intake.proofs.Dealt.{Whole, dealt_back, zip_length, items_at, items_at_is}
use Rattle.nw_intake.proofs.Joint.{all_ok, each_share}

module _ {S A B : Type 0} (accepts : Meaning) (members : List Member) (texts : List (Vec ℕ A)) (says : Point → Bool → Type 0) (workers : ℕ) where
  -- after the shares are put in order, they answer all texts
  pub whole_answers : (shares : List (VecDeque (Checked S) B)) (all : List (Checked S)) → 0 < workers → length shares ≡ workers → AreShareResults accepts members texts says workers (all_ok shares)
      → ((whole : List (Checked S)) → IsDealt whole (length texts) shares → all ≡ whole) → AllZip (AnswersText accepts members) texts all
  whole_answers shares all some count results order =
      let R : Vec ℕ A → Checked S → Type 0 = AnswersText accepts members in
      let each : (k : ℕ) → k < length shares → AllZip R (turns_of k workers 0 texts) (items_at shares k) =
      each_share (λ k r. IsShareResult accepts members texts says k workers r) (λ k ys. AllZip R (turns_of k workers 0 texts) ys) (λ k s h. h) shares results.1 in
      let w : Whole R workers 0 texts (items_at shares) = dealt_back R workers some texts 0 (items_at shares) (λ k low. each k (subst (λ n. k < n) (sym count) low)) in
      let dealt : IsDealt w.whole (length texts) shares = (
        zip_length R texts w.whole w.fits,
        λ k none low. items_at_is shares k none low ∙ (w.dealt k (subst (λ n. k < n) count low) ∙ ap (λ n. turns_of k n 0 w.whole) (sym count)),
      ) in
      subst (AllZip R texts) (sym (order w.whole dealt)) w.fits

module _ {S A : Type 0} (accepts : Meaning) (members : List Member) (texts : List (Vec ℕ A)) (says : Point → Bool → Type 0) (workers : ℕ) where
  -- a fault of the workers' results is a fault of `check_all`
  pub joint_fault : (results : List (Result (VecDeque (Checked S) Global) ShareFault)) (e : IntakeFault) → IsWorkerCount workers → AreShareResults accepts members texts says workers results → IsJointFault workers results e
      → IsIntakeFault S accepts members texts says workers e
  joint_fault results fault.BadWorkers crew all h = absurd h
  joint_fault results fault.NoMemory crew all h = (crew, (results, all, h))
  joint_fault results fault.Spawn crew all h = (crew, (results, all, h))
  joint_fault results fault.GateShut crew all h = (crew, (results, all, h))
