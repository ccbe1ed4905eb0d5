-- Each call has one reply.
use Rattle.nw_model.proofs.Words.{◌≡◌, ◌⊎◌, ℕ, List, length, Option, Some, None, refl, ap, sym, ◌∙◌, subst, inl, inr, IsTotalOrder, Ordering, get, Digest, Block, Certificate, digests_total, is_there}
use Rattle.std.specs.Prelude.{take}
use Rattle.nw_model.proofs.WantedOrder.{wanted_total}
use Rattle.nw_model.specs.declared.wanted.Wanted.{Wanted}
use Rattle.nw_model.specs.Missing.{IsWanted, Wants, ListsExactly, HasCount, AreFirstWanted, AreMissingOf, AreCounts, wanted_cmp}
use Rattle.nw_model.specs.declared.reply.Counts.{Counts}
use Rattle.nw_model.specs.State.{State}
use Rattle.nw_model.specs.Paths.{IsAncestor, IsComplete, IsCausalList}
use Rattle.nw_codec.specs.declared.subject.Subject.{Subject}
use Rattle.nw_model.specs.Step.{Bounds, IsReply, IsCausalReply, AreSameReply, StepIsAFunction, recorded, write_reply, certify_reply, collect_reply, asked_write_reply, asked_certify_reply}
use Rattle.nw_model.specs.declared.call.Call.TheVariants as call
use Rattle.nw_model.specs.declared.reply.CausalReply.{CausalReply}
use Rattle.nw_model.specs.declared.reply.CausalReply.TheVariants as causal
use Rattle.nw_model.specs.declared.reply.Reply.{Reply}
use Rattle.nw_model.specs.declared.reply.Reply.TheVariants as reply
use Rattle.nw_digest.proofs.Found.{not_there}
use Rattle.nw_model.proofs.Complete.{one_block}
use Rattle.nw_model.proofs.Listed.{same_lists, same_in_order}

-- equal replies are the same reply
equal_replies : (one other : Reply) → one ≡ other → AreSameReply one other
equal_replies one other same = record {
  short = ap recorded same;
  list = λ blocks others is was. same_blocks blocks others (sym is ∙ same ∙ was);
}
  where
    same_blocks : (blocks others : List Block) → reply.List blocks ≡ reply.List others → blocks ≡ others
    same_blocks blocks others e = cc

pub to_write : (bounds : Bounds) (s : State) (d : Digest) (b : Block) (r : Reply) → IsReply bounds s (call.Write d b) r → r ≡ reply.Write (write_reply bounds s d b)
to_write bounds s d b (reply.Write w) is = ap reply.Write is
to_write bounds s d b other is = absurd is

to_certify : (bounds : Bounds) (s : State) (c : Certificate) (r : Reply) → IsReply bounds s (call.Certify c) r → r ≡ reply.Certify (certify_reply bounds s c)
to_certify bounds s c (reply.Certify w) is = ap reply.Certify is
to_certify bounds s c other is = absurd is

pub to_collect : (bounds : Bounds) (s : State) (round : ℕ) (r : Reply) → IsReply bounds s (call.Collect round) r → r ≡ reply.Collect (collect_reply s round)
to_collect bounds s round (reply.Collect w) is = ap reply.Collect is
to_collect bounds s round other is = absurd is

to_certificate : (bounds : Bounds) (s : State) (d : Digest) (r : Reply) → IsReply bounds s (call.Certificate d) r → r ≡ reply.Certificate (get s.certificates d)
to_certificate bounds s d (reply.Certificate w) is = ap reply.Certificate is
to_certificate bounds s d other is = absurd is

to_read : (bounds : Bounds) (s : State) (d : Digest) (r : Reply) → IsReply bounds s (call.Read d) r → r ≡ reply.Read (get s.blocks d)
to_read bounds s d (reply.Read w) is = ap reply.Read is
to_read bounds s d other is = absurd is

to_ask_write : (bounds : Bounds) (s : State) (q : Subject) (r : Reply) → IsReply bounds s (call.AskWrite q) r → r ≡ reply.Write (asked_write_reply bounds s q)
to_ask_write bounds s q (reply.Write w) is = ap reply.Write is
to_ask_write bounds s q other is = absurd is

to_ask_certify : (bounds : Bounds) (s : State) (q : Subject) (r : Reply) → IsReply bounds s (call.AskCertify q) r → r ≡ reply.Certify (asked_certify_reply bounds s q)
to_ask_certify bounds s q (reply.Certify w) is = ap reply.Certify is
to_ask_certify bounds s q other is = absurd is

-- ---- causal reads

-- a complete digest gets its list
complete_listed : (s : State) (d : Digest) (r : CausalReply) → IsComplete s d → IsCausalReply s d (reply.Causal r) → ⊥
complete_listed s d causal.Unknown whole is = not_there (get s.blocks d) is (is_there (get s.blocks d) whole.stands.0 whole.stands.1.0)
complete_listed s d causal.Uncertified whole is = not_there (get s.certificates d) is.1 whole.stands.1.1
complete_listed s d causal.Incomplete whole is = is.2 whole

-- there is only one reason why there is no list
one_reason : (s : State) (d : Digest) (one other : CausalReply) → IsCausalReply s d (reply.Causal one) → IsCausalReply s d (reply.Causal other) → one ≡ other
one_reason s d causal.Unknown causal.Unknown is was = refl
one_reason s d causal.Unknown causal.Uncertified is was = absurd (not_there (get s.blocks d) is was.0)
one_reason s d causal.Unknown causal.Incomplete is was = absurd (not_there (get s.blocks d) is was.0)
one_reason s d causal.Uncertified causal.Unknown is was = absurd (not_there (get s.blocks d) was is.0)
one_reason s d causal.Uncertified causal.Uncertified is was = refl
one_reason s d causal.Uncertified causal.Incomplete is was = absurd (not_there (get s.certificates d) is.1 was.1)
one_reason s d causal.Incomplete causal.Unknown is was = absurd (not_there (get s.blocks d) was is.0)
one_reason s d causal.Incomplete causal.Uncertified is was = absurd (not_there (get s.certificates d) was.1 is.1)
one_reason s d causal.Incomplete causal.Incomplete is was = refl

-- the reply to a causal read is a reason, or the list of a complete digest
reason_or_list : (s : State) (d : Digest) (r : Reply) → IsCausalReply s d r → ((why : CausalReply) × (r ≡ reply.Causal why)) ⊎ (IsComplete s d × (recorded r ≡ reply.Ready))
reason_or_list s d (reply.Causal why) is = inl (why, refl)
reason_or_list s d reply.Ready is = inr (is, refl)
reason_or_list s d (reply.List blocks) is = inr (is.0, refl)
reason_or_list s d other is = absurd is

-- two replies to a causal read are the same reply
to_causal : (s : State) (d : Digest) (one other : Reply) → IsCausalReply s d one → IsCausalReply s d other → AreSameReply one other
to_causal s d one other is was = record {
  short = elim (reason_or_list s d one is) [
    | inl here ↦ elim (reason_or_list s d other was) [
      | inl there ↦
          let same = one_reason s d here.0 there.0 (subst (λ r. IsCausalReply s d r) here.1 is) (subst (λ r. IsCausalReply s d r) there.1 was) in
          ap recorded (here.1 ∙ ap reply.Causal same ∙ sym there.1)
      | inr there ↦ absurd (complete_listed s d here.0 there.0 (subst (λ r. IsCausalReply s d r) here.1 is))
    ]
    | inr here ↦ elim (reason_or_list s d other was) [
      | inl there ↦ absurd (complete_listed s d there.0 here.0 (subst (λ r. IsCausalReply s d r) there.1 was))
      | inr there ↦ here.1 ∙ sym there.1
    ]
  ];
  list = λ blocks others is_blocks is_others.
      let one_list : IsComplete s d × IsCausalList s d blocks = subst (λ r. IsCausalReply s d r) is_blocks is in
      let other_list : IsComplete s d × IsCausalList s d others = subst (λ r. IsCausalReply s d r) is_others was in
      same_lists s.blocks (IsAncestor s d) blocks others one_list.1 other_list.1;
}

-- ---- wanted parents and counts

-- there is only one list of exactly the values with P
pub one_list : {A : Type 0} {cmp : A → A → Ordering} (o : IsTotalOrder cmp) (P : A → Type 0) (xs ys : List A) → ListsExactly cmp P xs → ListsExactly cmp P ys → xs ≡ ys
one_list o P xs ys one other = same_in_order o xs ys one.ascending other.ascending (λ x. (λ here. (other.exactly x).1 ((one.exactly x).0 here), λ there. (one.exactly x).1 ((other.exactly x).0 there)))

-- and only one count
pub one_count : {A : Type 0} {cmp : A → A → Ordering} (o : IsTotalOrder cmp) (P : A → Type 0) (n k : ℕ) → HasCount cmp P n → HasCount cmp P k → n ≡ k
one_count o P n k (xs, exact, is) (ys, other, was) = sym is ∙ ap length (one_list o P xs ys exact other) ∙ was

-- the first wanted parents are determined
to_missing : (bounds : Bounds) (s : State) (most : ℕ) (r : Reply) → IsReply bounds s (call.Missing most) r → (first : List Wanted) × AreFirstWanted s most first × (r ≡ reply.Missing first)
to_missing bounds s most (reply.Missing first) is = (first, is, refl)
to_missing bounds s most other is = absurd is

same_missing : (bounds : Bounds) (s : State) (most : ℕ) (one other : Reply) → IsReply bounds s (call.Missing most) one → IsReply bounds s (call.Missing most) other → one ≡ other
same_missing bounds s most one other is was =
    let here = to_missing bounds s most one is in
    let there = to_missing bounds s most other was in
    let all : here.1.0 ≡ there.1.0 = one_list wanted_total (IsWanted s) here.1.0 there.1.0 here.1.1 there.1.1 in
    let first : here.0 ≡ there.0 = here.1.2 ∙ ap (take most) all ∙ sym there.1.2 in
    here.2 ∙ ap reply.Missing first ∙ sym there.2

-- and so are the missing parents of a block
pub one_missing_of : (s : State) (d : Digest) (one other : Option (List Wanted)) → AreMissingOf s d one → AreMissingOf s d other → one ≡ other
one_missing_of s d None None is was = refl
one_missing_of s d None (Some there) is (c, at, exact) = absurd (not_there (get s.blocks d) is (is_there (get s.blocks d) c at))
one_missing_of s d (Some here) None (b, at, exact) was = absurd (not_there (get s.blocks d) was (is_there (get s.blocks d) b at))
one_missing_of s d (Some here) (Some there) (b, at, one) (c, at_too, other) =
    ap Some (one_list wanted_total (Wants s b) here there one (subst (λ (x : Block). ListsExactly wanted_cmp (Wants s x) there) (one_block c b at_too at) other))

to_missing_of : (bounds : Bounds) (s : State) (d : Digest) (r : Reply) → IsReply bounds s (call.MissingOf d) r → (missing : Option (List Wanted)) × AreMissingOf s d missing × (r ≡ reply.MissingOf missing)
to_missing_of bounds s d (reply.MissingOf missing) is = (missing, is, refl)
to_missing_of bounds s d other is = absurd is

same_missing_of : (bounds : Bounds) (s : State) (d : Digest) (one other : Reply) → IsReply bounds s (call.MissingOf d) one → IsReply bounds s (call.MissingOf d) other → one ≡ other
same_missing_of bounds s d one other is was =
    let here = to_missing_of bounds s d one is in
    let there = to_missing_of bounds s d other was in
    here.2 ∙ ap reply.MissingOf (one_missing_of s d here.0 there.0 here.1 there.1) ∙ sym there.2

to_status : (bounds : Bounds) (s : State) (r : Reply) → IsReply bounds s call.Status r → (counts : Counts) × AreCounts s counts × (r ≡ reply.Status counts)
to_status bounds s (reply.Status counts) is = (counts, is, refl)
to_status bounds s other is = absurd is

-- there is only one status
one_status : (s : State) (a b : Counts) → AreCounts s a → AreCounts s b → a ≡ b
one_status s a b one other =
    let floor : a.floor ≡ b.floor = one.floor ∙ sym other.floor in
    let blocks : a.blocks ≡ b.blocks = one.blocks ∙ sym other.blocks in
    let certificates : a.certificates ≡ b.certificates = one.certificates ∙ sym other.certificates in
    let complete : a.complete ≡ b.complete = one_count digests_total (IsComplete s) a.complete b.complete one.complete other.complete in
    let wanted : a.wanted ≡ b.wanted = one_count wanted_total (IsWanted s) a.wanted b.wanted one.wanted other.wanted in
    λ i. record { floor = floor i; blocks = blocks i; certificates = certificates i; complete = complete i; wanted = wanted i }

same_status : (bounds : Bounds) (s : State) (one other : Reply) → IsReply bounds s call.Status one → IsReply bounds s call.Status other → one ≡ other
same_status bounds s one other is was =
    let here = to_status bounds s one is in
    let there = to_status bounds s other was in
    here.2 ∙ ap reply.Status (one_status s here.0 there.0 here.1 there.1) ∙ sym there.2

pub one_reply : StepIsAFunction
one_reply bounds s (call.Write d b) one other is was = equal_replies one other (to_write bounds s d b one is ∙ sym (to_write bounds s d b other was))
one_reply bounds s (call.Certify c) one other is was = equal_replies one other (to_certify bounds s c one is ∙ sym (to_certify bounds s c other was))
one_reply bounds s (call.Certificate d) one other is was = equal_replies one other (to_certificate bounds s d one is ∙ sym (to_certificate bounds s d other was))
one_reply bounds s (call.Read d) one other is was = equal_replies one other (to_read bounds s d one is ∙ sym (to_read bounds s d other was))
one_reply bounds s (call.Causal d) one other is was = to_causal s d one other is was
one_reply bounds s (call.Collect round) one other is was = equal_replies one other (to_collect bounds s round one is ∙ sym (to_collect bounds s round other was))
one_reply bounds s (call.Missing most) one other is was = equal_replies one other (same_missing bounds s most one other is was)
one_reply bounds s (call.MissingOf d) one other is was = equal_replies one other (same_missing_of bounds s d one other is was)
one_reply bounds s call.Status one other is was = equal_replies one other (same_status bounds s one other is was)
one_reply bounds s (call.AskWrite q) one other is was = equal_replies one other (to_ask_write bounds s q one is ∙ sym (to_ask_write bounds s q other was))
one_reply bounds s (call.AskCertify q) one other is was = equal_replies one other (to_ask_certify bounds s q one is ∙ sym (to_ask_certify bounds s q other was))
