-- Two reads of a digest agree.
use Rattle.nw_model.proofs.Words.{◌≡◌, ◌≢◌, ◌⊎◌, ℕ, zero, suc, ◌<◌, ◌≤◌, Bool, true, false, List, [], ◌∷◌, Option, Some, refl, ap, sym, ◌∙◌, subst, arith, inl, inr, nat_le, slice_get, All, get, All-head, All-tail, same_Some, Digest, Block, Certificate, same_block, Member, Meaning}
use Rattle.nw_model.specs.State.{State}
use Rattle.nw_model.specs.Checks.{digest_of, IsWellFormed, IsValid}
use Rattle.nw_model.specs.Sound.{IsSound}
use Rattle.nw_model.specs.Step.{Bounds, IsReply, after, after_write, after_certify, after_collect, write_reply, certify_reply, collect_reply}
use Rattle.nw_model.specs.History.{Terms, IsLegal, AreReplies, IsAdmitted}
use Rattle.nw_model.specs.Laws.{IsReadOf, RaisesAbove, IsCollectedBetween, AreCollision, ReadsAgree}
use Rattle.nw_model.specs.declared.call.Call.{Call}
use Rattle.nw_model.specs.declared.call.Call.TheVariants as call
use Rattle.nw_model.specs.declared.event.Event.{Event}
use Rattle.nw_model.specs.declared.reply.Reply.{Reply}
use Rattle.nw_model.specs.declared.reply.Reply.TheVariants as reply
use Rattle.nw_model.specs.declared.reply.WriteReply.{WriteReply}
use Rattle.nw_model.specs.declared.reply.WriteReply.TheVariants as write
use Rattle.nw_model.specs.declared.reply.CertifyReply.{CertifyReply}
use Rattle.nw_model.specs.declared.reply.CertifyReply.TheVariants as certify
use Rattle.nw_model.specs.declared.reply.CollectReply.{CollectReply}
use Rattle.nw_model.specs.declared.reply.CollectReply.TheVariants as collect
use Rattle.nw_model.proofs.Admitted.{AreAdmitted, admitted_after, admitted_base}
use Rattle.nw_model.proofs.Carried.{carries_after}
use Rattle.nw_model.proofs.Complete.{one_block}
use Rattle.nw_model.proofs.OneReply.{to_collect}
use Rattle.nw_model.proofs.Replayed.{sound_after, sound_base}
use Rattle.nw_model.proofs.Sames.{same_block_decides}

-- ---- events that raise the garbage round

write_raises_nothing : (s : State) (d : Digest) (b : Block) (r : WriteReply) (round : ℕ) → s.floor ≤ round → round < (after_write s d b r).floor → ⊥
write_raises_nothing s d b (write.Stored vote) round low high = omega arith
write_raises_nothing s d b other round low high = omega arith

certify_raises_nothing : (s : State) (c : Certificate) (r : CertifyReply) (round : ℕ) → s.floor ≤ round → round < (after_certify s c r).floor → ⊥
certify_raises_nothing s c certify.Certified round low high = omega arith
certify_raises_nothing s c other round low high = omega arith

collect_raises : (s : State) (to : ℕ) (r : CollectReply) (round : ℕ) → s.floor ≤ round → round < (after_collect s to r).floor → (dropped : ℕ) × (r ≡ collect.Raised dropped) × (round < to)
collect_raises s to (collect.Raised dropped) round low high = (dropped, refl, high)
collect_raises s to (collect.NotHigher floor) round low high = absurd (omega arith)

-- the call is a collection above the round, with this reply
abbrev IsRaise : ℕ → Call → Reply → Type 0
IsRaise round asked given = (floor dropped : ℕ) × (asked ≡ call.Collect floor) × (given ≡ reply.Collect (collect.Raised dropped)) × (round < floor)

-- only a collection raises the garbage round
raises : (bounds : Bounds) (s : State) (asked : Call) (given : Reply) (round : ℕ) → IsReply bounds s asked given → s.floor ≤ round → round < (after bounds s asked).floor → IsRaise round asked given
raises bounds s (call.Write d b) given round is low high = absurd (write_raises_nothing s d b (write_reply bounds s d b) round low high)
raises bounds s (call.Certify c) given round is low high = absurd (certify_raises_nothing s c (certify_reply bounds s c) round low high)
raises bounds s (call.Collect to) given round is low high =
    let raised = collect_raises s to (collect_reply s to) round low high in
    (to, raised.0, refl, to_collect bounds s to given is ∙ ap reply.Collect raised.1, raised.2)
raises bounds s other given round is low high = absurd (omega arith)

-- ---- the blocks that reads give

-- the block that a read gives is held
read_held : (bounds : Bounds) (s : State) (e : Event) (d : Digest) (b : Block) → IsReply bounds s e.call e.reply → IsReadOf d b e → get s.blocks d ≡ Some b
read_held bounds s e d b is read =
    let at : IsReply bounds s (call.Read d) (reply.Read (Some b)) = subst (λ c. IsReply bounds s c (reply.Read (Some b))) read.0 (subst (λ r. IsReply bounds s e.call r) read.1 is) in
    sym (the_block at)
  where
    the_block : {x y : Option Block} → x ≡ y → x ≡ y
    the_block e = e

-- a read does not change the state
read_leaves : (bounds : Bounds) (s : State) (e : Event) (d : Digest) (b : Block) → IsReadOf d b e → after bounds s e.call ≡ s
read_leaves bounds s e d b read = ap (after bounds s) read.0

-- a later read gives the block that is held now, or an event before it raised the garbage round above the block's round
reads_on : (bounds : Bounds) (s : State) (es : List Event) (d : Digest) (b c : Block) → AreReplies bounds s es → get s.blocks d ≡ Some b → s.floor ≤ b.round
    → (j : ℕ) (f : Event) → slice_get es j ≡ Some f → IsReadOf d c f
    → (b ≡ c) ⊎ ((k : ℕ) × (e : Event) × (k < j) × (slice_get es k ≡ Some e) × RaisesAbove b.round e)
reads_on bounds s [] d b c are held low j f at read = absurd cc
reads_on bounds s (x ∷ es) d b c are held low zero f at read =
    inl (one_block b c held (read_held bounds s x d c are.0 (subst (IsReadOf d c) (sym (same_Some x f at)) read)))
reads_on bounds s (x ∷ es) d b c are held low (suc j) f at read = by (nat_le (after bounds s x.call).floor b.round) refl
    (λ below. reads_on bounds (after bounds s x.call) es d b c are.2 ((carries_after bounds s x.call).blocks d b held below) below j f at read)
  where
    by : (test : Bool) → nat_le (after bounds s x.call).floor b.round ≡ test
        → ((after bounds s x.call).floor ≤ b.round → (b ≡ c) ⊎ ((k : ℕ) × (e : Event) × (k < j) × (slice_get es k ≡ Some e) × RaisesAbove b.round e))
        → (b ≡ c) ⊎ ((k : ℕ) × (e : Event) × (k < suc j) × (slice_get (x ∷ es) k ≡ Some e) × RaisesAbove b.round e)
    by true is rest = elim (rest (grind arith)) [
      | inl same ↦ inl same
      | inr later ↦ inr (suc later.0, later.1, omega (arith, later.2), later.3, later.4)
    ]
    by false is rest = inr (zero, x, omega arith, refl, raises bounds s x.call x.reply b.round are.0 low (grind arith))

-- two reads give the same block, or an event between them raised the garbage round above the first block's round
reads_between : (bounds : Bounds) (s : State) (es : List Event) (d : Digest) (b c : Block) → IsSound s → AreReplies bounds s es → (i j : ℕ) (e f : Event) → i < j → slice_get es i ≡ Some e → slice_get es j ≡ Some f
    → IsReadOf d b e → IsReadOf d c f → (b ≡ c) ⊎ IsCollectedBetween es i j b.round
reads_between bounds s [] d b c sound are i j e f order at_i at_j read_e read_f = absurd cc
reads_between bounds s (x ∷ es) d b c sound are i zero e f order at_i at_j read_e read_f = absurd (omega arith)
reads_between bounds s (x ∷ es) d b c sound are zero (suc j) e f order at_i at_j read_e read_f =
    let read : IsReadOf d b x = subst (IsReadOf d b) (sym (same_Some x e at_i)) read_e in
    let held : get s.blocks d ≡ Some b = read_held bounds s x d b are.0 read in
    let leaves : after bounds s x.call ≡ s = read_leaves bounds s x d b read in
    let on : AreReplies bounds s es = subst (λ (q : State). AreReplies bounds q es) leaves are.2 in
    elim (reads_on bounds s es d b c on held (sound.blocks_kept d b held) j f at_j read_f) [
      | inl same ↦ inl same
      | inr later ↦ inr (suc later.0, later.1, omega arith, omega (arith, later.2), later.3, later.4)
    ]
reads_between bounds s (x ∷ es) d b c sound are (suc i) (suc j) e f order at_i at_j read_e read_f =
    elim (reads_between bounds (after bounds s x.call) es d b c (sound_after bounds s x.call sound) are.2 i j e f (omega arith) at_i at_j read_e read_f) [
      | inl same ↦ inl same
      | inr later ↦ inr (suc later.0, later.1, omega (arith, later.2), omega (arith, later.3), later.4, later.5)
    ]

-- what a reply gives was admitted: a block that a read gives is well formed, and the read asks for its digest; a certificate is valid
abbrev pub GivesAdmitted : Meaning → List Member → Call → Reply → Type 0
GivesAdmitted accepts members asked (reply.Read (Some b)) = (asked ≡ call.Read (digest_of b)) × IsWellFormed accepts members b
GivesAdmitted accepts members asked (reply.Certificate (Some c)) = IsValid accepts members c
GivesAdmitted accepts members asked other = Unit {0}

gives_admitted : (accepts : Meaning) (members : List Member) (bounds : Bounds) (s : State) (asked : Call) (given : Reply) → AreAdmitted accepts members s → IsReply bounds s asked given → GivesAdmitted accepts members asked given
gives_admitted accepts members bounds s (call.Read d) (reply.Read (Some b)) admitted is = let own = admitted.blocks d b (sym is) in (ap call.Read own.0, own.1)
gives_admitted accepts members bounds s (call.Certificate d) (reply.Certificate (Some c)) admitted is = admitted.certificates d c (sym is)
gives_admitted accepts members bounds s other (reply.Read (Some b)) admitted is = absurd is
gives_admitted accepts members bounds s other (reply.Certificate (Some c)) admitted is = absurd is
gives_admitted accepts members bounds s asked other admitted is = tt

all_give_admitted : (accepts : Meaning) (members : List Member) (bounds : Bounds) (s : State) (es : List Event)
    → AreAdmitted accepts members s → AreReplies bounds s es → All (λ e. IsAdmitted accepts members e.call) es → (i : ℕ) (e : Event) → slice_get es i ≡ Some e → GivesAdmitted accepts members e.call e.reply
all_give_admitted accepts members bounds s [] admitted are each i e at = absurd cc
all_give_admitted accepts members bounds s (x ∷ es) admitted are each zero e at =
    subst (λ (y : Event). GivesAdmitted accepts members y.call y.reply) (same_Some x e at) (gives_admitted accepts members bounds s x.call x.reply admitted are.0)
all_give_admitted accepts members bounds s (x ∷ es) admitted are each (suc i) e at =
    all_give_admitted accepts members bounds (after bounds s x.call) es
    (admitted_after accepts members bounds s x.call (All-head (λ (y : Event). IsAdmitted accepts members y.call) x es each) admitted)
    are.2 (All-tail (λ (y : Event). IsAdmitted accepts members y.call) x es each) i e at

-- in a legal history, what each reply gives was admitted
pub gives_what_was_admitted : (accepts : Meaning) (terms : Terms) (base : State) (es : List Event) → IsLegal accepts terms base es
    → (i : ℕ) (e : Event) → slice_get es i ≡ Some e → GivesAdmitted accepts terms.committee e.call e.reply
gives_what_was_admitted accepts terms base es legal = all_give_admitted accepts terms.committee terms.bounds base es (admitted_base accepts terms base legal.based) legal.replies legal.admitted

-- the digest that a read asks for
abbrev digest_asked : Call → Digest → Digest
digest_asked (call.Read d) e = d
digest_asked other e = e

-- a call reads one digest
pub reads_one : (asked : Call) (d e : Digest) → asked ≡ call.Read d → asked ≡ call.Read e → d ≡ e
reads_one asked d e is_d is_e = ap (λ (q : Call). digest_asked q d) (sym is_d ∙ is_e)

pub reads_agree : ReadsAgree
reads_agree accepts terms base es legal d b c i j e f order at_i at_j read_e read_f = by (same_block b c) refl
  where
    by : (test : Bool) → same_block b c ≡ test → (b ≡ c) ⊎ (IsCollectedBetween es i j b.round × AreCollision d b c)
    by true is = inl ((same_block_decides b c).0 is)
    by false is =
        let differ : b ≢ c = λ same. let wrong : same_block b c ≡ true = (same_block_decides b c).1 same in absurd cc in
        let first : digest_of b ≡ d = reads_one e.call (digest_of b) d (subst (GivesAdmitted accepts terms.committee e.call) read_e.1 (gives_what_was_admitted accepts terms base es legal i e at_i)).0 read_e.0 in
        let second : digest_of c ≡ d = reads_one f.call (digest_of c) d (subst (GivesAdmitted accepts terms.committee f.call) read_f.1 (gives_what_was_admitted accepts terms base es legal j f at_j)).0 read_f.0 in
        elim (reads_between terms.bounds base es d b c (sound_base accepts terms base legal.based) legal.replies i j e f order at_i at_j read_e read_f) [
          | inl same ↦ absurd (differ same)
          | inr between ↦ inr (between, record { differ = differ; first = first; second = second })
        ]
