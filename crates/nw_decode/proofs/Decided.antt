-- Each text is whole or has a first fault, and no first fault is NoMemory.
use Rattle.nw_decode.proofs.Words.{◌≡◌, ◌≢◌, ℕ, zero, suc, ◌+◌, ◌*◌, ◌<◌, ◌≤◌, ◌⊎◌, Bool, true, false, cond, eqb, ltb, List, [], ◌∷◌, length, take, drop, Option, Some, None, Result, Ok, Err, refl, sym, subst, arith, inl, inr, MatchBool, ltb-false, ltb-true, length-drop}
use Rattle.std.specs.Prelude.{slice_index}
use Rattle.nw_decode.specs.declared.error.DecodeError.{DecodeError}
use Rattle.nw_decode.specs.declared.error.DecodeError.TheVariants.{Short, Trailing, Tag, Version, TooManyParents, ParentOrder, TooManyTransactions, TransactionTooLong, BodyTooLong, TooManyVotes, VoteOrder, NoMemory}
use Rattle.nw_decode.specs.Faults.{Stage, AtTag, AtVersion, AtAuthor, AtRound, AtParentCount, AtParentAuthor, AtParentDigest, AtTransactionCount, AtTransactionLength, AtTransaction, AtSignature, OfCertificate, OfVote, AtDigest, AtSubjectRound, AtSubjectAuthor, AtVoteCount, AtSigner, AtSealSignature, AtEnd, width, after_field, at_parents, at_transactions, at_seals, number16, number32, comes_after, Reaches, StopsAt, FaultFrom}
use Rattle.nw_decode.proofs.Fronts.{going, going_is, failing_is, here, onward, passed, short, failed, trailing, later}

-- ---- no test has the fault Short, Trailing or NoMemory

record IsNoTest (x : DecodeError) : Type 0 where
  tag : Tag ≢ x
  version : Version ≢ x
  parents : TooManyParents ≢ x
  order : ParentOrder ≢ x
  transactions : TooManyTransactions ≢ x
  long : TransactionTooLong ≢ x
  body : BodyTooLong ≢ x
  votes : TooManyVotes ≢ x
  vote_order : VoteOrder ≢ x

memory_is_no_test : IsNoTest NoMemory
memory_is_no_test = record { tag = λ e. cc; version = λ e. cc; parents = λ e. cc; order = λ e. cc; transactions = λ e. cc; long = λ e. cc; body = λ e. cc; votes = λ e. cc; vote_order = λ e. cc }

trailing_is_no_test : IsNoTest Trailing
trailing_is_no_test = record { tag = λ e. cc; version = λ e. cc; parents = λ e. cc; order = λ e. cc; transactions = λ e. cc; long = λ e. cc; body = λ e. cc; votes = λ e. cc; vote_order = λ e. cc }

abbrev Says : Result Stage DecodeError → DecodeError → Type 0
Says r e = r ≡ Err e

never_choice : (b : Bool) (d x : DecodeError) (s : Stage) → d ≢ x → Says (cond b (Err d) (Ok s)) x → ⊥
never_choice true d x s other e = other (failing_is d x e)
never_choice false d x s other e = absurd cc

never_else : (b : Bool) (d x : DecodeError) (s : Stage) → d ≢ x → Says (cond b (Ok s) (Err d)) x → ⊥
never_else true d x s other e = absurd cc
never_else false d x s other e = other (failing_is d x e)

never_length : (b c : Bool) (x : DecodeError) (s : Stage) → IsNoTest x → Says (cond b (Err TransactionTooLong) (cond c (Err BodyTooLong) (Ok s))) x → ⊥
never_length true c x s t e = t.long (failing_is TransactionTooLong x e)
never_length false c x s t e = never_choice c BodyTooLong x s t.body e

never_tag : (a b c : Bool) (x : DecodeError) (r s t : Stage) → Tag ≢ x → Says (cond a (Ok r) (cond b (Ok s) (cond c (Ok t) (Err Tag)))) x → ⊥
never_tag true b c x r s t other e = absurd cc
never_tag false true c x r s t other e = absurd cc
never_tag false false c x r s t other e = never_else c Tag x t other e

never_after : (x : DecodeError) → IsNoTest x → (stage : Stage) (field : List ℕ) → Says (after_field stage field) x → ⊥
never_after x t AtTag field e = never_tag (eqb (slice_index field 0) 1) (eqb (slice_index field 0) 2) (eqb (slice_index field 0) 3) x AtVersion (AtDigest OfCertificate) (AtDigest OfVote) t.tag e
never_after x t AtVersion field e = never_else (eqb (slice_index field 0) 1) Version x AtAuthor t.version e
never_after x t AtAuthor field e = absurd cc
never_after x t AtRound field e = absurd cc
never_after x t AtParentCount field e = never_choice (ltb 100 (number16 field)) TooManyParents x (at_parents (number16 field) None (11 + 34 * number16 field)) t.parents e
never_after x t (AtParentAuthor more before size) field e = never_else (comes_after before (number16 field)) ParentOrder x (AtParentDigest more (number16 field) size) t.order e
never_after x t (AtParentDigest more author size) field e = absurd cc
never_after x t (AtTransactionCount size) field e = never_choice (ltb 1024 (number16 field)) TooManyTransactions x (at_transactions (number16 field) (size + 2)) t.transactions e
never_after x t (AtTransactionLength more size) field e = never_length (ltb 65536 (number32 field)) (ltb 1048576 (size + 4 + number32 field)) x (AtTransaction (number32 field) more (size + 4 + number32 field)) t e
never_after x t (AtTransaction len more size) field e = absurd cc
never_after x t AtSignature field e = absurd cc
never_after x t (AtDigest kind) field e = absurd cc
never_after x t (AtSubjectRound kind) field e = absurd cc
never_after x t (AtSubjectAuthor kind) field e = absurd cc
never_after x t AtVoteCount field e = never_choice (ltb 100 (number16 field)) TooManyVotes x (at_seals (number16 field) None) t.votes e
never_after x t (AtSigner more before) field e = never_else (comes_after before (number16 field)) VoteOrder x (AtSealSignature more (number16 field)) t.vote_order e
never_after x t (AtSealSignature more signer) field e = absurd cc
never_after x t AtEnd field e = absurd cc

never_by : (b : Bool) (x : DecodeError) → IsNoTest x → x ≢ Short → (stage : Stage) (field : List ℕ) → MatchBool b (x ≡ Short) (after_field stage field ≡ Err x) → ⊥
never_by true x t other stage field h = other h
never_by false x t other stage field h = never_after x t stage field h

never_stops : (o : Option ℕ) (stage : Stage) (rest : List ℕ) → width stage ≡ o → StopsAt stage rest NoMemory → ⊥
never_stops None stage rest wide p =
    let stop : (rest ≢ []) × (NoMemory ≡ Trailing) = rw wide at p in
    absurd (cc (stop.1))
never_stops (Some w) stage rest wide p =
    let stop : MatchBool (ltb (length rest) w) (NoMemory ≡ Short) (after_field stage (take w rest) ≡ Err NoMemory) = rw wide at p in
    never_by (ltb (length rest) w) NoMemory memory_is_no_test (λ e. cc) stage (take w rest) stop

pub never_memory : (a : Stage) (s : List ℕ) → FaultFrom a s NoMemory → ⊥
never_memory a s f = never_stops (width f.0) f.0 f.1 refl f.3

trailing_stops : (o : Option ℕ) (stage : Stage) (rest : List ℕ) → width stage ≡ o → StopsAt stage rest Trailing → (o ≡ None) × (rest ≢ [])
trailing_stops None stage rest wide p =
    let stop : (rest ≢ []) × (Trailing ≡ Trailing) = rw wide at p in
    (refl, stop.0)
trailing_stops (Some w) stage rest wide p =
    let stop : MatchBool (ltb (length rest) w) (Trailing ≡ Short) (after_field stage (take w rest) ≡ Err Trailing) = rw wide at p in
    absurd (never_by (ltb (length rest) w) Trailing trailing_is_no_test (λ e. cc) stage (take w rest) stop)

-- ---- each text is whole or has a fault

-- 1 at a transaction, whose field may have no bytes. With twice the bytes left to read, it is a measure that each field lowers
weight : Stage → ℕ
weight (AtTransaction len more size) = 1
weight AtTag = 0
weight AtVersion = 0
weight AtAuthor = 0
weight AtRound = 0
weight AtParentCount = 0
weight (AtParentAuthor more before size) = 0
weight (AtParentDigest more author size) = 0
weight (AtTransactionCount size) = 0
weight (AtTransactionLength more size) = 0
weight AtSignature = 0
weight (AtDigest kind) = 0
weight (AtSubjectRound kind) = 0
weight (AtSubjectAuthor kind) = 0
weight AtVoteCount = 0
weight (AtSigner more before) = 0
weight (AtSealSignature more signer) = 0
weight AtEnd = 0

weight_low : (s : Stage) → weight s ≤ 1
unfolding weight
weight_low (AtTransaction len more size) = omega arith
weight_low AtTag = omega arith
weight_low AtVersion = omega arith
weight_low AtAuthor = omega arith
weight_low AtRound = omega arith
weight_low AtParentCount = omega arith
weight_low (AtParentAuthor more before size) = omega arith
weight_low (AtParentDigest more author size) = omega arith
weight_low (AtTransactionCount size) = omega arith
weight_low (AtTransactionLength more size) = omega arith
weight_low AtSignature = omega arith
weight_low (AtDigest kind) = omega arith
weight_low (AtSubjectRound kind) = omega arith
weight_low (AtSubjectAuthor kind) = omega arith
weight_low AtVoteCount = omega arith
weight_low (AtSigner more before) = omega arith
weight_low (AtSealSignature more signer) = omega arith
weight_low AtEnd = omega arith

light : (n size : ℕ) → weight (at_transactions n size) ≡ 0
unfolding weight
light zero size = refl
light (suc n) size = refl

abbrev wide : ℕ → Option ℕ
wide w = Some w

-- only a transaction may have no bytes, and the field after it has some
falls : (s t : Stage) (w : ℕ) (field : List ℕ) → width s ≡ wide w → after_field s field ≡ going t → suc (weight t) ≤ weight s + 2 * w
unfolding weight
falls AtTag t w field e h = let k : 1 ≡ w = cc in omega (arith, weight_low t, k)
falls AtVersion t w field e h = let k : 1 ≡ w = cc in omega (arith, weight_low t, k)
falls AtAuthor t w field e h = let k : 2 ≡ w = cc in omega (arith, weight_low t, k)
falls AtRound t w field e h = let k : 6 ≡ w = cc in omega (arith, weight_low t, k)
falls AtParentCount t w field e h = let k : 2 ≡ w = cc in omega (arith, weight_low t, k)
falls (AtParentAuthor more before size) t w field e h = let k : 2 ≡ w = cc in omega (arith, weight_low t, k)
falls (AtParentDigest more author size) t w field e h = let k : 32 ≡ w = cc in omega (arith, weight_low t, k)
falls (AtTransactionCount size) t w field e h = let k : 2 ≡ w = cc in omega (arith, weight_low t, k)
falls (AtTransactionLength more size) t w field e h = let k : 4 ≡ w = cc in omega (arith, weight_low t, k)
falls (AtTransaction len more size) t w field e h =
    let none : weight t ≡ 0 = subst (λ (x : Stage). weight x ≡ 0) (going_is _ _ h) (light more size) in
    omega (arith, none)
falls AtSignature t w field e h = let k : 64 ≡ w = cc in omega (arith, weight_low t, k)
falls (AtDigest kind) t w field e h = let k : 32 ≡ w = cc in omega (arith, weight_low t, k)
falls (AtSubjectRound kind) t w field e h = let k : 6 ≡ w = cc in omega (arith, weight_low t, k)
falls (AtSubjectAuthor kind) t w field e h = let k : 2 ≡ w = cc in omega (arith, weight_low t, k)
falls AtVoteCount t w field e h = let k : 2 ≡ w = cc in omega (arith, weight_low t, k)
falls (AtSigner more before) t w field e h = let k : 2 ≡ w = cc in omega (arith, weight_low t, k)
falls (AtSealSignature more signer) t w field e h = let k : 64 ≡ w = cc in omega (arith, weight_low t, k)
falls AtEnd t w field e h = absurd cc

at_end : (s : Stage) → width s ≡ None → s ≡ AtEnd
at_end AtTag e = absurd cc
at_end AtVersion e = absurd cc
at_end AtAuthor e = absurd cc
at_end AtRound e = absurd cc
at_end AtParentCount e = absurd cc
at_end (AtParentAuthor more before size) e = absurd cc
at_end (AtParentDigest more author size) e = absurd cc
at_end (AtTransactionCount size) e = absurd cc
at_end (AtTransactionLength more size) e = absurd cc
at_end (AtTransaction len more size) e = absurd cc
at_end AtSignature e = absurd cc
at_end (AtDigest kind) e = absurd cc
at_end (AtSubjectRound kind) e = absurd cc
at_end (AtSubjectAuthor kind) e = absurd cc
at_end AtVoteCount e = absurd cc
at_end (AtSigner more before) e = absurd cc
at_end (AtSealSignature more signer) e = absurd cc
at_end AtEnd e = refl

abbrev pub Decided : Stage → List ℕ → Type 0
Decided s text = Reaches s text AtEnd [] ⊎ ((e : DecodeError) × FaultFrom s text e)

decided_after : (s t : Stage) (text rest : List ℕ) → Reaches s text t rest → Decided t rest → Decided s text
decided_after s t text rest p d =
    elim d [
      | inl whole ↦ inl (onward s t AtEnd text rest [] p whole)
      | inr fault ↦ inr (fault.0, later s t text rest fault.0 p fault.1)
    ]

decided_end : (text : List ℕ) → Decided AtEnd text
decided_end [] = inl (here AtEnd [])
decided_end (b ∷ bs) = inr (Trailing, trailing (b ∷ bs) (λ e. cc))

-- the induction hypothesis: shorter texts are decided
abbrev Below : ℕ → Type 0
Below n = (s : Stage) (text : List ℕ) → 2 * length text + weight s < n → Decided s text

module _ (n : ℕ) (rec : Below n) (s : Stage) (text : List ℕ) (low : 2 * length text + weight s < suc n) where
  by_test : (w : ℕ) (r : Result Stage DecodeError) → width s ≡ Some w → w ≤ length text → after_field s (take w text) ≡ r → Decided s text
  by_test w (Ok t) e long h =
      let fewer = falls s t w (take w text) e h in
      decided_after s t text (drop w text) (passed s t w text e long h) (rec t (drop w text) (omega (arith, fewer, length-drop w text)))
  by_test w (Err d) e long h = inr (d, failed s w text d e long h)

  by_length : (w : ℕ) (b : Bool) → width s ≡ Some w → ltb (length text) w ≡ b → Decided s text
  by_length w true e h = inr (Short, short s w text e (ltb-true _ _ h))
  by_length w false e h = by_test w (after_field s (take w text)) e (ltb-false _ _ h) refl

  by_width : (o : Option ℕ) → width s ≡ o → Decided s text
  by_width None e = subst (λ (x : Stage). Decided x text) (sym (at_end s e)) (decided_end text)
  by_width (Some w) e = by_length w (ltb (length text) w) e refl

decide : (n : ℕ) → Below n
decide zero s text low = absurd (omega arith)
decide (suc n) s text low = by_width n (decide n) s text low (width s) refl

pub decided : (s : Stage) (text : List ℕ) → Decided s text
decided s text = decide (suc (2 * length text + weight s)) s text (omega arith)

-- the fault Trailing comes after fields that lead to the end
pub after_the_end : (a : Stage) (s : List ℕ) → FaultFrom a s Trailing → (rest : List ℕ) × Reaches a s AtEnd rest × (rest ≢ [])
after_the_end a s f =
    let stop = trailing_stops (width f.0) f.0 f.1 refl f.3 in
    (f.1, subst (λ (t : Stage). Reaches a s t f.1) (at_end f.0 stop.0) f.2, stop.1)
