-- The fields at the front of a text: a text has one front, and a message's text begins with the message's fields.
use Rattle.nw_decode.proofs.Words.{◌≡◌, ℕ, ◌≤◌, List, [], ◌∷◌, ◌++◌, length, get_or, take, drop, Option, Some, None, refl, sym, ap, ◌∙◌, append_assoc, inl, inr, arith, w16, to_be_bytes, append-nil, length-append, take-append-drop, Message, Subject, round_bytes, subject_bytes, Spells, vote_subject, IsSubject, length-subject, first_is, same_start, same16, same48}
use Rattle.nw_codec.specs.declared.message.Message.TheVariants as messages
use Rattle.nw_decode.specs.declared.peek.Peek.{Peek}
use Rattle.nw_decode.specs.declared.peek.Peek.TheVariants as peeks
use Rattle.nw_codec.specs.Grammar.{message}
use Rattle.nw_decode.specs.Parts.{NumberAt}
use Rattle.nw_decode.specs.Peek.{peek_of, BeginsWith, HasPeek, Peeks}
use Rattle.nw_decode.proofs.OneVote.{same_subject}
use Rattle.nw_decode.proofs.WrittenBlock.{block_message_is}
use Rattle.nw_decode.proofs.WrittenVotes.{certificate_message_is, vote_message_is}

-- ---- a text that begins with fields is long enough, and has their tag

pub front_is : (text : List ℕ) (p : Peek) → BeginsWith text p → HasPeek text
front_is text (peeks.Block round author) begins =
    let e = begins.1.1 in
    inl (ap (λ (t : List ℕ). get_or t 0 0) e, ap (λ (t : List ℕ). get_or t 1 0) e, omega (arith, ap length e))
front_is text (peeks.Certificate s) begins =
    let e = begins.1.1 in
    let long : 41 ≤ length text = omega (arith, ap length e, length-append (subject_bytes s) begins.1.0, length-subject s begins.0) in
    inr (inl (ap (λ (t : List ℕ). get_or t 0 0) e, long))
front_is text (peeks.Vote s signer) begins =
    let e = begins.1.1 in
    let fields : List ℕ = subject_bytes s ++ to_be_bytes w16 signer in
    let long : 43 ≤ length text = omega (arith, ap length e, length-append fields begins.1.0, length-append (subject_bytes s) (to_be_bytes w16 signer), length-subject s begins.0.0) in
    inr (inr (ap (λ (t : List ℕ). get_or t 0 0) e, long))

-- ---- a text has one front

pub one_front : (text : List ℕ) (p q : Peek) → BeginsWith text p → BeginsWith text q → p ≡ q
one_front text (peeks.Block r a) (peeks.Block q b) one other =
    let e = sym one.1.1 ∙ other.1.1 in
    let tags = same_start (1 ∷ 1 ∷ []) (1 ∷ 1 ∷ []) (to_be_bytes w16 a ++ (round_bytes r ++ one.1.0)) (to_be_bytes w16 b ++ (round_bytes q ++ other.1.0)) refl e in
    let authors = same_start (to_be_bytes w16 a) (to_be_bytes w16 b) _ _ refl tags.1 in
    let rounds = same_start (round_bytes r) (round_bytes q) _ _ refl authors.1 in
    ap (λ (x : ℕ). peeks.Block x a) (same48 r q one.0.0 other.0.0 rounds.0) ∙ ap (λ (x : ℕ). peeks.Block q x) (same16 a b one.0.1 other.0.1 authors.0)
one_front text (peeks.Certificate s) (peeks.Certificate t) one other =
    let e = sym one.1.1 ∙ other.1.1 in
    let tag = same_start (2 ∷ []) (2 ∷ []) (subject_bytes s ++ one.1.0) (subject_bytes t ++ other.1.0) refl e in
    let same = same_subject s t one.1.0 other.1.0 one.0 other.0 tag.1 in
    ap peeks.Certificate same.0
one_front text (peeks.Vote s m) (peeks.Vote t n) one other =
    let e = sym one.1.1 ∙ other.1.1 in
    let tag = same_start (3 ∷ []) (3 ∷ []) ((subject_bytes s ++ to_be_bytes w16 m) ++ one.1.0) ((subject_bytes t ++ to_be_bytes w16 n) ++ other.1.0) refl e in
    let cut = sym (append_assoc (subject_bytes s) (to_be_bytes w16 m) one.1.0) ∙ tag.1 ∙ append_assoc (subject_bytes t) (to_be_bytes w16 n) other.1.0 in
    let same = same_subject s t _ _ one.0.0 other.0.0 cut in
    let signer = same_start (to_be_bytes w16 m) (to_be_bytes w16 n) one.1.0 other.1.0 refl same.1 in
    ap (λ (x : Subject). peeks.Vote x m) same.0 ∙ ap (λ (x : ℕ). peeks.Vote t x) (same16 m n one.0.1 other.0.1 signer.0)
one_front text (peeks.Block r a) (peeks.Certificate t) one other = absurd (omega (arith, first_is 1 2 _ _ (sym one.1.1 ∙ other.1.1)))
one_front text (peeks.Block r a) (peeks.Vote t n) one other = absurd (omega (arith, first_is 1 3 _ _ (sym one.1.1 ∙ other.1.1)))
one_front text (peeks.Certificate s) (peeks.Block q b) one other = absurd (omega (arith, first_is 2 1 _ _ (sym one.1.1 ∙ other.1.1)))
one_front text (peeks.Certificate s) (peeks.Vote t n) one other = absurd (omega (arith, first_is 2 3 _ _ (sym one.1.1 ∙ other.1.1)))
one_front text (peeks.Vote s m) (peeks.Block q b) one other = absurd (omega (arith, first_is 3 1 _ _ (sym one.1.1 ∙ other.1.1)))
one_front text (peeks.Vote s m) (peeks.Certificate t) one other = absurd (omega (arith, first_is 3 2 _ _ (sym one.1.1 ∙ other.1.1)))

-- ---- the text of a message begins with the message's fields

pub message_begins : (text : List ℕ) (m : Message) → Spells text m → BeginsWith text (peek_of m)
message_begins text (messages.Block b s) spells =
    let whole = spells.bytes ∙ sym (append-nil (message (messages.Block b s))) ∙ block_message_is b s [] in
    ((spells.typed.0.round, spells.typed.0.author), (_, whole))
message_begins text (messages.Certificate c) spells =
    let whole = spells.bytes ∙ sym (append-nil (message (messages.Certificate c))) ∙ certificate_message_is c [] in
    (spells.typed.subject, (_, whole))
message_begins text (messages.Vote v) spells =
    let subject : List ℕ = subject_bytes (vote_subject v) in
    let whole = spells.bytes ∙ sym (append-nil (message (messages.Vote v))) ∙ vote_message_is v [] in
    let cut = ap (λ (t : List ℕ). 3 ∷ t) (sym (append_assoc subject (to_be_bytes w16 v.signer) (v.signature.0 ++ []))) in
    ((spells.typed.subject, spells.typed.sealed.signer), (v.signature.0 ++ [], whole ∙ cut))

-- ---- what the answer says

pub says_known : (text : List ℕ) (answer : Option Peek) → Peeks text answer → (m : Message) → Spells text m → answer ≡ Some (peek_of m)
says_known text None none m spells = absurd (none (front_is text (peek_of m) (message_begins text m spells)))
says_known text (Some p) begins m spells = ap Some (one_front text p (peek_of m) begins (message_begins text m spells))

-- ---- what the reader finds

pub vote_begins : (text front rest after : List ℕ) (s : Subject) (signer : ℕ) → front ≡ take 40 text → rest ≡ drop 40 text → IsSubject s → front ≡ subject_bytes s → NumberAt rest signer after → BeginsWith (3 ∷ text) (peeks.Vote s signer)
vote_begins text front rest after s signer first back typed is at_signer =
    let whole : text ≡ subject_bytes s ++ (to_be_bytes w16 signer ++ after) = sym (take-append-drop 40 text) ∙ (λ i. (sym first ∙ is) i ++ (sym back ∙ at_signer.bytes) i) in
    ((typed, at_signer.low), (after, ap (λ (t : List ℕ). 3 ∷ t) (whole ∙ sym (append_assoc (subject_bytes s) (to_be_bytes w16 signer) after))))

pub certificate_begins : (text front rest : List ℕ) (s : Subject) → front ≡ take 40 text → rest ≡ drop 40 text → IsSubject s → front ≡ subject_bytes s → BeginsWith (2 ∷ text) (peeks.Certificate s)
certificate_begins text front rest s first back typed is =
    (typed, (rest, ap (λ (t : List ℕ). 2 ∷ t) (sym (take-append-drop 40 text) ∙ (λ i. (sym first ∙ is) i ++ sym back i))))
