-- If all fields of a text pass their tests, then it is the text of a message within the limits.
use Rattle.nw_decode.proofs.Words.{◌≡◌, ℕ, Bool, true, false, cond, eqb, List, [], ◌∷◌, ◌++◌, length, get_or, Ok, Err, refl, sym, ap, ◌∙◌, arith, eqb-true, append-nil, Message, MessageFits, AreBytes, IsMessage, IsSpelled, bytes_of}
use Rattle.nw_codec.specs.declared.message.Message.TheVariants as messages
use Rattle.nw_decode.specs.declared.error.DecodeError.TheVariants.{Tag}
use Rattle.nw_codec.specs.Grammar.{message}
use Rattle.nw_decode.specs.Faults.{Stage, OfCertificate, OfVote, AtTag, AtVersion, AtDigest, AtEnd, Reaches}
use Rattle.nw_decode.proofs.Fronts.{going, going_is}
use Rattle.nw_decode.proofs.Steps.{step, to, own_front, else_choice}
use Rattle.nw_decode.proofs.WholeBlock.{read_block}
use Rattle.nw_decode.proofs.WholeVotes.{read_certificate, read_vote}

record MessageRead (text rest : List ℕ) : Type 0 where
  found : Message
  typed : IsMessage found
  fits : MessageFits found
  cut : text ≡ message found ++ rest

only : (field : List ℕ) (tag : ℕ) → length field ≡ 1 → eqb (get_or field 0 0) tag ≡ true → field ≡ tag ∷ []
only [] tag len test = absurd (omega (arith, len))
only (b ∷ []) tag len test = ap (λ (x : ℕ). x ∷ []) (eqb-true b tag test)
only (b ∷ c ∷ bs) tag len test = absurd (omega (arith, len))

block_read : (text more rest : List ℕ) → text ≡ (1 ∷ []) ++ more → AreBytes more → Reaches AtVersion more AtEnd rest → MessageRead text rest
block_read text more rest cut bytes front =
    let r = read_block more rest bytes front in
    record { found = messages.Block r.block r.signature; typed = (r.typed, r.signed); fits = r.fits; cut = cut ∙ r.cut }

certificate_read : (text more rest : List ℕ) → text ≡ (2 ∷ []) ++ more → AreBytes more → Reaches (AtDigest OfCertificate) more AtEnd rest → MessageRead text rest
certificate_read text more rest cut bytes front =
    let r = read_certificate more rest bytes front in
    record { found = messages.Certificate r.found; typed = r.typed; fits = r.fits; cut = cut ∙ r.cut }

vote_read : (text more rest : List ℕ) → text ≡ (3 ∷ []) ++ more → AreBytes more → Reaches (AtDigest OfVote) more AtEnd rest → MessageRead text rest
vote_read text more rest cut bytes front =
    let r = read_vote more rest bytes front in
    record { found = messages.Vote r.found; typed = r.typed; fits = tt; cut = cut ∙ r.cut }

-- by the tag
module _ (text field more rest : List ℕ) (next : Stage) (cut : text ≡ field ++ more) (len : length field ≡ 1) (bytes : AreBytes more) (onwards : Reaches next more AtEnd rest) where
  by_tag : (a b c : Bool) → eqb (get_or field 0 0) 1 ≡ a → eqb (get_or field 0 0) 2 ≡ b → eqb (get_or field 0 0) 3 ≡ c
      → cond a (Ok AtVersion) (cond b (Ok (AtDigest OfCertificate)) (cond c (Ok (AtDigest OfVote)) (Err Tag))) ≡ going next → MessageRead text rest
  by_tag true b c one two three e =
      block_read text more rest (own_front text field more (1 ∷ []) cut (sym (only field 1 len one))) bytes (to next AtVersion more rest (sym (going_is AtVersion next e)) onwards)
  by_tag false true c one two three e =
      certificate_read text more rest (own_front text field more (2 ∷ []) cut (sym (only field 2 len two))) bytes (to next (AtDigest OfCertificate) more rest (sym (going_is (AtDigest OfCertificate) next e)) onwards)
  by_tag false false c one two three e =
      let test = else_choice c Tag (AtDigest OfVote) next e in
      vote_read text more rest (own_front text field more (3 ∷ []) cut (sym (only field 3 len (three ∙ test.0)))) bytes (to next (AtDigest OfVote) more rest (sym test.1) onwards)

read_message : (text rest : List ℕ) → AreBytes text → Reaches AtTag text AtEnd rest → MessageRead text rest
read_message text rest bytes front =
    let p = step AtTag 1 text rest refl front in
    let p-bytes = bytes_of p.field p.more text p.cut bytes in
    by_tag text p.field p.more rest p.next p.cut p.len p-bytes.1 p.onwards _ _ _ refl refl refl p.passes

-- fields that lead to the end are the text of a message
pub front_spells : (text rest : List ℕ) → AreBytes text → Reaches AtTag text AtEnd rest → (m : Message) × IsMessage m × MessageFits m × (text ≡ message m ++ rest)
front_spells text rest bytes front = let r = read_message text rest bytes front in (r.found, r.typed, r.fits, r.cut)

pub whole_is_spelled : (text : List ℕ) → AreBytes text → Reaches AtTag text AtEnd [] → IsSpelled text
whole_is_spelled text bytes front =
    let r = read_message text [] bytes front in
    (r.found, record { typed = r.typed; fits = r.fits; bytes = r.cut ∙ append-nil (message r.found) })
