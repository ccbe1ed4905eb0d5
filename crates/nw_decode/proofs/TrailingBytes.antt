-- Trailing is exactly the fault of texts in which bytes follow a message.
use Rattle.nw_decode.proofs.Words.{◌≡◌, ◌↔◌, ℕ, List, ◌++◌, refl, sym, ap, subst, ◌∙◌, AreBytes}
use Rattle.nw_decode.specs.declared.error.DecodeError.TheVariants.{Trailing}
use Rattle.nw_codec.specs.Grammar.{message}
use Rattle.nw_decode.specs.Faults.{AtTag, AtEnd, Reaches, IsFirstFault}
use Rattle.nw_codec.specs.Spelled.{HasTrailingBytes}
use Rattle.nw_decode.proofs.Decided.{after_the_end}
use Rattle.nw_decode.proofs.Fronts.{later, trailing}
use Rattle.nw_decode.proofs.WholeTexts.{front_spells}
use Rattle.nw_decode.proofs.Written.{written}

trailing_has_bytes : (text : List ℕ) → AreBytes text → IsFirstFault text Trailing → HasTrailingBytes text
trailing_has_bytes text bytes fault =
    let f = after_the_end AtTag text fault in
    let m = front_spells text f.0 bytes f.1 in
    (message m.0, f.0, (m.0, record { typed = m.1; fits = m.2; bytes = refl }), f.2, m.3)

bytes_are_trailing : (text : List ℕ) → HasTrailingBytes text → IsFirstFault text Trailing
bytes_are_trailing text g =
    let m = g.2.0 in
    let spells = g.2.1 in
    let cut : message m ++ g.1 ≡ text = ap (λ (t : List ℕ). t ++ g.1) (sym spells.bytes) ∙ sym g.4 in
    let front : Reaches AtTag text AtEnd g.1 = subst (λ (t : List ℕ). Reaches AtTag t AtEnd g.1) cut (written m g.1 spells.typed spells.fits) in
    later AtTag AtEnd text g.1 Trailing front (trailing g.1 g.3)

pub trailing_is : (text : List ℕ) → AreBytes text → (IsFirstFault text Trailing ↔ HasTrailingBytes text)
trailing_is text bytes = (trailing_has_bytes text bytes, bytes_are_trailing text)
