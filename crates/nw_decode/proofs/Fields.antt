-- Fields as the code reads them: what passes, what fails, and with which fault.
use Rattle.nw_decode.proofs.Words.{◌≡◌, ◌≢◌, ℕ, suc, ◌+◌, ◌-◌, ◌<◌, ◌≤◌, Bool, true, false, cond, eqb, ltb, List, [], ◌∷◌, ◌++◌, length, get_or, take, drop, Option, Some, Result, Ok, Err, refl, sym, ap, ◌∙◌, subst, append_assoc, arith, w16, to_be_bytes, IfOk, lt-ltb, le-ltb, take_at, take-append-drop, length-append, length-take, round_bytes, AreBytes, again16, back16, below16, bytes_of}
use Rattle.std.proofs.Common.{add-one, mul-suc}
use Rattle.std.specs.Int.{from_be_bytes}
use Rattle.std.specs.Result.{MatchResult, IsErrAnd}
use Rattle.std.proofs.lemmas.Bool.{eq-eqb, ne_eqb}
use Rattle.std.proofs.lemmas.List.Elements.{All-take}
use Rattle.nw_decode.specs.declared.error.DecodeError.{DecodeError}
use Rattle.nw_decode.specs.declared.error.DecodeError.TheVariants.{Short, Tag, TransactionTooLong, BodyTooLong}
use Rattle.nw_decode.specs.Faults.{Stage, AtTransaction, width, after_tag, after_field, number16, comes_after, Reaches, FaultFrom}
use Rattle.nw_decode.specs.Parts.{NumberAt, RoundAt, HeadAt, ItemsAt, LastSignature, ReadsCount, ReadsMember}
use Rattle.nw_decode.proofs.Ascending.{after_from_test}
use Rattle.nw_decode.proofs.Passing.{count_passes, order_passes}
use Rattle.nw_decode.proofs.Fronts.{one_field, passed, failed, short}

-- an error returned by `?`
pub exit : {X : Type 0} (r : Result X DecodeError) (P : X → Type 0) (Q : DecodeError → Type 0) (d : DecodeError) → IsErrAnd r (λ e. e ≡ d) → Q d → MatchResult r P Q
exit (Ok x) P Q d p q = absurd p
exit (Err e) P Q d p q = subst Q (sym p) q

-- joins a fact on values with a fact on values and errors
pub both : {X : Type 0} (r : Result X DecodeError) (P P' : X → Type 0) (Q : DecodeError → Type 0) → IfOk r P → MatchResult r P' Q → MatchResult r (λ x. P x × P' x) Q
both (Ok x) P P' Q p q = (p, q)
both (Err e) P P' Q p q = q

pub passed_as : (a b : Stage) (w : ℕ) (text field rest : List ℕ) → width a ≡ Some w → w ≤ length text → field ≡ take w text → rest ≡ drop w text → after_field a field ≡ Ok b → Reaches a text b rest
passed_as a b w text field rest wide long front back passes =
    let test : after_field a (take w text) ≡ Ok b = subst (λ (f : List ℕ). after_field a f ≡ Ok b) front passes in
    subst (λ (r : List ℕ). Reaches a text b r) (sym back) (passed a b w text wide long test)

pub failed_as : (a : Stage) (w : ℕ) (text field : List ℕ) (e : DecodeError) → width a ≡ Some w → w ≤ length text → field ≡ take w text → after_field a field ≡ Err e → FaultFrom a text e
failed_as a w text field e wide long front fails =
    failed a w text e wide long (subst (λ (f : List ℕ). after_field a f ≡ Err e) front fails)

-- tests

pub one_passes : (n : ℕ) (s : Stage) (d : DecodeError) → n ≡ 1 → cond (eqb n 1) (Ok s) (Err d) ≡ Ok s
one_passes n s d e = let test = eq-eqb n 1 e in rw test refl

pub one_fails : (n : ℕ) (s : Stage) (d : DecodeError) → (n ≡ 1 → ⊥) → cond (eqb n 1) (Ok s) (Err d) ≡ Err d
one_fails n s d e = let test = ne_eqb n 1 e in rw test refl

pub high_fails : (n high : ℕ) (s : Result Stage DecodeError) (d : DecodeError) → high < n → cond (ltb high n) (Err d) s ≡ Err d
high_fails n high s d e = let test = lt-ltb high n e in rw test refl

pub short_as : (a : Stage) (w : ℕ) (text : List ℕ) (d : DecodeError) → width a ≡ Some w → length text < w → d ≡ Short → FaultFrom a text d
short_as a w text d wide few e = rw e (short a w text wide few)

pub tag_fails : (n : ℕ) → (n ≡ 1 → ⊥) → (n ≡ 2 → ⊥) → (n ≡ 3 → ⊥) → after_tag n ≡ Err Tag
tag_fails n one two three =
    let first = ne_eqb n 1 one in
    let second = ne_eqb n 2 two in
    let third = ne_eqb n 3 three in
    rw (first, second, third) refl

pub length_passes : (n more size : ℕ) → n ≤ 65536 → size + 4 + n ≤ 1048576
    → cond (ltb 65536 n) (Err TransactionTooLong) (cond (ltb 1048576 (size + 4 + n)) (Err BodyTooLong) (Ok (AtTransaction n more (size + 4 + n)))) ≡ Ok (AtTransaction n more (size + 4 + n))
length_passes n more size low small =
    let first = le-ltb 65536 n low in
    let second = le-ltb 1048576 (size + 4 + n) small in
    rw (first, second) refl

pub length_fails : (n more size : ℕ) → n ≤ 65536 → 1048576 < size + 4 + n
    → cond (ltb 65536 n) (Err TransactionTooLong) (cond (ltb 1048576 (size + 4 + n)) (Err BodyTooLong) (Ok (AtTransaction n more (size + 4 + n)))) ≡ Err BodyTooLong
length_fails n more size low large =
    let first = le-ltb 65536 n low in
    let second = lt-ltb 1048576 (size + 4 + n) large in
    rw (first, second) refl

-- a tag and what follows it
pub tagged : (text field rest : List ℕ) (tag : ℕ) → 1 ≤ length text → field ≡ take 1 text → rest ≡ drop 1 text → get_or field 0 0 ≡ tag → text ≡ tag ∷ rest
tagged [] field rest tag long front back is = absurd (omega (arith, long))
tagged (b ∷ bs) field rest tag long front back is =
    let first : b ≡ tag = ap (λ (f : List ℕ). get_or f 0 0) (sym front) ∙ is in
    (λ i. first i ∷ sym back i)

pub head_at : (text after_version after_author rest : List ℕ) (author round version : ℕ) → text ≡ version ∷ after_version → version ≡ 1 → NumberAt after_version author after_author → RoundAt after_author round rest → HeadAt text author round rest
head_at text after_version after_author rest author round version first one at_author at_round = record {
  low_author = at_author.low;
  low_round = at_round.low;
  bytes = first ∙ (λ i. one i ∷ (at_author.bytes ∙ ap (λ (t : List ℕ). to_be_bytes w16 author ++ t) at_round.bytes) i);
}

-- ---- numbers

pub number_at : (text field rest : List ℕ) (n : ℕ) → AreBytes text → 2 ≤ length text → field ≡ take 2 text → rest ≡ drop 2 text → n ≡ from_be_bytes w16 field → NumberAt text n rest
number_at text field rest n bytes long front back is =
    let len : length (take 2 text) ≡ 2 = omega (arith, length-take 2 text) in
    let each : AreBytes (take 2 text) = All-take (λ b. b < 256) 2 text bytes in
    let number : n ≡ from_be_bytes w16 (take 2 text) = is ∙ ap (from_be_bytes w16) front in
    let field_is : to_be_bytes w16 n ≡ take 2 text = ap (to_be_bytes w16) number ∙ back16 (take 2 text) len each in
    record {
      low = rw number (below16 (take 2 text) each);
      bytes = sym (take-append-drop 2 text) ∙ (λ i. sym field_is i ++ sym back i);
    }

pub number_len : (text rest : List ℕ) (n : ℕ) → NumberAt text n rest → length text ≡ 2 + length rest
number_len text rest n at = omega (arith, ap length at.bytes, length-append (to_be_bytes w16 n) rest)

pub round_leaves : (text rest : List ℕ) (n : ℕ) → RoundAt text n rest → length text ≡ 6 + length rest
round_leaves text rest n at = omega (arith, ap length at.bytes, length-append (round_bytes n) rest)

-- an author or signer, and the `many` bytes that follow it
pub record ItemAt (many author : ℕ) (text bytes rest : List ℕ) : Type 0 where
  pub len : length bytes ≡ many
  pub each : AreBytes bytes
  pub whole : text ≡ (to_be_bytes w16 author ++ bytes) ++ rest

pub item_at : (many author : ℕ) (text after bytes rest : List ℕ) → AreBytes text → length bytes ≡ many → NumberAt text author after → bytes ≡ take many after → rest ≡ drop many after → ItemAt many author text bytes rest
item_at many author text after bytes rest each len at front back =
    let others : AreBytes after = (bytes_of (to_be_bytes w16 author) after text at.bytes each).1 in
    let cut : bytes ++ rest ≡ after = rw (front, back) (take-append-drop many after) in
    record {
      len = len;
      each = rw front (All-take (λ b. b < 256) many after others);
      whole = at.bytes ∙ ap (λ (t : List ℕ). to_be_bytes w16 author ++ t) (sym cut) ∙ sym (append_assoc (to_be_bytes w16 author) bytes rest);
    }

-- one item more
pub one_more_item : (bytes count : ℕ) (text items here item after : List ℕ) → ItemsAt bytes count text items here → length item ≡ bytes → here ≡ item ++ after → ItemsAt bytes (count + 1) text (items ++ item) after
one_more_item bytes count text items here item after lie len cut = record {
  len = rw (add-one, mul-suc) (omega (arith, length-append items item, lie.len, len));
  bytes = lie.bytes ∙ ap (λ (t : List ℕ). items ++ t) cut ∙ sym (append_assoc items item after);
}

-- the items are the text before the rest
pub items_found : (bytes counter count : ℕ) (text items found rest : List ℕ) → ItemsAt bytes counter text items rest → counter ≡ count → text ≡ found ++ rest → ItemsAt bytes count text found rest
items_found bytes counter count text items found rest lie many cut = record {
  len = rw (← many) (omega (arith, lie.len, ap length lie.bytes, ap length cut, length-append items rest, length-append found rest));
  bytes = cut;
}

pub signature_at : (text field rest : List ℕ) → AreBytes text → 64 ≤ length text → field ≡ take 64 text → rest ≡ drop 64 text → rest ≡ [] → LastSignature text (record { 0 = field })
signature_at text field rest bytes long front back none = record {
  signed = record {
    len = omega (arith, ap length front, length-take 64 text);
    bytes = subst AreBytes (sym front) (All-take (λ b. b < 256) 64 text bytes);
  };
  bytes = sym (take-append-drop 64 text) ∙ (λ i. sym front i ++ (sym back ∙ none) i);
}

pub number_passes : (stage next : Stage) (n : ℕ) (text rest : List ℕ) → width stage ≡ Some 2 → NumberAt text n rest → after_field stage (to_be_bytes w16 n) ≡ Ok next → Reaches stage text next rest
number_passes stage next n text rest wide at passes = subst (λ (t : List ℕ). Reaches stage t next rest) (sym at.bytes) (one_field stage next (to_be_bytes w16 n) rest wide passes)

number_fails : (stage : Stage) (n : ℕ) (text rest : List ℕ) (e : DecodeError) → width stage ≡ Some 2 → NumberAt text n rest → after_field stage (to_be_bytes w16 n) ≡ Err e → FaultFrom stage text e
number_fails stage n text rest e wide at fails =
    let field : take 2 text ≡ to_be_bytes w16 n = ap (take 2) at.bytes ∙ take_at (to_be_bytes w16 n) rest 2 refl in
    failed stage 2 text e wide (omega (arith, ap length at.bytes, length-append (to_be_bytes w16 n) rest)) (subst (λ (f : List ℕ). after_field stage f ≡ Err e) (sym field) fails)

pub count_leads : (stage : Stage) (max : ℕ) (over : DecodeError) (next : ℕ → Stage) (n : ℕ) (text rest : List ℕ) → ReadsCount stage max over next → NumberAt text n rest → n ≤ max → Reaches stage text (next n) rest
count_leads stage max over next n text rest counts at low =
    number_passes stage (next n) n text rest counts.wide at (counts.test (to_be_bytes w16 n) ∙ count_passes (number16 (to_be_bytes w16 n)) n max over next (again16 n at.low) low)

pub count_fails : (stage : Stage) (max : ℕ) (over : DecodeError) (next : ℕ → Stage) (n : ℕ) (text rest : List ℕ) → ReadsCount stage max over next → NumberAt text n rest → max < n → FaultFrom stage text over
count_fails stage max over next n text rest counts at high =
    let same : number16 (to_be_bytes w16 n) ≡ n = again16 n at.low in
    number_fails stage n text rest over counts.wide at (counts.test (to_be_bytes w16 n) ∙ high_fails (number16 (to_be_bytes w16 n)) max (Ok (next (number16 (to_be_bytes w16 n)))) over (omega (arith, same, high)))

pub member_leads : (stage : Stage) (before : Option ℕ) (disorder : DecodeError) (next : ℕ → Stage) (n : ℕ) (text rest : List ℕ) → ReadsMember stage before disorder next → NumberAt text n rest → comes_after before n ≡ true → Reaches stage text (next n) rest
member_leads stage before disorder next n text rest member at test =
    number_passes stage (next n) n text rest member.wide at (member.test (to_be_bytes w16 n) ∙ order_passes (number16 (to_be_bytes w16 n)) n before disorder next (again16 n at.low) (after_from_test before n test))

pub member_fails : (stage : Stage) (before : Option ℕ) (disorder : DecodeError) (next : ℕ → Stage) (n : ℕ) (text rest : List ℕ) → ReadsMember stage before disorder next → NumberAt text n rest → comes_after before n ≡ false → FaultFrom stage text disorder
member_fails stage before disorder next n text rest member at test =
    let same : number16 (to_be_bytes w16 n) ≡ n = again16 n at.low in
    let fails : cond (comes_after before n) (Ok (next n)) (Err disorder) ≡ Err disorder = rw test refl in
    number_fails stage n text rest disorder member.wide at (member.test (to_be_bytes w16 n) ∙ subst (λ (x : ℕ). cond (comes_after before x) (Ok (next x)) (Err disorder) ≡ Err disorder) (sym same) fails)

-- a list of length 0 is empty

pub not_empty : (rest : List ℕ) (b : Bool) → b ≡ false → b ≡ eqb (length rest) 0 → rest ≢ []
not_empty [] b false_is test e = absurd (cc (false_is, test))
not_empty (x ∷ xs) b false_is test e = absurd cc

-- one item more is done
pub one_done : (count counter : ℕ) → counter < count → count - counter ≡ suc (count - (counter + 1))
one_done count counter lt = omega arith
