-- Lists of items with ascending numbers, as parents with their authors and seals with their signers.
use Rattle.nw_decode.proofs.Words.{◌≡◌, ℕ, zero, suc, ◌^◌, ◌<◌, List, [], ◌∷◌, ◌++◌, length, Option, Some, None, refl, sym, ap, subst, ◌∙◌, append_assoc, arith, w16, to_be_bytes, flat_map, AllByRecursion, Ref, Seal, parent_bytes, seal_bytes, AreBytes, IsRef, IsSeal, same_start, same16, again16, back16, below16, bytes_of}
use Rattle.std.proofs.Common.{map}
use Rattle.nw_decode.specs.declared.error.DecodeError.{DecodeError}
use Rattle.nw_decode.specs.declared.error.DecodeError.TheVariants.{ParentOrder, VoteOrder}
use Rattle.nw_decode.specs.Faults.{Stage, AtParentDigest, AtSealSignature, AtEnd, at_parents, at_seals, number16, comes_after, Reaches}
use Rattle.nw_decode.specs.Parts.{AreItems}
use Rattle.nw_decode.proofs.Ascending.{IsAfter, Ascends, after_from_test}
use Rattle.nw_decode.proofs.Fronts.{going_is, here, onward, one_field}
use Rattle.nw_decode.proofs.Passing.{order_passes}
use Rattle.nw_decode.proofs.Steps.{step, to, own_front, else_choice, one_more}

-- ---- items

-- a kind of items: a number of two bytes and `width` other bytes, with the stages that read them
pub record ItemKind (X : Type 0) : Type 1 where
  pub width : ℕ
  pub piece : X → List ℕ
  pub P : X → Type 0
  pub number : X → ℕ
  pub others : X → List ℕ
  pub disorder : DecodeError
  pub at : ℕ → Option ℕ → Stage
  pub inside : ℕ → ℕ → Stage
  pub stages : AreItems width disorder at inside
  pub cut : (x : X) → piece x ≡ to_be_bytes w16 (number x) ++ others x
  pub low : (x : X) → P x → number x < 2 ^ 16
  pub len : (x : X) → P x → length (others x) ≡ width
  pub same : (x y : X) → number x ≡ number y → others x ≡ others y → x ≡ y
  -- a number and bytes make an item
  pub made : (n : ℕ) (bytes : List ℕ) → n < 2 ^ 16 → length bytes ≡ width → AreBytes bytes → (x : X) × P x × (number x ≡ n) × (others x ≡ bytes)

pub are_parents : (size : ℕ) → AreItems 32 ParentOrder (λ more before. at_parents more before size) (λ more author. AtParentDigest more author size)
are_parents size = record {
  members = λ more before. record { wide = refl; test = λ field. refl };
  wide = λ more author. refl;
  passes = λ more author field. refl;
  ends = λ before. refl;
}

pub are_seals : AreItems 64 VoteOrder at_seals AtSealSignature
are_seals = record {
  members = λ more before. record { wide = refl; test = λ field. refl };
  wide = λ more signer. refl;
  passes = λ more signer field. refl;
  ends = λ before. refl;
}

abbrev pub a_ref : ℕ → List ℕ → Ref
a_ref author digest = record { author = author; digest = record { 0 = digest } }

abbrev pub a_seal : ℕ → List ℕ → Seal
a_seal signer signature = record { signer = signer; signature = record { 0 = signature } }

-- the parents of a body that has `size` bytes with them
abbrev pub parent_kind : ℕ → ItemKind Ref
parent_kind size = record {
  width = 32;
  piece = parent_bytes;
  P = IsRef;
  number = λ r. r.author;
  others = λ r. r.digest.0;
  disorder = ParentOrder;
  at = λ more before. at_parents more before size;
  inside = λ more author. AtParentDigest more author size;
  stages = are_parents size;
  cut = λ r. refl;
  low = λ r typed. typed.author;
  len = λ r typed. typed.digest;
  same = λ r q author digest. (λ i. a_ref (author i) (digest i));
  made = λ n bytes low len each. (a_ref n bytes, record { author = low; digest = len; digest_bytes = each }, refl, refl);
}

abbrev pub seal_kind : ItemKind Seal
seal_kind = record {
  width = 64;
  piece = seal_bytes;
  P = IsSeal;
  number = λ s. s.signer;
  others = λ s. s.signature.0;
  disorder = VoteOrder;
  at = at_seals;
  inside = AtSealSignature;
  stages = are_seals;
  cut = λ s. refl;
  low = λ s typed. typed.signer;
  len = λ s typed. typed.signature.len;
  same = λ s t signer signature. (λ i. a_seal (signer i) (signature i));
  made = λ n bytes low len each. (a_seal n bytes, record { signer = low; signature = record { len = len; bytes = each } }, refl, refl);
}

-- ---- two texts

pub same_item : {X : Type 0} (k : ItemKind X) (p q : X) (x y : List ℕ) → k.P p → k.P q → k.piece p ++ x ≡ k.piece q ++ y → (p ≡ q) × (x ≡ y)
same_item k p q x y left right e =
    let whole = (λ (r : _) (t : List ℕ). ap (λ (s : List ℕ). s ++ t) (k.cut r) ∙ append_assoc (to_be_bytes w16 (k.number r)) (k.others r) t) in
    let first = same_start (to_be_bytes w16 (k.number p)) (to_be_bytes w16 (k.number q)) (k.others p ++ x) (k.others q ++ y) refl (sym (whole p x) ∙ e ∙ whole q y) in
    let second = same_start (k.others p) (k.others q) x y (k.len p left ∙ sym (k.len q right)) first.1 in
    (k.same p q (same16 (k.number p) (k.number q) (k.low p left) (k.low q right) first.0) second.0, second.1)

pub same_items : {X : Type 0} (k : ItemKind X) (ps qs : List X) (x y : List ℕ) → length ps ≡ length qs → AllByRecursion k.P ps → AllByRecursion k.P qs → flat_map k.piece ps ++ x ≡ flat_map k.piece qs ++ y → (ps ≡ qs) × (x ≡ y)
same_items k [] [] x y len left right e = (refl, e)
same_items k [] (q ∷ qs) x y len left right e = absurd (omega (arith, len))
same_items k (p ∷ ps) [] x y len left right e = absurd (omega (arith, len))
same_items k (p ∷ ps) (q ∷ qs) x y len left right e =
    let cut = sym (append_assoc (k.piece p) (flat_map k.piece ps) x) ∙ e ∙ append_assoc (k.piece q) (flat_map k.piece qs) y in
    let one = same_item k p q (flat_map k.piece ps ++ x) (flat_map k.piece qs ++ y) left.0 right.0 cut in
    let more = same_items k ps qs x y (omega (arith, len)) left.1 right.1 one.1 in
    (cc (one.0, more.0), more.1)

-- ---- items within the limits pass their tests

pub written_item : {X : Type 0} (k : ItemKind X) (p : X) (more : ℕ) (before : Option ℕ) (rest : List ℕ) → k.P p → IsAfter before (k.number p) → Reaches (k.at (suc more) before) (k.piece p ++ rest) (k.at more (Some (k.number p))) rest
written_item k p more before rest typed after =
    let n : ℕ = k.number p in
    let field : List ℕ = to_be_bytes w16 n in
    let member = k.stages.members more before in
    let order = member.test field ∙ order_passes (number16 field) n before k.disorder (k.inside more) (again16 n (k.low p typed)) after in
    let first : Reaches (k.at (suc more) before) (field ++ (k.others p ++ rest)) (k.inside more n) (k.others p ++ rest) = one_field (k.at (suc more) before) (k.inside more n) field (k.others p ++ rest) member.wide order in
    let second : Reaches (k.inside more n) (k.others p ++ rest) (k.at more (Some n)) rest = one_field (k.inside more n) (k.at more (Some n)) (k.others p) rest (k.stages.wide more n ∙ ap Some (sym (k.len p typed))) (k.stages.passes more n (k.others p)) in
    let cut : k.piece p ++ rest ≡ field ++ (k.others p ++ rest) = ap (λ (t : List ℕ). t ++ rest) (k.cut p) ∙ append_assoc field (k.others p) rest in
    subst (λ (t : List ℕ). Reaches (k.at (suc more) before) t (k.at more (Some n)) rest) (sym cut) (onward _ _ _ _ _ _ first second)

pub written_items : {X : Type 0} (k : ItemKind X) (ps : List X) (before : Option ℕ) (rest : List ℕ) → AllByRecursion k.P ps → Ascends before (map k.number ps) → Reaches (k.at (length ps) before) (flat_map k.piece ps ++ rest) (k.at 0 None) rest
written_items k [] before rest typed order = subst (λ (s : Stage). Reaches (k.at 0 before) rest s rest) (k.stages.ends before) (here (k.at 0 before) rest)
written_items k (p ∷ ps) before rest typed order =
    let first = written_item k p (length ps) before (flat_map k.piece ps ++ rest) typed.0 order.0 in
    let both = onward _ _ _ _ _ _ first (written_items k ps (Some (k.number p)) rest typed.1 order.1) in
    subst (λ (t : List ℕ). Reaches (k.at (suc (length ps)) before) t (k.at 0 None) rest) (sym (append_assoc (k.piece p) (flat_map k.piece ps) rest)) both

-- ---- fields that pass their tests are items

pub record ItemRead {X : Type 0} (k : ItemKind X) (more : ℕ) (before : Option ℕ) (text rest : List ℕ) : Type 0 where
  pub found : X
  pub after : List ℕ
  pub typed : k.P found
  pub order : IsAfter before (k.number found)
  pub cut : text ≡ k.piece found ++ after
  pub bytes : AreBytes after
  pub onwards : Reaches (k.at more (Some (k.number found))) after AtEnd rest

pub record ItemsRead {X : Type 0} (k : ItemKind X) (n : ℕ) (before : Option ℕ) (text rest : List ℕ) : Type 0 where
  pub items : List X
  pub more : List ℕ
  pub count : length items ≡ n
  pub typed : AllByRecursion k.P items
  pub order : Ascends before (map k.number items)
  pub cut : text ≡ flat_map k.piece items ++ more
  pub bytes : AreBytes more
  pub onwards : Reaches (k.at 0 None) more AtEnd rest

two_cuts : (text a more b rest whole : List ℕ) → text ≡ a ++ more → more ≡ b ++ rest → whole ≡ a ++ b → text ≡ whole ++ rest
two_cuts text a more b rest whole first second is = rw (first, second, is) (sym (append_assoc a b rest))

pub read_item : {X : Type 0} (k : ItemKind X) (more : ℕ) (before : Option ℕ) (text rest : List ℕ) → AreBytes text → Reaches (k.at (suc more) before) text AtEnd rest → ItemRead k more before text rest
read_item k more before text rest bytes front =
    let member = k.stages.members more before in
    let at_number = step (k.at (suc more) before) 2 text rest member.wide front in
    let n : ℕ = number16 at_number.field in
    let test = else_choice (comes_after before n) k.disorder (k.inside more n) at_number.next (sym (member.test at_number.field) ∙ at_number.passes) in
    let number-bytes = bytes_of at_number.field at_number.more text at_number.cut bytes in
    let at_others = step (k.inside more n) k.width at_number.more rest (k.stages.wide more n) (to at_number.next (k.inside more n) at_number.more rest (sym test.1) at_number.onwards) in
    let others-bytes = bytes_of at_others.field at_others.more at_number.more at_others.cut number-bytes.1 in
    let made = k.made n at_others.field (below16 at_number.field number-bytes.0) at_others.len others-bytes.0 in
    let number-cut : text ≡ to_be_bytes w16 n ++ at_number.more = own_front text at_number.field at_number.more (to_be_bytes w16 n) at_number.cut (back16 at_number.field at_number.len number-bytes.0) in
    let piece-is : k.piece made.0 ≡ to_be_bytes w16 n ++ at_others.field = k.cut made.0 ∙ (λ i. to_be_bytes w16 (made.2 i) ++ made.3 i) in
    let next-is : at_others.next ≡ k.at more (Some (k.number made.0)) = sym (going_is _ _ (sym (k.stages.passes more n at_others.field) ∙ at_others.passes)) ∙ ap (λ (x : ℕ). k.at more (Some x)) (sym made.2) in
    record {
      found = made.0;
      after = at_others.more;
      typed = made.1;
      order = subst (λ (x : ℕ). IsAfter before x) (sym made.2) (after_from_test before n test.0);
      cut = two_cuts text (to_be_bytes w16 n) at_number.more at_others.field at_others.more (k.piece made.0) number-cut at_others.cut piece-is;
      bytes = others-bytes.1;
      onwards = to at_others.next (k.at more (Some (k.number made.0))) at_others.more rest next-is at_others.onwards;
    }

pub read_items : {X : Type 0} (k : ItemKind X) (n : ℕ) (before : Option ℕ) (text rest : List ℕ) → AreBytes text → Reaches (k.at n before) text AtEnd rest → ItemsRead k n before text rest
read_items k zero before text rest bytes front = record { items = []; more = text; count = refl; typed = tt; order = tt; cut = refl; bytes = bytes; onwards = to (k.at 0 before) (k.at 0 None) text rest (k.stages.ends before) front }
read_items k (suc n) before text rest bytes front =
    let one = read_item k n before text rest bytes front in
    let others = read_items k n (Some (k.number one.found)) one.after rest one.bytes one.onwards in
    record {
      items = one.found ∷ others.items;
      more = others.more;
      count = one_more (length others.items) n others.count;
      typed = (one.typed, others.typed);
      order = (one.order, others.order);
      cut = one.cut ∙ ap (λ (t : List ℕ). k.piece one.found ++ t) others.cut ∙ sym (append_assoc (k.piece one.found) (flat_map k.piece others.items) others.more);
      bytes = others.bytes;
      onwards = others.onwards;
    }
