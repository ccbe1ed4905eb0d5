-- Fields that lead to the end, read one by one.
use Rattle.nw_decode.proofs.Words.{◌≡◌, ℕ, suc, ◌≤◌, Bool, true, false, cond, eqb, List, [], ◌∷◌, ◌++◌, length, get_or, Some, Ok, Err, refl, sym, ap, subst, ◌∙◌, append_assoc, arith, eqb-true, AreBytes, bytes_of}
use Rattle.nw_decode.specs.declared.error.DecodeError.{DecodeError}
use Rattle.nw_decode.specs.Faults.{Stage, AtEnd, width, after_field, Leads, Reaches}
use Rattle.nw_decode.proofs.Fronts.{joined, some_is, going, going_is}

-- ---- the first field

pub record Step (s : Stage) (w : ℕ) (text rest : List ℕ) : Type 0 where
  pub field : List ℕ
  pub more : List ℕ
  pub next : Stage
  pub cut : text ≡ field ++ more
  pub len : length field ≡ w
  pub passes : after_field s field ≡ Ok next
  pub onwards : Reaches next more AtEnd rest

no_width : (w : ℕ) → width AtEnd ≡ Some w → ⊥
no_width w e = absurd cc

step_of : (fields : List (List ℕ)) (s : Stage) (w : ℕ) (text rest : List ℕ) → width s ≡ Some w → Leads s fields AtEnd → text ≡ joined fields ++ rest → Step s w text rest
step_of [] s w text rest wide leads whole = absurd (no_width w (subst (λ (x : Stage). width x ≡ Some w) leads wide))
step_of (f ∷ fs) s w text rest wide leads whole = record {
  field = f;
  more = joined fs ++ rest;
  next = leads.1;
  cut = whole ∙ append_assoc f (joined fs) rest;
  len = some_is _ _ (sym leads.0 ∙ wide);
  passes = leads.2;
  onwards = record { fields = fs; leads = leads.3; whole = refl };
}

pub step : (s : Stage) (w : ℕ) (text rest : List ℕ) → width s ≡ Some w → Reaches s text AtEnd rest → Step s w text rest
step s w text rest wide front = step_of front.fields s w text rest wide front.leads front.whole

-- a stage whose field leads to one stage only
pub to : (s t : Stage) (text rest : List ℕ) → s ≡ t → Reaches s text AtEnd rest → Reaches t text AtEnd rest
to s t text rest e front = subst (λ (x : Stage). Reaches x text AtEnd rest) e front

-- the field at the front of a text is the encoding of its value
pub own_front : (text field more own : List ℕ) → text ≡ field ++ more → own ≡ field → text ≡ own ++ more
own_front text field more own cut e = rw e cut

-- ---- passed tests

pub choice : (b : Bool) (d : DecodeError) (s t : Stage) → cond b (Err d) (Ok s) ≡ going t → (b ≡ false) × (s ≡ t)
choice true d s t e = absurd cc
choice false d s t e = (refl, going_is s t e)

pub else_choice : (b : Bool) (d : DecodeError) (s t : Stage) → cond b (Ok s) (Err d) ≡ going t → (b ≡ true) × (s ≡ t)
else_choice true d s t e = (refl, going_is s t e)
else_choice false d s t e = absurd cc

pub two_choices : (b c : Bool) (d f : DecodeError) (s t : Stage) → cond b (Err d) (cond c (Err f) (Ok s)) ≡ going t → (b ≡ false) × (c ≡ false) × (s ≡ t)
two_choices true c d f s t e = absurd cc
two_choices false c d f s t e = let both = choice c f s t e in (refl, both.0, both.1)

one_byte : (field : List ℕ) → length field ≡ 1 → eqb (get_or field 0 0) 1 ≡ true → field ≡ 1 ∷ []
one_byte [] len test = absurd (omega (arith, len))
one_byte (b ∷ []) len test = ap (λ (x : ℕ). x ∷ []) (eqb-true b 1 test)
one_byte (b ∷ c ∷ bs) len test = absurd (omega (arith, len))

pub one_more : (m n : ℕ) → m ≡ n → suc m ≡ suc n
one_more m n e = cc

-- ---- pieces

pub two_pieces : (text a b c d e f : List ℕ) → text ≡ a ++ b → b ≡ c ++ d → d ≡ e ++ f → text ≡ ((a ++ c) ++ e) ++ f
two_pieces text a b c d e f p q r = rw (p, q, r) (sym (append_assoc (a ++ c) e f ∙ append_assoc a c (e ++ f)))

pub with_rest : (text front more more' : List ℕ) → text ≡ front ++ more → more ≡ more' → text ≡ front ++ more'
with_rest text front more more' cut e = rw (← e) cut

pub at_most : (n count high : ℕ) → count ≡ n → n ≤ high → count ≤ high
at_most n count high e low = omega arith

-- a byte that has to be 1
pub record OneRead (text rest : List ℕ) (next : Stage) : Type 0 where
  pub more : List ℕ
  pub cut : text ≡ (1 ∷ []) ++ more
  pub bytes : AreBytes more
  pub onwards : Reaches next more AtEnd rest

pub read_one : (s next : Stage) (d : DecodeError) (text rest : List ℕ) → width s ≡ Some 1 → ((field : List ℕ) → after_field s field ≡ cond (eqb (get_or field 0 0) 1) (Ok next) (Err d)) → AreBytes text → Reaches s text AtEnd rest → OneRead text rest next
read_one s next d text rest wide says bytes front =
    let p = step s 1 text rest wide front in
    let test = else_choice (eqb (get_or p.field 0 0) 1) d next p.next (sym (says p.field) ∙ p.passes) in
    record {
      more = p.more;
      cut = own_front text p.field p.more (1 ∷ []) p.cut (sym (one_byte p.field p.len test.0));
      bytes = (bytes_of p.field p.more text p.cut bytes).1;
      onwards = to p.next next p.more rest (sym test.1) p.onwards;
    }
