-- Rows of fields that pass their tests: how they are built, and that each text stops at one place.
use Rattle.nw_decode.proofs.Words.{◌≡◌, ◌≢◌, ℕ, ◌<◌, ◌≤◌, Bool, true, false, ltb, List, [], ◌∷◌, ◌++◌, length, take, drop, Option, Some, None, Result, Ok, Err, refl, sym, ap, subst, ◌∙◌, append_assoc, arith, flat_map, MatchBool, le-ltb, lt-ltb, append-nil, take_at, take-append-drop, length-append, length-take, same_start}
use Rattle.std.specs.Option.{MatchOption}
use Rattle.nw_decode.specs.declared.error.DecodeError.{DecodeError}
use Rattle.nw_decode.specs.declared.error.DecodeError.TheVariants.{Short, Trailing}
use Rattle.nw_decode.specs.Faults.{Stage, AtEnd, width, after_field, Leads, Reaches, StopsAt, FaultFrom}

-- ---- equal options and results

pub some_is : (m n : ℕ) → Some m ≡ Some n → m ≡ n
some_is m n e = cc

abbrev pub going : Stage → Result Stage DecodeError
going s = Ok s

pub going_is : (s t : Stage) → going s ≡ going t → s ≡ t
going_is s t e = cc

abbrev pub failing : DecodeError → Result Stage DecodeError
failing e = Err e

pub failing_is : (d e : DecodeError) → failing d ≡ failing e → d ≡ e
failing_is d e h = cc

-- ---- rows of fields

abbrev pub joined : List (List ℕ) → List ℕ
joined fields = flat_map (λ field. field) fields

joined-append : (fs gs : List (List ℕ)) → joined (fs ++ gs) ≡ joined fs ++ joined gs
joined-append [] gs = refl
joined-append (f ∷ fs) gs = ap (λ (x : List ℕ). f ++ x) (joined-append fs gs) ∙ sym (append_assoc f (joined fs) (joined gs))

Leads-append : (fs gs : List (List ℕ)) (a b c : Stage) → Leads a fs b → Leads b gs c → Leads a (fs ++ gs) c
Leads-append [] gs a b c p q = subst (λ (s : Stage). Leads s gs c) (sym p) q
Leads-append (f ∷ fs) gs a b c p q = (p.0, p.1, p.2, Leads-append fs gs p.1 b c p.3 q)

pub here : (a : Stage) (s : List ℕ) → Reaches a s a s
here a s = record { fields = []; leads = refl; whole = refl }

pub onward : (a b c : Stage) (s t u : List ℕ) → Reaches a s b t → Reaches b t c u → Reaches a s c u
onward a b c s t u p q = record {
  fields = p.fields ++ q.fields;
  leads = Leads-append p.fields q.fields a b c p.leads q.leads;
  whole = p.whole ∙ ap (λ (x : List ℕ). joined p.fields ++ x) q.whole ∙ sym (append_assoc (joined p.fields) (joined q.fields) u) ∙ ap (λ (x : List ℕ). x ++ u) (sym (joined-append p.fields q.fields));
}

-- the field at the front passes its test
pub one_field : (a b : Stage) (field rest : List ℕ) → width a ≡ Some (length field) → after_field a field ≡ Ok b → Reaches a (field ++ rest) b rest
one_field a b field rest wide passes = record {
  fields = field ∷ [];
  leads = (wide, b, passes, refl);
  whole = ap (λ (x : List ℕ). x ++ rest) (sym (append-nil field));
}

pub passed : (a b : Stage) (w : ℕ) (text : List ℕ) → width a ≡ Some w → w ≤ length text → after_field a (take w text) ≡ Ok b → Reaches a text b (drop w text)
passed a b w text wide long passes =
    let len : length (take w text) ≡ w = omega (arith, length-take w text) in
    subst (λ (t : List ℕ). Reaches a t b (drop w text)) (take-append-drop w text) (one_field a b (take w text) (drop w text) (wide ∙ ap Some (sym len)) passes)

-- ---- faults

stops_short : (a : Stage) (w : ℕ) (text : List ℕ) → width a ≡ Some w → length text < w → StopsAt a text Short
stops_short a w text wide few =
    let test : ltb (length text) w ≡ true = lt-ltb _ _ few in
    rw (wide, test) refl

stops_failed : (a : Stage) (w : ℕ) (text : List ℕ) (e : DecodeError) → width a ≡ Some w → w ≤ length text → after_field a (take w text) ≡ Err e → StopsAt a text e
stops_failed a w text e wide long fails =
    let test : ltb (length text) w ≡ false = le-ltb _ _ long in
    rw (wide, test) fails

pub short : (a : Stage) (w : ℕ) (text : List ℕ) → width a ≡ Some w → length text < w → FaultFrom a text Short
short a w text wide few = (a, text, here a text, stops_short a w text wide few)

pub failed : (a : Stage) (w : ℕ) (text : List ℕ) (e : DecodeError) → width a ≡ Some w → w ≤ length text → after_field a (take w text) ≡ Err e → FaultFrom a text e
failed a w text e wide long fails = (a, text, here a text, stops_failed a w text e wide long fails)

pub trailing : (text : List ℕ) → text ≢ [] → FaultFrom AtEnd text Trailing
trailing text some = (AtEnd, text, here AtEnd text, (some, refl))

pub later : (a b : Stage) (s t : List ℕ) (e : DecodeError) → Reaches a s b t → FaultFrom b t e → FaultFrom a s e
later a b s t e p f = (f.0, f.1, onward a b f.0 s t f.1 p f.2, f.3)

-- ---- a text has one place where it stops

-- the next field is not whole or fails its test
abbrev IsStuck : Stage → List ℕ → Type 0
IsStuck stage rest = (field more : List ℕ) (next : Stage) → width stage ≡ Some (length field) → rest ≡ field ++ more → after_field stage field ≡ Ok next → ⊥

stuck_at_end : (rest : List ℕ) → IsStuck AtEnd rest
stuck_at_end rest field more next wide cut passes = absurd cc

stuck_at_fault : (stage : Stage) (rest : List ℕ) (e : DecodeError) → StopsAt stage rest e → IsStuck stage rest
stuck_at_fault stage rest e stops field more next wide cut passes =
    let long : length field ≤ length rest = omega (arith, ap length cut, length-append field more) in
    let test : ltb (length rest) (length field) ≡ false = le-ltb _ _ long in
    let opened : MatchOption (Some (length field)) ((rest ≢ []) × (e ≡ Trailing)) (λ w. MatchBool (ltb (length rest) w) (e ≡ Short) (after_field stage (take w rest) ≡ Err e)) = rw wide at stops in
    let fails : after_field stage (take (length field) rest) ≡ Err e = rw test at opened in
    let same : take (length field) rest ≡ field = ap (take (length field)) cut ∙ take_at field more (length field) refl in
    let both : after_field stage field ≡ Err e = rw same at fails in
    absurd (cc (both, passes))

one_stop : (fs gs : List (List ℕ)) (a b c : Stage) (x y : List ℕ) → Leads a fs b → Leads a gs c → joined fs ++ x ≡ joined gs ++ y → IsStuck b x → IsStuck c y → (b ≡ c) × (x ≡ y)
one_stop [] [] a b c x y p q e left right = (sym p ∙ q, e)
one_stop [] (g ∷ gs) a b c x y p q e left right =
    let stuck : IsStuck a x = subst (λ (s : Stage). IsStuck s x) (sym p) left in
    absurd (stuck g (joined gs ++ y) q.1 q.0 (e ∙ append_assoc g (joined gs) y) q.2)
one_stop (f ∷ fs) [] a b c x y p q e left right =
    let stuck : IsStuck a y = subst (λ (s : Stage). IsStuck s y) (sym q) right in
    absurd (stuck f (joined fs ++ x) p.1 p.0 (sym e ∙ append_assoc f (joined fs) x) p.2)
one_stop (f ∷ fs) (g ∷ gs) a b c x y p q e left right =
    let cut : f ++ (joined fs ++ x) ≡ g ++ (joined gs ++ y) = sym (append_assoc f (joined fs) x) ∙ e ∙ append_assoc g (joined gs) y in
    let both = same_start f g (joined fs ++ x) (joined gs ++ y) (some_is _ _ (sym p.0 ∙ q.0)) cut in
    let same : p.1 ≡ q.1 = going_is _ _ (sym p.2 ∙ ap (after_field a) both.0 ∙ q.2) in
    let again : Leads q.1 fs b = subst (λ (s : Stage). Leads s fs b) same p.3 in
    one_stop fs gs q.1 b c x y again q.3 both.1 left right

-- two rows of fields that lead to the end are the same
pub one_end : (a : Stage) (s x y : List ℕ) → Reaches a s AtEnd x → Reaches a s AtEnd y → x ≡ y
one_end a s x y p q = (one_stop p.fields q.fields a AtEnd AtEnd x y p.leads q.leads (sym p.whole ∙ q.whole) (stuck_at_end x) (stuck_at_end y)).1

stops_once : (o : Option ℕ) (stage : Stage) (rest : List ℕ) (d e : DecodeError) → width stage ≡ o → StopsAt stage rest d → StopsAt stage rest e → d ≡ e
stops_once None stage rest d e wide p q =
    let left : (rest ≢ []) × (d ≡ Trailing) = rw wide at p in
    let right : (rest ≢ []) × (e ≡ Trailing) = rw wide at q in
    left.1 ∙ sym right.1
stops_once (Some w) stage rest d e wide p q =
    let left : MatchBool (ltb (length rest) w) (d ≡ Short) (after_field stage (take w rest) ≡ Err d) = rw wide at p in
    let right : MatchBool (ltb (length rest) w) (e ≡ Short) (after_field stage (take w rest) ≡ Err e) = rw wide at q in
    stops_by (ltb (length rest) w) stage (take w rest) d e left right
  where
    stops_by : (b : Bool) (stage : Stage) (field : List ℕ) (d e : DecodeError) → MatchBool b (d ≡ Short) (after_field stage field ≡ Err d) → MatchBool b (e ≡ Short) (after_field stage field ≡ Err e) → d ≡ e
    stops_by true stage field d e l r = l ∙ sym r
    stops_by false stage field d e l r = failing_is d e (sym l ∙ r)

pub one_fault : (a : Stage) (s : List ℕ) (d e : DecodeError) → FaultFrom a s d → FaultFrom a s e → d ≡ e
one_fault a s d e p q =
    let both = one_stop p.2.fields q.2.fields a p.0 q.0 p.1 q.1 p.2.leads q.2.leads (sym p.2.whole ∙ q.2.whole) (stuck_at_fault p.0 p.1 d p.3) (stuck_at_fault q.0 q.1 e q.3) in
    let moved : StopsAt q.0 p.1 d = subst (λ (t : Stage). StopsAt t p.1 d) both.0 p.3 in
    let there : StopsAt q.0 q.1 d = subst (λ (x : List ℕ). StopsAt q.0 x d) both.1 moved in
    stops_once (width q.0) q.0 q.1 d e refl there q.3

pub not_both : (a : Stage) (s : List ℕ) (e : DecodeError) → Reaches a s AtEnd [] → FaultFrom a s e → ⊥
not_both a s e p q =
    let both = one_stop p.fields q.2.fields a AtEnd q.0 [] q.1 p.leads q.2.leads (sym p.whole ∙ q.2.whole) (stuck_at_end []) (stuck_at_fault q.0 q.1 e q.3) in
    let moved : StopsAt AtEnd q.1 e = subst (λ (t : Stage). StopsAt t q.1 e) (sym both.0) q.3 in
    moved.0 (sym both.1)
