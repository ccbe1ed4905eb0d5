-- Journals whose fronts are prefixes of one history, and which have as many answers as it has events: the history is an interleaving of
-- them.
use Rattle.nw_store.proofs.Words.{◌≡◌, ◌≢◌, ℕ, zero, suc, ◌+◌, ◌<◌, ◌≤◌, true, false, cond, List, [], ◌∷◌, ◌++◌, length, ⊎_elim, refl, sym, ap, ◌∙◌, subst, arith, Some, ◌==◌, slice_get, All, sum_by, eqb_tells, sum_by-cons, All-cons, IsPrefix, Event, events_of, AreNumbered, Story, AnswerView, Journal, ArePrefixesOf, comparable}
use Rattle.std.proofs.Common.{Bool}
use Rattle.std.proofs.lemmas.Bool.{eq-eqb}
use Rattle.std.proofs.lemmas.List.{length-map}
use Rattle.std.proofs.lemmas.List.Elements.{All-nil}
use Rattle.nw_history.proofs.Prefixes.{no_longer}
use Rattle.nw_store.specs.Lock.{Guarded, AreAnswers}
use Rattle.nw_book.specs.Settled.{events_in, AreSettled}
use Rattle.nw_store.specs.Settled.{AreInOrder, AreAllComparable}
use Rattle.nw_book.proofs.Prefixes.{prefix_whole}

-- the events of each front are a prefix of these events
abbrev AreBegunBy : List Event → List AnswerView → Type 0
AreBegunBy h answers = All (λ a. IsPrefix a.front.events h) answers

-- the sum of f over the numbers below n
abbrev sum_upto : (ℕ → ℕ) → ℕ → ℕ
sum_upto f zero = 0
sum_upto f (suc n) = sum_upto f n + f n

-- each event belongs to a session below this number
abbrev AreBelow : ℕ → List Event → Type 0
AreBelow made [] = Unit {0}
AreBelow made (e ∷ es) = (e.session < made) × AreBelow made es

-- the answers of the journal at this place
abbrev answers_at : List Journal → ℕ → List AnswerView
answers_at [] s = []
answers_at (j ∷ js) zero = j.answers
answers_at (j ∷ js) (suc s) = answers_at js s

-- the session's events, when it is known whether the first event is one of them
kept_at : (s : ℕ) (x : Event) (es : List Event) (b : Bool) → (x.session == s) ≡ b → events_of s (x ∷ es) ≡ cond b (x ∷ events_of s es) (events_of s es)
kept_at s x es b is = ap (λ c. cond c (x ∷ events_of s es) (events_of s es)) is

-- an event among the session's later events is among all of its events
later : (s : ℕ) (x : Event) (h : List Event) (e : Event) → (j : ℕ) × (slice_get (events_of s h) j ≡ Some e) → (b : Bool) → (x.session == s) ≡ b → (j : ℕ) × (slice_get (events_of s (x ∷ h)) j ≡ Some e)
later s x h e rest true at = (suc rest.0, ap (λ l. slice_get l (suc rest.0)) (kept_at s x h true at) ∙ rest.1)
later s x h e rest false at = (rest.0, ap (λ l. slice_get l rest.0) (kept_at s x h false at) ∙ rest.1)

-- an event of the session that ends a prefix of the history is one of the session's events
stands : (s : ℕ) (h : List Event) (e : Event) (earlier : List Event) → IsPrefix (earlier ++ e ∷ []) h → e.session ≡ s → (j : ℕ) × (slice_get (events_of s h) j ≡ Some e)
stands s [] e [] p is = absurd (cc (p.1))
stands s [] e (y ∷ ys) p is = absurd (cc (p.1))
stands s (x ∷ h) e [] p is =
    let same : e ≡ x = cc (p.1) in
    let here : (x.session == s) ≡ true = eq-eqb x.session s (ap (λ v. v.session) (sym same) ∙ is) in
    (0, ap (λ l. slice_get l 0) (kept_at s x h true here) ∙ ap (λ v. Some v) (sym same))
stands s (x ∷ h) e (y ∷ ys) p is = later s x h e (stands s h e ys (p.0, cc (p.1)) is) (x.session == s) refl

numbered_at : (n : ℕ) (es : List Event) (j : ℕ) (e : Event) → AreNumbered n es → slice_get es j ≡ Some e → e.number ≡ n + j
numbered_at n [] j e h at = absurd (cc (at))
numbered_at n (x ∷ es) zero e h at = let same : x ≡ e = cc (at) in omega (arith, ap (λ v. v.number) same, h.0)
numbered_at n (x ∷ es) (suc j) e h at = let r = numbered_at (n + 1) es j e h.1 at in omega (arith, r)

-- each answer's event is among the session's events, at the place that its number says
places : (s m : ℕ) (answers : List AnswerView) (h : List Event) → AreNumbered 1 (events_of s h) → AreAnswers s (m + 1) answers → AreBegunBy h answers
    → (k : ℕ) (x : Event) → slice_get (events_in answers) k ≡ Some x → slice_get (events_of s h) (m + k) ≡ Some x
places s m [] h numbered are begun k x at = absurd (cc (at))
places s m (e ∷ es) h numbered are begun zero x at =
    let same : e.event ≡ x = cc (at) in
    let front : IsPrefix e.front.events h = begun 0 e (omega arith) in
    let there = stands s h e.event are.0.last.0 (subst (λ l. IsPrefix l h) are.0.last.1 front) are.0.session in
    let number = numbered_at 1 (events_of s h) there.0 e.event numbered there.1 in
    let place : there.0 ≡ m + 0 = omega (arith, number, are.0.number_is) in
    subst (λ j. slice_get (events_of s h) j ≡ Some x) place (there.1 ∙ ap (λ v. Some v) same)
places s m (e ∷ es) h numbered are begun (suc k) x at =
    let r = places s (m + 1) es h numbered are.1 (λ i d lt. begun (suc i) d (omega (arith, lt))) k x at in
    let place : m + 1 + k ≡ m + suc k = omega arith in
    subst (λ j. slice_get (events_of s h) j ≡ Some x) place r

prefix_of_places : (xs ys : List Event) → ((k : ℕ) (x : Event) → slice_get xs k ≡ Some x → slice_get ys k ≡ Some x) → IsPrefix xs ys
prefix_of_places [] ys h = (ys, refl)
prefix_of_places (x ∷ xs) [] h = absurd (cc (h zero x refl))
prefix_of_places (x ∷ xs) (y ∷ ys) h =
    let heads : y ≡ x = cc (h zero x refl) in
    let rest = prefix_of_places xs ys (λ k z e. h (suc k) z e) in
    (rest.0, cc (heads, rest.1))

sum_both : (f g : ℕ → ℕ) (n : ℕ) → sum_upto (λ s. f s + g s) n ≡ sum_upto f n + sum_upto g n
sum_both f g zero = refl
sum_both f g (suc n) = let r = sum_both f g n in omega (arith, r)

sum_same : (f g : ℕ → ℕ) → ((s : ℕ) → f s ≡ g s) → (n : ℕ) → sum_upto f n ≡ sum_upto g n
sum_same f g h zero = refl
sum_same f g h (suc n) = let r = sum_same f g h n in omega (arith, r, h n)

sum_less : (f g : ℕ → ℕ) (n : ℕ) → ((s : ℕ) → s < n → f s ≤ g s) → sum_upto f n ≤ sum_upto g n
sum_less f g zero h = omega arith
sum_less f g (suc n) h = let r = sum_less f g n (λ s lt. h s (omega (arith, lt))) in let l = h n (omega arith) in omega (arith, r, l)

-- if f is at most g everywhere, and the sum of g is at most that of f, then g is at most f everywhere
squeezed : (f g : ℕ → ℕ) (n : ℕ) → ((s : ℕ) → s < n → f s ≤ g s) → sum_upto g n ≤ sum_upto f n → (s : ℕ) → s < n → g s ≤ f s
squeezed f g zero h le s lt = absurd (omega (arith, lt))
squeezed f g (suc n) h le s lt =
    let below : sum_upto f n ≤ sum_upto g n = sum_less f g n (λ t l. h t (omega (arith, l))) in
    let last : f n ≤ g n = h n (omega arith) in
    ⊎_elim
    (λ (x : ((s == n) ≡ true) × (s ≡ n)). subst (λ t. g t ≤ f t) (sym x.1) (omega (arith, le, below)))
    (λ (x : ((s == n) ≡ false) × (s ≢ n)). let apart = x.1 in squeezed f g n (λ t l. h t (omega (arith, l))) (omega (arith, le, last)) s (omega (arith, lt, apart)))
    (eqb_tells s n)

abbrev one : ℕ → ℕ → ℕ
one t s = cond (t == s) 1 0

-- 1 if the session is not below this number, else 0
abbrev outside : ℕ → ℕ → ℕ
outside t zero = 1
outside t (suc n) = cond (t == n) 0 (outside t n)

none_below : (t n : ℕ) → n ≤ t → sum_upto (one t) n ≡ 0
none_below t zero le = refl
none_below t (suc n) le =
    let r = none_below t n (omega (arith, le)) in
    ⊎_elim
    (λ (x : ((t == n) ≡ true) × (t ≡ n)). let same = x.1 in absurd (omega (arith, le, same)))
    (λ (x : ((t == n) ≡ false) × (t ≢ n)). let no : one t n ≡ 0 = ap (λ b. cond b 1 0) x.0 in omega (arith, r, no))
    (eqb_tells t n)

-- a session's number is counted once: below n or outside
counts_once : (t n : ℕ) → sum_upto (one t) n + outside t n ≡ 1
counts_once t zero = refl
counts_once t (suc n) =
    let r = counts_once t n in
    ⊎_elim
    (λ (x : ((t == n) ≡ true) × (t ≡ n)).
    let same = x.1 in
    let yes : one t n ≡ 1 = ap (λ b. cond b 1 0) x.0 in
    let none : outside t (suc n) ≡ 0 = ap (λ b. cond b 0 (outside t n)) x.0 in
    let zeros = none_below t n (omega (arith, same)) in
    omega (arith, yes, none, zeros))
    (λ (x : ((t == n) ≡ false) × (t ≢ n)).
    let no : one t n ≡ 0 = ap (λ b. cond b 1 0) x.0 in
    let out : outside t (suc n) ≡ outside t n = ap (λ b. cond b 0 (outside t n)) x.0 in
    omega (arith, no, out, r))
    (eqb_tells t n)

is_below : (t n : ℕ) → outside t n ≡ 0 → t < n
is_below t zero h = absurd (omega (arith, h))
is_below t (suc n) h =
    ⊎_elim
    (λ (x : ((t == n) ≡ true) × (t ≡ n)). let same = x.1 in omega (arith, same))
    (λ (x : ((t == n) ≡ false) × (t ≢ n)). let r = is_below t n (sym (ap (λ b. cond b 0 (outside t n)) x.0) ∙ h) in omega (arith, r))
    (eqb_tells t n)

-- the number of events whose session is not below `made`
abbrev all_outside : List Event → ℕ → ℕ
all_outside [] made = 0
all_outside (e ∷ es) made = outside e.session made + all_outside es made

length_at : (e : Event) (es : List Event) (s : ℕ) → length (events_of s (e ∷ es)) ≡ one e.session s + length (events_of s es)
length_at e es s = go (e.session == s) refl
  where
    go : (b : Bool) → (e.session == s) ≡ b → length (events_of s (e ∷ es)) ≡ one e.session s + length (events_of s es)
    go true is = let l = ap length (kept_at s e es true is) in let o : one e.session s ≡ 1 = ap (λ b. cond b 1 0) is in omega (arith, l, o)
    go false is = let l = ap length (kept_at s e es false is) in let o : one e.session s ≡ 0 = ap (λ b. cond b 1 0) is in omega (arith, l, o)

zeros : (n : ℕ) → sum_upto (λ s. 0) n ≡ 0
zeros zero = refl
zeros (suc n) = let r = zeros n in omega (arith, r)

-- each event is counted once
all_counted : (made : ℕ) (h : List Event) → sum_upto (λ s. length (events_of s h)) made + all_outside h made ≡ length h
all_counted made [] = let z = zeros made in omega (arith, z)
all_counted made (e ∷ es) =
    let r = all_counted made es in
    let o = counts_once e.session made in
    let both = sum_same (λ s. length (events_of s (e ∷ es))) (λ s. one e.session s + length (events_of s es)) (length_at e es) made ∙ sum_both (one e.session) (λ s. length (events_of s es)) made in
    omega (arith, r, o, both)

all_below : (made : ℕ) (h : List Event) → all_outside h made ≡ 0 → AreBelow made h
all_below made [] z = tt
all_below made (e ∷ es) z = (is_below e.session made (omega (arith, z)), all_below made es (omega (arith, z)))

zero_plus : (k : ℕ) → 0 + k ≡ k
zero_plus k = omega arith

settled : (made : ℕ) (h : List Event) (journal : ℕ → List AnswerView) → ((s : ℕ) → AreNumbered 1 (events_of s h))
    → ((s : ℕ) → s < made → AreAnswers s 1 (journal s) × AreBegunBy h (journal s)) → sum_upto (λ s. length (journal s)) made ≡ length h
    → ((s : ℕ) → s < made → events_of s h ≡ events_in (journal s)) × AreBelow made h
settled made h journal numbered each sum =
    let begins : (s : ℕ) → s < made → IsPrefix (events_in (journal s)) (events_of s h) = λ s lt. prefix_of_places (events_in (journal s)) (events_of s h) (λ k x at. subst (λ j. slice_get (events_of s h) j ≡ Some x) (zero_plus k) (places s 0 (journal s) h (numbered s) (each s lt).0 (each s lt).1 k x at)) in
    let f : ℕ → ℕ = λ s. length (journal s) in
    let g : ℕ → ℕ = λ s. length (events_of s h) in
    let fewer : (s : ℕ) → s < made → f s ≤ g s = λ s lt. (let p = no_longer (events_in (journal s)) (events_of s h) (begins s lt) in let q = length-map (journal s) (λ (a : AnswerView). a.event) in omega (arith, p, q)) in
    let all = all_counted made h in
    let less = sum_less f g made fewer in
    let equal = squeezed f g made fewer (omega (arith, all, sum)) in (
      (λ s lt. sym (prefix_whole (events_in (journal s)) (events_of s h) (begins s lt) (let q = length-map (journal s) (λ (a : AnswerView). a.event) in let e = equal s lt in omega (arith, q, e)))),
      all_below made h (omega (arith, all, less, sum)),
    )

id_at : (n : ℕ) (js : List Journal) → AreInOrder n js → (h : List Event) → All (λ j. AreBegunBy h j.answers × AreAnswers j.id 1 j.answers) js → (s : ℕ) → s < length js
    → AreAnswers (n + s) 1 (answers_at js s) × AreBegunBy h (answers_at js s)
id_at n [] order h all s lt = absurd (omega (arith, lt))
id_at n (j ∷ js) order h all zero lt =
    let here = all 0 j (omega arith) in
    let id : j.id ≡ n + 0 = omega (arith, order.0) in
    (subst (λ i. AreAnswers i 1 j.answers) id here.1, here.0)
id_at n (j ∷ js) order h all (suc s) lt =
    let rest = id_at (n + 1) js order.1 h (λ k d l. all (suc k) d (omega (arith, l))) s (omega (arith, lt)) in
    let id : n + 1 + s ≡ n + suc s = omega arith in
    (subst (λ i. AreAnswers i 1 (answers_at js s)) id rest.0, rest.1)

sum_shift : (f : ℕ → ℕ) (n : ℕ) → sum_upto f (suc n) ≡ f 0 + sum_upto (λ s. f (suc s)) n
sum_shift f zero = omega arith
sum_shift f (suc n) = let r = sum_shift f n in omega (arith, r)

sum_at : (js : List Journal) → sum_upto (λ s. length (answers_at js s)) (length js) ≡ sum_by (λ j. length j.answers) js
sum_at [] = refl
sum_at (j ∷ js) = sum_shift (λ s. length (answers_at (j ∷ js) s)) (length js) ∙ (ap (λ n. length j.answers + n) (sum_at js) ∙ sym (sum_by-cons (λ (i : Journal). length i.answers) j js))

-- the journal at a place, if the journals are in order
found : (n : ℕ) (js : List Journal) (s : ℕ) (j : Journal) → AreInOrder n js → slice_get js s ≡ Some j → (s < length js) × (answers_at js s ≡ j.answers) × (j.id ≡ n + s)
found n [] s j order at = absurd (cc (at))
found n (x ∷ js) zero j order at = let same : x ≡ j = cc (at) in (omega arith, ap (λ (i : Journal). i.answers) same, omega (arith, ap (λ (i : Journal). i.id) same, order.0))
found n (x ∷ js) (suc s) j order at = let r = found (n + 1) js s j order.1 at in (omega (arith, r.0), r.1, omega (arith, r.2))

-- a property of each journal is a property of the journal at a place
holds_at : (P : Journal → Type 0) (js : List Journal) (s : ℕ) (j : Journal) → All P js → slice_get js s ≡ Some j → P j
holds_at P [] s j h at = absurd (cc (at))
holds_at P (x ∷ js) zero j h at = let same : x ≡ j = cc (at) in subst P same (h 0 x (omega arith))
holds_at P (x ∷ js) (suc s) j h at = holds_at P js s j (λ k d l. h (suc k) d (omega (arith, l))) at

below_all : (made : ℕ) (es : List Event) → AreBelow made es → All (λ e. e.session < made) es
below_all made [] h = All-nil (λ (e : Event). e.session < made)
below_all made (e ∷ es) h = All-cons (λ (x : Event). x.session < made) e es h.0 (below_all made es h.1)

pub joined : (h : Story) (js : List Journal) → ((s : ℕ) → AreNumbered 1 (events_of s h.events)) → AreInOrder 0 js → All (λ j. ArePrefixesOf h j.answers × AreAnswers j.id 1 j.answers) js
    → sum_by (λ j. length j.answers) js ≡ length h.events → AreSettled h js
joined h js numbered order all sum =
    let begun : All (λ j. AreBegunBy h.events j.answers × AreAnswers j.id 1 j.answers) js = λ i d lt. (let p = all i d lt in ((λ k a l. (p.0 k a l).events), p.1)) in
    let each : (s : ℕ) → s < length js → AreAnswers s 1 (answers_at js s) × AreBegunBy h.events (answers_at js s) = λ s lt. (let r = id_at 0 js order h.events begun s lt in (subst (λ i. AreAnswers i 1 (answers_at js s)) (zero_plus s) r.0, r.1)) in
    let whole = settled (length js) h.events (answers_at js) numbered each (sum_at js ∙ sum) in
    record {
      each = λ s j at. (let f = found 0 js s j order at in record {
        id_is = f.2 ∙ zero_plus s;
        events = whole.0 s f.0 ∙ ap events_in f.1;
        begun = (holds_at (λ j. ArePrefixesOf h j.answers × AreAnswers j.id 1 j.answers) js s j all at).0;
      });
      others = below_all (length js) h.events whole.1;
    }

-- settled journals stay settled if nothing changes
pub settled_still : (old new : Guarded) (js after : List Journal) → new ≡ old → after ≡ js → AreSettled old.history js → AreSettled new.history after
settled_still old new js after same items is = subst (λ (h : Guarded). AreSettled h.history after) (sym same) (subst (λ (l : List Journal). AreSettled old.history l) (sym items) is)

-- the answers of settled journals are comparable, since each front is a prefix of the one history
pub all_comparable : (h : Story) (js : List Journal) → AreSettled h js → AreAllComparable js
all_comparable h js s i k one two at also = comparable h one.answers two.answers (s.each i one at).begun (s.each k two also).begun
