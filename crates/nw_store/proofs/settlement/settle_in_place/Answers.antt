use Rattle.nw_store.proofs.Words.{◌≡◌, ◌∙◌, ℕ, List, length, true≢false, sym, ap, subst, arith, refl, All, sum_by-IsPermutation, IsPermutation, events_of, AreNumbered, Journal, ArePrefixesOf}
use Rattle.std.proofs.lemmas.List.Sorted.{All-permutation}
use Rattle.nw_store.specs.Lock.{Guarded, AreAnswers}
use Rattle.nw_store.specs.Settled.{ids_of, AreAllSessions}
use Rattle.nw_store.specs.Fault.{IsFirstStray, IsStray}
use Rattle.nw_store.proofs.Interleaved.{joined}
use Rattle.nw_store.proofs.Ordered.{all_length, all_from_order, all_in_order, none_of_all, order_from_none}
use Rattle.nw_store.proofs.settlement.settle_in_place.Goals as goal

pub returns-then-given-from-clause-exactly : goal.returns-then-given-from-clause-exactly
returns-then-given-from-clause-exactly g c = (
  λ t. absurd (true≢false (sym t)),
  λ all. (
      let whole = all_length c.args.locked.now.made c.args.sessions.now all in
      let few = c.if-given-from.true in
      let made : c.from.result ≡ c.locked.inside.made = c.from.ensures in
      let same : c.locked.inside.made ≡ c.args.locked.now.made = ap (λ (h : Guarded). h.made) c.locked.view_is in
      absurd (omega (arith, whole, few, made, same))),
)

pub returns-in-Some-clause-refused : goal.returns-in-Some-clause-refused
returns-in-Some-clause-refused g c =
    let made : c.locked.inside.made ≡ c.args.locked.now.made = ap (λ (h : Guarded). h.made) c.locked.view_is in
    let len = ap (λ (h : Guarded). length h.history.events) c.locked.view_is in
    let parts = c.locked.invariant.0 in
    let shared = c.locked.invariant.1.shared in
    let none = c.locked.invariant.1.unused in
    let all = c.locked.invariant.1.counted in
    let whole = c.add_up.ensures.whole in
    let total = c.add_up.ensures.total in
    let sessions : c.check_all_journals.new.sessions ≡ c.args.sessions.now = c.check_all_journals.ensures.sessions ∙ c.add_up.ensures.sessions in
    let first : IsFirstStray c.args.locked.now.made (ids_of c.args.sessions.now) c.in-Some.session = subst (λ m. IsFirstStray m (ids_of c.args.sessions.now) c.in-Some.session) made (subst (λ (js : List Journal). IsFirstStray c.locked.inside.made (ids_of js) c.in-Some.session) sessions c.in-Some.ensures.stray) in
    (omega (arith, parts, shared, whole, made), omega (arith, total, none, all, len), first, refl)

pub returns-in-Some-clause-exactly : goal.returns-in-Some-clause-exactly
returns-in-Some-clause-exactly g c = (
  λ t. absurd (true≢false (sym t)),
  λ all. absurd (none_of_all c.args.locked.now.made c.args.sessions.now all c.in-Some.session (returns-in-Some-clause-refused g c).2.0),
)

pub returns-clause-exactly : goal.returns-clause-exactly
returns-clause-exactly g c =
    let made : c.locked.inside.made ≡ c.args.locked.now.made = ap (λ (h : Guarded). h.made) c.locked.view_is in
    let from : c.from.result ≡ c.locked.inside.made = c.from.ensures in
    let given = c.if-given-from.false in
    let same : c.check_all_journals.new.sessions ≡ c.args.sessions.now = c.check_all_journals.ensures.sessions ∙ c.add_up.ensures.sessions in
    let p : IsPermutation c.args.sessions.now c.sort.new.sessions = subst (λ (js : List Journal). IsPermutation js c.sort.new.sessions) same c.sort.ensures.permutation in
    let none : (id : ℕ) → IsStray c.args.locked.now.made (ids_of c.args.sessions.now) id → ⊥ = subst (λ m. (id : ℕ) → IsStray m (ids_of c.args.sessions.now) id → ⊥) made (subst (λ (js : List Journal). (id : ℕ) → IsStray c.locked.inside.made (ids_of js) id → ⊥) same c.in_default.ensures.none) in
    let order = order_from_none c.args.locked.now.made c.args.sessions.now c.sort.new.sessions p c.sort.ensures.sorted (omega (arith, given, from, made)) none in
    (λ _. all_from_order c.args.locked.now.made c.args.sessions.now c.sort.new.sessions p order.0 order.1, λ _. refl)

pub returns-clause-all : goal.returns-clause-all
returns-clause-all g c =
    let same : c.check_all_journals.new.sessions ≡ c.args.sessions.now = c.check_all_journals.ensures.sessions ∙ c.add_up.ensures.sessions in
    let p : IsPermutation c.args.sessions.now c.sort.new.sessions = subst (λ (js : List Journal). IsPermutation js c.sort.new.sessions) same c.sort.ensures.permutation in
    all_in_order c.args.locked.now.made c.args.sessions.now c.sort.new.sessions ((returns-clause-exactly g c).0 refl) p c.sort.ensures.sorted

pub returns-clause-settled : goal.returns-clause-settled
returns-clause-settled g c =
    let all : AreAllSessions c.args.locked.now.made c.args.sessions.now = (returns-clause-exactly g c).0 refl in
    let same : c.check_all_journals.new.sessions ≡ c.args.sessions.now = c.check_all_journals.ensures.sessions ∙ c.add_up.ensures.sessions in
    let p : IsPermutation c.args.sessions.now c.sort.new.sessions = subst (λ (js : List Journal). IsPermutation js c.sort.new.sessions) same c.sort.ensures.permutation in
    let whole = all_length c.args.locked.now.made c.args.sessions.now all in
    let order = order_from_none c.args.locked.now.made c.args.sessions.now c.sort.new.sessions p c.sort.ensures.sorted (omega (arith, whole)) (none_of_all c.args.locked.now.made c.args.sessions.now all) in
    let numbered : (s : ℕ) → AreNumbered 1 (events_of s c.args.locked.now.history.events) = subst (λ (h : Guarded). (s : ℕ) → AreNumbered 1 (events_of s h.history.events)) c.locked.view_is c.locked.invariant.1.legal.numbered in
    let P : Journal → Type 0 = λ j. ArePrefixesOf c.args.locked.now.history j.answers × AreAnswers j.id 1 j.answers in
    let begun : All P c.args.sessions.now = subst (λ (js : List Journal). All P js) c.add_up.ensures.sessions (subst (λ (h : Guarded). All (λ j. ArePrefixesOf h.history j.answers × AreAnswers j.id 1 j.answers) c.add_up.new.sessions) c.locked.view_is c.check_all_journals.ensures.begun) in
    let none = c.locked.invariant.1.unused in
    let counted = c.locked.invariant.1.counted in
    let len = ap (λ (h : Guarded). length h.history.events) c.locked.view_is in
    let total = c.add_up.ensures.total in
    let moved = sum_by-IsPermutation (λ (j : Journal). length j.answers) c.args.sessions.now c.sort.new.sessions p in
    joined c.args.locked.now.history c.sort.new.sessions numbered order.1 (All-permutation P c.args.sessions.now c.sort.new.sessions p begun) (omega (arith, total, none, counted, len, moved))
