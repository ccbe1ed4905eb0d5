use Rattle.nw_store.proofs.Words.{◌≡◌, List, Some, length, refl, arith, ap, subst, sym, true≢false, ◌∙◌, slice_get, Journal}
use Rattle.std.proofs.lemmas.Option.{slice_get_read}
use borrow.Author.Tests.{ltb-false}
use Rattle.nw_store.specs.Settled.{Settlement, AreAllSessions}
use Rattle.nw_store.proofs.Ordered.{all_length}
use Rattle.nw_store.proofs.settlement.Settled.journal.Goals as goal

-- there are as many journals as made sessions
as_many : (l m : Settlement) → l ≡ m → AreAllSessions l.made l.journals → length m.journals ≡ m.made
as_many l m is all = subst (λ (x : Settlement). length x.journals ≡ x.made) is (all_length l.made l.journals all)

journals_of : (l m : Settlement) → l ≡ m → l.journals ≡ m.journals
journals_of l m is = ap (λ (x : Settlement). x.journals) is

pub returns-in_err-session-clause-none : goal.returns-in_err-session-clause-none
returns-in_err-session-clause-none g c =
    let items : c.deref.result.now ≡ c.args.self.now.journals = c.deref.ensures.value ∙ journals_of _ _ c.self.view_is in
    let many = ap (λ (js : List Journal). length js) items in
    let whole = as_many _ _ c.self.view_is c.self.invariant.0 in
    let place = c.from.ensures in
    let past = ltb-false c.from.result (length c.deref.result.now) (sym c.in_err-session.ensures.lookup.0) in
    (λ none. omega (arith, many, whole, place, past), λ unmade. rw c.from_residual.ensures refl)

pub returns-clause-journal : goal.returns-clause-journal
returns-clause-journal g c =
    let there = c.in_ok-session.ensures.lookup in
    let items : c.deref.result.now ≡ c.args.self.now.journals = c.deref.ensures.value ∙ journals_of _ _ c.self.view_is in
    let j : Journal = c.in_ok-session.session.now in
    let held : slice_get c.deref.result.now c.from.result ≡ Some j = slice_get_read c.deref.result.now (length c.deref.result.now) c.from.result j refl there.3.0 there.1 in
    let at : slice_get c.args.self.now.journals c.args.session ≡ Some j = subst (λ (js : List Journal). slice_get js c.args.session ≡ Some j) items (subst (λ i. slice_get c.deref.result.now i ≡ Some j) c.from.ensures held) in
    (j, at, c.as_slice.ensures.value ∙ ap (λ (x : Journal). x.answers) c.session.view_is)

pub returns-clause-none : goal.returns-clause-none
returns-clause-none g c =
    let items : c.deref.result.now ≡ c.args.self.now.journals = c.deref.ensures.value ∙ journals_of _ _ c.self.view_is in
    let many = ap (λ (js : List Journal). length js) items in
    let whole = as_many _ _ c.self.view_is c.self.invariant.0 in
    let place = c.from.ensures in
    let within = c.in_ok-session.ensures.lookup.3.0 in
    (λ t. absurd (true≢false t), λ unmade. absurd (omega (arith, many, whole, place, within, unmade)))
