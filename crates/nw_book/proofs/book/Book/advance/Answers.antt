use Rattle.nw_book.proofs.Words.{arith, refl, ◌∙◌, IsLegalStory, with_event}
use Rattle.nw_book.specs.Turn.{IsInTurn}
use Rattle.nw_book.proofs.IsBook.{count_fits, book_next}
use Rattle.nw_book.proofs.book.Book.advance.Goals as goal

pub overflow_add-index_mut : goal.overflow_add-index_mut
overflow_add-index_mut g c =
    let s = c.self.inside.history in
    let turn : IsInTurn s c.args.event.now.session c.args.event.now.number = rw c.self.view_is c.requires.turn in
    let few = count_fits g.S.Scheme.accepts _ _ s c.args.event.now.session _ _ c.self.invariant turn.session_below c.from.ensures c.index_mut.ensures.value in
    omega (arith, few)

pub invariant_of-self-2 : goal.invariant_of-self-2
invariant_of-self-2 g c =
    let s = c.self.inside.history in
    let turn : IsInTurn s c.args.event.now.session c.args.event.now.number = rw c.self.view_is c.requires.turn in
    let legal : IsLegalStory g.S.Scheme.accepts (with_event s c.args.event.now) = rw c.self.view_is c.requires.legal in
    book_next g.S.Scheme.accepts c.self.inside.tables c.take.new.self c.self.inside.calls.items s c.in_ok-own.own c.args.event.now c.args.event.now.session _ _ c.self.invariant legal turn.session_below refl
    c.from.ensures c.index_mut.ensures.value (c.in_ok-own.ensures.same ∙ rw c.self.view_is c.requires.front) (λ i. record { bounds = c.in_ok-take.ensures.bounds i; state = c.in_ok-take.ensures.state i })
