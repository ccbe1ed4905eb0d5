use Rattle.nw_book.proofs.Words.{◌∙◌, subst, sym, Shows, IsLegalStory, state_of}
use Rattle.nw_book.proofs.Opened.{opened}
use Rattle.nw_book.proofs.book.Book.take_open.Goals as goal

pub new-requires : goal.new-requires
new-requires g c =
    let known = c.in_ok-front-in-Ok.ensures in
    let frozen = rw c.in-Ok.is at c.in_ok-view.ensures.answer in
    let shows : Shows c.in-Ok.view.frozen (state_of c.args.self.now) = frozen.1 in
    opened g.S.Scheme.accepts c.args.self.now c.in_ok-front-in-Ok.front c.args.session c.args.number c.args.digest c.in-Ok.view.frozen
    (rw (c.freeze_for.ensures.same, c.read_event-event.ensures) at (known.front ∙ known.history))
    (subst (IsLegalStory g.S.Scheme.accepts) (sym known.front) known.legal) shows
