use Rattle.nw_book.proofs.Words.{◌≡◌, ℕ, ◌<◌, ◌≤◌, length, get_or, arith, ap, List, ◌∙◌, length-filter, count_by-le-length, ◌==◌, events_of, Event}
use Rattle.nw_book.proofs.book.Book.next_number.Goals as goal

pub overflow_add-result : goal.overflow_add-result
overflow_add-result g c =
    let story = c.self.inside.history in
    let counts = c.self.inside.calls.items in
    let value : c.in-Some.calls.now ≡ get_or c.deref.result.now c.from.result 0 = c.in-Some.ensures.lookup.3.1 0 in
    let here : get_or c.deref.result.now c.from.result 0 ≡ get_or counts c.args.session 0 = ap (λ (l : List ℕ). get_or l c.from.result 0) c.deref.ensures.value ∙ ap (λ n. get_or counts n 0) c.from.ensures in
    let below : c.args.session < length counts = rw (← c.deref.ensures.value, ← c.from.ensures) c.in-Some.ensures.lookup.3.0 in
    let many : get_or counts c.args.session 0 ≡ length (events_of c.args.session story.events) = c.self.invariant.counted.each c.args.session below in
    let few = length-filter (λ (e : Event). e.session == c.args.session) story.events in
    let fewer = count_by-le-length (λ (e : Event). e.session == c.args.session) story.events in
    let short : length story.events ≤ story.limits.events = c.self.invariant.legal.short in
    let bound : story.limits.events ≤ 65536 = c.self.invariant.in_range.events.bounded in
    omega (arith, value, here, many, few, fewer, short, bound)
