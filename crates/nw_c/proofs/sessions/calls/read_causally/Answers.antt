use Rattle.nw_c.proofs.sessions.calls.read_causally.Goals as goal

pub returns-in-Ok-Ok-clause-read : goal.returns-in-Ok-Ok-clause-read
returns-in-Ok-Ok-clause-read c =
    let answered = rw c.in-Ok-Ok.field-0-is at c.in-Ok-Ok.ensures.answered in
    let own = rw c.in-Ok-Ok.field-0-is at c.in-Ok-Ok.ensures.own_calls in
    let told = rw c.in-Ok-Ok.field-0-is at c.in-Ok-Ok.ensures.told in
    let recorded = rw c.in-Ok-Ok.field-0-is at c.in-Ok-Ok.ensures.recorded in
    (record { same = c.open_causal.ensures.same; explained = answered; own_calls = own; recorded = recorded; goes_on = c.in-Ok-Ok.ensures.goes_on }, told)

pub returns-in-Ok-Err-clause-read : goal.returns-in-Ok-Err-clause-read
returns-in-Ok-Err-clause-read c =
    let answered = rw c.in-Ok-Err.field-0-is at c.in-Ok-Err.ensures.answered in
    let own = rw c.in-Ok-Err.field-0-is at c.in-Ok-Err.ensures.own_calls in
    let told = rw c.in-Ok-Err.field-0-is at c.in-Ok-Err.ensures.told in
    let recorded = rw c.in-Ok-Err.field-0-is at c.in-Ok-Err.ensures.recorded in
    (record { same = c.open_causal.ensures.same; explained = answered; own_calls = own; recorded = recorded; goes_on = c.in-Ok-Err.ensures.goes_on }, told)
