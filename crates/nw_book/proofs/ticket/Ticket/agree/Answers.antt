use Rattle.nw_book.proofs.Words.{◌≡◌, ap, sym, ◌∙◌}
use Rattle.nw_book.specs.Ticket.{TicketView}
use Rattle.nw_book.proofs.Agreed.{other_there, tickets_agree}
use Rattle.nw_book.proofs.Opened.{ticket_there}
use Rattle.nw_book.proofs.ticket.Ticket.agree.Goals as goal

-- two tickets have the same digest if their views in contracts have the same digest
one_digest : (t u x y : TicketView) → x ≡ t → y ≡ u → t.digest ≡ u.digest → x.digest ≡ y.digest
one_digest t u x y first second same = ap (λ (z : TicketView). z.digest) first ∙ same ∙ sym (ap (λ (z : TicketView). z.digest) second)

pub agree-requires-clause-in_one : goal.agree-requires-clause-in_one
agree-requires-clause-in_one g c = ticket_there g.S.Scheme.accepts _ _ c.self.invariant

pub agree-requires-clause-in_other : goal.agree-requires-clause-in_other
agree-requires-clause-in_other g c = other_there g.S.Scheme.accepts _ _ _ c.other.invariant (one_digest _ _ _ _ c.self.view_is c.other.view_is c.requires.digests)

pub returns : goal.returns
returns g c = record {
  agreed = rw (← c.self.view_is, ← c.other.view_is)
      (tickets_agree g.S.Scheme.accepts _ _ _ _ _ c.self.invariant c.other.invariant (one_digest _ _ _ _ c.self.view_is c.other.view_is c.requires.digests) c.agree.ensures);
}
