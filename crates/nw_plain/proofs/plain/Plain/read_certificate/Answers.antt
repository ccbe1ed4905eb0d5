use Rattle.nw_plain.proofs.Words.{Some, sym, ◌∙◌, ap, get_lookup, digests_total}
use Rattle.nw_plain.proofs.plain.Plain.read_certificate.Goals as goal

pub returns-in-None : goal.returns-in-None
returns-in-None c = rw (← c.self.view_is) (c.in-None.ensures.value ∙ sym (get_lookup digests_total _ _))

pub returns-in_ok-try_clone-in-Some : goal.returns-in_ok-try_clone-in-Some
returns-in_ok-try_clone-in-Some c = rw (← c.self.view_is) (ap Some c.in_ok-try_clone-in-Some.ensures ∙ c.in-Some.ensures.value ∙ sym (get_lookup digests_total _ _))
