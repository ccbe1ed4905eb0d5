use Rattle.nw_plain.proofs.Wanting.{SoFar}
use Rattle.nw_plain.proofs.plain.Plain.wanted.Given as goal

abbrev pub invariant-loop-digest : goal.invariant-loop-digest
invariant-loop-digest l = SoFar l.self.state l._digest-iterator l.wanted.keys
