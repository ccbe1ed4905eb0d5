use Rattle.nw_store.proofs.Words.{Result, Ok, Err}
use Rattle.std.specs.Prelude.{IfOk}
use Rattle.nw_store.proofs.locked.look_round_locked.Goals as goal

if_ok : {T E : Type 0} (r : Result T E) {P Q : T → Type 0} → ((x : T) → P x → Q x) → IfOk r P → IfOk r Q
if_ok (Ok x) f p = f x p
if_ok (Err e) f p = p

pub returns-clause-seen : goal.returns-clause-seen
returns-clause-seen g c = if_ok c.look_round.result (λ looks are. (c.locked.inside.book, record { starts = c.locked.invariant.2; legal = c.locked.invariant.1.legal }, are)) c.look_round.ensures
