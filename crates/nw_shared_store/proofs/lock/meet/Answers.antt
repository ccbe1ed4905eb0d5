use Rattle.nw_shared_store.proofs.Words.{◌≡◌, ℕ, ◌<◌, List, [], ◌∷◌, subst, sym, ◌∙◌, ap, arith, none, Allows, step, Me}
use Rattle.nw_shared_store.specs.Locked.{Current}
use Rattle.nw_shared_store.specs.Rule.{Agrees, IsOneHistory, SeatView, witness_of_two}
use Rattle.nw_shared_store.proofs.Agreed.{agrees, meets}
use Rattle.nw_shared_store.proofs.lock.meet.Goals as goal

pub join_seat-requires : goal.join_seat-requires
join_seat-requires g c = (
  c.requires.lock.same,
  c.requires.other_lock,
  c.requires.other_out,
  subst (λ n. 0 < n) (sym c.requires.lock.words) (omega arith),
  meets g.S.Scheme.accepts c.args.lock.now.shared.key c.args.mine.id c.args.mine.me.0 c.args.other.id c.args.other.me.0,
)

pub load-requires : goal.load-requires
load-requires g c =
    let lock = c.args.lock.now.shared in
    let slots = lock.table_id.slots in
    let me : c.join_seat.new.seat.me ≡ (witness_of_two c.args.mine.me.0 c.args.other.me.0, []) = c.join_seat.ensures.2 ∙ ap (λ (l : List (ℕ × Current)). (witness_of_two c.args.mine.me.0 c.args.other.me.0, l)) c.requires.out in (
      c.join_seat.ensures.0 ∙ c.requires.lock.same,
      subst (λ n. 0 < n) (sym c.requires.lock.words) (omega arith),
      subst (λ (m : Me Current SeatView). Allows (IsOneHistory g.S.Scheme.accepts lock.key) slots c.join_seat.new.seat.id m 0 (λ n. n) (Agrees (step slots 0 0 0 none) m)) (sym me) (agrees g.S.Scheme.accepts lock.key slots c.join_seat.new.seat.id (witness_of_two c.args.mine.me.0 c.args.other.me.0)),
    )
