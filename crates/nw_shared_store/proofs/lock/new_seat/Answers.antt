use Rattle.nw_shared_store.proofs.Words.{subst, sym, ◌<◌, arith}
use Rattle.nw_shared_store.proofs.Steps.{comes}
use Rattle.nw_shared_store.proofs.lock.new_seat.Goals as goal

pub load_new_seat-requires : goal.load_new_seat-requires
load_new_seat-requires g c =
    let lock = c.args.lock.now.shared in
    let one = c.requires.0 in
    (subst (λ n. 0 < n) (sym one) (omega arith), comes g.S.Scheme.accepts lock.key lock.table_id.slots)
