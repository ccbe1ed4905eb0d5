use Rattle.nw_shared_store.proofs.Words.{◌<◌, subst, sym, arith}
use Rattle.nw_shared_store.specs.Rule.{after_share, for_share}
use Rattle.nw_shared_store.proofs.Cut.{cuts}
use Rattle.nw_shared_store.proofs.lock.cut_owner.Goals as goal

pub split_seat-requires : goal.split_seat-requires
split_seat-requires g c =
    let v = c.args.seat.now.me.0 in (
      c.requires.lock.same,
      subst (λ n. 0 < n) (sym c.requires.lock.words) (omega arith),
      cuts g.S.Scheme.accepts c.args.lock.now.shared.key c.args.seat.now.id v (after_share v).right (for_share v).right c.requires.idle (λ now k same. (k.count, omega arith)),
    )
