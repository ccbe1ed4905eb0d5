use Rattle.nw_shared_store.proofs.Words.{◌<◌, subst, sym, refl, arith}
use Rattle.nw_shared_store.specs.Rule.{witness}
use Rattle.nw_shared_store.proofs.Cut.{splits}
use Rattle.nw_shared_store.proofs.Agreed.{witness_fits}
use Rattle.nw_shared_store.proofs.lock.cut_witness.Goals as goal

pub split_seat-requires : goal.split_seat-requires
split_seat-requires g c =
    let v = c.args.seat.now.me.0 in (
      c.requires.lock.same,
      subst (λ n. 0 < n) (sym c.requires.lock.words) (omega arith),
      splits g.S.Scheme.accepts c.args.lock.now.shared.key c.args.seat.now.id v v (witness v) refl refl (λ s h mine. (mine, witness_fits g.S.Scheme.accepts h.0 h.1 h.3 h.2 c.args.seat.now.id v mine)),
    )
