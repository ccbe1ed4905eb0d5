use Rattle.nw_state.proofs.Words.{◌≡◌, ◌+◌, List, [], ◌∷◌, ◌++◌, get_or, take, sym, subst, take_more, Digest}
use Rattle.nw_state.specs.Dropping.{DropsBelow}
use Rattle.nw_state.proofs.Dropped.{drops_none, drops_more}
use Rattle.nw_state.proofs.tables.dropping.drop_below.Goals as goal

pub loop-digest-init : goal.loop-digest-init
loop-digest-init g c = drops_none g.V.InRound.round_of c.args.round c.args.entries.now c.requires

pub drop_if_below-requires : goal.drop_if_below-requires
drop_if_below-requires g c = c.loop-digest.invariant.ordered

pub loop-digest-preserved : goal.loop-digest-preserved
loop-digest-preserved g c =
    let none : Digest = record { 0 = [] } in
    let seen : List Digest = take c.loop-digest.digest-index c.args.digests.now in
    let d : Digest = get_or c.args.digests.now c.loop-digest.digest-index none in
    let more : take (c.loop-digest.digest-index + 1) c.args.digests.now ≡ seen ++ d ∷ [] = take_more c.args.digests.now c.loop-digest.digest-index none c.loop-digest-test.true in
    subst (λ xs. DropsBelow g.V.InRound.round_of c.args.round xs c.args.entries.now c.drop_if_below.new.entries) (sym more)
    (drops_more g.V.InRound.round_of c.args.round seen d c.args.entries.now c.loop-digest.entries c.drop_if_below.new.entries c.loop-digest.invariant c.drop_if_below.ensures)
