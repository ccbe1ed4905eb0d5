use Rattle.std.proofs.Common.{◌<◌, arith, length}
use Rattle.nw_c.proofs.Looks.{copied}
use Rattle.nw_c.proofs.sessions.look.copy_all.Goals as goal

pub loop-index-preserved : goal.loop-index-preserved
loop-index-preserved c =
    let place : c.loop-index.index < length c.loop-index.looks = omega (arith, c.requires, c.loop-index.auto.looks, c.loop-index-test.true) in
    copied c.loop-index.looks c.args.found.now c.loop-index.index c.of.result c.index-found-index.result place c.loop-index-test.true c.of.ensures c.index-found-index.is c.loop-index.invariant
