use Rattle.nw_decode.proofs.Words.{refl}
use Rattle.nw_decode.specs.declared.error.DecodeError.TheVariants.{Version}
use Rattle.nw_decode.specs.Faults.{AtVersion, AtAuthor, AtRound}
use Rattle.nw_decode.proofs.Fronts.{later}
use Rattle.nw_decode.proofs.Fields.{exit, passed_as, failed_as, one_passes, one_fails, short_as, number_passes, tagged, head_at}
use Rattle.nw_decode.proofs.decode.block.read_head.Goals as goal

pub returns-in_err-version : goal.returns-in_err-version
returns-in_err-version c = exit _ _ _ _ c.from_residual.ensures.1 (short_as AtVersion 1 _ _ refl c.in_err-version.ensures.0 c.in_err-version.ensures.1)

pub returns-then-version-ne-VERSION : goal.returns-then-version-ne-VERSION
returns-then-version-ne-VERSION c = let version = c.in_ok-version.ensures in failed_as AtVersion 1 _ _ Version refl version.0 version.1 (one_fails _ AtAuthor Version c.if-version-ne-VERSION.true)

pub returns-in_err-author : goal.returns-in_err-author
returns-in_err-author c =
    let field = c.in_ok-version.ensures in
    let version = passed_as AtVersion AtAuthor 1 _ _ _ refl field.0 field.1 field.2 (one_passes _ AtAuthor Version c.if-version-ne-VERSION.false) in
    exit _ _ _ _ c.from_residual-in_err-author.ensures.1 (later AtVersion AtAuthor _ _ _ version (short_as AtAuthor 2 _ _ refl c.in_err-author.ensures.0 c.in_err-author.ensures.1))

pub returns-in_err-round : goal.returns-in_err-round
returns-in_err-round c =
    let field = c.in_ok-version.ensures in
    let version = passed_as AtVersion AtAuthor 1 _ _ _ refl field.0 field.1 field.2 (one_passes _ AtAuthor Version c.if-version-ne-VERSION.false) in
    let author = number_passes AtAuthor AtRound _ _ _ refl c.in_ok-author.ensures refl in
    exit _ _ _ _ c.from_residual-in_err-round.ensures.1 (later AtVersion AtAuthor _ _ _ version (later AtAuthor AtRound _ _ _ author (short_as AtRound 6 _ _ refl c.in_err-round.ensures.0 c.in_err-round.ensures.1)))

pub returns : goal.returns
returns c =
    let version = c.in_ok-version.ensures in
    head_at _ _ _ _ _ _ 1 (tagged _ _ _ 1 version.0 version.1 version.2 c.if-version-ne-VERSION.false) refl c.in_ok-author.ensures c.in_ok-round.ensures
