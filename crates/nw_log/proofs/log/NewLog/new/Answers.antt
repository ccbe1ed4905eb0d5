use Rattle.nw_log.proofs.Steps.{opens}
use Rattle.nw_log.proofs.log.NewLog.new.Goals as goal

pub of_words-requires : goal.of_words-requires
of_words-requires g c = opens g.row.E.Denot
