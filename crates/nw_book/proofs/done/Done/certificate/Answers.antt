use Rattle.nw_book.proofs.Words.{Some}
use Rattle.std.proofs.Common.{rules}
use Rattle.nw_model.specs.declared.reply.Reply.TheVariants as reply
use Rattle.nw_book.proofs.Given.{gives}
use Rattle.nw_book.proofs.done.Done.certificate.Goals as goal

pub returns-in-Certificate-Some-clause-valid : goal.returns-in-Certificate-Some-clause-valid
returns-in-Certificate-Some-clause-valid g c =
    gives g.S.Scheme.accepts c.self.inside.entry c.args.self.now (reply.Certificate (Some c.in-Certificate-Some.certificate)) c.reply.ensures.legal c.reply.ensures.last c.self.view_is (search rules)
