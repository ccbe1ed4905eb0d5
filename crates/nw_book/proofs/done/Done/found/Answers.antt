use Rattle.nw_book.proofs.Words.{Some, ◌∙◌, digest_of}
use Rattle.nw_model.specs.declared.reply.Reply.TheVariants as reply
use Rattle.nw_model.proofs.Integrity.{reads_one}
use Rattle.nw_book.proofs.Given.{gives}
use Rattle.nw_book.proofs.done.Done.found.Goals as goal

pub unreachable-requires : goal.unreachable-requires
unreachable-requires g c =
    let b = c.in_ok-block.block.now in
    let given = gives g.S.Scheme.accepts c.self.inside.entry c.args.self.now (reply.Read (Some b)) c.call.ensures.legal c.call.ensures.last c.self.view_is c.in_ok-block.ensures.found in
    c.in_default.not-Read (digest_of b) (c.call.ensures.call ∙ given.0)

pub returns-clause-found : goal.returns-clause-found
returns-clause-found g c =
    let b = c.in_ok-block.block.now in
    let given = gives g.S.Scheme.accepts c.self.inside.entry c.args.self.now (reply.Read (Some b)) c.call.ensures.legal c.call.ensures.last c.self.view_is c.in_ok-block.ensures.found in
    (c.in_ok-block.ensures.found, reads_one c.call.result.now c.in-Read.digest (digest_of b) c.in-Read.is (c.call.ensures.call ∙ given.0))

pub returns-clause-well_formed : goal.returns-clause-well_formed
returns-clause-well_formed g c =
    (gives g.S.Scheme.accepts c.self.inside.entry c.args.self.now (reply.Read (Some c.in_ok-block.block.now)) c.call.ensures.legal c.call.ensures.last c.self.view_is c.in_ok-block.ensures.found).1
