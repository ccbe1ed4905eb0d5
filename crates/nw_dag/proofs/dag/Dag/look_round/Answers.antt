use Rattle.nw_dag.proofs.Words.{◌∙◌, ap, get_or, take_all}
use Rattle.nw_dag.proofs.Looks.{all_looks, authors_of, next_author, next_look, no_looks}
use Rattle.nw_dag.proofs.dag.Dag.look_round.Goals as goal

pub loop-author-init : goal.loop-author-init
loop-author-init c = record {
  authors = ap authors_of c.in_ok-looks.ensures.items;
  looks = no_looks c.args.self.now.state c.args.round c.in_ok-looks.looks.items c.in_ok-looks.ensures.items;
}

pub loop-author-preserved : goal.loop-author-preserved
loop-author-preserved c =
    let authors = c.as_slice-author-items.result.now in
    let i = c.loop-author.author-index in
    record {
      authors = next_author c.loop-author.looks.items c.push.new.self.items authors i c.look.result c.loop-author-test.true c.in_ok-push.ensures.items c.loop-author.invariant.authors;
      looks = next_look c.args.self.now.state c.args.round c.loop-author.looks.items c.push.new.self.items (get_or authors i 0) c.look.result c.in_ok-push.ensures.items c.loop-author.invariant.looks c.look.ensures.look;
    }

pub returns : goal.returns
returns c =
    let whole = c.loop-author.invariant.authors ∙ take_all c.loop-author.author-index c.as_slice-author-items.result.now c.loop-author-test.false ∙ c.as_slice-author-items.ensures.value in
    all_looks c.args.self.now.state c.args.round c.in_ok-authors.authors.items c.loop-author.looks.items (rw (← c.self.view_is) c.in_ok-authors.ensures) whole c.loop-author.invariant.looks
