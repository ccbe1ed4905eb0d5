use Rattle.std.proofs.Common.{rules, ◌≡◌, [], subst, sym}
use Rattle.nw_history.specs.Story.{IsLegalStory, reopened, story_of}
use Rattle.nw_history.proofs.Reopened.{reopened_legal}
use Rattle.nw_history.proofs.front.Front.restarted.Goals as goal

pub without_events-requires : goal.without_events-requires
without_events-requires g c =
    let is : story_of c.new-start.result [] ≡ reopened c.args.self.now = search rules in
    subst (IsLegalStory g.S.Scheme.accepts) (sym is) (reopened_legal g.S.Scheme.accepts c.args.self.now c.committee.ensures.legal)
