use Rattle.nw_model.proofs.Views.{ancestors_shown}
use Rattle.nw_model.proofs.laws.views_show_the_ancestors.Goals as goal

pub returns : goal.returns
returns c = ancestors_shown
