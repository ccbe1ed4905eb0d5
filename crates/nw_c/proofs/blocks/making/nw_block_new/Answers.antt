use Rattle.std.proofs.Common.{sym, ◌∙◌}
use Rattle.nw_c.proofs.Cut.{fits_as, one_cut}
use Rattle.nw_c.proofs.blocks.making.nw_block_new.Goals as goal

pub returns-then-not-fits-clause-over_limit : goal.returns-then-not-fits-clause-over_limit
returns-then-not-fits-clause-over_limit c = λ code b is.
    let made = c.in-Ok.ensures.made in
    let same = one_cut b.transactions c.in-Ok.transactions (is.3.0 ∙ sym made.0) (is.3.1 ∙ sym made.1) in
    let fits = fits_as b (record { author = c.args.author; round = c.in-Some.round; parents = c.new-2.result; transactions = c.in-Ok.transactions }) (is.2 ∙ sym (c.new-2.ensures ∙ c.in-Ok-parents_of.ensures)) same is.4 in
    let h = c.if-not-fits.ensures.1 fits in cc
