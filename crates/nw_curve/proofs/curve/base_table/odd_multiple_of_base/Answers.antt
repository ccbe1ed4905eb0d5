use Rattle.nw_curve.proofs.BaseTable.{difference_below, sum_below, product_below, row_prepared}
use Rattle.nw_curve.proofs.curve.base_table.odd_multiple_of_base.Goals as goal

pub number_of-requires : goal.number_of-requires
number_of-requires c = difference_below c.args.index c.requires

pub number_of-requires-2 : goal.number_of-requires-2
number_of-requires-2 c = sum_below c.args.index c.requires

pub number_of-requires-3 : goal.number_of-requires-3
number_of-requires-3 c = product_below c.args.index c.requires

pub returns : goal.returns
returns c = row_prepared c.args.index c.requires c.number_of.result c.number_of-2.result c.number_of-3.result c.number_of.ensures c.number_of-2.ensures c.number_of-3.ensures
