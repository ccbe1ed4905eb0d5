use Rattle.nw_curve.proofs.Powers.{power_first, power_step}
use Rattle.nw_curve.proofs.field.number.Number.power_of_250_ones.Goals as goal

pub returns : goal.returns
returns c =
    let a = c.args.self.now in
    let two = power_first a 2 c.squared_times.result c.times-two.result c.squared_times.ensures c.times-two.ensures in
    let four = c.append_ones-four.ensures a 2 two two in
    let five = power_step a 15 2 c.append_ones-four.result c.squared_times-2.result c.times-five.result four c.squared_times-2.ensures c.times-five.ensures in
    let ten = c.append_ones-ten.ensures a 5 five five in
    let twenty = c.append_ones-twenty.ensures a 10 ten ten in
    let twenty_five = c.append_ones-twenty_five.ensures a 20 twenty five in
    let fifty = c.append_ones-fifty.ensures a 25 twenty_five twenty_five in
    let hundred = c.append_ones-hundred.ensures a 50 fifty fifty in
    let half = c.append_ones-half.ensures a 100 hundred twenty_five in
    c.append_ones.ensures a 125 half half
