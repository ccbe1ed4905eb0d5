use Rattle.nw_curve.proofs.OddMultiples.{first_multiple, next_multiple}
use Rattle.nw_curve.proofs.curve.table.Table.of.Goals as goal

pub returns : goal.returns
returns c =
    let p = c.args.point.now in
    let q = c.doubled.result in
    let by = c.of-double.ensures in
    let twice = c.doubled.ensures in
    let first = first_multiple p in
    let third = next_multiple 0 p q p c.plus-third.result twice first (c.plus-third.ensures q by) in
    let fifth = next_multiple 1 p q c.plus-third.result c.plus-fifth.result twice third (c.plus-fifth.ensures q by) in
    let seventh = next_multiple 2 p q c.plus-fifth.result c.plus-seventh.result twice fifth (c.plus-seventh.ensures q by) in
    let ninth = next_multiple 3 p q c.plus-seventh.result c.plus-ninth.result twice seventh (c.plus-ninth.ensures q by) in
    let eleventh = next_multiple 4 p q c.plus-ninth.result c.plus-eleventh.result twice ninth (c.plus-eleventh.ensures q by) in
    let thirteenth = next_multiple 5 p q c.plus-eleventh.result c.plus-thirteenth.result twice eleventh (c.plus-thirteenth.ensures q by) in
    let fifteenth = next_multiple 6 p q c.plus-thirteenth.result c.plus-fifteenth.result twice thirteenth (c.plus-fifteenth.ensures q by) in
    cc (c.of.ensures, c.of-2.ensures, c.of-3.ensures, c.of-4.ensures, c.of-5.ensures, c.of-6.ensures, c.of-7.ensures, c.of-8.ensures)
