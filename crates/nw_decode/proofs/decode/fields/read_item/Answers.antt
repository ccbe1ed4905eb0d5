use Rattle.nw_decode.proofs.Words.{rules, length, ◌≡◌, ◌++◌, suc, sym, ◌∙◌, Some, arith, w16, to_be_bytes, length-append, are_bytes}
use Rattle.nw_decode.proofs.Fronts.{onward, later}
use Rattle.nw_decode.proofs.Fields.{exit, passed_as, short_as, item_at, member_leads, member_fails}
use Rattle.nw_decode.proofs.decode.fields.read_item.Goals as goal

pub returns-in_err-author-clause-leads : goal.returns-in_err-author-clause-leads
returns-in_err-author-clause-leads g c at inside more items =
    let member = items.members more c.args.before in
    exit _ _ _ _ c.from_residual.ensures.1 (short_as (at (suc more) c.args.before) 2 _ _ member.wide c.in_err-author.ensures.0 c.in_err-author.ensures.1)

pub returns-then-not-is_in_order-clause-leads : goal.returns-then-not-is_in_order-clause-leads
returns-then-not-is_in_order-clause-leads g c at inside more items =
    let member = items.members more c.args.before in
    member_fails _ c.args.before c.args.disorder (inside more) _ _ _ member c.in_ok-author.ensures (sym c.is_in_order.ensures ∙ c.if-not-is_in_order.true)

pub returns-in_err-_bytes-clause-leads : goal.returns-in_err-_bytes-clause-leads
returns-in_err-_bytes-clause-leads g c at inside more items =
    let member = items.members more c.args.before in
    let author = member_leads (at (suc more) c.args.before) c.args.before c.args.disorder (inside more) _ _ _ member c.in_ok-author.ensures (sym c.is_in_order.ensures ∙ c.if-not-is_in_order.false) in
    exit _ _ _ _ c.from_residual-in_err-_bytes.ensures.1 (later _ _ _ _ _ author (short_as (inside more c.in_ok-author.author) g.row.N _ _ (items.wide more c.in_ok-author.author) c.in_err-_bytes.ensures.0 c.in_err-_bytes.ensures.1))

pub returns-clause-item : goal.returns-clause-item
returns-clause-item g c =
    let each = are_bytes _ c.type_inv.text in
    let bytes = c.in_ok-_bytes.ensures in
    let long : length c.in_ok-_bytes._bytes.now ≡ g.row.N = search rules in
    let item = item_at g.row.N c.in_ok-author.author _ _ _ _ each long c.in_ok-author.ensures bytes.1 bytes.2 in
    (to_be_bytes w16 c.in_ok-author.author ++ c.in_ok-_bytes._bytes.now, omega (arith, length-append (to_be_bytes w16 c.in_ok-author.author) c.in_ok-_bytes._bytes.now, item.len), item.whole)

pub returns-clause-leads : goal.returns-clause-leads
returns-clause-leads g c at inside more items =
    let member = items.members more c.args.before in
    let signer = c.in_ok-author.author in
    let bytes = c.in_ok-_bytes.ensures in
    let author = member_leads (at (suc more) c.args.before) c.args.before c.args.disorder (inside more) _ _ _ member c.in_ok-author.ensures (sym c.is_in_order.ensures ∙ c.if-not-is_in_order.false) in
    let others = passed_as (inside more signer) (at more (Some signer)) g.row.N _ _ _ (items.wide more signer) bytes.0 bytes.1 bytes.2 (items.passes more signer _) in
    onward _ _ _ _ _ _ author others
