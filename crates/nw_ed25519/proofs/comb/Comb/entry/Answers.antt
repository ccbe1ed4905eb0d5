use Rattle.nw_ed25519.proofs.Words.{ℕ, ◌*◌, ◌+◌, ◌/◌, ◌^◌, ◌<◌, ◌∙◌, ap, subst, sym, List, get_or, arith, AffineAddend}
use Rattle.nw_ed25519.proofs.Combs.{in_row, in_row_below, place_within, rows_entry, blocks_of}
use Rattle.nw_ed25519.proofs.comb.Comb.entry.Goals as goal

pub index-requires : goal.index-requires
index-requires c =
    let bits = c.args.self.now.bits in
    let all = blocks_of bits c.args.self.now.many c.args.self.now.few in
    let digit : c.args.digit < 16 * (2 ^ bits / 16) = omega (arith, all, c.requires.digit) in
    let below = place_within 16 c.args.row (in_row c.args.digit) (2 ^ bits) c.requires.row (subst (λ n. in_row c.args.digit < n) all (in_row_below (2 ^ bits / 16) c.args.digit digit)) in
    rw c.power_of_two.ensures.value (subst (λ n. c.args.row * 2 ^ bits + in_row c.args.digit < n) (sym c.args.self.now.size) below)

pub returns : goal.returns
returns c p e =
    let x = c.index.result.now in
    let bits = c.args.self.now.bits in
    let row = c.args.row in
    let d = c.args.digit in
    let all = blocks_of bits c.args.self.now.many c.args.self.now.few in
    let digit : d < 16 * (2 ^ bits / 16) = omega (arith, all, c.requires.digit) in
    c.index.ensures ∙ (ap (λ (w : ℕ). get_or c.args.self.now.entries.items (row * w + in_row d) x) (c.power_of_two.ensures.value ∙ sym all)
    ∙ (ap (λ (entries : List AffineAddend). get_or entries (row * (16 * (2 ^ bits / 16)) + in_row d) x) e ∙ rows_entry (2 ^ bits / 16) 16 row d p x c.requires.row digit))
