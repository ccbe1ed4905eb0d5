use Rattle.nw_ed25519.proofs.Words.{◌≡◌, ◌*◌, ◌/◌, ◌^◌, subst, arith, base, negated, point_of, not_divided-has_inverse, negative_of, negative_valid, negated_represents, affine_base, base_valid, base_represents, coordinates, PointIfAny, decoded_point}
use Rattle.nw_ed25519.specs.Comb.{rows}
use Rattle.nw_ed25519.proofs.CombSums.{above, first_digits, next_digits, next_base_digits, none_above, all_windows}
use Rattle.nw_ed25519.proofs.Expected.{expected_of_key}
use Rattle.nw_ed25519.proofs.prepared.expected_by_combs.Goals as goal

pub returns : goal.returns
returns c bytes p h bb bk hb hk =
    let on = subst PointIfAny h (decoded_point bytes) in
    let key = coordinates p in
    let q = negated p in
    let n = negative_of key in
    let s = c.args.s.now in
    let k = c.args.k.now in
    let valid = negative_valid key on.0 in
    let keyed = negated_represents p key on.0 on.1 in
    let keys : c.args.keys.now.entries.items ≡ rows (2 ^ c.args.keys.now.bits / 16) 16 q = rw bk hk in
    let bases : c.args.bases.now.entries.items ≡ rows (2 ^ c.args.bases.now.bits / 16) 16 base = rw bb hb in
    let highest = first_digits k (point_of c.identity.result) (point_of c.with_rows-highest.result) q affine_base n base_valid valid keyed c.identity.ensures (rw bk at (c.with_rows-highest.ensures q keys)) in
    let upper = next_digits 8 0 k (point_of c.with_rows-highest.result) (point_of c.doubled_with_rows-upper.result) q affine_base n base_valid valid keyed highest (rw bk at (c.doubled_with_rows-upper.ensures q keys)) in
    let half = next_base_digits 8 (16 * 0) (above 16 8 k) s (point_of c.doubled_with_rows-upper.result) (point_of c.with_rows-half.result) base affine_base n base_valid valid base_represents upper (none_above s) (rw bb at (c.with_rows-half.ensures base bases)) in
    let middle = next_digits 4 (above 16 8 s) k (point_of c.with_rows-half.result) (point_of c.doubled_with_rows-middle.result) q affine_base n base_valid valid keyed half (rw bk at (c.doubled_with_rows-middle.ensures q keys)) in
    let lower = next_digits 0 (16 * above 16 8 s) k (point_of c.doubled_with_rows-middle.result) (point_of c.doubled_with_rows-lower.result) q affine_base n base_valid valid keyed middle (rw bk at (c.doubled_with_rows-lower.ensures q keys)) in
    let last = point_of c.with_rows.result in
    let all : 16 * (16 * above 16 8 s) ≡ 256 * above 16 8 s = omega arith in
    let r = all_windows s k last affine_base n c.requires.s c.requires.k
    (next_base_digits 0 (16 * (16 * above 16 8 s)) (above 16 0 k) s (point_of c.doubled_with_rows-lower.result) last base affine_base n base_valid valid base_represents lower all (rw bb at (c.with_rows.ensures base bases))) in
    rw c.point.ensures (not_divided-has_inverse last.z r.z_not_zero, expected_of_key s k bytes p last h c.requires.s c.requires.k r)
