use Rattle.std.proofs.Common.{◌≡◌, ℕ, ◌+◌, ◌*◌, List, [], ◌∷◌, length, refl, arith, length-append}
use Rattle.std.specs.List.{flat_map}
use Rattle.std.proofs.lemmas.List.Sums.{sum_by-cons}
use Rattle.nw_codec.specs.Fits.{transactions_size}
use Rattle.nw_c.proofs.blocks.transactions.size_of_all.Goals as goal

-- in a body, transactions take their bytes and 4 for each length
in_body : (ts : List (List ℕ)) → transactions_size ts ≡ 4 * length ts + length (flat_map (λ t. t) ts)
in_body [] = refl
in_body (t ∷ ts) =
    let first = sum_by-cons (λ (t : List ℕ). 4 + length t) t ts in
    let rest = in_body ts in
    let bytes = length-append t (flat_map (λ t. t) ts) in
    omega (arith, first, rest, bytes)

pub overflow_mul-result : goal.overflow_mul-result
overflow_mul-result c = omega (arith, c.size.ensures.low, c.size.ensures.size, in_body c.args.transactions.now, c.len.ensures.count)

pub overflow_sub-result : goal.overflow_sub-result
overflow_sub-result c = omega (arith, c.size.ensures.size, in_body c.args.transactions.now, c.len.ensures.count)

pub returns : goal.returns
returns c = omega (arith, c.size.ensures.size, in_body c.args.transactions.now, c.len.ensures.count)
