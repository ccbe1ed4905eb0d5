use Rattle.std.proofs.Common.{◌≡◌, ◌+◌, ◌*◌, ◌^◌, ◌≤◌, length, ap, sym, arith, ◌∙◌}
use Rattle.nw_shared_list.specs.SharedList.{chunked, items_of}
use Rattle.nw_shared_list.proofs.Chunked.{items_count}
use Rattle.nw_shared_list.proofs.chunks.SharedList.len.Goals as goal

pub overflow_mul-result : goal.overflow_mul-result
overflow_mul-result g c =
    let full = c.self.inside.root.full.items in
    let chunks : length c.as_slice.result.now ≡ length full = ap length (c.as_slice.ensures.value ∙ ap (λ r. r.full.items) c.get.ensures) in
    let count : 256 * length full + length c.self.inside.tail ≡ length (items_of (chunked c.self.inside.root.head full c.self.inside.tail)) = items_count _ _ _ c.self.invariant.0 in
    let small : length (items_of (chunked c.self.inside.root.head full c.self.inside.tail)) ≤ 2 ^ 32 = c.self.invariant.0.small in
    let counted : length c.self.inside.tail ≡ c.self.inside.count = c.self.invariant.1 in
    omega arith

pub overflow_add-result : goal.overflow_add-result
overflow_add-result g c =
    let full = c.self.inside.root.full.items in
    let chunks : length c.as_slice.result.now ≡ length full = ap length (c.as_slice.ensures.value ∙ ap (λ r. r.full.items) c.get.ensures) in
    let count : 256 * length full + length c.self.inside.tail ≡ length (items_of (chunked c.self.inside.root.head full c.self.inside.tail)) = items_count _ _ _ c.self.invariant.0 in
    let small : length (items_of (chunked c.self.inside.root.head full c.self.inside.tail)) ≤ 2 ^ 32 = c.self.invariant.0.small in
    let counted : length c.self.inside.tail ≡ c.self.inside.count = c.self.invariant.1 in
    omega arith

pub returns : goal.returns
returns g c =
    let full = c.self.inside.root.full.items in
    let chunks : length c.as_slice.result.now ≡ length full = ap length (c.as_slice.ensures.value ∙ ap (λ r. r.full.items) c.get.ensures) in
    ap (λ n. 256 * n + c.self.inside.count) chunks ∙ ap (λ n. 256 * length full + n) (sym c.self.invariant.1) ∙ items_count _ _ _ c.self.invariant.0 ∙ ap (λ l. length (items_of l)) c.self.view_is
