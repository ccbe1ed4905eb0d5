use Rattle.std.proofs.Common.{◌≡◌, ◌+◌, ◌*◌, ◌^◌, ◌<◌, ◌++◌, ◌∷◌, [], length, reverse, ap, sym, subst, ◌∙◌, arith}
use Rattle.std.proofs.lemmas.List.{length-reverse}
use Rattle.nw_shared_list.specs.SharedList.{chunked, items_of}
use Rattle.nw_shared_list.proofs.Chunked.{closed, items_count}
use Rattle.nw_shared_list.proofs.chunks.SharedList.with.Goals as goal

pub invariant_of-result-2 : goal.invariant_of-result-2
invariant_of-result-2 g c =
    let s = c.self.inside in
    let full = s.root.full.items in
    let was : c.as_slice.result.now ≡ full = c.as_slice.ensures.value ∙ ap (λ r. r.full.items) c.get-root.ensures in
    let items : c.in_ok-tail.tail ≡ c.args.item ∷ s.tail = c.in_ok-tail.ensures in
    let all : c.in_ok-new.field-0.full.items ≡ full ++ reverse (c.args.item ∷ s.tail) ∷ [] =
    ap (λ r. r.full.items) (c.in_ok-new.ensures) ∙ c.in_ok-full.ensures ∙ ap (λ l. l ++ reverse c.in_ok-tail.tail ∷ []) was ∙ ap (λ l. full ++ reverse l ∷ []) items in
    let count : 256 * length full + length s.tail ≡ length (items_of (chunked s.root.head full s.tail)) = items_count _ _ _ c.self.invariant.0 in
    let room : length (items_of (chunked s.root.head full s.tail)) < 2 ^ 32 = subst (λ l. length (items_of l) < 2 ^ 32) (sym c.self.view_is) c.requires in
    let few : length s.tail < 256 = omega (arith, c.self.invariant.0.few, length-reverse s.tail) in
    let whole : length s.tail ≡ 255 = omega (arith, few, c.self.invariant.1, c.if-self-lt-CHUNK.false) in (
      rw (all, c.new-2.ensures) (closed c.in_ok-new.field-0.head full (reverse (c.args.item ∷ s.tail)) c.self.invariant.0.whole (omega (arith, length-reverse (c.args.item ∷ s.tail), whole)) (omega (arith, count, room, whole))),
      ap length c.new-2.ensures,
    )
