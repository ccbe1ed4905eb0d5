use Rattle.std.proofs.Common.{◌≡◌, ◌+◌, ◌-◌, ◌*◌, ◌/◌, ◌%◌, ◌≤◌, ◌<◌, Some, length, refl, ap, sym, ◌∙◌, arith}
use Rattle.std.specs.Prelude.{slice_get}
use Rattle.std.proofs.lemmas.Option.{slice_get_read, slice_get_past}
use Rattle.nw_shared_list.specs.SharedList.{chunked, items_of}
use Rattle.nw_shared_list.proofs.Chunked.{get_full, get_in_tail, items_count}
use Rattle.nw_shared_list.proofs.chunks.SharedList.get.Goals as goal

pub returns-in-Some : goal.returns-in-Some
returns-in-Some g c =
    let full = c.self.inside.root.full.items in
    let same : c.as_slice-full.result.now ≡ full = c.as_slice-full.ensures.value ∙ ap (λ r. r.full.items) c.get.ensures in
    let read = c.in-Some.ensures.lookup in
    let held : slice_get c.as_slice-full.result.now (c.args.index / 256) ≡ Some c.in-Some.chunk.now = slice_get_read _ (length c.as_slice-full.result.now) _ _ refl read.3.0 read.1 in
    let item : slice_get c.in-Some.chunk.now (c.args.index % 256) ≡ Some c.item.result.now = rw c.get-in-Some.ensures at c.item.ensures.item in
    sym (get_full c.self.inside.root.head full c.self.inside.tail c.args.index c.in-Some.chunk.now c.item.result.now c.self.invariant.0.whole (rw same at held) item) ∙ ap (λ l. slice_get (items_of l) c.args.index) c.self.view_is

pub returns-then-place-self : goal.returns-then-place-self
returns-then-place-self g c =
    let full = c.self.inside.root.full.items in
    let chunks : length c.as_slice-full.result.now ≡ length full = ap length (c.as_slice-full.ensures.value ∙ ap (λ r. r.full.items) c.get.ensures) in
    let above : length c.as_slice-full.result.now ≤ c.args.index / 256 = c.in_default.ensures.lookup.3 in
    let count : 256 * length full + length c.self.inside.tail ≡ length (items_of (chunked c.self.inside.root.head full c.self.inside.tail)) = items_count _ _ _ c.self.invariant.0 in
    sym (slice_get_past (items_of (chunked c.self.inside.root.head full c.self.inside.tail)) c.args.index (omega (arith, chunks, above, count, c.self.invariant.1, c.if-place-self.true))) ∙ ap (λ l. slice_get (items_of l) c.args.index) c.self.view_is

pub returns : goal.returns
returns g c =
    let full = c.self.inside.root.full.items in
    let chunks : length c.as_slice-full.result.now ≡ length full = ap length (c.as_slice-full.ensures.value ∙ ap (λ r. r.full.items) c.get.ensures) in
    let above : length c.as_slice-full.result.now ≤ c.args.index / 256 = c.in_default.ensures.lookup.3 in
    let counted : length c.self.inside.tail ≡ c.self.inside.count = c.self.invariant.1 in
    let place : c.args.index ≡ 256 * length full + (c.args.index - 256 * length full) = omega (arith, chunks, above) in
    let below : c.args.index - 256 * length full < length c.self.inside.tail = omega (arith, chunks, above, counted, c.if-place-self.false) in
    let at : c.self.inside.count - 1 - (c.args.index - 256 * length c.as_slice-full.result.now) ≡ length c.self.inside.tail - 1 - (c.args.index - 256 * length full) = rw (chunks, counted) refl in
    c.back.ensures ∙ ap (slice_get c.self.inside.tail) at ∙ get_in_tail c.self.inside.root.head full c.self.inside.tail c.args.index (c.args.index - 256 * length full) c.self.invariant.0.whole place below
    ∙ ap (λ l. slice_get (items_of l) c.args.index) c.self.view_is
