-- Lists of full chunks and a tail.
use Rattle.std.specs.Prelude.{ℕ, ◌≡◌, ◌^◌, ◌<◌, ◌≤◌, List, ◌++◌, length, reverse, All, refl}
use Rattle.std.specs.Coded.{Coded, code_by, coded×, coded_list}
use Rattle.std.specs.List.{flat_map}

-- the number of items in a full chunk
abbrev pub chunk_items : ℕ
chunk_items = 256

-- a list of items in chunks
pub record Chunked (H T : Type 0) : Type 0 where
  -- the value at its head
  pub head : H
  -- the full chunks
  pub chunks : List (List T)
  -- the items after the last full chunk
  pub tail : List T

-- the code of such a list: lists with equal codes are equal
abbrev pub coded_chunked : {H T : Type 0} → Coded H → Coded T → Coded (Chunked H T)
coded_chunked {H} {T} head code =
    code_by (H × (List (List T) × List T)) (coded× head (coded× (coded_list (coded_list code)) (coded_list code)))
    (λ c. (c.head, (c.chunks, c.tail))) (λ p. record { head = p.0; chunks = p.1.0; tail = p.1.1 }) (λ _. refl)

-- all items in order: those of the chunks, then those of the tail
abbrev pub items_of : {H T : Type 0} → Chunked H T → List T
items_of c = flat_map (λ chunk. chunk) c.chunks ++ c.tail

-- the list with this head, these chunks, and this tail, which is given with its last item first
abbrev pub chunked : {H T : Type 0} → H → List (List T) → List T → Chunked H T
chunked head chunks tail = record { head = head; chunks = chunks; tail = reverse tail }

-- the list is well formed
pub record AreChunked {H T : Type 0} (c : Chunked H T) : Type 0 where
  -- each chunk is full
  pub whole : All (λ chunk. length chunk ≡ chunk_items) c.chunks
  -- the tail is shorter than a chunk
  pub few : length c.tail < chunk_items
  -- there are at most 2^32 items
  pub small : length (items_of c) ≤ 2 ^ 32
