-- Lists of chunks.
use Rattle.std.proofs.Common.{◌≡◌, ℕ, ◌+◌, ◌-◌, ◌*◌, ◌/◌, ◌%◌, ◌^◌, ◌<◌, ◌≤◌, List, [], ◌∷◌, ◌++◌, Some, length, take, get_or, refl, ap, sym, ◌∙◌, arith, length-append, length-take}
use Rattle.std.specs.Prelude.{slice_get, reverse, All}
use Rattle.std.specs.List.{flat_map}
use Rattle.std.proofs.lemmas.List.{length-reverse, get_or-reverse, get_or-append-add, get_or_append_left}
use Rattle.std.proofs.lemmas.List.Elements.{All-head, All-tail, All-nil, All-cons, All-append, All-take, All-get_or}
use Rattle.std.proofs.lemmas.List.Concat.{get_or-flat_map}
use Rattle.std.proofs.lemmas.Option.{slice_get_within, slice_get_read, slice_get-get_or, get_or_from_slice_get}
use Rattle.nw_shared_list.specs.SharedList.{AreChunked, Chunked, chunked, items_of}

abbrev pub IsWhole : {T : Type 0} → List T → Type 0
IsWhole chunk = length chunk ≡ 256

-- n full chunks have 256 n items
chunks_length : {T : Type 0} (chunks : List (List T)) → All IsWhole chunks → length (flat_map (λ c. c) chunks) ≡ 256 * length chunks
chunks_length [] h = refl
chunks_length (c ∷ cs) h =
    let here : length c ≡ 256 = All-head IsWhole c cs h in
    let more : length (flat_map (λ x. x) cs) ≡ 256 * length cs = chunks_length cs (All-tail IsWhole c cs h) in
    omega (arith, length-append c (flat_map (λ x. x) cs))

-- the number of all items
items_length : {H T : Type 0} (c : Chunked H T) → All IsWhole c.chunks → length (items_of c) ≡ 256 * length c.chunks + length c.tail
items_length c h = omega (arith, length-append (flat_map (λ x. x) c.chunks) c.tail, chunks_length c.chunks h)

-- an item of a chunk
get_chunk : {H T : Type 0} (head : H) (chunks : List (List T)) (tail : List T) (k j : ℕ) (c : List T) (x : T) → All IsWhole chunks
    → slice_get chunks k ≡ Some c → slice_get c j ≡ Some x → slice_get (items_of (chunked head chunks tail)) (256 * k + j) ≡ Some x
get_chunk head chunks tail k j c x h there item =
    let k_in : k < length chunks = slice_get_within chunks k c there in
    let j_in : j < length c = slice_get_within c j x item in
    let chunk_is : get_or chunks k c ≡ c = get_or_from_slice_get chunks k c c there in
    let item_is : get_or c j x ≡ x = get_or_from_slice_get c j x x item in
    let before : length (flat_map (λ y. y) (take k chunks)) ≡ 256 * k =
    chunks_length (take k chunks) (All-take IsWhole k chunks h) ∙ ap (λ n. 256 * n) (omega (arith, length-take k chunks)) in
    let all : length (flat_map (λ y. y) chunks) ≡ 256 * length chunks = chunks_length chunks h in
    let j_at : j < length (get_or chunks k c) = rw chunk_is j_in in
    let c_whole : length c ≡ 256 = rw chunk_is at (All-get_or IsWhole chunks k c k_in h) in
    let inside : 256 * k + j < length (flat_map (λ y. y) chunks) = omega (arith, all, k_in, j_in, c_whole) in
    let found : get_or (flat_map (λ y. y) chunks) (length (flat_map (λ y. y) (take k chunks)) + j) x ≡ get_or (get_or chunks k c) j x =
    get_or-flat_map (λ y. y) chunks k j c x k_in j_at in
    let value : x ≡ get_or (items_of (chunked head chunks tail)) (256 * k + j) x =
    sym (get_or_append_left (flat_map (λ y. y) chunks) (reverse tail) x (256 * k + j) inside
    ∙ ap (λ n. get_or (flat_map (λ y. y) chunks) (n + j) x) (sym before) ∙ found ∙ ap (λ l. get_or l j x) chunk_is ∙ item_is) in
    slice_get_read (items_of (chunked head chunks tail)) (length (items_of (chunked head chunks tail))) (256 * k + j) x refl (omega (arith, inside, length-append (flat_map (λ y. y) chunks) (reverse tail))) value

pub get_full : {H T : Type 0} (head : H) (chunks : List (List T)) (tail : List T) (i : ℕ) (c : List T) (x : T) → All IsWhole chunks
    → slice_get chunks (i / 256) ≡ Some c → slice_get c (i % 256) ≡ Some x → slice_get (items_of (chunked head chunks tail)) i ≡ Some x
get_full head chunks tail i c x h there item =
    let parts : 256 * (i / 256) + i % 256 ≡ i = omega arith in
    rw parts at (get_chunk head chunks tail (i / 256) (i % 256) c x h there item)

-- an item of the tail
pub get_in_tail : {H T : Type 0} (head : H) (chunks : List (List T)) (tail : List T) (i place : ℕ) → All IsWhole chunks → i ≡ 256 * length chunks + place → place < length tail
    → slice_get tail (length tail - 1 - place) ≡ slice_get (items_of (chunked head chunks tail)) i
get_in_tail head chunks [] i place h is below = absurd (omega (arith, below))
get_in_tail head chunks (b ∷ bs) i place h is below =
    let tail = b ∷ bs in
    let back : length tail - 1 - place < length tail = omega (arith, below) in
    let all : length (flat_map (λ y. y) chunks) ≡ 256 * length chunks = chunks_length chunks h in
    let here : get_or (reverse tail) place b ≡ get_or tail (length tail - 1 - place) b = get_or-reverse tail place b below in
    let there : get_or (items_of (chunked head chunks tail)) i b ≡ get_or (reverse tail) place b =
    ap (λ n. get_or (items_of (chunked head chunks tail)) n b) (is ∙ ap (λ n. n + place) (sym all)) ∙ get_or-append-add (flat_map (λ y. y) chunks) (reverse tail) place b in
    let inside : i < length (items_of (chunked head chunks tail)) = omega (arith, items_length (chunked head chunks tail) h, length-reverse tail, is, below) in
    slice_get-get_or tail (length tail - 1 - place) b back
    ∙ ap (λ n. Some (get_or tail n b)) (omega arith)
    ∙ ap Some (sym (there ∙ here))
    ∙ sym (slice_get-get_or (items_of (chunked head chunks tail)) i b inside)

-- the number of items. Reversing the tail does not change it
pub items_count : {H T : Type 0} (head : H) (chunks : List (List T)) (tail : List T) → AreChunked (chunked head chunks tail) → 256 * length chunks + length tail ≡ length (items_of (chunked head chunks tail))
items_count head chunks tail h = omega (arith, items_length (chunked head chunks tail) h.whole, length-reverse tail)

-- the number of full chunks and of items in the tail
pub items_parts : {H T : Type 0} (c : Chunked H T) → AreChunked c → length c.chunks + length c.tail ≡ length (items_of c) / 256 + length (items_of c) % 256
items_parts c h = omega (arith, items_length c h.whole, h.few)

-- a list that has just closed a chunk, with an empty tail
pub closed : {H T : Type 0} (head : H) (chunks : List (List T)) (chunk : List T) → All IsWhole chunks → length chunk ≡ 256 → 256 * length chunks + 256 ≤ 2 ^ 32
    → AreChunked (chunked head (chunks ++ chunk ∷ []) [])
closed head chunks chunk h here small =
    let all : All IsWhole (chunks ++ chunk ∷ []) = All-append IsWhole chunks (chunk ∷ []) h (All-cons IsWhole chunk [] here (All-nil IsWhole)) in
    let c = chunked head (chunks ++ chunk ∷ []) [] in
    record { whole = all; few = omega arith; small = omega (arith, items_length c all, length-append chunks (chunk ∷ []), small) }
