-- Searches among ascending entries.
use Rattle.nw_generation.proofs.Words.{◌≡◌, ℕ, Bool, true, false, List, [], ◌∷◌, ◌++◌, Some, None, cond, length, take, drop, get_or, refl, ap, sym, ◌∙◌, arith, Ordering, Less, Equal, is_eq, ordering_reverse, bytes_eq, keys_of, filter, nat_le, Digest, Block, digest_cmp, digests_total}
use Rattle.std.proofs.lemmas.Map.Text.{is_eq-slice_cmp}
use Rattle.std.proofs.Math.Dec.{leb-zero}
use Rattle.std.proofs.lemmas.Map.Keys.{sorted_head, sorted_tail}
use Rattle.nw_trie.proofs.Inserts.{above_all, below_all as each_above}
use Rattle.nw_trie.proofs.Keys.{each_filter}
use Rattle.nw_digest.proofs.Maps.{find_below, find_lookup, tie}
use Rattle.nw_generation.specs.Entries.{AreHeads, Ascend, ComesBeforeAll, IsHead, under, bytes_of}

abbrev pub Entries : Type 0
Entries = List (Digest × Block)

pub none_ascend : Ascend []
unfolding Rattle.std.specs.List.Sorted.IsStrictlySortedBy
none_ascend = tt

pub empty_below : (d : Digest) (es : Entries) → length es ≡ 0 → ComesBeforeAll d es
empty_below d [] none = tt
empty_below d (e ∷ es) none = absurd (omega (arith, none))

pub head_below : (e : Digest × Block) (es : Entries) → Ascend (e ∷ es) → ComesBeforeAll e.0 es
head_below e es s = sorted_head digest_cmp e.0 (keys_of es) s

pub tail_ascends : (e : Digest × Block) (es : Entries) → Ascend (e ∷ es) → Ascend es
tail_ascends e es s = sorted_tail digest_cmp e.0 (keys_of es) s

-- a digest before another one comes before all entries after that one
pub below_all : (d k : Digest) (es : Entries) → digest_cmp d k ≡ Less → ComesBeforeAll k es → ComesBeforeAll d es
below_all d k [] less below = tt
below_all d k (e ∷ es) less below = (digests_total.trans d k e.0 less below.0, below_all d k es less below.1)

pub below_each : (d k : Digest) (b : Block) (es : Entries) → digest_cmp d k ≡ Less → Ascend ((k, b) ∷ es) → ComesBeforeAll d ((k, b) ∷ es)
below_each d k b es less s = (less, below_all d k es less (head_below (k, b) es s))

-- there is no block under a digest that comes before all entries
pub none_below : (d : Digest) (es : Entries) → ComesBeforeAll d es → under es d ≡ None
none_below d es below = sym (find_lookup digest_cmp es d) ∙ find_below digest_cmp d es below

turned : (o r : Ordering) → o ≡ ordering_reverse r → r ≡ Less → is_eq o ≡ false
turned o r is less = ap is_eq (is ∙ ap ordering_reverse less)

-- a digest after another one is not equal to it
pub past : (d k : Digest) → digest_cmp k d ≡ Less → is_eq (digest_cmp d k) ≡ false
past d k less = turned (digest_cmp d k) (digest_cmp k d) (digests_total.antisymm d k) less

module _ (d k : Digest) (b : Block) (after : Entries) where
  -- the entry has the digest
  pub found_at : (before : Entries) → Ascend (before ++ (k, b) ∷ after) → digest_cmp d k ≡ Equal → under (before ++ (k, b) ∷ after) d ≡ Some b
  found_at [] s same = ap (λ o. cond (is_eq o) (Some b) (under after d)) same
  found_at (e ∷ before) s same =
      ap (λ t. cond t (Some e.1) (under (before ++ (k, b) ∷ after) d)) (past d e.0 (ends before (head_below e (before ++ (k, b) ∷ after) s))) ∙ found_at before (tail_ascends e (before ++ (k, b) ∷ after) s) same
    where
      ends : (es : Entries) → ComesBeforeAll e.0 (es ++ (k, b) ∷ after) → digest_cmp e.0 d ≡ Less
      ends [] below = before_same below.0
        where
          before_same : digest_cmp e.0 k ≡ Less → digest_cmp e.0 d ≡ Less
          before_same less = digests_total.antisymm e.0 d ∙ ap ordering_reverse (digests_total.congr d k e.0 same ∙ digests_total.antisymm k e.0 ∙ ap ordering_reverse less)
      ends (x ∷ es) below = ends es below.1

  -- the digest comes after the entry
  pub found_after : (before : Entries) → Ascend (before ++ (k, b) ∷ after) → digest_cmp k d ≡ Less → (under (before ++ (k, b) ∷ after) d ≡ under after d) × Ascend after
  found_after [] s less = (ap (λ t. cond t (Some b) (under after d)) (past d k less), tail_ascends (k, b) after s)
  found_after (e ∷ before) s less =
      let rest = found_after before (tail_ascends e (before ++ (k, b) ∷ after) s) less in
      (ap (λ t. cond t (Some e.1) (under (before ++ (k, b) ∷ after) d)) (past d e.0 (ends before (head_below e (before ++ (k, b) ∷ after) s))) ∙ rest.0, rest.1)
    where
      ends : (es : Entries) → ComesBeforeAll e.0 (es ++ (k, b) ∷ after) → digest_cmp e.0 d ≡ Less
      ends [] below = digests_total.trans e.0 k d below.0 less
      ends (x ∷ es) below = ends es below.1

  -- the digest comes before the entry
  pub found_before : (before : Entries) → Ascend (before ++ (k, b) ∷ after) → digest_cmp d k ≡ Less → (under (before ++ (k, b) ∷ after) d ≡ under before d) × Ascend before
  unfolding Rattle.std.specs.List.Sorted.IsStrictlySortedBy
  found_before [] s less = (none_below d ((k, b) ∷ after) (below_each d k b after less s), tt)
  found_before (e ∷ before) s less =
      let rest = found_before before (tail_ascends e (before ++ (k, b) ∷ after) s) less in
      (ap (cond (is_eq (digest_cmp d e.0)) (Some e.1)) rest.0, (front before (head_below e (before ++ (k, b) ∷ after) s), rest.1))
    where
      front : (es : Entries) → ComesBeforeAll e.0 (es ++ (k, b) ∷ after) → ComesBeforeAll e.0 es
      front [] below = tt
      front (x ∷ es) below = (below.0, front es below.1)

-- digests with equal bytes compare as equal
pub is_tie : (d k : Digest) → true ≡ bytes_eq d.0 k.0 → Equal ≡ digest_cmp d k
is_tie d k same = sym (tie (digest_cmp d k) (is_eq-slice_cmp d.0 k.0 ∙ sym same))

-- filtered entries still ascend
pub filtered_ascend : (keep : Digest × Block → Bool) (es : Entries) → Ascend es → Ascend (filter keep es)
unfolding Rattle.std.specs.List.Sorted.IsStrictlySortedBy
filtered_ascend keep [] ascend = tt
filtered_ascend keep (e ∷ es) ascend =
    let rest = filtered_ascend keep es ascend.1 in
    elim (keep e) as (λ t. Ascend (cond t (e ∷ filter keep es) (filter keep es))) [
      | true ↦ (above_all e.0 (filter keep es) (each_filter _ keep es (each_above e.0 es ascend.0)), rest)
      | false ↦ rest
    ]

-- no block is below round 0
pub filtered_all : (es : Entries) → filter (λ e. nat_le 0 e.1.round) es ≡ es
filtered_all [] = refl
filtered_all (e ∷ es) = ap (λ t. cond t (e ∷ filter (λ x. nat_le 0 x.1.round) es) (filter (λ x. nat_le 0 x.1.round) es)) (leb-zero e.1.round) ∙ ap (λ (fs : Entries). e ∷ fs) (filtered_all es)

-- the heads of the entries before an entry, of the entry, and of the entries after it
pub heads_split : (heads later : List ℕ) (es after : Entries) (head : ℕ) (e : Digest × Block) → length heads ≡ length es → AreHeads (heads ++ head ∷ later) (es ++ e ∷ after) → AreHeads heads es × IsHead head e.0 × AreHeads later after
heads_split [] later [] after head e same are = (refl, ap (λ bs. get_or bs 0 []) are, ap (drop 1) are)
heads_split [] later (x ∷ es) after head e same are = absurd (omega (arith, same))
heads_split (h ∷ heads) later [] after head e same are = absurd (omega (arith, same))
heads_split (h ∷ heads) later (x ∷ es) after head e same are =
    let parts = heads_split heads later es after head e (omega (arith, same)) (ap (drop 1) are) in
    let first : bytes_of h ≡ take 2 x.0.0 = ap (λ bs. get_or bs 0 []) are in
    let others = parts.0 in
    (cc, parts.1, parts.2)
