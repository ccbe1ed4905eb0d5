-- Merging two ascending lists of entries.
use Rattle.nw_generation.proofs.Words.{◌≡◌, ℕ, Bool, true, false, List, [], ◌∷◌, ◌++◌, Option, Some, None, cond, length, take, drop, refl, ap, sym, ◌∙◌, subst, arith, Less, Equal, is_eq, ordering_reverse, is_at, AllByRecursion, keys_of, option_or, FinMap, from_entries, get, same_map, Digest, Block, digest_cmp, digests_apart, digests_total, get_lookup, same_digest}
use Rattle.std.proofs.Common.{◌-◌}
use Rattle.std.proofs.lemmas.List.{take_rest}
use Rattle.nw_generation.specs.Entries.{Ascend, ComesBeforeAll, IsNext, under}
use Rattle.nw_generation.specs.Seen.{IsOverlay, union}
use Rattle.nw_generation.proofs.Searches.{Entries, below_each, head_below, none_below, tail_ascends}
use Rattle.nw_generation.proofs.Unions.{get_latest, get_from_none}

or_either : {X : Type 0} (a b c : Option X) → option_or (option_or a b) c ≡ option_or a (option_or b c)
or_either None b c = refl
or_either (Some x) b c = refl

or_none : {X : Type 0} (a : Option X) → option_or a None ≡ a
or_none None = refl
or_none (Some x) = refl

-- ---- the first entry of both lists

one_first : {X : Type 0} (t : Bool) (b : X) (left others : Option X) → option_or (cond t (Some b) left) others ≡ option_or (cond t (Some b) None) (option_or left others)
one_first true b left others = refl
one_first false b left others = refl

-- only the newer list has it
newer_first : (e : Digest × Block) (newer older : Entries) → Ascend (e ∷ newer) → Ascend older → ComesBeforeAll e.0 older → IsNext (e ∷ newer) older e newer older
newer_first e newer older one other below = record {
  same = λ d. one_first (is_at (digest_cmp d) e.0) e.1 (under newer d) (under older d);
  before_newer = head_below e newer one;
  before_older = below;
  newer_ascend = tail_ascends e newer one;
  older_ascend = other;
  above = λ d below_newer below_older. ((below_newer.0, tt), below_newer.1, below_older);
  fewer = omega arith;
}

-- only the older list has it
older_first : (e : Digest × Block) (newer older : Entries) → Ascend newer → Ascend (e ∷ older) → ComesBeforeAll e.0 newer → IsNext newer (e ∷ older) e newer older
older_first e newer older one other below = record {
  same = λ d. by d (is_at (digest_cmp d) e.0) refl;
  before_newer = below;
  before_older = head_below e older other;
  newer_ascend = one;
  older_ascend = tail_ascends e older other;
  above = λ d below_newer below_older. ((below_older.0, tt), below_newer, below_older.1);
  fewer = omega arith;
}
  where
    by : (d : Digest) (t : Bool) → is_at (digest_cmp d) e.0 ≡ t → option_or (under newer d) (cond t (Some e.1) (under older d)) ≡ option_or (cond t (Some e.1) None) (option_or (under newer d) (under older d))
    by d true is = ap (λ found. option_or found (Some e.1)) (subst (λ q. under newer q ≡ None) (sym (same_digest d e.0 is)) (none_below e.0 newer below))
    by d false is = refl

-- both lists have its digest
both_first : (e f : Digest × Block) (newer older : Entries) → Ascend (e ∷ newer) → Ascend (f ∷ older) → digest_cmp e.0 f.0 ≡ Equal → IsNext (e ∷ newer) (f ∷ older) e newer older
both_first e f newer older one other tie = record {
  same = λ d. by d (is_at (digest_cmp d) e.0) (ap is_eq (alike d));
  before_newer = head_below e newer one;
  before_older = below_same older (head_below f older other);
  newer_ascend = tail_ascends e newer one;
  older_ascend = tail_ascends f older other;
  above = λ d below_newer below_older. ((below_newer.0, tt), below_newer.1, below_older.1);
  fewer = omega arith;
}
  where
    alike : (d : Digest) → digest_cmp d f.0 ≡ digest_cmp d e.0
    alike d = digests_total.antisymm d f.0 ∙ ap ordering_reverse (sym (digests_total.congr e.0 f.0 d tie)) ∙ sym (digests_total.antisymm d e.0)

    below_same : (es : Entries) → ComesBeforeAll f.0 es → ComesBeforeAll e.0 es
    below_same [] below = tt
    below_same (x ∷ es) below = (digests_total.congr e.0 f.0 x.0 tie ∙ below.0, below_same es below.1)

    by : (d : Digest) (t : Bool) → is_at (digest_cmp d) f.0 ≡ t
        → option_or (cond t (Some e.1) (under newer d)) (cond (is_at (digest_cmp d) f.0) (Some f.1) (under older d)) ≡ option_or (cond t (Some e.1) None) (option_or (under newer d) (under older d))
    by d true is = refl
    by d false is = ap (λ b. option_or (under newer d) (cond b (Some f.1) (under older d))) is

pub newer_next : (all : Entries) (e : Digest × Block) (newer older : Entries) → all ≡ e ∷ newer → Ascend all → Ascend older → ComesBeforeAll e.0 older → IsNext all older e (drop 1 all) older
newer_next all e newer older is one other below = subst (λ es. IsNext es older e (drop 1 es) older) (sym is) (newer_first e newer older (subst Ascend is one) other below)

pub older_next : (all : Entries) (e : Digest × Block) (newer older : Entries) → all ≡ e ∷ older → Ascend newer → Ascend all → ComesBeforeAll e.0 newer → IsNext newer all e newer (drop 1 all)
older_next all e newer older is one other below = subst (λ es. IsNext newer es e newer (drop 1 es)) (sym is) (older_first e newer older one (subst Ascend is other) below)

pub both_next : (one other : Entries) (e f : Digest × Block) (newer older : Entries) → one ≡ e ∷ newer → other ≡ f ∷ older → Ascend one → Ascend other → digest_cmp e.0 f.0 ≡ Equal → IsNext one other e (drop 1 one) (drop 1 other)
both_next one other e f newer older is are ascend_one ascend_other tie =
    subst (λ es. IsNext one es e (drop 1 one) (drop 1 es)) (sym are) (subst (λ es. IsNext es (f ∷ older) e (drop 1 es) older) (sym is) (both_first e f newer older (subst Ascend is ascend_one) (subst Ascend are ascend_other) tie))

-- the remaining entries of both lists, as ranges
pub rest_next : (newer older : Entries) (e : Digest × Block) (m n : ℕ) → IsNext newer older e (drop m newer) (drop n older) → IsNext newer older e (take (length newer - m) (drop m newer)) (take (length older - n) (drop n older))
rest_next newer older e m n next =
    subst (λ es. IsNext newer older e es (take (length older - n) (drop n older))) (sym (take_rest newer m)) (subst (IsNext newer older e (drop m newer)) (sym (take_rest older n)) next)

-- a digest comes before all ascending entries if it comes before the first one
pub first_below : (d : Digest) (all : Entries) (f : Digest × Block) (older : Entries) → all ≡ f ∷ older → Ascend all → digest_cmp d f.0 ≡ Less → ComesBeforeAll d all
first_below d all f older is ascend less = subst (ComesBeforeAll d) (sym is) (below_each d f.0 f.1 older less (subst Ascend is ascend))

-- ---- both lists, entry by entry

-- the loop of `merged` has merged these entries, and has those left of each list
pub record IsMerging (newer older both newer_left older_left : Entries) : Type 0 where
  pub each : (d : Digest) → option_or (under newer d) (under older d) ≡ option_or (under both d) (option_or (under newer_left d) (under older_left d))
  pub ascend : Ascend both
  pub newer_ascend : Ascend newer_left
  pub older_ascend : Ascend older_left
  pub below_newer : AllByRecursion (λ k. ComesBeforeAll k newer_left) (keys_of both)
  pub below_older : AllByRecursion (λ k. ComesBeforeAll k older_left) (keys_of both)

under_more : (es : Entries) (e : Digest × Block) (d : Digest) → under (es ++ e ∷ []) d ≡ option_or (under es d) (under (e ∷ []) d)
under_more [] e d = refl
under_more (x ∷ es) e d = ap (cond (is_at (digest_cmp d) x.0) (Some x.1)) (under_more es e d) ∙ by (is_at (digest_cmp d) x.0)
  where
    by : (t : Bool) → cond t (Some x.1) (option_or (under es d) (under (e ∷ []) d)) ≡ option_or (cond t (Some x.1) (under es d)) (under (e ∷ []) d)
    by true = refl
    by false = refl

more_below : (d : Digest) (es : Entries) (e : Digest × Block) → ComesBeforeAll d es → ComesBeforeAll d (e ∷ []) → ComesBeforeAll d (es ++ e ∷ [])
more_below d [] e below less = less
more_below d (x ∷ es) e below less = (below.0, more_below d es e below.1 less)

more_ascend : (es : Entries) (e : Digest × Block) → Ascend es → AllByRecursion (λ k. ComesBeforeAll k (e ∷ [])) (keys_of es) → Ascend (es ++ e ∷ [])
unfolding Rattle.std.specs.List.Sorted.IsStrictlySortedBy
more_ascend [] e s below = (tt, tt)
more_ascend (x ∷ es) e s below = (more_below x.0 es e s.0 below.0, more_ascend es e s.1 below.1)

more_each : (P : Digest → Type 0) (es : Entries) (e : Digest × Block) → AllByRecursion P (keys_of es) → P e.0 → AllByRecursion P (keys_of (es ++ e ∷ []))
more_each P [] e all one = (one, tt)
more_each P (x ∷ es) e all one = (all.0, more_each P es e all.1 one)

both_below : (P Q R : Digest → Type 0) (es : Entries) → ((d : Digest) → P d → Q d → R d) → AllByRecursion P (keys_of es) → AllByRecursion Q (keys_of es) → AllByRecursion R (keys_of es)
both_below P Q R [] f p q = tt
both_below P Q R (x ∷ es) f p q = (f x.0 p.0 q.0, both_below P Q R es f p.1 q.1)

-- at first all entries are left
pub none_merged : (newer older : Entries) → Ascend newer → Ascend older → IsMerging newer older [] newer older
unfolding Rattle.std.specs.List.Sorted.IsStrictlySortedBy
none_merged newer older one other = record {
  each = λ d. refl;
  ascend = tt;
  newer_ascend = one;
  older_ascend = other;
  below_newer = tt;
  below_older = tt;
}

-- the first of the remaining entries is merged
pub one_merged : (newer older both newer_left older_left newer_rest older_rest : Entries) (e : Digest × Block) → IsMerging newer older both newer_left older_left → IsNext newer_left older_left e newer_rest older_rest
    → IsMerging newer older (both ++ e ∷ []) newer_rest older_rest
one_merged newer older both newer_left older_left newer_rest older_rest e was next = record {
  each = λ d.
      was.each d ∙ ap (option_or (under both d)) (next.same d) ∙ sym (or_either (under both d) (under (e ∷ []) d) (option_or (under newer_rest d) (under older_rest d)))
      ∙ ap (λ found. option_or found (option_or (under newer_rest d) (under older_rest d))) (sym (under_more both e d));
  ascend = more_ascend both e was.ascend (both_below (λ k. ComesBeforeAll k newer_left) (λ k. ComesBeforeAll k older_left) (λ k. ComesBeforeAll k (e ∷ [])) both (λ k p q. (next.above k p q).0) was.below_newer was.below_older);
  newer_ascend = next.newer_ascend;
  older_ascend = next.older_ascend;
  below_newer = more_each (λ k. ComesBeforeAll k newer_rest) both e (both_below (λ k. ComesBeforeAll k newer_left) (λ k. ComesBeforeAll k older_left) (λ k. ComesBeforeAll k newer_rest) both (λ k p q. (next.above k p q).1) was.below_newer was.below_older) next.before_newer;
  below_older = more_each (λ k. ComesBeforeAll k older_rest) both e (both_below (λ k. ComesBeforeAll k newer_left) (λ k. ComesBeforeAll k older_left) (λ k. ComesBeforeAll k older_rest) both (λ k p q. (next.above k p q).2) was.below_newer was.below_older) next.before_older;
}

-- at the end no entry is left
pub all_merged : (newer older both newer_left older_left : Entries) → IsMerging newer older both newer_left older_left → newer_left ≡ [] → older_left ≡ [] → IsOverlay (from_entries newer) (from_entries older) (from_entries both)
all_merged newer older both newer_left older_left merging no_newer no_older d =
    get_lookup digests_total both d ∙ sym (or_none (under both d))
    ∙ ap (option_or (under both d)) (sym (ap (λ es. option_or (under es d) (under older_left d)) no_newer ∙ ap (λ es. under es d) no_older))
    ∙ sym (merging.each d)
    ∙ ap (λ found. option_or found (under older d)) (sym (get_lookup digests_total newer d)) ∙ ap (option_or (get (from_entries newer) d)) (sym (get_lookup digests_total older d))

-- the entries of one more generation are merged, as older ones
pub joined_more : (old new entries : Entries) (left older : List (FinMap digest_cmp Block)) (latest : FinMap digest_cmp Block) (d : Digest) → left ≡ older ++ latest ∷ [] → from_entries entries ≡ latest
    → IsOverlay (from_entries old) (from_entries entries) (from_entries new) → option_or (under new d) (get (union older) d) ≡ option_or (under old d) (get (union left) d)
joined_more old new entries left older latest d is are over =
    ap (λ found. option_or found (get (union older) d)) (sym (get_lookup digests_total new d) ∙ over d ∙ ap (λ found. option_or found (get (from_entries {R = digest_cmp} entries) d)) (get_lookup digests_total old d) ∙ ap (λ (m : FinMap digest_cmp Block). option_or (under old d) (get m d)) are)
    ∙ or_either (under old d) (get latest d) (get (union older) d)
    ∙ ap (option_or (under old d)) (sym (get_latest older latest d) ∙ ap (λ gs. get (union gs) d) (sym is))

-- no generation is left
pub joined_all : (entries : Entries) (left generations : List (FinMap digest_cmp Block)) → length left ≡ 0 → ((d : Digest) → option_or (under entries d) (get (union left) d) ≡ get (union generations) d) → from_entries entries ≡ union generations
joined_all entries left generations none each = same_map digests_total digests_apart (from_entries entries) (union generations) (λ d.
    get_lookup digests_total entries d ∙ sym (or_none (under entries d)) ∙ ap (option_or (under entries d)) (sym (get_from_none left d none)) ∙ each d)
