-- Lookups in a union of generations.
use Rattle.nw_generation.proofs.Words.{◌≡◌, ℕ, Bool, true, false, List, [], ◌∷◌, ◌++◌, ◌<◌, Option, Some, None, All, cond, refl, ap, sym, ◌∙◌, subst, length, arith, option_or, Ordering, is_at, AllByRecursion, FinMap, get, same_map, Digest, Block, digest_cmp, digests_apart, digests_total}
use Rattle.std.proofs.Common.{IfSome, append_assoc, append-nil}
use Rattle.std.proofs.lemmas.List.Elements.{recursion_from_All}
use Rattle.std.specs.FinMap.{entries, get-empty, get-entries, get-from_entries}
use Rattle.std.specs.FinMap.Entries.{find}
use Rattle.nw_generation.specs.Entries.{under}
use Rattle.nw_generation.specs.Seen.{HasUpTo, IsOfRound, IsWithin, latest_first, union}

or_later : {X : Type 0} (b : Bool) (v : X) (first later : Option X) → cond b (Some v) (option_or first later) ≡ option_or (cond b (Some v) first) later
or_later true v first later = refl
or_later false v first later = refl

-- a lookup in two lists searches the first, and then the second
find_append : {K X : Type 0} (R : K → K → Ordering) (q : K) (es fs : List (K × X)) → find R q (es ++ fs) ≡ option_or (find R q es) (find R q fs)
find_append R q [] fs = refl
find_append R q (e ∷ es) fs = ap (cond (is_at (R q) e.0) (Some e.1)) (find_append R q es fs) ∙ or_later (is_at (R q) e.0) e.1 (find R q es) (find R q fs)

-- later generations are added
latest_first_append : (older later : List (FinMap digest_cmp Block)) → latest_first (older ++ later) ≡ latest_first later ++ latest_first older
latest_first_append [] later = sym (append-nil (latest_first later))
latest_first_append (g ∷ older) later =
    ap (λ es. es ++ entries g) (latest_first_append older later) ∙ append_assoc (latest_first later) (latest_first older) (entries g)

-- a lookup searches the later generations, and then the older ones
pub get_later : (older later : List (FinMap digest_cmp Block)) (d : Digest) → get (union (older ++ later)) d ≡ option_or (get (union later) d) (get (union older) d)
get_later older later d =
    get-from_entries digests_total (latest_first (older ++ later)) d
    ∙ ap (find digest_cmp d) (latest_first_append older later)
    ∙ find_append digest_cmp d (latest_first later) (latest_first older)
    ∙ ap (λ found. option_or found (find digest_cmp d (latest_first older))) (sym (get-from_entries digests_total (latest_first later) d))
    ∙ ap (option_or (get (union later) d)) (sym (get-from_entries digests_total (latest_first older) d))

-- a lookup searches the latest generation, and then the older ones
pub get_latest : (older : List (FinMap digest_cmp Block)) (latest : FinMap digest_cmp Block) (d : Digest) → get (union (older ++ latest ∷ [])) d ≡ option_or (get latest d) (get (union older) d)
get_latest older latest d =
    get-from_entries digests_total (latest_first (older ++ latest ∷ [])) d
    ∙ ap (find digest_cmp d) (latest_first_append older (latest ∷ []))
    ∙ find_append digest_cmp d (entries latest) (latest_first older)
    ∙ ap (λ found. option_or found (find digest_cmp d (latest_first older))) (sym (get-entries latest d))
    ∙ ap (option_or (get latest d)) (sym (get-from_entries digests_total (latest_first older) d))

-- the latest generation has the digest
pub get_here : (left older : List (FinMap digest_cmp Block)) (latest : FinMap digest_cmp Block) (d : Digest) (b : Block) → left ≡ older ++ latest ∷ [] → Some b ≡ get latest d → get (union left) d ≡ Some b
get_here left older latest d b is here = ap (λ gs. get (union gs) d) is ∙ get_latest older latest d ∙ ap (λ found. option_or found (get (union older) d)) (sym here)

-- the latest generation does not have the digest
pub get_older : (left older : List (FinMap digest_cmp Block)) (latest : FinMap digest_cmp Block) (d : Digest) → left ≡ older ++ latest ∷ [] → None ≡ get latest d → get (union older) d ≡ get (union left) d
get_older left older latest d is lacks = ap (λ found. option_or found (get (union older) d)) lacks ∙ sym (get_latest older latest d) ∙ ap (λ gs. get (union gs) d) (sym is)

-- without a latest generation that has only blocks of higher rounds, the others have each block up to the round
pub older_has : (left older : List (FinMap digest_cmp Block)) (latest : FinMap digest_cmp Block) (round : ℕ) → left ≡ older ++ latest ∷ [] → ((d : Digest) (b : Block) → get latest d ≡ Some b → round < b.round) → HasUpTo (union left) round (union older)
older_has left older latest round is above d b at low = by (get latest d) refl
  where
    by : (found : Option Block) → get latest d ≡ found → get (union older) d ≡ Some b
    by None none = get_older left older latest d is (sym none) ∙ at
    by (Some x) here =
        let same : b.round ≡ x.round = subst (λ o. IfSome o (λ (y : Block). y.round ≡ x.round)) (sym (get_here left older latest d x is (sym here)) ∙ at) refl in
        absurd (omega (arith, above d x here, low, same))

-- if the block under the digest in all generations is of the slot's round, so is that in the latest generation
pub of_latest : (left older : List (FinMap digest_cmp Block)) (latest : FinMap digest_cmp Block) (slot : Option (ℕ × ℕ)) (d : Digest) → left ≡ older ++ latest ∷ [] → IsOfRound slot (get (union left) d) → IsOfRound slot (get latest d)
of_latest left older latest None d is of = tt
of_latest left older latest (Some (round, author)) d is of = by (get latest d) (subst (λ o. IfSome o (λ (b : Block). b.round ≡ round)) (ap (λ gs. get (union gs) d) is ∙ get_latest older latest d) of)
  where
    by : (found : Option Block) → IfSome (option_or found (get (union older) d)) (λ (b : Block). b.round ≡ round) → IfSome found (λ (b : Block). b.round ≡ round)
    by None h = tt
    by (Some b) h = h

-- if all entries are of rounds within a range, so is the block under a digest
within_of : (es : List (Digest × Block)) (rounds : Option (ℕ × ℕ)) (d : Digest) → AllByRecursion (λ (e : Digest × Block). IsWithin rounds e.1.round) es → IfSome (under es d) (λ (b : Block). IsWithin rounds b.round)
within_of [] rounds d all = tt
within_of (e ∷ es) rounds d all = pick (is_at (digest_cmp d) e.0) e.1 (under es d) all.0 (within_of es rounds d all.1)
  where
    pick : (t : Bool) (b : Block) (o : Option Block) → IsWithin rounds b.round → IfSome o (λ (x : Block). IsWithin rounds x.round) → IfSome (cond t (Some b) o) (λ (x : Block). IsWithin rounds x.round)
    pick true b o here later = here
    pick false b o here later = later

pub within_at : (es : List (Digest × Block)) (rounds : Option (ℕ × ℕ)) (d : Digest) (b : Block) → All (λ (e : Digest × Block). IsWithin rounds e.1.round) es → under es d ≡ Some b → IsWithin rounds b.round
within_at es rounds d b within at = subst (λ o. IfSome o (λ (x : Block). IsWithin rounds x.round)) at (within_of es rounds d (recursion_from_All (λ (e : Digest × Block). IsWithin rounds e.1.round) es within))

-- if all entries are of other rounds, none has a block of this round
pub none_of : (es : List (Digest × Block)) (rounds : Option (ℕ × ℕ)) (round author : ℕ) (d : Digest) → All (λ (e : Digest × Block). IsWithin rounds e.1.round) es → (IsWithin rounds round → ⊥) → IsOfRound (Some (round, author)) (under es d) → None ≡ under es d
none_of es rounds round author d within out of = by (under es d) (within_of es rounds d (recursion_from_All (λ (e : Digest × Block). IsWithin rounds e.1.round) es within)) of
  where
    by : (o : Option Block) → IfSome o (λ (b : Block). IsWithin rounds b.round) → IfSome o (λ (b : Block). b.round ≡ round) → None ≡ o
    by None w is = refl
    by (Some b) w is = absurd (out (subst (IsWithin rounds) is w))

-- no generation is left
pub get_from_none : (left : List (FinMap digest_cmp Block)) (d : Digest) → length left ≡ 0 → get (union left) d ≡ None
get_from_none [] d none = get-empty digest_cmp d
get_from_none (g ∷ left) d none = absurd (omega arith)

-- joining the later generations into one keeps the union
pub union_joined : (older later : List (FinMap digest_cmp Block)) (joined : FinMap digest_cmp Block) → joined ≡ union later → union (older ++ joined ∷ []) ≡ union (older ++ later)
union_joined older later joined is = same_map digests_total digests_apart (union (older ++ joined ∷ [])) (union (older ++ later)) (λ d.
    get_latest older joined d ∙ ap (λ (m : FinMap digest_cmp Block). option_or (get m d) (get (union older) d)) is ∙ sym (get_later older later d))
