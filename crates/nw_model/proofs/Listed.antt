-- Lists of the blocks under given digests.
use Rattle.nw_model.proofs.Words.{◌≡◌, ◌↔◌, List, [], ◌∷◌, Some, map, refl, ap, sym, ◌∙◌, subst, inl, inr, Contains, IsTotalOrder, Ordering, Less, FinMap, get, on_total, All-from_recursion, All-contains, same_Some, Digest, Block, digest_cmp, slots_total, contains_first, contains_later, contains_cases, contains_none}
use Rattle.std.specs.List.Sorted.{IsStrictlySortedBy}
use Rattle.std.proofs.lemmas.Cmp.{tied_itself}
use Rattle.std.proofs.lemmas.Map.Keys.{sorted_head, sorted_tail}
use Rattle.nw_model.specs.State.{block_slot}
use Rattle.nw_model.specs.Paths.{block_cmp, Lists}

-- ---- lists in order

module _ {K : Type 0} {R : K → K → Ordering} (o : IsTotalOrder R) where
  not_below_itself : (x : K) → R x x ≡ Less → ⊥
  not_below_itself x less = let tied = tied_itself o x in cc

  -- the later elements are above the first
  above_first : (x : K) (xs : List K) (z : K) → IsStrictlySortedBy R (x ∷ xs) → Contains xs z → R x z ≡ Less
  above_first x xs z sorted among = All-contains (λ y. R x y ≡ Less) xs z (All-from_recursion (λ y. R x y ≡ Less) xs (sorted_head R x xs sorted)) among

  -- two lists in order with the same elements have the same first element
  same_first : (x y : K) (xs ys : List K) → IsStrictlySortedBy R (x ∷ xs) → IsStrictlySortedBy R (y ∷ ys) → Contains (y ∷ ys) x → Contains (x ∷ xs) y → x ≡ y
  same_first x y xs ys sorted_x sorted_y x_in y_in =
      elim (contains_cases y ys x x_in) [
        | inl same ↦ sym same
        | inr x_later ↦ elim (contains_cases x xs y y_in) [
          | inl same ↦ same
          | inr y_later ↦ absurd (not_below_itself x (o.trans x y x (above_first x xs y sorted_x y_later) (above_first y ys x sorted_y x_later)))
        ]
      ]

  -- an element after the first of one list is after the first of the other list
  later_in : (x y : K) (xs ys : List K) (z : K) → x ≡ y → IsStrictlySortedBy R (x ∷ xs) → Contains xs z → Contains (y ∷ ys) z → Contains ys z
  later_in x y xs ys z same sorted here there =
      elim (contains_cases y ys z there) [
        | inl first ↦ absurd (not_below_itself x (subst (λ q. R x q ≡ Less) (sym (same ∙ first)) (above_first x xs z sorted here)))
        | inr later ↦ later
      ]

  -- two lists in order with the same elements are equal
  pub same_in_order : (xs ys : List K) → IsStrictlySortedBy R xs → IsStrictlySortedBy R ys → ((z : K) → Contains xs z ↔ Contains ys z) → xs ≡ ys
  same_in_order [] [] sorted_x sorted_y same = refl
  same_in_order [] (y ∷ ys) sorted_x sorted_y same = absurd (contains_none y ((same y).1 (contains_first y ys)))
  same_in_order (x ∷ xs) [] sorted_x sorted_y same = absurd (contains_none x ((same x).0 (contains_first x xs)))
  same_in_order (x ∷ xs) (y ∷ ys) sorted_x sorted_y same =
      let first : x ≡ y = same_first x y xs ys sorted_x sorted_y ((same x).0 (contains_first x xs)) ((same y).1 (contains_first y ys)) in
      let rest : xs ≡ ys = same_in_order xs ys (sorted_tail R x xs sorted_x) (sorted_tail R y ys sorted_y) (λ z. (
        λ here. later_in x y xs ys z first sorted_x here ((same z).0 (contains_later x xs z here)),
        λ there. later_in y x ys xs z (sym first) sorted_y there ((same z).1 (contains_later y ys z there)),
      )) in
      cc

pub blocks_total : IsTotalOrder block_cmp
blocks_total = on_total block_slot slots_total

-- ---- blocks under digests

-- each listed block is held under a listed digest
pub digest_of : (held : FinMap digest_cmp Block) (digests : List Digest) (blocks : List Block) (b : Block) → map (get held) digests ≡ map Some blocks → Contains blocks b
    → (a : Digest) × Contains digests a × (get held a ≡ Some b)
digest_of held digests [] b found among = absurd (contains_none b among)
digest_of held [] (x ∷ blocks) b found among = absurd cc
digest_of held (d ∷ digests) (x ∷ blocks) b found among =
    let rest : map (get held) digests ≡ map Some blocks = cc in
    let first : get held d ≡ Some x = cc in
    elim (contains_cases x blocks b among) [
      | inl same ↦ (d, contains_first d digests, first ∙ ap Some same)
      | inr later ↦ let below = digest_of held digests blocks b rest later in (below.0, contains_later d digests below.0 below.1, below.2)
    ]

-- each listed digest has its block in the list
pub block_of : (held : FinMap digest_cmp Block) (digests : List Digest) (blocks : List Block) (a : Digest) → map (get held) digests ≡ map Some blocks → Contains digests a
    → (b : Block) × Contains blocks b × (get held a ≡ Some b)
block_of held [] blocks a found among = absurd (contains_none a among)
block_of held (d ∷ digests) [] a found among = absurd cc
block_of held (d ∷ digests) (x ∷ blocks) a found among =
    let rest : map (get held) digests ≡ map Some blocks = cc in
    let first : get held d ≡ Some x = cc in
    elim (contains_cases d digests a among) [
      | inl same ↦ (x, contains_first x blocks, ap (get held) (sym same) ∙ first)
      | inr later ↦ let below = block_of held digests blocks a rest later in (below.0, contains_later x blocks below.0 below.1, below.2)
    ]

-- any two lists for the digests with P have the same blocks
listed_too : (held : FinMap digest_cmp Block) (P : Digest → Type 0) (blocks others : List Block) → Lists held P blocks → Lists held P others → (b : Block) → Contains blocks b → Contains others b
listed_too held P blocks others one other b among =
    let under = digest_of held one.digests blocks b one.found among in
    let there = block_of held other.digests others under.0 other.found ((other.exactly under.0).1 ((one.exactly under.0).0 under.1)) in
    let same : there.0 ≡ b = same_Some there.0 b (sym there.2 ∙ under.2) in
    subst (λ z. Contains others z) same there.1

-- any two lists for the digests with P are equal
pub same_lists : (held : FinMap digest_cmp Block) (P : Digest → Type 0) (blocks others : List Block) → Lists held P blocks → Lists held P others → blocks ≡ others
same_lists held P blocks others one other =
    same_in_order blocks_total blocks others one.ascending other.ascending (λ b. (listed_too held P blocks others one other b, listed_too held P others blocks other one b))
