-- The wanted parents that the references of blocks add.
use Rattle.nw_plain.proofs.Words.{◌≡◌, ◌↔◌, ◌⊎◌, ℕ, ◌+◌, List, [], ◌∷◌, take, length, get_or, Some, refl, ap, sym, ◌∙◌, subst, arith, inl, inr, Ordering, Less, from_entries, get, lookup, keys_of, values_of, is_at, eq_by_cmp_equiv, Digest, Ref, Block, digest_cmp, State, ListsExactly, Wants, wanted_cmp, digests_total, get_lookup, same_digest}
use Rattle.std.proofs.Common.{◌<◌, ◌++◌}
use Rattle.std.specs.Prelude.{Contains}
use Rattle.std.specs.declared.cmp.Ordering.TheVariants.{Equal, Greater}
use Rattle.std.specs.Ordering.{match_ordering}
use Rattle.std.specs.BTreeSet.{insert_key}
use Rattle.std.specs.FinMap.{IsAntisymmetric}
use Rattle.std.specs.List.Sorted.{IsStrictlySortedBy}
use Rattle.std.proofs.lemmas.Map.Keys.{IsDistinct-from_sorted}
use Rattle.std.proofs.lemmas.Map.Made.{Contains-values_of, Contains-from_values_of}
use Rattle.std.proofs.lemmas.Map.Views.{Contains-from_lookup, lookup-from_Contains}
use Rattle.std.proofs.lemmas.List.{take_more, append_assoc, append-nil, map-append}
use Rattle.std.proofs.lemmas.List.Elements.{Contains-append_left, Contains-append_right, Contains-append_cases}
use Rattle.nw_model.specs.declared.wanted.Wanted.{Wanted}
use Rattle.nw_model.proofs.WantedOrder.{wanted_apart}
use Rattle.nw_model.specs.Paths.{IsSatisfied}
use Rattle.nw_model.specs.Missing.{IsNamedBy, IsWanted}
use Rattle.nw_digest.proofs.Elements.{contains_first, contains_later, contains_cases, contains_none}
use Rattle.nw_plain.specs.Added.{IsUnionWith, NamesMissing}

-- ---- one more key

module _ {K : Type 0} (R : K → K → Ordering) (same : IsAntisymmetric R) where
  -- inserting a key into a set adds exactly this key
  pub with_key : (ks : List K) (k x : K) → Contains (insert_key R ks k) x ↔ (Contains ks x ⊎ (k ≡ x))
  with_key [] k x = (λ among. elim (contains_cases k [] x among) [ inl here ↦ inr here | inr later ↦ absurd (contains_none x later) ], λ h. elim h [ inl old ↦ absurd (contains_none x old) | inr here ↦ subst (λ y. Contains (k ∷ []) y) here (contains_first k []) ])
  with_key (y ∷ ys) k x = by (R k y) refl (with_key ys k x)
    where
      by : (r : Ordering) → R k y ≡ r → Contains (insert_key R ys k) x ↔ (Contains ys x ⊎ (k ≡ x)) → Contains (match_ordering r (k ∷ y ∷ ys) (y ∷ ys) (y ∷ insert_key R ys k)) x ↔ (Contains (y ∷ ys) x ⊎ (k ≡ x))
      by Less is rest = (
        λ among. elim (contains_cases k (y ∷ ys) x among) [ inl here ↦ inr here | inr later ↦ inl later ],
        λ h. elim h [ inl old ↦ contains_later k (y ∷ ys) x old | inr here ↦ subst (λ z. Contains (k ∷ y ∷ ys) z) here (contains_first k (y ∷ ys)) ],
      )
      by Equal is rest = (inl, λ h. elim h [ inl old ↦ old | inr here ↦ subst (λ z. Contains (y ∷ ys) z) (sym (same k y is) ∙ here) (contains_first y ys) ])
      by Greater is rest = (
        λ among. elim (contains_cases y (insert_key R ys k) x among) [
          | inl here ↦ inl (subst (λ z. Contains (y ∷ ys) z) here (contains_first y ys))
          | inr later ↦ elim (rest.0 later) [ inl old ↦ inl (contains_later y ys x old) | inr new ↦ inr new ]
        ],
        λ h. elim h [
          | inl old ↦ elim (contains_cases y ys x old) [
            | inl here ↦ subst (λ z. Contains (y ∷ insert_key R ys k) z) here (contains_first y (insert_key R ys k))
            | inr later ↦ contains_later y (insert_key R ys k) x (rest.1 (inl later))
          ]
          | inr new ↦ contains_later y (insert_key R ys k) x (rest.1 (inr new))
        ],
      )

-- ---- additions by the elements of a list

-- Q a x holds for some element a of the list
abbrev pub Of : {A X : Type 0} → (A → X → Type 0) → List A → X → Type 0
Of {A} Q xs x = (a : A) × Contains xs a × Q a x

module _ {A X : Type 0} (Q : A → X → Type 0) where
  pub adds_nothing : (old : List X) → IsUnionWith (Of Q []) old old
  adds_nothing old x = (inl, λ h. elim h [ inl here ↦ here | inr there ↦ absurd (contains_none there.0 there.1) ])

  -- the same with one more element
  pub adds_one_more : (xs : List A) (a : A) (old mid new : List X) → IsUnionWith (Of Q xs) old mid → IsUnionWith (Q a) mid new → IsUnionWith (Of Q (xs ++ a ∷ [])) old new
  adds_one_more xs a old mid new one two x = (
    λ among. elim ((two x).0 among) [
      | inl before ↦ elim ((one x).0 before) [ inl here ↦ inl here | inr there ↦ inr (there.0, Contains-append_left xs (a ∷ []) there.0 there.1, there.2) ]
      | inr now ↦ inr (a, Contains-append_right xs (a ∷ []) a (contains_first a []), now)
    ],
    λ h. (two x).1 (elim h [
      | inl here ↦ inl ((one x).1 (inl here))
      | inr there ↦ elim (Contains-append_cases xs (a ∷ []) there.0 there.1) [
        | inl before ↦ inl ((one x).1 (inr (there.0, before, there.2)))
        | inr last ↦ elim (contains_cases a [] there.0 last) [
          | inl is ↦ inr (subst (λ z. Q z x) (sym is) there.2)
          | inr later ↦ absurd (contains_none there.0 later)
        ]
      ]
    ]),
  )

  -- the same for the first elements of a list
  pub adds_next : (xs : List A) (i : ℕ) (d : A) (old mid new : List X) → i < length xs → IsUnionWith (Of Q (take i xs)) old mid → IsUnionWith (Q (get_or xs i d)) mid new → IsUnionWith (Of Q (take (i + 1) xs)) old new
  adds_next xs i d old mid new lt one two = subst (λ ys. IsUnionWith (Of Q ys) old new) (sym (take_more xs i d lt)) (adds_one_more (take i xs) (get_or xs i d) old mid new one two)

-- ---- a reference

-- a block above the garbage round wants the parents that its unsatisfied references name
pub of_references : (s : State) (b : Block) (old new : List Wanted) → s.floor < b.round → IsUnionWith (Of (NamesMissing s b.round) b.parents) old new → IsUnionWith (Wants s b) old new
of_references s b old new above adds w = (
  λ among. elim ((adds w).0 among) [ inl here ↦ inl here | inr (r, in_parents, lacks) ↦ inr (above, r, in_parents, lacks.0, lacks.1) ],
  λ h. (adds w).1 (elim h [ inl here ↦ inl here | inr (high, r, in_parents, lacks, named) ↦ inr (r, in_parents, (lacks, named)) ]),
)

-- an unsatisfied reference names one missing parent
pub lacks_one : (s : State) (round : ℕ) (r : Ref) (before : ℕ) → before + 1 ≡ round → (IsSatisfied s round r → ⊥) → (old : List Wanted)
    → IsUnionWith (NamesMissing s round r) old (insert_key wanted_cmp old (record { round = before; author = r.author; digest = r.digest }))
lacks_one s round r before is lacks old x = (
  λ among. elim ((with_key wanted_cmp wanted_apart old name x).0 among) [
    | inl here ↦ inl here
    | inr same ↦ inr (lacks, subst (λ (y : Wanted). IsNamedBy round r y) same (is, refl, refl))
  ],
  λ h. (with_key wanted_cmp wanted_apart old name x).1 (elim h [
    | inl here ↦ inl here
    | inr there ↦
        let same_round : before ≡ x.round = let so : x.round + 1 ≡ round = there.1.0 in omega (arith, is, so) in
        inr (λ i. record { round = same_round i; author = sym there.1.1 i; digest = sym there.1.2 i })
  ]),
)
  where
    name : Wanted
    name = record { round = before; author = r.author; digest = r.digest }

-- the parents that the block wants are all that is found, if nothing was found before
pub only_wanted : (s : State) (b : Block) (missing : List Wanted) → IsUnionWith (Wants s b) [] missing → IsStrictlySortedBy wanted_cmp missing → ListsExactly wanted_cmp (Wants s b) missing
only_wanted s b missing adds sorted = record {
  exactly = λ w. (
    λ among. elim ((adds w).0 among) [ inl here ↦ absurd (contains_none w here) | inr wants ↦ wants ],
    λ wants. (adds w).1 (inr wants),
  );
  ascending = sorted;
}

-- ---- the held blocks

-- some held blocks are left, and exactly the parents that the others want are found
pub record SoFar (s : State) (left : List (Digest × Block)) (wanted : List Wanted) : Type 0 where
  pub done : List (Digest × Block)
  pub held : s.blocks ≡ from_entries (done ++ left)
  pub sorted : IsStrictlySortedBy digest_cmp (keys_of (done ++ left))
  pub added : IsUnionWith (Of (Wants s) (values_of done)) [] wanted
  pub ordered : IsStrictlySortedBy wanted_cmp wanted

pub one_done : (s : State) (left : List (Digest × Block)) (d : Digest) (b : Block) (wanted more : List Wanted) → SoFar s ((d, b) ∷ left) wanted
    → IsUnionWith (Wants s b) wanted more → (IsStrictlySortedBy wanted_cmp wanted → IsStrictlySortedBy wanted_cmp more) → SoFar s left more
one_done s left d b wanted more so adds ordered = record {
  done = so.done ++ (d, b) ∷ [];
  held = so.held ∙ ap from_entries (sym same);
  sorted = subst (λ es. IsStrictlySortedBy digest_cmp (keys_of es)) (sym same) so.sorted;
  added = subst (λ bs. IsUnionWith (Of (Wants s) bs) [] more) (sym (map-append (λ (e : Digest × Block). e.1) so.done ((d, b) ∷ []))) (adds_one_more (Wants s) (values_of so.done) b [] wanted more so.added adds);
  ordered = ordered so.ordered;
}
  where
    same : so.done ++ (d, b) ∷ [] ++ left ≡ so.done ++ ((d, b) ∷ left)
    same = append_assoc so.done ((d, b) ∷ []) left

-- if no block is left, exactly the wanted parents are found
pub all_done : (s : State) (wanted : List Wanted) → SoFar s [] wanted → ListsExactly wanted_cmp (IsWanted s) wanted
all_done s wanted so = record {
  exactly = λ w. (
    λ among. elim ((so.added w).0 among) [ inl here ↦ absurd (contains_none w here) | inr (b, in_values, wants) ↦ let at = value_held b in_values in (at.0, b, at.1, wants) ],
    λ (d, b, at, wants). (so.added w).1 (inr (b, held_value d b at, wants)),
  );
  ascending = so.ordered;
}
  where
    whole : so.done ++ [] ≡ so.done
    whole = append-nil so.done

    held : s.blocks ≡ from_entries so.done
    held = so.held ∙ ap from_entries whole

    found : (d : Digest) → get s.blocks d ≡ lookup (is_at (digest_cmp d)) so.done
    found d = ap (λ m. get m d) held ∙ get_lookup digests_total so.done d

    value_held : (b : Block) → Contains (values_of so.done) b → (d : Digest) × (get s.blocks d ≡ Some b)
    value_held b among =
        let entry = Contains-from_values_of so.done b among in
        let distinct = IsDistinct-from_sorted digest_cmp (keys_of so.done) (subst (λ es. IsStrictlySortedBy digest_cmp (keys_of es)) whole so.sorted) in
        (entry.0, found entry.0 ∙ lookup-from_Contains (eq_by_cmp_equiv digests_total) entry.0 b so.done distinct entry.1)

    held_value : (d : Digest) (b : Block) → get s.blocks d ≡ Some b → Contains (values_of so.done) b
    held_value d b at = Contains-values_of so.done d b (Contains-from_lookup same_digest d b so.done (sym (found d) ∙ at))
