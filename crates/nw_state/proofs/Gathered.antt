-- Maps that gather what a relation says of the digests of a list.
use Rattle.nw_state.proofs.Words.{◌≡◌, Bool, true, false, cond, List, [], ◌∷◌, ◌++◌, Option, Some, None, refl, ap, sym, ◌∙◌, subst, inl, inr, Contains, Ordering, eq_by_cmp, eq_by_cmp_equiv, insert_entry, FinMap, from_entries, get, insert, get-empty, Contains-push_cases, none-some, same_Some, Digest, contains_none, put_entries}
use Rattle.std.specs.Prelude.{◌↔◌}
use Rattle.std.specs.Cmp.{IsTotalOrder}
use Rattle.std.specs.FinMap.{IsAntisymmetric, empty, get-insert}
use Rattle.nw_digest.proofs.Maps.{tie}

-- two results with the same values are the same
pub same_values : {X : Type 0} (a b : Option X) → ((x : X) → (a ≡ Some x) ↔ (b ≡ Some x)) → a ≡ b
same_values None None same = refl
same_values None (Some x) same = absurd (none-some x ((same x).1 refl))
same_values (Some x) b same = sym ((same x).0 refl)

module _ {K X : Type 0} {R : K → K → Ordering} (digest_at : K → X → Digest) (Q : K → X → Type 0) where
  -- the map has exactly the pairs of the relation whose digests are listed, and perhaps other pairs of the relation
  pub record Gathers (digests : List Digest) (m : FinMap R X) : Type 0 where
    -- each pair of the map is one of the relation
    pub only : (k : K) (x : X) → get m k ≡ Some x → Q k x
    -- each pair of the relation whose digest is listed is in the map
    pub all : (k : K) (x : X) → Q k x → Contains digests (digest_at k x) → get m k ≡ Some x

  -- no digest was read
  pub gathers_none : IsTotalOrder R → Gathers [] empty
  gathers_none o = record {
    only = λ k x found. absurd (none-some x (sym (get-empty R k) ∙ found));
    all = λ k x is among. absurd (contains_none (digest_at k x) among);
  }

  -- one more digest was read, which is that of no pair
  pub gathers_skip : (digests : List Digest) (d : Digest) (m : FinMap R X) → Gathers digests m → ((k : K) (x : X) → Q k x → d ≡ digest_at k x → ⊥) → Gathers (digests ++ d ∷ []) m
  gathers_skip digests d m gathers none = record {
    only = gathers.only;
    all = λ k x is among. elim (Contains-push_cases digests d (digest_at k x) among) [
      | inl early ↦ gathers.all k x is early
      | inr last ↦ absurd (none k x is last)
    ];
  }

  -- one more digest was read, which is that of one pair
  pub gathers_put : IsTotalOrder R → IsAntisymmetric R → (digests : List Digest) (d : Digest) (m : FinMap R X) (k : K) (x : X) → Gathers digests m → Q k x
      → ((j : K) (y : X) → Q j y → d ≡ digest_at j y → k ≡ j) → ((j : K) (y z : X) → Q j y → Q j z → y ≡ z) → Gathers (digests ++ d ∷ []) (insert m k x)
  gathers_put o apart digests d m k x gathers is one_key one_value = record {
    only = λ j y found. only j y (eq_by_cmp R j k) refl (sym (get-insert o m k x j) ∙ found);
    all = λ j y related among. get-insert o m k x j ∙ all j y related among (eq_by_cmp R j k) refl;
  }
    where
      only : (j : K) (y : X) (b : Bool) → eq_by_cmp R j k ≡ b → cond b (Some x) (get m j) ≡ Some y → Q j y
      only j y true tied found =
          let same : j ≡ k = apart j k (tie (R j k) tied) in
          subst (λ z. Q j z) (same_Some x y found) (subst (λ i. Q i x) (sym same) is)
      only j y false other found = gathers.only j y found

      all : (j : K) (y : X) → Q j y → Contains (digests ++ d ∷ []) (digest_at j y) → (b : Bool) → eq_by_cmp R j k ≡ b → cond b (Some x) (get m j) ≡ Some y
      all j y related among true tied =
          let same : j ≡ k = apart j k (tie (R j k) tied) in
          ap Some (one_value j x y (subst (λ i. Q i x) (sym same) is) related)
      all j y related among false other = elim (Contains-push_cases digests d (digest_at j y) among) [
        | inl early ↦ gathers.all j y related early
        | inr last ↦ let same : k ≡ j = one_key j y related last in let no : true ≡ false = sym ((eq_by_cmp_equiv o).refl j) ∙ ap (eq_by_cmp R j) (sym same) ∙ other in absurd cc
      ]

  -- the same, with the entries of an ordered map
  pub gathers_entry : IsTotalOrder R → IsAntisymmetric R → (digests : List Digest) (d : Digest) (old new : List (K × X)) (k : K) (x : X) → Gathers digests (from_entries old) → Q k x
      → ((j : K) (y : X) → Q j y → d ≡ digest_at j y → k ≡ j) → ((j : K) (y z : X) → Q j y → Q j z → y ≡ z) → new ≡ insert_entry R old k x → Gathers (digests ++ d ∷ []) (from_entries new)
  gathers_entry o apart digests d old new k x gathers is one_key one_value put =
      subst (Gathers (digests ++ d ∷ [])) (sym (put_entries o apart old new k x put)) (gathers_put o apart digests d (from_entries old) k x gathers is one_key one_value)

  -- all digests were read
  pub gathered : (digests : List Digest) (m : FinMap R X) → Gathers digests m → ((k : K) (x : X) → Q k x → Contains digests (digest_at k x)) → (k : K) (x : X) → (get m k ≡ Some x) ↔ Q k x
  gathered digests m gathers listed k x = (λ found. gathers.only k x found, λ is. gathers.all k x is (listed k x is))
