-- Distinct keys.
use Rattle.std.proofs.Common.{◌≡◌, ◌∙◌, ◌⊎◌, ℕ, true, false, nat_eq, ◌+◌, ◌/◌, ◌%◌, ◌<◌, ◌≤◌, List, [], ◌∷◌, length, map, take, get_or, refl, sym, ap, inl, inr, arith}
use Rattle.std.specs.Prelude.{Contains}
use Rattle.std.specs.Cmp.Lexicographic.{pointwise, bytes_decides}
use Rattle.std.proofs.lemmas.List.{take_more, take-map, get_or-take, get_or_default, get_or-map, length-take, length-map}
use Rattle.std.proofs.lemmas.List.Elements.{All-map, Contains-push_cases}
use Rattle.std.proofs.lemmas.List.Quantifiers.{all_pairs_push}
use Rattle.nw_committee.specs.declared.member.Key.{Key}
use Rattle.nw_committee.specs.declared.member.Member.{Member}
use Rattle.nw_committee.specs.Committee.{AreDistinct, IsEqualSize, IsCommittee, IsWeight, keys, equal_members}

-- ---- keys in a list

-- a key among the first n of a list is at an index below n
pub contains-take : (xs : List Key) (n : ℕ) (k : Key) → Contains (take n xs) k → (i : ℕ) × (i < n) × (i < length xs) × (get_or xs i k ≡ k)
contains-take xs n k (i, lt, at) =
    let len = length-take n xs in
    let below : i < n = omega (arith, len, lt) in
    (i, below, omega (arith, len, lt), sym (get_or-take n xs i k below) ∙ at)

-- a key among the first i + 1 is among the first i, or the key at i
pub contains-more : (xs : List Key) (i : ℕ) (k : Key) → i < length xs → Contains (take (i + 1) xs) k → Contains (take i xs) k ⊎ (get_or xs i k ≡ k)
contains-more xs i k h among = Contains-push_cases (take i xs) (get_or xs i k) k (rw (take_more xs i k h) at among)

-- two keys are the same exactly when their bytes compare as equal
pub same_key : (a b : Key) → pointwise nat_eq a.0 b.0 ≡ true → a ≡ b
same_key a b h = let key : List ℕ → Key = λ bytes. record { 0 = bytes } in ap key ((bytes_decides a.0 b.0).0 h)

pub other_key : (a b : Key) → pointwise nat_eq a.0 b.0 ≡ false → a ≡ b → ⊥
other_key a b h e = let so : pointwise nat_eq a.0 b.0 ≡ true = (bytes_decides a.0 b.0).1 (ap (λ (k : Key). k.0) e) in cc

-- ---- distinct keys

pub distinct_none : AreDistinct []
unfolding AreDistinct
distinct_none i j d low high = absurd (omega arith)

pub distinct-more : (xs : List Key) (i : ℕ) (k : Key) → i < length xs → get_or xs i k ≡ k → AreDistinct (take i xs) → (Contains (take i xs) k → ⊥) → AreDistinct (take (i + 1) xs)
unfolding AreDistinct
distinct-more xs i k h at distinct fresh =
    let each : (q : ℕ) (d : Key) → q < length (take i xs) → get_or (take i xs) q d ≡ k → ⊥ =
    λ q d lt same. fresh (q, lt, get_or_default (take i xs) q k d lt ∙ same) in
    rw (take_more xs i k h, at) (all_pairs_push (λ a b. a ≡ b → ⊥) (take i xs) k distinct each)

pub distinct-apart : (xs : List Key) (i : ℕ) (k : Key) → i < length xs → get_or xs i k ≡ k → Contains (take i xs) k → AreDistinct xs → ⊥
unfolding AreDistinct
distinct-apart xs i k h at among distinct =
    let found = contains-take xs i k among in
    distinct found.0 i k found.1 h (found.3 ∙ sym at)

-- ---- values with keys

module _ {X : Type 0} (f : X → Key) (xs : List X) (i : ℕ) (x : X) (h : i < length xs) (is : x ≡ get_or xs i x) where
  pub at_key : (k : Key) → get_or (map f xs) i k ≡ f x
  at_key k = get_or-map f xs i x k h ∙ ap f (sym is)

  within : i < length (map f xs)
  within = omega (arith, length-map xs f)

  pub has_key_here : (k : Key) → f x ≡ k → Contains (map f xs) k
  has_key_here k e = (i, within, at_key k ∙ e)

  pub has_key_none : (k : Key) → (Contains (take i (map f xs)) k → ⊥) → (f x ≡ k → ⊥) → Contains (take (i + 1) (map f xs)) k → ⊥
  has_key_none k none other among =
      elim (contains-more (map f xs) i k within among) [
        | inl before ↦ none before
        | inr here ↦ other (sym (at_key k) ∙ here)
      ]

  pub distinct_keys-more : AreDistinct (take i (map f xs)) → (Contains (map f (take i xs)) (f x) → ⊥) → AreDistinct (take (i + 1) (map f xs))
  distinct_keys-more distinct fresh = distinct-more (map f xs) i (f x) within (at_key (f x)) distinct (rw (take-map f i xs) fresh)

  pub distinct_keys-apart : Contains (map f (take i xs)) (f x) → AreDistinct (map f xs) → ⊥
  distinct_keys-apart among = distinct-apart (map f xs) i (f x) within (at_key (f x)) (rw (take-map f i xs) among)

-- ---- members of equal weight

keys_of_equal : (ks : List Key) → keys (equal_members ks) ≡ ks
keys_of_equal [] = refl
keys_of_equal (k ∷ ks) = ap (λ (rest : List Key). k ∷ rest) (keys_of_equal ks)

-- 3f + 1 distinct keys, at most 100, make a committee of members of weight 1
pub equal_members-committee : (ks : List Key) → IsEqualSize (length ks) → AreDistinct ks → IsCommittee (equal_members ks)
unfolding IsEqualSize
equal_members-committee ks (f, size, few) distinct =
    let member : Key → Member = λ k. record { key = k; weight = 1 } in
    let len = length-map ks member in
    record {
      size = (omega (arith, len), omega (arith, len));
      distinct = rw (keys_of_equal ks) distinct;
      weights = All-map (λ (m : Member). IsWeight m.weight) member ks (λ k d h. (omega arith, omega arith));
    }

-- ---- sizes

pub equal_size : (n : ℕ) → n % 3 ≡ 1 → n ≤ 100 → IsEqualSize n
unfolding IsEqualSize
equal_size n one few = (n / 3, omega arith, few)

pub equal_size-one : (n : ℕ) → IsEqualSize n → n % 3 ≡ 1
unfolding IsEqualSize
equal_size-one n (f, size, few) = omega arith

pub equal_size-few : (n : ℕ) → IsEqualSize n → n ≤ 100
unfolding IsEqualSize
equal_size-few n (f, size, few) = few
