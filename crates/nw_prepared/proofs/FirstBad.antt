-- The first bad vote of some votes and later ones.
use Rattle.std.proofs.Common.{◌≡◌, ◌∙◌, ℕ, zero, suc, ◌-◌, ◌<◌, ◌==◌, Bool, true, false, Option, Some, None, List, [], ◌∷◌, ◌++◌, length, take, drop, get_or, refl, sym, ap, subst, arith, append_assoc, length-drop}
use Rattle.std.specs.Prelude.{MatchOption, if◌then◌else◌, slice_range}
use Rattle.std.specs.List.{All}
use Rattle.std.proofs.lemmas.List.{take-append-drop, take_all}
use Rattle.std.proofs.lemmas.List.Elements.{All-nil, All-cons, All-append}
use Rattle.nw_codec.specs.declared.certificate.Seal.{Seal}
use Rattle.nw_check.specs.Seals.{IsFirstBad}

-- the part from a place to the end
pub rest_is : (votes : List Seal) (n : ℕ) → slice_range votes n (length votes) ≡ drop n votes
rest_is votes n = take_all (length votes - n) (drop n votes) (omega (arith, length-drop n votes))

-- votes are the first one and the rest
pub first_and_rest : (votes : List Seal) (d : Seal) → 0 < length votes → votes ≡ get_or votes 0 d ∷ slice_range votes 1 (length votes)
first_and_rest [] d h = absurd (omega arith)
first_and_rest (vote ∷ votes) d h = ap (λ (rest : List Seal). vote ∷ rest) (sym (rest_is (vote ∷ votes) 1))

-- there are votes
pub some_votes : (n : ℕ) (empty : Bool) → empty ≡ (n == 0) → empty ≡ false → 0 < n
some_votes zero empty e h = absurd cc
some_votes (suc n) empty e h = omega arith

module _ (IsGood : Seal → Type 0) where
  -- a bad vote in front
  bad_in_front : (front later : List Seal) (signer : ℕ) → IsFirstBad IsGood front signer → IsFirstBad IsGood (front ++ later) signer
  bad_in_front front later signer (before, after, vote, whole, same, good, bad) =
      (before, after ++ later, vote, ap (λ (votes : List Seal). votes ++ later) whole ∙ append_assoc before (vote ∷ after) later, same, good, bad)

  -- a bad vote after good ones
  bad_after : (front later : List Seal) (signer : ℕ) → All IsGood front → IsFirstBad IsGood later signer → IsFirstBad IsGood (front ++ later) signer
  bad_after front later signer all (before, after, vote, whole, same, good, bad) =
      (front ++ before, after, vote, ap (λ (votes : List Seal). front ++ votes) whole ∙ sym (append_assoc front before (vote ∷ after)), same, All-append IsGood front before all good, bad)

  -- the first bad one of later votes, after good ones
  after_good : (front later : List Seal) (found : Option ℕ) → All IsGood front → MatchOption found (All IsGood later) (IsFirstBad IsGood later)
      → MatchOption found (All IsGood (front ++ later)) (IsFirstBad IsGood (front ++ later))
  after_good front later None all h = All-append IsGood front later all h
  after_good front later (Some signer) all h = bad_after front later signer all h

  -- the first vote is bad
  pub first_is_bad : (votes : List Seal) (vote : Seal) (rest : List Seal) → votes ≡ vote ∷ rest → (IsGood vote → ⊥) → IsFirstBad IsGood votes vote.signer
  first_is_bad votes vote rest whole bad = ([], rest, vote, whole, refl, All-nil IsGood, bad)

  -- the first vote, and then the rest
  pub first_then_rest : (votes : List Seal) (vote : Seal) (rest : List Seal) (good : Bool) (later found : Option ℕ) → votes ≡ vote ∷ rest
      → (good ≡ true → IsGood vote) → (good ≡ false → IsGood vote → ⊥) → found ≡ (if good then later else Some vote.signer)
      → MatchOption later (All IsGood rest) (IsFirstBad IsGood rest) → MatchOption found (All IsGood votes) (IsFirstBad IsGood votes)
  first_then_rest votes vote rest true later found whole if_good if_bad is h =
      rw (is, whole) (after_good (vote ∷ []) rest later (All-cons IsGood vote [] (if_good refl) (All-nil IsGood)) h)
  first_then_rest votes vote rest false later found whole if_good if_bad is h = rw is (first_is_bad votes vote rest whole (if_bad refl))

  -- the votes before a place, and then those from it on
  pub in_front : (place : ℕ) (votes : List Seal) (signer : ℕ) → IsFirstBad IsGood (take place votes) signer → IsFirstBad IsGood votes signer
  in_front place votes signer h =
      subst (λ (all : List Seal). IsFirstBad IsGood all signer) (take-append-drop place votes) (bad_in_front (take place votes) (drop place votes) signer h)

  pub then_later : (place : ℕ) (votes : List Seal) (found : Option ℕ) → All IsGood (take place votes) → MatchOption found (All IsGood (drop place votes)) (IsFirstBad IsGood (drop place votes))
      → MatchOption found (All IsGood votes) (IsFirstBad IsGood votes)
  then_later place votes found all h =
      subst (λ (whole : List Seal). MatchOption found (All IsGood whole) (IsFirstBad IsGood whole)) (take-append-drop place votes) (after_good (take place votes) (drop place votes) found all h)
