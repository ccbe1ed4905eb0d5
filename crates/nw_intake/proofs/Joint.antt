-- The results of workers, joined one by one.
use Rattle.std.proofs.Common.{◌≡◌, ◌≢◌, ℕ, zero, suc, ◌<◌, Bool, true, false, Result, Ok, Err, List, [], ◌∷◌, ◌++◌, length, slice_index_or, map, sym, ◌∙◌, ap, refl, arith, append_assoc, append-nil}
use Rattle.std.specs.List.{Contains}
use Rattle.std.proofs.lemmas.List.{map-append, nil_from_length}
use Rattle.std.specs.declared.collections.VecDeque.{VecDeque}
use Rattle.nw_intake.specs.Shares.{HadMemory}
use Rattle.nw_intake.specs.declared.fault.ShareFault.{ShareFault}
use Rattle.nw_intake.specs.declared.fault.ShareFault.TheVariants as share
use Rattle.nw_intake.proofs.Dealt.{items_at}

contains_more : {X : Type 0} (x y : X) (ys : List X) → Contains ys x → Contains (y ∷ ys) x
contains_more x y ys h = (suc h.0, (let low = h.1 in omega arith), h.2)

contains_less : {X : Type 0} (x y : X) (ys : List X) → y ≢ x → (k : ℕ) → k < length (y ∷ ys) → slice_index_or (y ∷ ys) k x ≡ x → Contains ys x
contains_less x y ys apart zero low is = absurd (apart is)
contains_less x y ys apart (suc k) low is = (k, omega arith, is)

-- the result of a worker that did not fail
abbrev pub ok_of : {X : Type 0} → X → Result X ShareFault
ok_of s = Ok s

-- the results if no worker failed
abbrev pub all_ok : {X : Type 0} → List X → List (Result X ShareFault)
all_ok shares = map ok_of shares

-- the loop of `joined` took these shares and has these results left; `shut` says whether it found a shut gate
pub record Joins {X : Type 0} (results : List (Result X ShareFault)) (shares : List X) (shut : Bool) (left : List (Result X ShareFault)) : Type 0 where
  pub within : (r : Result X ShareFault) → Contains left r → Contains results r
  pub memory : HadMemory left → HadMemory results
  pub all_shares : shut ≡ false → all_ok shares ++ left ≡ results
  pub one_shut : shut ≡ true → Contains results (Err share.GateShut)

pub joins_first : {X : Type 0} (results : List (Result X ShareFault)) → Joins results [] false results
joins_first results = record { within = λ r h. h; memory = λ h. h; all_shares = λ _. refl; one_shut = λ e. cc }

module _ {X : Type 0} (results : List (Result X ShareFault)) (shares : List X) (shut : Bool) where
  pub joins_share : (s : X) (left : List (Result X ShareFault)) → Joins results shares shut (Ok s ∷ left) → Joins results (shares ++ s ∷ []) shut left
  joins_share s left j =
      let apart : ok_of s ≢ Err share.NoMemory = λ e. cc in
      record {
        within = λ r h. j.within r (contains_more r (Ok s) left h);
        memory = λ none. j.memory (λ h. none (contains_less (Err share.NoMemory) (Ok s) left apart h.0 h.1 h.2));
        all_shares = λ e. ap (λ ls. ls ++ left) (map-append (λ (t : X). ok_of t) shares (s ∷ [])) ∙ (append_assoc (all_ok shares) (Ok s ∷ []) left ∙ j.all_shares e);
        one_shut = j.one_shut;
      }

  pub joins_shut : (left : List (Result X ShareFault)) → Joins results shares shut (Err share.GateShut ∷ left) → Joins results shares true left
  joins_shut left j =
      let shut_one : Result X ShareFault = Err share.GateShut in
      let apart : shut_one ≢ Err share.NoMemory = λ e. cc in
      record {
        within = λ r h. j.within r (contains_more r (Err share.GateShut) left h);
        memory = λ none. j.memory (λ h. none (contains_less (Err share.NoMemory) (Err share.GateShut) left apart h.0 h.1 h.2));
        all_shares = λ e. cc;
        one_shut = λ _. j.within (Err share.GateShut) (zero, omega arith, refl);
      }

module _ {X : Type 0} (results : List (Result X ShareFault)) (shares : List X) (shut : Bool) (left : List (Result X ShareFault)) where
  -- nothing is left
  nothing : length left ≡ 0 → left ≡ []
  nothing e = nil_from_length left e

  pub had_memory : Joins results shares shut left → length left ≡ 0 → HadMemory results
  had_memory j e = j.memory (λ h. absurd (let low = h.1 in omega arith))

  pub joins_all : Joins results shares shut left → length left ≡ 0 → shut ≡ false → results ≡ all_ok shares
  joins_all j e open_gate = sym (j.all_shares open_gate) ∙ (ap (λ ls. all_ok shares ++ ls) (nothing e) ∙ append-nil (all_ok shares))

-- what holds of each result holds of each share
pub each_share : {X A : Type 0} (Q : ℕ → Result (VecDeque X A) ShareFault → Type 0) (P : ℕ → List X → Type 0) → ((k : ℕ) (s : VecDeque X A) → Q k (Ok s) → P k s.items) → (shares : List (VecDeque X A))
    → ((k : ℕ) (d : Result (VecDeque X A) ShareFault) → k < length (all_ok shares) → Q k (slice_index_or (all_ok shares) k d)) → (k : ℕ) → k < length shares → P k (items_at shares k)
each_share Q P link [] each k low = absurd (omega arith)
each_share Q P link (s ∷ ss) each zero low = link zero s (each zero (Ok s) (omega arith))
each_share Q P link (s ∷ ss) each (suc k) low = each_share (λ j. Q (suc j)) (λ j. P (suc j)) (λ j. link (suc j)) ss (λ j d within. each (suc j) d (omega arith)) k (omega arith)
