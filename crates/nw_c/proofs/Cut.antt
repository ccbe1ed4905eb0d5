-- Cutting bytes into transactions of given lengths.
use Rattle.std.proofs.Common.{◌≡◌, ℕ, ◌+◌, ◌*◌, ◌<◌, ◌≤◌, List, [], ◌∷◌, ◌++◌, All, length, map, take, drop, get_or, arith, ap, sym, ◌∙◌, refl, subst, length-append}
use Rattle.std.specs.List.{flat_map, sum_by}
use Rattle.std.proofs.lemmas.List.Sums.{sum_by-cons, sum_by_more_le}
use Rattle.std.proofs.Math.Seq.{take-append_seam}
use Rattle.std.proofs.Math.ListN.{get_or-map}
use Rattle.std.proofs.lemmas.List.Elements.{All-get_or}
use Rattle.std.proofs.lemmas.List.{append_cancel_left, length-map, take_all}
use Rattle.std.specs.List.Sorted.{IsStrictlyIncreasing}
use Rattle.nw_codec.specs.Fits.{Fits, authors, transactions_size}
use Rattle.nw_codec.specs.declared.block.Block.{Block}
use Rattle.nw_codec.specs.declared.limits.TheConstants.{MAX_PARENTS, MAX_TRANSACTIONS, MAX_TRANSACTION, MAX_BODY}
use Rattle.nw_c.specs.Blocks.{AreCutFrom}

-- the lists, one after another
abbrev pub joined : List (List ℕ) → List ℕ
joined = flat_map (λ t. t)

-- the sum of these lengths
abbrev pub sum : List ℕ → ℕ
sum = sum_by (λ n. n)

bytes_in : (ts : List (List ℕ)) → length (joined ts) ≡ sum (map length ts)
bytes_in [] = refl
bytes_in (t ∷ ts) = length-append t (joined ts) ∙ (ap (λ n. length t + n) (bytes_in ts) ∙ sym (sum_by-cons (λ n. n) (length t) (map length ts)))

module _ (bytes lengths : List ℕ) (done ts : List (List ℕ)) (left : List ℕ) (i : ℕ) where
  -- the state of cutting: the first i transactions are done, and ts would be all of them
  pub record Cutting : Type 0 where
    -- the done transactions have the first i lengths
    pub lengths_done : map length done ≡ take i lengths
    -- the done transactions and the remaining bytes are all bytes
    pub bytes_left : joined done ++ left ≡ bytes
    -- ts has these lengths and these bytes
    pub all : AreCutFrom bytes lengths ts

  done_size : Cutting → length (joined done) ≡ sum (take i lengths)
  done_size c = bytes_in done ∙ ap sum c.lengths_done

  all_size : Cutting → length (joined done) + length left ≡ sum lengths
  all_size c = sym (length-append (joined done) left) ∙ (ap length c.bytes_left ∙ (sym (ap length c.all.1) ∙ (bytes_in ts ∙ ap sum c.all.0)))

  -- the remaining bytes have room for the next transaction
  pub has_room : Cutting → (d : ℕ) → i < length lengths → get_or lengths i d ≤ length left
  has_room c d low = let a = done_size c in let b = all_size c in let s = sum_by_more_le (λ n. n) lengths i d low in omega arith

  -- the next transaction is not too long
  pub is_short : Cutting → All (λ t. length t ≤ MAX_TRANSACTION) ts → i < length lengths → get_or lengths i 0 ≤ MAX_TRANSACTION
  is_short c short low =
      let same : get_or lengths i 0 ≡ length (get_or ts i []) = ap (λ ns. get_or ns i 0) (sym c.all.0) ∙ get_or-map (length {A = ℕ}) ts i [] in
      let count : length lengths ≡ length ts = ap length (sym c.all.0) ∙ length-map ts (length {A = ℕ}) in
      let here = All-get_or (λ t. length t ≤ MAX_TRANSACTION) ts i [] (subst (λ n. i < n) count low) short in omega arith

  -- no bytes remain after the last transaction
  pub none_left : Cutting → length lengths ≤ i → length left ≡ 0
  none_left c past = let a = done_size c ∙ ap sum (take_all i lengths past) in let b = all_size c in omega arith

-- the lengths and the bytes determine the transactions
pub one_cut : (ts us : List (List ℕ)) → map length ts ≡ map length us → joined ts ≡ joined us → ts ≡ us
one_cut [] [] sizes same = refl
one_cut [] (u ∷ us) sizes same = cc
one_cut (t ∷ ts) [] sizes same = cc
one_cut (t ∷ ts) (u ∷ us) sizes same =
    let size : length t ≡ length u = ap (λ ns. get_or ns 0 0) sizes in
    let first : t ≡ u = sym (take-append_seam t (joined ts)) ∙ (ap (take (length t)) same ∙ (ap (λ n. take n (u ++ joined us)) size ∙ take-append_seam u (joined us))) in
    let rest : joined ts ≡ joined us = append_cancel_left u (joined ts) (joined us) (ap (λ v. v ++ joined ts) (sym first) ∙ same) in
    ap (λ v. v ∷ ts) first ∙ ap (λ vs. u ∷ vs) (one_cut ts us (ap (drop 1) sizes) rest)

-- a block fits if another block with the same parents and transactions fits
pub fits_as : (b c : Block) → b.parents ≡ c.parents → b.transactions ≡ c.transactions → Fits b → Fits c
fits_as b c parents transactions fits = record {
  few_parents = subst (λ ps. length ps ≤ MAX_PARENTS) parents fits.few_parents;
  in_order = subst (λ ps. IsStrictlyIncreasing (authors ps)) parents fits.in_order;
  few_transactions = subst (λ ts. length ts ≤ MAX_TRANSACTIONS) transactions fits.few_transactions;
  short_transactions = subst (All (λ t. length t ≤ MAX_TRANSACTION)) transactions fits.short_transactions;
  short_body = subst (λ ps. 13 + 34 * length ps + transactions_size c.transactions ≤ MAX_BODY) parents (subst (λ ts. 13 + 34 * length b.parents + transactions_size ts ≤ MAX_BODY) transactions fits.short_body);
}
