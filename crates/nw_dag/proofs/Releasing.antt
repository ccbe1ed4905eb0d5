-- Holders that are released: they lack nothing from then on.
use Rattle.nw_dag.proofs.Words.{◌≡◌, ℕ, ◌+◌, ◌<◌, List, [], ◌∷◌, ◌++◌, length, get_or, take, ap, refl, sym, ◌∙◌, subst, arith, inl, inr, length-append, Contains, eq_by_cmp, eq_by_cmp_equiv, get_or-take, get_or_default, All-weaker, All-contains, Contains-push_cases, Contains-append_left, Contains-push, Contains-get_or, true≢false, Digest, Pairs, Lacks, without_holder, digest_cmp, State, contains_cases, contains_first, contains_none, digests_total}
use Rattle.std.proofs.Common.{length-take}
use Rattle.std.specs.List.{IsDistinct}
use Rattle.std.proofs.lemmas.Map.Keys.{apart_from_distinct}
use Rattle.nw_dag.specs.Lacking.{LacksSomething, IsReady}
use Rattle.nw_dag.specs.Changes.{AppendsThose}
use Rattle.nw_dag.specs.AtRest.{AreListed, HasPendingCount}
use Rattle.nw_dag.specs.Collection.{AreReleased, StandsButLacks}
use Rattle.nw_dag.proofs.Pairs.{without_holder_lacks}
use Rattle.nw_dag.proofs.Listed.{adds_more, listed_both, most_left, pending_left}

-- ---- one holder

-- listed digests stay ready
pub listed_without : (s : State) (old new : Pairs) (holder : Digest) (complete : List Digest) → new ≡ without_holder old holder → AreListed s old complete → AreListed s new complete
listed_without s old new holder complete is listed = record {
  ready = All-weaker (IsReady s old) (IsReady s new) (λ x ready. (ready.0, λ w lacks. ready.1 w ((without_holder_lacks old holder x w).0 (subst (λ (m : Pairs). Lacks m x w) is lacks)).0)) complete listed.ready;
  once = listed.once;
}

-- a digest that lacks a parent is not listed
pub lacking_apart : (s : State) (lacking : Pairs) (complete : List Digest) (holder : Digest) → AreListed s lacking complete → LacksSomething lacking holder → Contains complete holder → ⊥
lacking_apart s lacking complete holder listed lacks among = (All-contains (IsReady s lacking) complete holder listed.ready among).1 lacks.0 lacks.1

-- ---- one holder after another

pub without_none : (old : Pairs) → AreReleased [] old old
without_none old h w = (λ lacks. (lacks, contains_none h), λ both. both.0)

pub without_more : (holders : List Digest) (d : Digest) (a b c : Pairs) → AreReleased holders a b → c ≡ without_holder b d → AreReleased (holders ++ d ∷ []) a c
without_more holders d a b c first is h w = (
  λ lacks.
      let last = (without_holder_lacks b d h w).0 (subst (λ (m : Pairs). Lacks m h w) is lacks) in
      let early = (first h w).0 last.0 in
      (early.0, λ among. elim (Contains-push_cases holders d h among) [ inl before ↦ early.1 before | inr here ↦ last.1 here ]),
  λ both. subst (λ (m : Pairs). Lacks m h w) (sym is) ((without_holder_lacks b d h w).1 (
    (first h w).1 (both.0, λ among. both.1 (Contains-append_left holders (d ∷ []) h among)),
    λ same. both.1 (subst (Contains (holders ++ d ∷ [])) same (Contains-push holders d)),
  )),
)

-- the next holder is not among those before
pub not_before : (xs : List Digest) (i : ℕ) (d : Digest) → i < length xs → IsDistinct (eq_by_cmp digest_cmp) xs → Contains (take i xs) (get_or xs i d) → ⊥
not_before xs i d lt once (k, below, at) =
    let x = get_or xs i d in
    let short : k < i = omega (arith, below, length-take i xs) in
    let differ = apart_from_distinct (eq_by_cmp digest_cmp) xs k i x once short lt in
    let at_k : get_or xs k x ≡ x = sym (get_or-take i xs k x short) ∙ at in
    let at_i : get_or xs i x ≡ x = get_or_default xs i x d lt in
    true≢false (sym ((eq_by_cmp_equiv digests_total).refl x) ∙ ap (λ y. eq_by_cmp digest_cmp y x) (sym at_k) ∙ ap (eq_by_cmp digest_cmp (get_or xs k x)) (sym at_i) ∙ differ)

-- releasing other holders does not change what the next one lacks
pub stuck_more : (s : State) (holders : List Digest) (d : Digest) (old mid : Pairs) (a b c : List Digest) → AreReleased holders old mid → (Contains holders d → ⊥) → AppendsThose (StandsButLacks s old) holders a b
    → AppendsThose (StandsButLacks s mid) (d ∷ []) b c → AppendsThose (StandsButLacks s old) (holders ++ d ∷ []) a c
stuck_more s holders d old mid a b c without apart adds last = adds_more (StandsButLacks s old) holders d a b c apart adds (record {
  added = last.added;
  are = last.are;
  once = last.once;
  exactly = λ x. (
    λ among.
        let both = (last.exactly x).0 among in
        (both.0, (both.1.0, (both.1.1.0, ((without x both.1.1.0).0 both.1.1.1).0))),
    λ both. (last.exactly x).1 (both.0, (both.1.0, (both.1.1.0, (without x both.1.1.0).1 (both.1.1.1, λ among. apart (subst (Contains holders) (sym (itself x both.0)) among))))),
  );
})
  where
    itself : (x : Digest) → Contains (d ∷ []) x → d ≡ x
    itself x among = elim (contains_cases d [] x among) [ inl same ↦ same | inr none ↦ absurd (contains_none x none) ]

-- ---- numbers of pending blocks

-- a holder that stands, but lacks a parent, is pending
pub stuck_pending : (s : State) (old : Pairs) (holder : Digest) (pending : ℕ) → StandsButLacks s old holder → HasPendingCount s old [] pending → 0 < pending
stuck_pending s old holder pending stuck counted =
    let new = without_holder old holder in
    pending_left s new (holder ∷ []) pending holder (record {
      complete = counted.complete;
      listed = listed_without s old new holder counted.complete refl counted.listed;
      apart = λ x among. elim (contains_cases holder [] x among) [
        | inl same ↦ subst (λ y. Contains counted.complete y → ⊥) same (lacking_apart s old counted.complete holder counted.listed stuck.1)
        | inr none ↦ absurd (contains_none x none)
      ];
      counts = counted.counts;
    }) (contains_first holder []) (stuck.0, λ w still. ((without_holder_lacks old holder holder w).0 still).1 refl)

module _ (s : State) (old new : Pairs) (holders complete fresh more : List Digest) (without : AreReleased holders old new) (adds : AppendsThose (StandsButLacks s old) holders fresh more) (listed : AreListed s old complete) where
  still : (x : Digest) → IsReady s old x → IsReady s new x
  still x ready = (ready.0, λ w lacks. ready.1 w ((without x w).0 lacks).0)

  freed : (x : Digest) → Contains adds.added x → IsReady s new x
  freed x among = let both = (adds.exactly x).0 among in (both.1.0, λ w lacks. ((without x w).0 lacks).1 both.0)

  -- the listed digests, and those that stood but lacked a parent, are ready now
  pub released : AreListed s new (complete ++ adds.added)
  released = listed_both s new complete adds.added
      (record { ready = All-weaker (IsReady s old) (IsReady s new) still complete listed.ready; once = listed.once })
      (record { ready = λ k d lt. freed (get_or adds.added k d) (Contains-get_or adds.added k d lt); once = adds.once })
      (λ x among before. let lacks = ((adds.exactly x).0 among).1.1 in (All-contains (IsReady s old) complete x listed.ready before).1 lacks.0 lacks.1)

pub count_released : (s : State) (old new : Pairs) (holders fresh more : List Digest) (pending left : ℕ) → AreReleased holders old new → AppendsThose (StandsButLacks s old) holders fresh more → length more + left ≡ length fresh + pending → HasPendingCount s old [] pending → HasPendingCount s new [] left
count_released s old new holders fresh more pending left without adds most counted = record {
  complete = counted.complete ++ adds.added;
  listed = released s old new holders counted.complete fresh more without adds counted.listed;
  apart = λ x none. absurd (contains_none x none);
  counts = omega (arith, counted.counts, length-append counted.complete adds.added, most_left adds pending left most);
}
