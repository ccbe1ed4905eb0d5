-- Lists of ready digests, each listed once.
use Rattle.nw_dag.proofs.Words.{◌≡◌, ℕ, zero, suc, ◌+◌, ◌<◌, ◌≤◌, List, [], ◌∷◌, ◌++◌, length, get_or, is_some, refl, ap, sym, ◌∙◌, subst, arith, inl, inr, append_assoc, append-nil, length-append, Contains, eq_by_cmp_equiv, entries, keys, len, len-entries, contains_key-keys, length-map, length_push, All-contains, Contains-append_cases, Contains-append_left, Contains-append_right, Contains-get_or, length-le_from_is_member, Contains-from_any, Digest, Block, Pairs, State, digests_total, same_digest, contains_cases, contains_first, contains_none}
use Rattle.std.specs.Prelude.{All}
use Rattle.std.proofs.lemmas.List.Elements.{All-append}
use Rattle.nw_dag.specs.Lacking.{IsReady}
use Rattle.nw_dag.specs.Changes.{AppendsThose}
use Rattle.nw_dag.specs.AtRest.{AreListed, HasPendingCount}
use Rattle.nw_dag.proofs.Once.{once_none, once_one, once_both}

-- ---- numbers of listed digests

-- two lists of ready digests can be joined if they have no common digest
pub listed_both : (s : State) (lacking : Pairs) (complete more : List Digest) → AreListed s lacking complete → AreListed s lacking more → ((x : Digest) → Contains more x → Contains complete x → ⊥) → AreListed s lacking (complete ++ more)
listed_both s lacking complete more listed and apart = record {
  ready = All-append (IsReady s lacking) complete more listed.ready and.ready;
  once = once_both complete more listed.once and.once apart;
}

-- at most as many digests are listed as blocks are held
pub listed_fits : (s : State) (lacking : Pairs) (complete : List Digest) → AreListed s lacking complete → length complete ≤ len s.blocks
listed_fits s lacking complete listed =
    let few = length-le_from_is_member (eq_by_cmp_equiv digests_total) complete (keys s.blocks) listed.once (λ q any.
    let ready = All-contains (IsReady s lacking) complete q listed.ready (Contains-from_any same_digest q complete any) in
    sym (contains_key-keys s.blocks q) ∙ ap is_some ready.0.1.0) in
    omega (arith, few, length-map (entries s.blocks) (λ (e : Digest × Block). e.0), len-entries s.blocks)

-- a list of one digest
pub listed_one : (s : State) (lacking : Pairs) (d : Digest) → IsReady s lacking d → AreListed s lacking (d ∷ [])
listed_one s lacking d ready = record { ready = λ k x lt. subst (IsReady s lacking) (only d x k lt) ready; once = once_one d }
  where
    only : (d x : Digest) (k : ℕ) → k < length (d ∷ []) → d ≡ get_or (d ∷ []) k x
    only d x zero lt = refl
    only d x (suc k) lt = absurd (omega (arith, lt))

-- a ready block that is not listed is pending
pub pending_left : (s : State) (lacking : Pairs) (but : List Digest) (pending : ℕ) (d : Digest) → HasPendingCount s lacking but pending → Contains but d → IsReady s lacking d → 0 < pending
pending_left s lacking but pending d counted among ready =
    let one : AreListed s lacking (d ∷ []) = listed_one s lacking d ready in
    let all = listed_both s lacking counted.complete (d ∷ []) counted.listed one (λ x is. elim (contains_cases d [] x is) [ inl here ↦ subst (λ y. Contains counted.complete y → ⊥) here (counted.apart d among) | inr none ↦ absurd (contains_none x none) ]) in
    let few = listed_fits s lacking (counted.complete ++ d ∷ []) all in
    omega (arith, few, length_push counted.complete d, counted.counts)

-- ---- ready digests

-- one digest was tested, and added
pub one_added : (P : Digest → Type 0) (d : Digest) (old new : List Digest) → P d → new ≡ old ++ d ∷ [] → AppendsThose P (d ∷ []) old new
one_added P d old new has is = record {
  added = d ∷ [];
  are = is;
  once = once_one d;
  exactly = λ x. (λ among. (among, elim (contains_cases d [] x among) [ inl here ↦ subst P here has | inr there ↦ absurd (contains_none x there) ]), λ both. both.0);
}

-- one digest was tested, and not added
pub one_left : (P : Digest → Type 0) (d : Digest) (old : List Digest) → (P d → ⊥) → AppendsThose P (d ∷ []) old old
one_left P d old fails = record {
  added = [];
  are = sym (append-nil old);
  once = once_none;
  exactly = λ x. (
    λ among. absurd (contains_none x among),
    λ both. elim (contains_cases d [] x both.0) [ inl here ↦ absurd (fails (subst P (sym here) both.1)) | inr there ↦ there ],
  );
}

-- one more digest was tested, which is another one
pub adds_more : (P : Digest → Type 0) (xs : List Digest) (d : Digest) (a b c : List Digest) → (Contains xs d → ⊥) → AppendsThose P xs a b → AppendsThose P (d ∷ []) b c → AppendsThose P (xs ++ d ∷ []) a c
adds_more P xs d a b c other one two = record {
  added = one.added ++ two.added;
  are = two.are ∙ ap (λ ys. ys ++ two.added) one.are ∙ append_assoc a one.added two.added;
  once = once_both one.added two.added one.once two.once (λ x late early. elim (contains_cases d [] x ((two.exactly x).0 late).0) [
    | inl here ↦ other (subst (Contains xs) (sym here) ((one.exactly x).0 early).0)
    | inr none ↦ contains_none x none
  ]);
  exactly = λ x. (
    λ among. elim (Contains-append_cases one.added two.added x among) [
      | inl early ↦ let both = (one.exactly x).0 early in (Contains-append_left xs (d ∷ []) x both.0, both.1)
      | inr late ↦ let both = (two.exactly x).0 late in (Contains-append_right xs (d ∷ []) x both.0, both.1)
    ],
    λ both. elim (Contains-append_cases xs (d ∷ []) x both.0) [
      | inl early ↦ Contains-append_left one.added two.added x ((one.exactly x).1 (early, both.1))
      | inr late ↦ Contains-append_right one.added two.added x ((two.exactly x).1 (late, both.1))
    ],
  );
}

pub adds_none : (P : Digest → Type 0) (old : List Digest) → AppendsThose P [] old old
adds_none P old = record { added = []; are = sym (append-nil old); once = once_none; exactly = λ x. (λ among. absurd (contains_none x among), λ both. absurd (contains_none x both.0)) }

-- ---- added digests are no longer pending

-- each added digest has P
pub added_all : {P : Digest → Type 0} {digests old new : List Digest} → (adds : AppendsThose P digests old new) → All P adds.added
added_all {P} adds = λ k d lt. ((adds.exactly (get_or adds.added k d)).0 (Contains-get_or adds.added k d lt)).1

pub most_left : {P : Digest → Type 0} {digests old new : List Digest} (adds : AppendsThose P digests old new) (pending left : ℕ) → length new + left ≡ length old + pending → length adds.added + left ≡ pending
most_left {old = old} adds pending left most = omega (arith, most, ap (λ (xs : List Digest). length xs) adds.are, length-append old adds.added)

-- the next digest is pending if it is ready
pub pending_next : (s : State) (lacking : Pairs) (digests seen old new : List Digest) (pending left : ℕ) (d : Digest) → HasPendingCount s lacking digests pending → AppendsThose (IsReady s lacking) seen old new → ((x : Digest) → Contains seen x → Contains digests x)
    → length new + left ≡ length old + pending → Contains digests d → (Contains seen d → ⊥) → IsReady s lacking d → 0 < left
pending_next s lacking digests seen old new pending left d counted adds within most among other ready =
    pending_left s lacking (d ∷ []) left d (record {
      complete = counted.complete ++ adds.added;
      listed = listed_both s lacking counted.complete adds.added counted.listed (record { ready = added_all adds; once = adds.once }) (λ x is. counted.apart x (within x ((adds.exactly x).0 is).0));
      apart = λ x is both. elim (contains_cases d [] x is) [
        | inl here ↦ elim (Contains-append_cases counted.complete adds.added x both) [
          | inl before ↦ counted.apart d among (subst (Contains counted.complete) (sym here) before)
          | inr added ↦ other (subst (Contains seen) (sym here) ((adds.exactly x).0 added).0)
        ]
        | inr none ↦ contains_none x none
      ];
      counts = omega (arith, counted.counts, length-append counted.complete adds.added, most_left adds pending left most);
    }) (contains_first d []) ready
