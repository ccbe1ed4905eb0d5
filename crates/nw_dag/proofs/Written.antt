-- The tables after a block or a certificate is added.
use Rattle.nw_dag.proofs.Words.{◌≡◌, ◌⊎◌, ℕ, ◌+◌, ◌<◌, Bool, true, false, List, [], Some, None, IsSome, is_some, cond, refl, ap, sym, ◌∙◌, subst, arith, inl, inr, eq_by_cmp, FinMap, get, len, len-insert, contains, Digest, Block, Certificate, Wanted, Pairs, Lacks, without_holder, without_wanted, digest_cmp, State, with_block, with_certificate, after_insert, at_insert, contains_none, digests_total, same_digest, not_there, IsMet, pairs_apart, pairs_total}
use Rattle.std.specs.FinMap.{insert, get-insert}
use Rattle.std.specs.FinSet.{same_set}
use Rattle.nw_model.proofs.Kept.{some_none}
use Rattle.nw_dag.specs.Lacking.{ReferencesParent, IsNamedAmong, IsReady, AreSplit, AreUnmet, AreLacking}
use Rattle.nw_dag.specs.Changes.{AreSameExcept, LacksAlso}
use Rattle.nw_dag.specs.AtRest.{IsComingToRest, IsAtRest, IsAtRestWithout}
use Rattle.nw_dag.proofs.Pairs.{without_holder_lacks, without_wanted_lacks}
use Rattle.nw_dag.proofs.Arrival.{Arrives, AreLackingSince, arrived, listed_arrived, listed_apart, ready_was, unmet_arrived}

-- other digests keep their values
pub get_other : {X : Type 0} (m : FinMap digest_cmp X) (k : Digest) (v : X) (q : Digest) → (q ≡ k → ⊥) → get (insert m k v) q ≡ get m q
get_other m k v q other = get-insert digests_total m k v q ∙ by (eq_by_cmp digest_cmp q k) refl
  where
    by : (b : Bool) → eq_by_cmp digest_cmp q k ≡ b → cond b (Some v) (get m q) ≡ get m q
    by true e = absurd (other (same_digest q k e))
    by false e = refl

-- ---- one more block

module _ (s : State) (d : Digest) (b : Block) (vote : Bool) (absent : get s.blocks d ≡ None) where
  abbrev t : State
  t = with_block s d b vote

  abbrev named : Wanted → Type 0
  named w = (s.floor < b.round) × IsNamedAmong b.round b.parents w

  pub block_arrives : Arrives s t d
  block_arrives = record {
    absent = λ (x, stands). some_none x (sym stands.0 ∙ absent);
    others = λ x y other. (
      λ stands. (sym (get_other s.blocks d b x other) ∙ stands.0, stands.1),
      λ stands. (get_other s.blocks d b x other ∙ stands.0, stands.1),
    );
  }

  -- a block that names a parent now named it before, or is the new block
  names_cases : (h : Digest) (w : Wanted) → ReferencesParent t h w → ((h ≡ d) × named w) ⊎ ReferencesParent s h w
  names_cases h w (x, at, above, among) = elim (after_insert s.blocks d b h x at) [
    | inl new ↦ inl (new.0, subst (λ (y : Block). (s.floor < y.round) × IsNamedAmong y.round y.parents w) (sym new.1) (above, among))
    | inr old ↦ inr (x, old, above, among)
  ]

  names_still : (h : Digest) (w : Wanted) → ReferencesParent s h w → ReferencesParent t h w
  names_still h w (x, at, above, among) = (x, get_other s.blocks d b h (λ same. some_none x (sym at ∙ ap (get s.blocks) same ∙ absent)) ∙ at, above, among)

  names_new : (h : Digest) (w : Wanted) → h ≡ d → named w → ReferencesParent t h w
  names_new h w same (above, among) = (b, ap (get (insert s.blocks d b)) same ∙ at_insert s.blocks d b, above, among)

  -- the parents that each block lacks now
  pub since_written : (lacking after : Pairs) → AreLacking s lacking [] → LacksAlso (λ w. IsMet s w × IsReady s lacking w.digest) named d lacking after → AreLackingSince s t d lacking after
  since_written lacking after promoted wants = record {
    each = λ h w names. elim (names_cases h w names) [
      | inl (same, is) ↦ elim (wants.each w is) [ inl lacks ↦ inl (subst (λ q. Lacks after q w) (sym same) lacks) | inr has ↦ inr has ]
      | inr old ↦ elim (promoted.each h w old) [ inl lacks ↦ inl (wants.still h w lacks) | inr (is, ready) ↦ inr (is, ready.0) ]
    ];
    only = λ h w lacks. elim (wants.only h w lacks) [
      | inl was ↦ let both = promoted.only h w was in (names_still h w both.0, λ is ready. both.1 is (ready, contains_none w.digest))
      | inr new ↦ (names_new h w new.0 new.1, λ is ready. new.2 (is, ready))
    ];
    same = λ h w other. (
      λ lacks. elim (wants.only h w lacks) [ inl was ↦ was | inr new ↦ absurd (other new.0) ],
      λ lacks. wants.still h w lacks,
    );
  }

  -- the tables are at rest, without counting the new block
  pub written : (unmet lacking met after : Pairs) (pending more : ℕ) → IsAtRest s unmet lacking pending → LacksAlso (IsMet s) named d unmet met
      → LacksAlso (λ w. IsMet s w × IsReady s lacking w.digest) named d lacking after → more ≡ pending + 1 → IsAtRestWithout t d met after more
  written unmet lacking met after pending more known wants_met wants one_more = record {
    complete = known.complete;
    standing = unmet_arrived s t d block_arrives met (λ h w. (
      λ lacks. elim (wants_met.only h w lacks) [
        | inl was ↦ let both = (at_rest.standing h w).0 was in (names_still h w both.0, both.1)
        | inr new ↦ (names_new h w new.0 new.1, new.2)
      ],
      λ (names, fails). elim (names_cases h w names) [
        | inl (same, is) ↦ elim (wants_met.each w is) [ inl lacks ↦ subst (λ q. Lacks met q w) (sym same) lacks | inr has ↦ absurd (fails has) ]
        | inr old ↦ wants_met.still h w ((at_rest.standing h w).1 (old, fails))
      ],
    ));
    promoted = arrived s t d block_arrives lacking after since;
    listed = listed_arrived s t d block_arrives lacking after since known.complete at_rest.listed;
    apart = listed_apart s t d block_arrives lacking after since known.complete at_rest.listed;
    all = λ x other ready. at_rest.all x (ready_was s t d block_arrives lacking after since x other ready);
    counts = let longer = len-insert digests_total s.blocks d b ∙ ap (λ found. cond (is_some found) (len s.blocks) (len s.blocks + 1)) absent in omega (arith, longer, known.counts, one_more);
  }
    where
      at_rest : IsComingToRest s unmet lacking known.complete []
      at_rest = known.coming_to_rest

      since : AreLackingSince s t d lacking after
      since = since_written lacking after at_rest.promoted wants

-- ---- one more certificate

module _ (s : State) (c : Certificate) (absent : get s.certificates c.digest ≡ None) where
  pub certificate_arrives : Arrives s (with_certificate s c) c.digest
  certificate_arrives = record {
    absent = λ (x, stands). not_there (get s.certificates c.digest) absent stands.1;
    others = λ x y other. (
      λ stands. (stands.0, subst IsSome (get_other s.certificates c.digest c x other) stands.1),
      λ stands. (stands.0, subst IsSome (sym (get_other s.certificates c.digest c x other)) stands.1),
    );
  }

  pub since_certified : (lacking : Pairs) → AreLacking s lacking [] → AreLackingSince s (with_certificate s c) c.digest lacking lacking
  since_certified lacking promoted = record {
    each = λ h w names. elim (promoted.each h w names) [ inl lacks ↦ inl lacks | inr (is, ready) ↦ inr (is, ready.0) ];
    only = λ h w lacks. let both = promoted.only h w lacks in (both.0, λ is ready. both.1 is (ready, contains_none w.digest));
    same = λ h w other. (λ lacks. lacks, λ lacks. lacks);
  }

  pub certified : (unmet lacking : Pairs) (pending : ℕ) → IsAtRest s unmet lacking pending → IsAtRestWithout (with_certificate s c) c.digest unmet lacking pending
  certified unmet lacking pending known =
      let at_rest = known.coming_to_rest in
      let since = since_certified lacking at_rest.promoted in
      record {
        complete = known.complete;
        standing = unmet_arrived s (with_certificate s c) c.digest certificate_arrives unmet (λ h w. at_rest.standing h w);
        promoted = arrived s (with_certificate s c) c.digest certificate_arrives lacking lacking since;
        listed = listed_arrived s (with_certificate s c) c.digest certificate_arrives lacking lacking since known.complete at_rest.listed;
        apart = listed_apart s (with_certificate s c) c.digest certificate_arrives lacking lacking since known.complete at_rest.listed;
        all = λ x other ready. at_rest.all x (ready_was s (with_certificate s c) c.digest certificate_arrives lacking lacking since x other ready);
        counts = known.counts;
      }

-- between two calls, the unmet pairs are those of the lacking ones whose parents are not met
pub split_at_rest : (s : State) (unmet lacking : Pairs) (due : List Digest) → AreUnmet s unmet → AreLacking s lacking due → AreSplit s unmet lacking
split_at_rest s unmet lacking due are all d w = (
  λ lacks.
      let both = (are d w).0 lacks in
      (elim (all.each d w both.0) [ inl is ↦ is | inr has ↦ absurd (both.1 has.0) ], both.1),
  λ (lacks, fails). (are d w).1 ((all.only d w lacks).0, fails),
)

-- ---- a write with a failed allocation

same_truth : (a b : Bool) → (a ≡ true → b ≡ true) → (b ≡ true → a ≡ true) → a ≡ b
same_truth true true f g = refl
same_truth true false f g = sym (f refl)
same_truth false true f g = g refl
same_truth false false f g = refl

-- the set is as before after the holder is forgotten
pub forgotten : (holder : Digest) (old new : Pairs) → AreSameExcept holder old new → ((w : Wanted) → Lacks old holder w → ⊥) → without_holder new holder ≡ old
forgotten holder old new same nothing = same_set pairs_total pairs_apart (without_holder new holder) old (λ q.
    same_truth (contains (without_holder new holder) q) (contains old q)
    (λ lacks. let both = (without_holder_lacks new holder q.1 q.0).0 lacks in (same q.1 q.0 (λ here. both.1 (sym here))).0 both.0)
    (λ lacks. let other : holder ≡ q.1 → ⊥ = λ here. nothing q.0 (subst (λ h. Lacks old h q.0) (sym here) lacks) in
    (without_holder_lacks new holder q.1 q.0).1 ((same q.1 q.0 (λ here. other (sym here))).1 lacks, other)))

-- the set is as before if no holder is missing the parent
pub nobody_wants : (pairs : Pairs) (v : Wanted) → ((h : Digest) → Lacks pairs h v → ⊥) → without_wanted pairs v ≡ pairs
nobody_wants pairs v never = same_set pairs_total pairs_apart (without_wanted pairs v) pairs (λ q.
    same_truth (contains (without_wanted pairs v) q) (contains pairs q)
    (λ lacks. ((without_wanted_lacks pairs v q.0 q.1).0 lacks).0)
    (λ lacks. (without_wanted_lacks pairs v q.0 q.1).1 (lacks, λ same. never q.1 (subst (λ w. Lacks pairs q.1 w) (sym same) lacks))))

pub nothing_unmet : (s : State) (d : Digest) (unmet : Pairs) → get s.blocks d ≡ None → AreUnmet s unmet → (w : Wanted) → Lacks unmet d w → ⊥
nothing_unmet s d unmet absent are w lacks = let names = ((are d w).0 lacks).0 in some_none names.0 (sym names.1 ∙ absent)

pub nothing_lacking : (s : State) (d : Digest) (lacking : Pairs) → get s.blocks d ≡ None → AreLacking s lacking [] → (w : Wanted) → Lacks lacking d w → ⊥
nothing_lacking s d lacking absent are w lacks = let names = (are.only d w lacks).0 in some_none names.0 (sym names.1 ∙ absent)

-- recording what the holder lacks changes only the holder's pairs
pub wants_same : (Q P : Wanted → Type 0) (holder : Digest) (old new : Pairs) → LacksAlso Q P holder old new → AreSameExcept holder old new
wants_same Q P holder old new wants h w other = (λ lacks. elim (wants.only h w lacks) [ inl was ↦ was | inr (here, name, none) ↦ absurd (other here) ], λ lacks. wants.still h w lacks)
