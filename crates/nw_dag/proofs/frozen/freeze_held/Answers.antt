use Rattle.nw_dag.proofs.Words.{◌≡◌, ◌+◌, List, [], ◌∷◌, ◌++◌, Ok, Err, Result, get_or, take, ap, sym, ◌∙◌, subst, inl, inr, Contains, FinMap, from_entries, keys_of, IsStrictlySortedBy, take_all, take_more, Contains-append_left, Contains-push, Block, Digest, digest_cmp, State, digests_apart, digests_total, put_entries, ordered_none}
use Rattle.std.specs.Prelude.{IfOk}
use Rattle.nw_dag.specs.Frozen.{AreHeldUnder}
use Rattle.nw_dag.proofs.Ascending.{before_place, goes_last}
use Rattle.nw_dag.proofs.Freezing.{held_none, held_more, held_same}
use Rattle.nw_dag.proofs.frozen.freeze_held.Goals.{in-Some+in_ok-try_clone+in_ok-push, in_default}
use Rattle.nw_dag.proofs.frozen.freeze_held.Goals as goal

pub loop-digest-init : goal.loop-digest-init
loop-digest-init c = rw c.in_ok-entries.ensures.items (record { held = held_none c.args.held.now.state; ascend = ordered_none digest_cmp; before = λ k among. among })

pub loop-digest-preserved : goal.loop-digest-preserved
loop-digest-preserved c =
    let s : State = c.args.held.now.state in
    let i = c.loop-digest.digest-index in
    let xs : List Digest = c.args.digests.now in
    let none : Digest = record { 0 = [] } in
    let d : Digest = get_or xs i none in
    let more : take (i + 1) xs ≡ take i xs ++ d ∷ [] = take_more xs i none c.loop-digest-test.true in
    let es : List (Digest × Block) = c.loop-digest.entries.items in
    let new : List (Digest × Block) = c.match-block.entries.items in
    let inv = c.loop-digest.invariant in
    subst (λ ys. record { held : AreHeldUnder s ys (from_entries {R = digest_cmp} new); ascend : IsStrictlySortedBy digest_cmp (keys_of new); before : (k : Digest) → Contains (keys_of new) k → Contains ys k }) (sym more)
    (elim c.match-block.branch [
      | in-Some+in_ok-try_clone+in_ok-push w ↦
          let b : Block = w.in-Some.block.now in
          let is : new ≡ es ++ (d, b) ∷ [] = ap (λ v. v.items) w.entries-is ∙ w.in_ok-push.ensures.items ∙ ap (λ x. es ++ (d, x) ∷ []) w.in_ok-try_clone.ensures in
          let goes = goes_last es new d b inv.ascend (λ k among. before_place xs i none k c.requires c.loop-digest-test.true (inv.before k among)) is in
          record {
            held = held_more s (take i xs) (from_entries {R = digest_cmp} es) (from_entries new) d b inv.held (sym w.in-Some.ensures.value) (put_entries digests_total digests_apart es new d b (sym goes.put));
            ascend = goes.ascend;
            before = λ k among. elim (goes.keys k among) [
              | inl was ↦ Contains-append_left (take i xs) (d ∷ []) k (inv.before k was)
              | inr here ↦ subst (Contains (take i xs ++ d ∷ [])) here (Contains-push (take i xs) d)
            ];
          }
      | in_default w ↦
          let same : new ≡ es = ap (λ v. v.items) w.entries-is in
          record {
            held = held_same s (take i xs) (from_entries {R = digest_cmp} es) (from_entries new) d inv.held (sym w.in_default.ensures.value) (ap (λ (m : List (Digest × Block)). from_entries m) same);
            ascend = subst (λ (m : List (Digest × Block)). IsStrictlySortedBy digest_cmp (keys_of m)) (sym same) inv.ascend;
            before = λ k among. Contains-append_left (take i xs) (d ∷ []) k (inv.before k (subst (λ (m : List (Digest × Block)). Contains (keys_of m) k) same among));
          }
    ])

if_ok : {E : Type 0} (r : Result (FinMap digest_cmp Block) E) (m : FinMap digest_cmp Block) (P : FinMap digest_cmp Block → Type 0) → IfOk r (λ g. g ≡ m) → P m → IfOk r P
if_ok (Ok g) m P is p = subst P (sym is) p
if_ok (Err e) m P is p = tt

pub returns : goal.returns
returns c =
    if_ok c.of.result (from_entries {R = digest_cmp} c.loop-digest.entries.items) (AreHeldUnder c.args.held.now.state c.args.digests.now) c.of.ensures
    (subst (λ ys. AreHeldUnder c.args.held.now.state ys (from_entries {R = digest_cmp} c.loop-digest.entries.items)) (take_all c.loop-digest.digest-index c.args.digests.now c.loop-digest-test.false) c.loop-digest.invariant.held)
