-- The tables, from one step of the cascade to the next.
use Rattle.nw_dag.proofs.Words.{◌≡◌, ℕ, ◌+◌, ◌-◌, ◌<◌, ◌≤◌, List, [], ◌∷◌, ◌++◌, length, get_or, drop, Option, Some, None, refl, ap, sym, ◌∙◌, subst, arith, inl, inr, append_assoc, length-append, Contains, get, drop_at, length_push, All-weaker, All-contains, Contains-append_left, Contains-append_right, Contains-push, Contains-get_or, Digest, Block, Wanted, Pairs, Lacks, without_wanted, State, contains_cases, contains_first, contains_none, IsMet, Stands, name_of}
use Rattle.std.specs.Option.{option_map}
use Rattle.std.proofs.lemmas.List.{drop_more, drop_all, drop-append-le}
use Rattle.nw_waiting.specs.Pairs.{AreHolders}
use Rattle.nw_dag.specs.Lacking.{IsReady, AreUnmet, AreUnmetWithout}
use Rattle.nw_dag.specs.Changes.{AppendsThose, Promotes}
use Rattle.nw_dag.specs.Frozen.{Grows}
use Rattle.nw_dag.specs.AtRest.{AreListed, HasPendingCount, IsComingToRest, IsCascading, IsAtRest, IsAtRestWithout}
use Rattle.nw_dag.proofs.Pairs.{without_wanted_lacks, lacks_or_not, same_or_not}
use Rattle.nw_dag.proofs.Cascade.{promoted}
use Rattle.nw_dag.proofs.Arrival.{met_now, met_not_yet, not_ready_yet}
use Rattle.nw_dag.proofs.Listed.{listed_one, listed_both, pending_left}
use Rattle.nw_dag.proofs.Lists.{begins_same, begins_more}
use Rattle.nw_dag.proofs.Once.{first_once, once_back}

-- ---- one promotion

-- the name of a held block
pub name_is : (d : Digest) (found : Option Block) (w : Wanted) → Some w ≡ option_map (name_of d) found → (b : Block) × (found ≡ Some b) × (w ≡ name_of d b)
name_is d (Some b) w e = (b, refl, cc)
name_is d None w e = absurd cc

-- a digest that was ready still is
ready_fewer : (s : State) (old new : Pairs) (v : Wanted) → new ≡ without_wanted old v → (x : Digest) → IsReady s old x → IsReady s new x
ready_fewer s old new v is x ready = (ready.0, λ w lacks. ready.1 w ((without_wanted_lacks old v w x).0 (subst (λ (m : Pairs). Lacks m x w) is lacks)).0)

pub listed_fewer : (s : State) (old new : Pairs) (v : Wanted) (complete : List Digest) → new ≡ without_wanted old v → AreListed s old complete → AreListed s new complete
listed_fewer s old new v complete is listed = record { ready = All-weaker (IsReady s old) (IsReady s new) (ready_fewer s old new v is) complete listed.ready; once = listed.once }

-- a digest that lacks a parent is not listed
pub holders_apart : (s : State) (old : Pairs) (v : Wanted) (complete holders : List Digest) → AreListed s old complete → AreHolders old v holders → (x : Digest) → Contains holders x → Contains complete x → ⊥
holders_apart s old v complete holders listed are x among before = (All-contains (IsReady s old) complete x listed.ready before).1 v ((are.exactly x).0 among)

-- a ready digest was ready before, or lacked the promoted block
ready_before : (s : State) (old new : Pairs) (v : Wanted) → new ≡ without_wanted old v → (x : Digest) → IsReady s new x → (Lacks old x v → ⊥) → IsReady s old x
ready_before s old new v is x ready never =
    (ready.0, λ w lacks. ready.1 w (subst (λ (m : Pairs). Lacks m x w) (sym is) ((without_wanted_lacks old v w x).1 (lacks, λ same. never (subst (λ (y : Wanted). Lacks old x y) (sym same) lacks)))))

-- no block lacks the promoted block any longer, and its holders that became ready are added
pub promotes : (s : State) (e : Digest) (old new : Pairs) (v : Wanted) (complete more holders : List Digest) → Some v ≡ option_map (name_of e) (get s.blocks e) → AreHolders old v holders
    → new ≡ without_wanted old v → AppendsThose (IsReady s new) holders complete more → Promotes s e old new complete more
promotes s e old new v complete more holders name are is adds =
    let (b, held, same) = name_is e (get s.blocks e) v name in
    record {
      block = b;
      held = held;
      lost = is ∙ ap (without_wanted old) same;
      added = adds.added;
      are = adds.are;
      once = adds.once;
      exactly = λ x. (
        λ among. let both = (adds.exactly x).0 among in (subst (λ (w : Wanted). Lacks old x w) same ((are.exactly x).0 both.0), both.1),
        λ both. (adds.exactly x).1 ((are.exactly x).1 (subst (λ (w : Wanted). Lacks old x w) (sym same) both.0), both.1),
      );
    }

-- the holders that lacked the promoted block are not listed
pub count_fewer : (s : State) (old new : Pairs) (v : Wanted) (pending : ℕ) (holders : List Digest) → new ≡ without_wanted old v → AreHolders old v holders → HasPendingCount s old [] pending → HasPendingCount s new holders pending
count_fewer s old new v pending holders is are counted = record {
  complete = counted.complete;
  listed = listed_fewer s old new v counted.complete is counted.listed;
  apart = holders_apart s old v counted.complete holders counted.listed are;
  counts = counted.counts;
}

-- ---- one place of the list

pub count_of : (s : State) (unmet lacking : Pairs) (due : List Digest) (pending : ℕ) → IsCascading s unmet lacking due pending → HasPendingCount s lacking [] pending
count_of s unmet lacking due pending far = record { complete = far.front ++ due; listed = far.coming_to_rest.listed; apart = λ x none. absurd (contains_none x none); counts = far.counts }

pub stands_at : (s : State) (unmet lacking : Pairs) (fresh : List Digest) (pending place : ℕ) (d : Digest) → IsCascading s unmet lacking (drop place fresh) pending → place < length fresh → Stands s (get_or fresh place d)
stands_at s unmet lacking fresh pending place d far lt =
    (All-contains (IsReady s lacking) (far.front ++ drop place fresh) (get_or fresh place d) far.coming_to_rest.listed.ready
    (Contains-append_right far.front (drop place fresh) (get_or fresh place d) (subst (λ xs. Contains xs (get_or fresh place d)) (sym (drop_more fresh place d lt)) (contains_first (get_or fresh place d) (drop (place + 1) fresh))))).0

module _ (s : State) (unmet old new : Pairs) (e : Digest) (rest fresh more : List Digest) (pending left : ℕ) (far : IsCascading s unmet old (e ∷ rest) pending) (step : Promotes s e old new fresh more)
    (most : length more + left ≡ length fresh + pending) where
  abbrev was : List Digest
  was = far.front ++ (e ∷ rest)

  e_ready : IsReady s old e
  e_ready = All-contains (IsReady s old) was e far.coming_to_rest.listed.ready (Contains-append_right far.front (e ∷ rest) e (contains_first e rest))

  longer : was ++ step.added ≡ (far.front ++ e ∷ []) ++ (rest ++ step.added)
  longer = append_assoc far.front (e ∷ rest) step.added ∙ sym (append_assoc far.front (e ∷ []) (rest ++ step.added))

  stays : AreListed s new was
  stays = listed_fewer s old new (name_of e step.block) was step.lost far.coming_to_rest.listed

  added_ready : AreListed s new step.added
  added_ready = record { ready = λ k d lt. ((step.exactly (get_or step.added k d)).0 (Contains-get_or step.added k d lt)).1; once = step.once }

  unready : (x : Digest) → Contains step.added x → Contains was x → ⊥
  unready x among before = (All-contains (IsReady s old) was x far.coming_to_rest.listed.ready before).1 (name_of e step.block) ((step.exactly x).0 among).0

  listed : AreListed s new (was ++ step.added)
  listed = listed_both s new was step.added stays added_ready unready

  all : (x : Digest) → IsReady s new x → Contains (was ++ step.added) x
  all x ready = elim (lacks_or_not old x (name_of e step.block)) [
    | inl lacked ↦ Contains-append_right was step.added x ((step.exactly x).1 (lacked, ready))
    | inr never ↦ Contains-append_left was step.added x (far.coming_to_rest.all x (ready_before s old new (name_of e step.block) step.lost x ready never))
  ]

  -- the next digest is due
  pub next_due : IsCascading s unmet new (rest ++ step.added) left
  next_due = record {
    front = far.front ++ e ∷ [];
    coming_to_rest = subst (λ xs. IsComingToRest s unmet new xs (rest ++ step.added)) longer (record {
      standing = far.coming_to_rest.standing;
      promoted = promoted s e old new fresh more rest far.coming_to_rest.promoted e_ready (first_once e rest (once_back far.front (e ∷ rest) far.coming_to_rest.listed.once)) step;
      listed = listed;
      all = all;
    });
    counts = omega (arith, far.counts, ap (λ (xs : List Digest). length xs) longer, length-append was step.added, ap (λ (xs : List Digest). length xs) step.are, length-append fresh step.added, most);
  }

pub cascaded : (s : State) (unmet met old new : Pairs) (fresh more : List Digest) (pending left place : ℕ) (d : Digest) → IsCascading s unmet old (drop place fresh) pending → place < length fresh → met ≡ unmet
    → Promotes s (get_or fresh place d) old new fresh more → length more + left ≡ length fresh + pending → IsCascading s met new (drop (place + 1) more) left
cascaded s unmet met old new fresh more pending left place d far lt same step most =
    let e = get_or fresh place d in
    let rest = drop (place + 1) fresh in
    let due : drop (place + 1) more ≡ rest ++ step.added = ap (drop (place + 1)) step.are ∙ drop-append-le (place + 1) fresh step.added (omega arith) in
    subst (λ (m : Pairs). IsCascading s m new (drop (place + 1) more) left) (sym same)
    (subst (λ xs. IsCascading s unmet new xs left) (sym due) (next_due s unmet old new e rest fresh more pending left (subst (λ xs. IsCascading s unmet old xs pending) (drop_more fresh place d lt) far) step most))

-- at the start nothing has grown
pub grown_same : (s : State) (lacking : Pairs) (fresh : List Digest) → Grows s (IsReady s lacking) lacking lacking fresh fresh
grown_same s lacking fresh = record { still = λ x ready. ready; begins = begins_same fresh; listed = λ x ready. inl ready }

pub grown_more : (s : State) (P : Digest → Type 0) (first old new : Pairs) (start fresh more : List Digest) (e : Digest) → Grows s P first old start fresh → Promotes s e old new fresh more → Grows s P first new start more
grown_more s P first old new start fresh more e grown step = record {
  still = λ x ready. ready_fewer s old new (name_of e step.block) step.lost x (grown.still x ready);
  begins = begins_more start fresh more grown.begins (step.added, step.are);
  listed = λ x ready. elim (lacks_or_not old x (name_of e step.block)) [
    | inl lacked ↦ inr (subst (λ xs. Contains xs x) (sym step.are) (Contains-append_right fresh step.added x ((step.exactly x).1 (lacked, ready))))
    | inr never ↦ elim (grown.listed x (ready_before s old new (name_of e step.block) step.lost x ready never)) [
      | inl was ↦ inl was
      | inr among ↦ inr (subst (λ xs. Contains xs x) (sym step.are) (Contains-append_left fresh step.added x among))
    ]
  ];
}

-- no digest is left
pub none_due : (s : State) (unmet lacking : Pairs) (fresh : List Digest) (pending place : ℕ) → IsCascading s unmet lacking (drop place fresh) pending → length fresh ≤ place → IsAtRest s unmet lacking pending
none_due s unmet lacking fresh pending place far past =
    let end = subst (λ xs. IsCascading s unmet lacking xs pending) (drop_all place fresh past) far in
    record { complete = end.front ++ []; coming_to_rest = end.coming_to_rest; counts = end.counts }

-- ---- one digest stands

pub met_by_name : (s : State) (d : Digest) (v : Wanted) (old new : Pairs) → Some v ≡ option_map (name_of d) (get s.blocks d) → Stands s d → AreUnmetWithout s d old → new ≡ without_wanted old v → AreUnmet s new
met_by_name s d v old new name stands but is =
    let (b, held, same) = name_is d (get s.blocks d) v name in
    met_now s d b old new (held, stands.1.1) but (is ∙ ap (without_wanted old) same)

-- the name of a digest that stands is met
pub met_at : (s : State) (d : Digest) (v : Wanted) → Some v ≡ option_map (name_of d) (get s.blocks d) → Stands s d → IsMet s v
met_at s d v name stands =
    let (b, held, same) = name_is d (get s.blocks d) v name in
    subst (IsMet s) (sym same) (b, (held, stands.1.1), refl, refl)

-- d does not stand, or lacks a parent
pub not_standing : (s : State) (d : Digest) (unmet lacking : Pairs) (pending : ℕ) → (Stands s d → ⊥) → IsAtRestWithout s d unmet lacking pending → IsAtRest s unmet lacking pending
not_standing s d unmet lacking pending never far = record {
  complete = far.complete;
  coming_to_rest = record {
    standing = met_not_yet s d unmet never far.standing;
    promoted = not_ready_yet s d lacking (λ ready. never ready.0) far.promoted;
    listed = far.listed;
    all = λ x ready. far.all x (λ same. never (subst (λ q. Stands s q) same ready.0)) ready;
  };
  counts = far.counts;
}

pub not_ready : (s : State) (d : Digest) (unmet met lacking : Pairs) (pending : ℕ) → (IsReady s lacking d → ⊥) → AreUnmet s met → IsAtRestWithout s d unmet lacking pending → IsAtRest s met lacking pending
not_ready s d unmet met lacking pending never standing far = record {
  complete = far.complete;
  coming_to_rest = record {
    standing = standing;
    promoted = not_ready_yet s d lacking never far.promoted;
    listed = far.listed;
    all = λ x ready. far.all x (λ same. never (subst (λ q. IsReady s lacking q) same ready)) ready;
  };
  counts = far.counts;
}

-- if d is not ready, no digest became ready
pub grown_none : (s : State) (d : Digest) (lacking : Pairs) (fresh : List Digest) → (IsReady s lacking d → ⊥) → Grows s (λ x. IsReady s lacking x × (x ≡ d → ⊥)) lacking lacking fresh fresh
grown_none s d lacking fresh never = record {
  still = λ x ready. ready;
  begins = begins_same fresh;
  listed = λ x ready. inl (ready, λ same. never (subst (λ q. IsReady s lacking q) same ready));
}

-- d is ready, and due
pub pending_but : (s : State) (d : Digest) (unmet lacking : Pairs) (pending : ℕ) → IsAtRestWithout s d unmet lacking pending → IsReady s lacking d → 0 < pending
pending_but s d unmet lacking pending far ready = pending_left s lacking (d ∷ []) pending d (record {
  complete = far.complete;
  listed = far.listed;
  apart = λ x is. elim (contains_cases d [] x is) [ inl here ↦ subst (λ y. Contains far.complete y → ⊥) here far.apart | inr none ↦ absurd (contains_none x none) ];
  counts = far.counts;
}) (contains_first d []) ready

pub now_ready : (s : State) (d : Digest) (unmet met lacking : Pairs) (fresh more : List Digest) (pending left place : ℕ) → AreUnmet s met → IsReady s lacking d → more ≡ fresh ++ d ∷ [] → left ≡ pending - 1 → place ≡ length fresh
    → IsAtRestWithout s d unmet lacking pending → IsCascading s met lacking (drop place more) left
now_ready s d unmet met lacking fresh more pending left place standing ready is one at far =
    let lt = pending_but s d unmet lacking pending far ready in
    subst (λ xs. IsCascading s met lacking xs left) (sym (ap (drop place) is ∙ drop_at fresh (d ∷ []) place (sym at))) (record {
      front = far.complete;
      coming_to_rest = record {
        standing = standing;
        promoted = far.promoted;
        listed = listed_both s lacking far.complete (d ∷ []) far.listed (listed_one s lacking d ready)
            (λ x among. elim (contains_cases d [] x among) [ inl here ↦ subst (λ y. Contains far.complete y → ⊥) here far.apart | inr none ↦ absurd (contains_none x none) ]);
        all = λ x whole. elim (same_or_not x d) [
          | inl same ↦ subst (Contains (far.complete ++ d ∷ [])) (sym same) (Contains-push far.complete d)
          | inr other ↦ Contains-append_left far.complete (d ∷ []) x (far.all x other whole)
        ];
      };
      counts = omega (arith, far.counts, length_push far.complete d, one, lt);
    })

-- the growth since d was listed
pub grown_from : (s : State) (d : Digest) (old new : Pairs) (fresh listed more : List Digest) → listed ≡ fresh ++ d ∷ [] → Grows s (IsReady s old) old new listed more → Grows s (λ x. IsReady s old x × (x ≡ d → ⊥)) old new fresh more
grown_from s d old new fresh listed more is grown = record {
  still = grown.still;
  begins = begins_more fresh listed more (d ∷ [], is) grown.begins;
  listed = λ x ready. elim (grown.listed x ready) [
    | inl was ↦ elim (same_or_not x d) [
      | inl same ↦ inr (subst (λ xs. Contains xs x) (sym grown.begins.1) (Contains-append_left listed grown.begins.0 x (subst (λ xs. Contains xs x) (sym is) (subst (Contains (fresh ++ d ∷ [])) (sym same) (Contains-push fresh d)))))
      | inr other ↦ inl (was, other)
    ]
    | inr among ↦ inr among
  ];
}
