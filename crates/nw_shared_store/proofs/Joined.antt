-- The step by which a session comes to a run keeps the rule of the lock.
use Rattle.nw_shared_store.proofs.Words.{◌≡◌, ◌∙◌, ℕ, ◌+◌, ◌≤◌, true, false, List, [], ◌∷◌, ◌++◌, length, Some, refl, sym, ap, subst, inl, inr, ⊎_elim, arith, false≢true, none, Me, gives, step, Allows, Meaning, Story, IsLegalStory}
use Rattle.std.proofs.lemmas.Bool.{cases_eq}
use Rattle.std.proofs.lemmas.List.{append_assoc}
use Rattle.nw_shared_store.specs.Locked.{Current, next_run}
use Rattle.nw_shared_store.specs.Rule.{SeatView, holder_of, new_journal, newcomer, Knows, IsJoined, IsOneHistory, Joins, MayJoin}
use Rattle.nw_shared_store.proofs.Ended.{ended_next, ended_now, no_runs, one_more}
use Rattle.nw_shared_store.proofs.Fitting.{fits_at, known_one, newcomer_fits, gives_back}
use Rattle.nw_shared_store.proofs.Slots.{out_at, second_of}

-- what a seat knows stays true when the next run begins
abbrev knows_run : (accepts : Meaning) (g : Current) (u : SeatView) → IsLegalStory accepts g.history → Knows accepts g u → Knows accepts (next_run g) u
knows_run accepts g u legal k =
    let before : u.run ≤ g.run = k.run in record {
      past = k.past ++ g.history ∷ [];
      runs = one_more k.past g.run g.history k.runs;
      all = λ r. absurd (omega arith);
      over = λ _ r. absurd (omega arith);
      other = (k.other.0 ++ g.history ∷ [], ap (λ (l : List Story). l ++ g.history ∷ []) k.other.1 ∙ append_assoc u.other k.other.0 (g.history ∷ []));
      run = omega arith;
      committee = k.committee;
      limits = k.limits;
      known = λ r. absurd (omega arith);
      count = k.count;
      made = k.made;
      part = λ _ r. absurd (omega arith);
      ended = λ _ _. refl;
      gone = λ _. ⊎_elim
          (λ (is : u.run ≡ g.run). ended_now accepts u.acts u.journal u.past k.past g.history (k.all is) legal (k.known is) (λ acts. k.part acts is))
          (λ (apart : u.run ≡ g.run → ⊥). ended_next accepts u.acts u.journal u.past k.past g.history legal (k.gone apart))
          (cases_eq u.run g.run);
    }

tells_join : (accepts : Meaning) (g d : Current) (v : SeatView) (after : Me Current SeatView) → IsJoined accepts g d v after
    → (before given : Current) → Some g ≡ Some before → out_at d ≡ out_at given → IsJoined accepts before given v after
tells_join accepts g d v after is before given took there =
    let one : g ≡ before = cc (took) in
    let two : d ≡ given = ap (λ (l : List (ℕ × Current)). second_of l d) there in
    subst (λ (x : Current × Current). IsJoined accepts x.0 x.1 v after) (λ i. (one i, two i)) is

-- the session comes to the present run, which is not its own
renews : (accepts : Meaning) (first : Story) (slots id : ℕ) (g : Current) (v : SeatView) → v.acts ≡ true → (v.run ≡ g.run → ⊥)
    → let me : Me Current SeatView = (holder_of g v, (0, g) ∷ []) in
    Allows (IsOneHistory accepts first) slots id me 0 (λ _. 0) (λ _. Joins accepts (step slots 0 0 0 none) me 0)
renews accepts first slots id g v acts apart s h len at fits =
    let mine = h.6 id (holder_of g v) at in
    let same : g ≡ h.2 = (mine.holds g refl).1 in
    let here = fits_at accepts first s h g same id (holder_of g v) at in
    let k = here.knows in (
      newcomer k.past g v.journal.id,
      gives,
      tt,
      gives_back accepts first s h id (holder_of g v) (newcomer k.past g v.journal.id) g g h.0 h.3 at refl refl (λ of. of)
          (newcomer_fits accepts h.0 h.1 h.3 g id v.journal.id k.past here.same (ap (λ (l : List Story). length l) (sym here.same) ∙ k.runs) (mine.owns acts) (k.made acts) (record { id_is = refl; events = k.ended acts apart; begun = λ i a lt. absurd (omega (arith, lt)) }))
          (λ is by u other e free. fits_at accepts first s h g same by u e),
      ((acts, (λ x (is : Some g ≡ Some x). let one : g ≡ x = cc (is) in (x, inl refl, (λ i. (0, one i) ∷ [])))), tells_join accepts g g (holder_of g v) (newcomer k.past g v.journal.id, []) (k, (λ is. absurd (apart is)), refl)),
    )

-- the session ends the run, and comes to the next
restarts : (accepts : Meaning) (first : Story) (slots id : ℕ) (g : Current) (v : SeatView) → v.acts ≡ true → IsLegalStory accepts g.history
    → let me : Me Current SeatView = (holder_of g v, (0, next_run g) ∷ []) in
    Allows (IsOneHistory accepts first) slots id me 0 (λ _. 0) (λ _. Joins accepts (step slots 0 0 0 none) me 0)
restarts accepts first slots id g v acts legal s h len at fits =
    let d = next_run g in
    let mine = h.6 id (holder_of g v) at in
    let same : g ≡ h.2 = (mine.holds g refl).1 in
    let here = fits_at accepts first s h g same id (holder_of g v) at in
    let k = here.knows in
    let past : List Story = h.3 ++ g.history ∷ [] in
    let one : k.past ++ g.history ∷ [] ≡ past = ap (λ (l : List Story). l ++ g.history ∷ []) here.same in
    let runs : length past ≡ g.run + 1 = one_more h.3 g.run g.history (ap (λ (l : List Story). length l) (sym here.same) ∙ k.runs) in (
      newcomer (k.past ++ g.history ∷ []) d v.journal.id,
      gives,
      tt,
      gives_back accepts first s h id (holder_of g v) (newcomer (k.past ++ g.history ∷ []) d v.journal.id) g d h.0 past at refl refl
          (λ of. record {
            committee = of.committee;
            limits = of.limits;
            runs = runs;
            begins = λ z. absurd (omega arith);
            follows = λ _. ⊎_elim
                (λ (z : g.run ≡ 0). ended_now accepts false (new_journal 0 (first ∷ [])) [] h.3 g.history (no_runs h.3 g.run of.runs (sym z)) legal (λ x c. known_one first g.history x (of.begins z) c) (λ e. absurd (false≢true e)))
                (λ (some : g.run ≡ 0 → ⊥). ended_next accepts false (new_journal 0 (first ∷ [])) [] h.3 g.history legal (of.follows some))
                (cases_eq g.run 0);
          })
          (newcomer_fits accepts h.0 h.1 past d id v.journal.id (k.past ++ g.history ∷ []) one runs (mine.owns acts) (k.made acts) (record { id_is = refl; events = refl; begun = λ i a lt. absurd (omega (arith, lt)) }))
          (λ is by u other e free. let was = fits_at accepts first s h g same by u e in record {
            holds = λ x has. absurd (cc (has, free));
            owns = was.owns;
            knows = knows_run accepts g u legal was.knows;
            same = ap (λ (l : List Story). l ++ g.history ∷ []) was.same;
          }),
      ((acts, (λ x (is : Some g ≡ Some x). let one : g ≡ x = cc (is) in (next_run x, inr refl, (λ i. (0, next_run (one i)) ∷ [])))), tells_join accepts g d (holder_of g v) (newcomer (k.past ++ g.history ∷ []) d v.journal.id, []) (knows_run accepts g (holder_of g v) legal k, (λ is. ap (λ (l : List Story). l ++ g.history ∷ []) (sym (k.all is))), refl)),
    )

pub joins : (accepts : Meaning) (first : Story) (slots id : ℕ) (g d : Current) (v : SeatView) → v.acts ≡ true → MayJoin accepts g d v.run
    → let me : Me Current SeatView = (holder_of g v, (0, d) ∷ []) in
    Allows (IsOneHistory accepts first) slots id me 0 (λ _. 0) (λ _. Joins accepts (step slots 0 0 0 none) me 0)
joins accepts first slots id g d v acts may = ⊎_elim
    (λ (t : (d ≡ g) × (v.run ≡ g.run → ⊥)). subst (λ (x : Current). let me : Me Current SeatView = (holder_of g v, (0, x) ∷ []) in Allows (IsOneHistory accepts first) slots id me 0 (λ _. 0) (λ _. Joins accepts (step slots 0 0 0 none) me 0)) (sym t.0) (renews accepts first slots id g v acts t.1))
    (λ (t : (d ≡ next_run g) × IsLegalStory accepts g.history). subst (λ (x : Current). let me : Me Current SeatView = (holder_of g v, (0, x) ∷ []) in Allows (IsOneHistory accepts first) slots id me 0 (λ _. 0) (λ _. Joins accepts (step slots 0 0 0 none) me 0)) (sym t.0) (restarts accepts first slots id g v acts t.1))
    may
