-- What two witnesses know of ended runs.
use Rattle.nw_shared_store.proofs.Words.{◌≡◌, ◌≢◌, ℕ, suc, ◌<◌, ◌≤◌, Bool, false, List, [], ◌∷◌, ◌++◌, Option, Some, None, refl, sym, ap, ◌∙◌, subst, inl, inr, ⊎_elim, arith, slice_set, Contains, false≢true, All-nil, some, none, get_elem?, State, Allows, step, at_set, Meaning, Story, Journal}
use Rattle.std.specs.Prelude.{slice_index}
use Rattle.std.proofs.Common.{append-nil}
use Rattle.std.proofs.lemmas.Bool.{cases_eq}
use Rattle.std.proofs.lemmas.List.Elements.{All-contains}
use Rattle.atomic_table.specs.Table.{Joins, keeps}
use Rattle.nw_shared_store.specs.Locked.{Current}
use Rattle.nw_shared_store.specs.Rule.{Agrees, AllFit, Begins, FitsValue, HasEnded, IsOneHistory, IsValueOf, Knows, NoneHolds, SeatView, new_journal, nobody, witness, witness_of_two}
use Rattle.nw_shared_store.proofs.Ended.{no_runs}
use Rattle.nw_shared_store.proofs.Fitting.{IsHome, IsOut, fits_set}

-- what a seat knows of ended runs begins the list
begun : (accepts : Meaning) (now : Current) (v : SeatView) (k : Knows accepts now v) → Begins v.past k.past
begun accepts now v k = ⊎_elim
    (λ (is : v.run ≡ now.run). ([], sym (k.all is) ∙ sym (append-nil v.past)))
    (λ (apart : v.run ≡ now.run → ⊥). let e = k.gone apart in (e.last ∷ e.later, e.all))
    (cases_eq v.run now.run)

none_known : (s : Story) → Contains [] s → ⊥
none_known s c = All-contains (λ (x : Story). ⊥) [] s (All-nil (λ (x : Story). ⊥)) c

-- the run has ended for a seat of it without a session
any_ended : (accepts : Meaning) (acts : Bool) (j : Journal) (before past : List Story) (now : Story) → HasEnded accepts acts j before past now → HasEnded accepts false (new_journal 0 []) before past now
any_ended accepts acts j before past now e = record { last = e.last; later = e.later; all = e.all; runs = e.runs; begins = λ s c. absurd (none_known s c); part = λ is. absurd (false≢true is) }

-- a witness fits what the seat fits, and what begins the list
two_fit : (accepts : Meaning) (owner : ℕ → ℕ) (holder : ℕ) (past : List Story) (now : Current) (by : ℕ) (v w : SeatView) → FitsValue accepts owner holder past now by v → Begins w.past past
    → (to : ℕ) → FitsValue accepts owner holder past now to (witness_of_two v w)
two_fit accepts owner holder past now by v w fits begins to =
    let k = fits.knows in record {
      holds = λ g e. absurd (cc (e));
      owns = λ e. absurd (false≢true e);
      same = fits.same;
      knows = record {
        past = k.past;
        runs = k.runs;
        all = k.all;
        over = λ e. absurd (false≢true e);
        other = (begins.0, fits.same ∙ begins.1);
        run = k.run;
        committee = λ c. absurd (none_known v.first c);
        limits = λ c. absurd (none_known v.first c);
        known = λ _ s c. absurd (none_known s c);
        count = omega arith;
        made = λ e. absurd (false≢true e);
        part = λ e. absurd (false≢true e);
        ended = λ e. absurd (false≢true e);
        gone = λ apart. any_ended accepts v.acts v.journal v.past k.past now.history (k.gone apart);
      };
    }

pub witness_fits : (accepts : Meaning) (owner : ℕ → ℕ) (holder : ℕ) (past : List Story) (now : Current) (by : ℕ) (v : SeatView) → FitsValue accepts owner holder past now by v → (to : ℕ) → FitsValue accepts owner holder past now to (witness v)
witness_fits accepts owner holder past now by v fits = two_fit accepts owner holder past now by v nobody fits (past, refl)

nobody_fits : (accepts : Meaning) (owner : ℕ → ℕ) (holder : ℕ) (first : Story) (past : List Story) (now : Current) (by : ℕ) → IsValueOf accepts first past now → FitsValue accepts owner holder past now by nobody
nobody_fits accepts owner holder first past now by of = record {
  holds = λ g e. absurd (cc (e));
  owns = λ e. absurd (false≢true e);
  same = refl;
  knows = record {
    past = past;
    runs = of.runs;
    all = no_runs past now.run of.runs;
    over = λ e. absurd (false≢true e);
    other = (past, refl);
    run = omega arith;
    committee = λ c. absurd (none_known nobody.first c);
    limits = λ c. absurd (none_known nobody.first c);
    known = λ _ s c. absurd (none_known s c);
    count = omega arith;
    made = λ e. absurd (false≢true e);
    part = λ e. absurd (false≢true e);
    ended = λ e. absurd (false≢true e);
    gone = λ some_run. any_ended accepts false (new_journal 0 (first ∷ [])) [] past now.history (of.follows (λ z. some_run (sym z)));
  };
}

-- no seat has the lock after a change of one that has it not
none_set : (views : List SeatView) (id : ℕ) (w : SeatView) → w.holds ≡ None → NoneHolds views → NoneHolds (slice_set views id w)
none_set views id w free none_holds by u e = ⊎_elim
    (λ (x : (by ≡ id) × (w ≡ u)). ap (λ (k : SeatView). k.holds) (sym x.1) ∙ free)
    (λ (x : (by ≢ id) × (get_elem? views by ≡ some u)). none_holds by u x.1)
    (at_set views id by w u e)

-- two witnesses become one of both
pub meets : (accepts : Meaning) (first : Story) (id : ℕ) (v : SeatView) (other : ℕ) (w : SeatView) → Joins (IsOneHistory accepts first) id v other w (witness_of_two v w) nobody
meets accepts first id v other w s h at apart there =
    let both = witness_of_two v w in
    let w_at : get_elem? s.views other ≡ some w = ⊎_elim
    (λ (x : (other ≡ id) × (both ≡ w)). absurd (apart x.0))
    (λ (x : (other ≢ id) × (get_elem? s.views other ≡ some w)). x.1)
    (at_set s.views id other both w there) in
    let mine = h.6 id v at in
    let theirs = h.6 other w w_at in
    let known = begun accepts h.2 w theirs.knows in
    let views = slice_set s.views id both in
    let one : AllFit accepts h.0 h.1 h.3 h.2 views = fits_set accepts h.0 h.1 h.3 h.2 s.views id both (λ by u _ e. h.6 by u e) (two_fit accepts h.0 h.1 h.3 h.2 id v w mine (known.0, sym theirs.same ∙ known.1) id) in (
      h.0,
      h.1,
      h.2,
      h.3,
      h.4,
      ⊎_elim
          (λ (t : IsHome h.2 s). inl (t.0, t.1, none_set views other nobody refl (none_set s.views id both refl t.2)))
          (λ (t : IsOut s). inr t)
          h.5,
      fits_set accepts h.0 h.1 h.3 h.2 views other nobody (λ by u _ e. one by u e) (nobody_fits accepts h.0 h.1 first h.3 h.2 other h.4),
    )

-- a witness of two tells what it knows
pub agrees : (accepts : Meaning) (first : Story) (slots id : ℕ) (v : SeatView) → Allows (IsOneHistory accepts first) slots id (v, []) 0 (λ n. n) (Agrees (step slots 0 0 0 none) (v, []))
agrees accepts first slots id v s h len at fits =
    let mine = h.6 id v at in (
      v,
      keeps,
      tt,
      (
        h.0,
        h.1,
        h.2,
        h.3,
        h.4,
        ⊎_elim
            (λ (t : IsHome h.2 s). inl (ap (λ (l : List ℕ). slice_set l 0 (slice_index l 0)) t.0, t.1, none_set s.views id v (t.2 id v at) t.2))
            (λ (t : IsOut s). inr (t.0, ap (λ (l : List ℕ). slice_set l 0 (slice_index l 0)) t.1, t.2))
            h.5,
        fits_set accepts h.0 h.1 h.3 h.2 s.views id v (λ by u _ e. h.6 by u e) mine,
      ),
      (mine.knows.past, begun accepts h.2 v mine.knows, mine.knows.other),
    )
