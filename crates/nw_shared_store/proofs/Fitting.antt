-- Views that fit the value under the lock.
use Rattle.nw_shared_store.proofs.Words.{◌≡◌, ◌≢◌, ◌≤◌, ℕ, suc, ◌<◌, List, [], ◌∷◌, ◌++◌, length, Option, Some, None, refl, sym, ap, ◌∙◌, subst, inl, ⊎_elim, arith, slice_set, Contains, false≢true, All-nil, All-cons, some, none, get_elem?, State, gives, at_set, Meaning, Story, IsPrefixOf, IsJournalOf, prefix_itself}
use Rattle.std.proofs.lemmas.List.Elements.{All-contains, Contains-append_cases}
use mathlib.Core.Option.{Option as Home}
use Rattle.atomic_table.specs.Table.{stepped}
use Rattle.nw_shared_store.specs.Locked.{Current}
use Rattle.nw_shared_store.specs.Rule.{SeatView, new_journal, hearer, newcomer, with_right, Knows, FitsValue, AllFit, NoneHolds, IsValueOf, IsOneHistory}
use Rattle.nw_shared_store.specs.declared.knowledge.Right.{Right}
use Rattle.nw_shared_store.proofs.Ended.{no_runs}

-- the two places of the value
abbrev pub IsHome : Current → State Current SeatView → Type 0
IsHome now s = (s.words ≡ 0 ∷ []) × (s.homes ≡ some now ∷ []) × NoneHolds s.views

abbrev pub IsOut : State Current SeatView → Type 0
IsOut s = (n : ℕ) × (s.words ≡ suc n ∷ []) × (s.homes ≡ none ∷ [])

-- the one history in a list is a prefix of this one
pub known_one : (new h s : Story) → IsPrefixOf new h → Contains (new ∷ []) s → IsPrefixOf s h
known_one new h s p c = All-contains (λ (x : Story). IsPrefixOf x h) (new ∷ []) s (All-cons (λ (x : Story). IsPrefixOf x h) new [] p (All-nil (λ (x : Story). IsPrefixOf x h))) c

-- what is true of each known history is so of one more
pub true_of_more : (P : Story → Type 0) (known : List Story) (new s : Story) → (Contains known s → P s) → P new → Contains (known ++ new ∷ []) s → P s
true_of_more P known new s old more c = ⊎_elim
    (λ (t : Contains known s). old t)
    (λ (t : Contains (new ∷ []) s). All-contains P (new ∷ []) s (All-cons P new [] more (All-nil P)) t)
    (Contains-append_cases known (new ∷ []) s c)

-- all known histories are prefixes of one, and so is one more
pub known_more : (known : List Story) (new h : Story) → ((s : Story) → Contains known s → IsPrefixOf s h) → IsPrefixOf new h → (s : Story) → Contains (known ++ new ∷ []) s → IsPrefixOf s h
known_more known new h old more s c = true_of_more (λ (x : Story). IsPrefixOf x h) known new s (old s) more c

-- the same is known with the lock and without it, and with any right
abbrev pub with_holds : (accepts : Meaning) (now : Current) (v : SeatView) (o : Option Current) (r : Right) → r.known ≤ now.made → Knows accepts now v → Knows accepts now (record { holds = o; acts = v.acts; run = v.run; past = v.past; over = v.over; other = v.other; first = v.first; journal = v.journal; right = r })
with_holds accepts now v o r count k = record { past = k.past; runs = k.runs; all = k.all; over = k.over; other = k.other; count = count; run = k.run; committee = k.committee; limits = k.limits; known = k.known; made = k.made; part = k.part; ended = k.ended; gone = k.gone }

pub hearer_fits : (accepts : Meaning) (owner : ℕ → ℕ) (holder : ℕ) (past : List Story) (now : Current) (by : ℕ) (first : Story) (r : Right) → r.known ≤ now.made → IsValueOf accepts first past now → FitsValue accepts owner holder past now by (with_right (hearer first) r)
hearer_fits accepts owner holder past now by first r count of = record {
  same = refl;
  holds = λ g e. absurd (cc (e));
  owns = λ e. absurd (false≢true e);
  knows = record {
    past = past;
    runs = of.runs;
    all = no_runs past now.run of.runs;
    over = λ e. absurd (false≢true e);
    other = (past, refl);
    run = omega arith;
    committee = λ _. of.committee;
    limits = λ _. of.limits;
    known = λ e s c. known_one first now.history s (of.begins (sym e)) c;
    count = count;
    made = λ e. absurd (false≢true e);
    part = λ e. absurd (false≢true e);
    ended = λ e. absurd (false≢true e);
    gone = λ past. of.follows (λ z. past (sym z));
  };
}

-- a session that comes to the run of the value with no event in its history
pub newcomer_fits : (accepts : Meaning) (owner : ℕ → ℕ) (holder : ℕ) (past : List Story) (now : Current) (by id : ℕ) (known : List Story) → known ≡ past → length past ≡ now.run → owner id ≡ by → id < now.made → IsJournalOf now.history id (new_journal id (now.history ∷ []))
    → FitsValue accepts owner holder past now by (newcomer known now id)
newcomer_fits accepts owner holder past now by id known all runs own made part = record {
  same = refl;
  holds = λ g e. absurd (cc (e));
  owns = λ _. own;
  knows = record {
    past = past;
    runs = runs;
    all = λ _. all;
    over = λ e. absurd (false≢true e);
    other = (past, refl);
    run = omega arith;
    committee = λ _. refl;
    limits = λ _. refl;
    known = λ _ s c. known_one now.history now.history s (prefix_itself now.history) c;
    count = omega arith;
    made = λ _. made;
    part = λ _ _. part;
    ended = λ _ past. absurd (past refl);
    gone = λ past. absurd (past refl);
  };
}

-- if one seat's new view fits, and those of the others fit, all fit
pub fits_set : (accepts : Meaning) (owner : ℕ → ℕ) (holder : ℕ) (past : List Story) (now : Current) (views : List SeatView) (id : ℕ) (w : SeatView)
    → ((by : ℕ) (u : SeatView) → by ≢ id → get_elem? views by ≡ some u → FitsValue accepts owner holder past now by u) → FitsValue accepts owner holder past now id w
    → AllFit accepts owner holder past now (slice_set views id w)
fits_set accepts owner holder past now views id w others mine by u e =
    ⊎_elim
    (λ (t : (by ≡ id) × (w ≡ u)). subst (λ (y : ℕ × SeatView). FitsValue accepts owner holder past now y.0 y.1) (λ i. (sym t.0 i, t.1 i)) mine)
    (λ (t : (by ≢ id) × (get_elem? views by ≡ some u)). others by u t.0 t.1)
    (at_set views id by w u e)

-- a view fits as before once the lock is with another seat, if it has no lock itself
pub still_fits : (accepts : Meaning) (owner : ℕ → ℕ) (holder other : ℕ) (past : List Story) (now : Current) (by : ℕ) (u : SeatView) → u.holds ≡ None → FitsValue accepts owner holder past now by u → FitsValue accepts owner other past now by u
still_fits accepts owner holder other past now by u free fits = record { holds = λ g e. absurd (cc (e, free)); owns = fits.owns; knows = fits.knows; same = fits.same }

-- the view of a seat fits the value that the holder has
pub fits_at : (accepts : Meaning) (first : Story) (s : State Current SeatView) (h : IsOneHistory accepts first s) (g : Current) → g ≡ h.2 → (by : ℕ) (u : SeatView) → get_elem? s.views by ≡ some u → FitsValue accepts h.0 h.1 h.3 g by u
fits_at accepts first s h g same by u at = subst (λ (x : Current). FitsValue accepts h.0 h.1 h.3 x by u) (sym same) (h.6 by u at)

-- the holder gives back the value d, with the new view w, if all still fits
pub gives_back : (accepts : Meaning) (first : Story) (s : State Current SeatView) (h : IsOneHistory accepts first s) (id : ℕ) (v w : SeatView) (g d : Current) (owner : ℕ → ℕ) (past : List Story)
    → get_elem? s.views id ≡ some v → v.holds ≡ Some g → w.holds ≡ None → (IsValueOf accepts first h.3 g → IsValueOf accepts first past d)
    → FitsValue accepts owner h.1 past d id w
    → (g ≡ h.2 → (by : ℕ) (u : SeatView) → by ≢ id → get_elem? s.views by ≡ some u → u.holds ≡ None → FitsValue accepts owner h.1 past d by u)
    → IsOneHistory accepts first (stepped s 0 0 id ((0, d) ∷ []) w gives)
gives_back accepts first s h id v w g d owner past at has none_now of mine others =
    let known = (h.6 id v at).holds g has in
    let alone : (by : ℕ) (u : SeatView) → by ≢ id → get_elem? s.views by ≡ some u → u.holds ≡ None = λ by u apart e. nobody u.holds (λ x holds. apart (((h.6 by u e).holds x holds).0 ∙ sym known.0)) in (
      owner,
      h.1,
      d,
      past,
      of (subst (IsValueOf accepts first h.3) (sym known.1) h.4),
      ⊎_elim
          (λ (t : IsHome h.2 s). absurd (let free : v.holds ≡ None = t.2 id v at in cc (free, has)))
          (λ (t : IsOut s). inl (
            ap (λ (l : List ℕ). slice_set l 0 0) t.1,
            ap (λ (l : List (Home Current)). slice_set l 0 (some d)) t.2,
            (λ by u e. ⊎_elim
                (λ (x : (by ≡ id) × (w ≡ u)). ap (λ (k : SeatView). k.holds) (sym x.1) ∙ none_now)
                (λ (x : (by ≢ id) × (get_elem? s.views by ≡ some u)). alone by u x.0 x.1)
                (at_set s.views id by w u e)),
          ))
          h.5,
      fits_set accepts owner h.1 past d s.views id w (λ by u apart e. others known.1 by u apart e (alone by u apart e)) mine,
    )
  where
    nobody : (o : Option Current) → ((x : Current) → o ≡ Some x → ⊥) → o ≡ None
    nobody None never = refl
    nobody (Some x) never = absurd (never x refl)
