-- Each step keeps the rule of the lock.
use Rattle.nw_shared_store.proofs.Words.{◌≡◌, ◌≢◌, ◌≤◌, ℕ, zero, suc, ◌+◌, ◌<◌, Bool, true, false, cond, List, [], ◌∷◌, length, Some, None, refl, sym, ap, ◌∙◌, subst, inl, inr, ⊎_elim, arith, slice_set, ◌==◌, All, none, get_elem?, either, Me, gives, step, opening, Allows, at_snoc, Event, Meaning, Story, with_event, IsPrefixOf, prefix_itself, prefix_trans, prefix_next}
use Rattle.std.proofs.Common.{eq-eqb, ne_eqb}
use Rattle.std.specs.Prelude.{slice_index}
use mathlib.Core.Option.{Option as Home, some-injective, some-ne-none}
use Rattle.atomic_table.specs.Table.{keeps, takes, Enters}
use Rattle.nw_shared_store.specs.Locked.{Current}
use Rattle.nw_shared_store.specs.Rule.{SeatView, hearer, new_journal, no_right, owner_of, holder_of, with_journal, freed, newcomer, IsMember, Knows, FitsValue, AllFit, NoneHolds, IsValueOf, IsOneHistory, answered, Comes, Acquires, Returns, Releases, Enrols, reader_of, Reads, counting, Counts, GivesSame, Tells, told, with_call}
use Rattle.nw_shared_store.proofs.Ended.{ended_same}
use Rattle.nw_shared_store.proofs.Grown.{part_own, part_other, part_new, events_other}
use Rattle.nw_shared_store.proofs.Fitting.{IsHome, IsOut, fits_at, known_more, true_of_more, with_holds, hearer_fits, newcomer_fits, fits_set, still_fits, gives_back}
use Rattle.nw_shared_store.proofs.Slots.{out_at, second_of}

pub comes : (accepts : Meaning) (first : Story) (slots : ℕ) → Enters (IsOneHistory accepts first) slots 0 (λ n w. Comes (step slots 0 0 0 none) (owner_of first 0 0 0, []) n (w, []))
comes accepts first slots s h len fits =
    let w = hearer first in (
      w,
      (
        h.0,
        h.1,
        h.2,
        h.3,
        h.4,
        ⊎_elim
            (λ (t : IsHome h.2 s). inl (t.0, t.1, (λ by v e. ⊎_elim (λ there. t.2 by v there) (λ (same : w ≡ v). ap (λ (k : SeatView). k.holds) (sym same)) (at_snoc s.views w v by e))))
            (λ (t : IsOut s). inr t)
            h.5,
        (λ by v e. ⊎_elim (λ there. h.6 by v there) (λ (same : w ≡ v). subst (FitsValue accepts h.0 h.1 h.3 h.2 by) same (hearer_fits accepts h.0 h.1 h.3 h.2 by first no_right (omega arith) h.4)) (at_snoc s.views w v by e)),
      ),
      refl,
    )

pub acquires : (accepts : Meaning) (first : Story) (slots id : ℕ) (v : SeatView) → Allows (IsOneHistory accepts first) slots id (v, []) 0 (λ n. either (n == 0) 1 n) (Acquires accepts (step slots 0 0 1 none) (v, []))
acquires accepts first slots id v s h len at fits =
    let mine = h.6 id v at in
    ⊎_elim
    (λ (t : IsHome h.2 s).
    let w = holder_of h.2 v in (
      w,
      takes 0 h.2,
      ap (λ (l : List (Home Current)). get_elem? l 0) t.1,
      (
        h.0,
        id,
        h.2,
        h.3,
        h.4,
        inr (0, ap (λ (l : List ℕ). slice_set l 0 (either (slice_index l 0 == 0) 1 (slice_index l 0))) t.0, ap (λ (l : List (Home Current)). slice_set l 0 none) t.1),
        fits_set accepts h.0 id h.3 h.2 s.views id w
            (λ by u apart e. still_fits accepts h.0 h.1 id h.3 h.2 by u (t.2 by u e) (h.6 by u e))
            (record { holds = λ g e. (refl, cc (e)); owns = mine.owns; knows = with_holds accepts h.2 v (Some h.2) v.right mine.knows.count mine.knows; same = mine.same }),
      ),
      ((λ _. (h.2, refl, mine.knows)), (λ ne. absurd (ne (ap (λ (l : List ℕ). slice_index l 0) t.0)))),
    ))
    (λ (t : IsOut s). (
      v,
      keeps,
      tt,
      (
        h.0,
        h.1,
        h.2,
        h.3,
        h.4,
        inr (t.0, ap (λ (l : List ℕ). slice_set l 0 (either (slice_index l 0 == 0) 1 (slice_index l 0))) t.1 ∙ ap (λ (b : Bool). either b 1 (suc t.0) ∷ []) (ne_eqb (suc t.0) 0 (λ e. omega arith)), t.2),
        fits_set accepts h.0 h.1 h.3 h.2 s.views id v (λ by u apart e. h.6 by u e) mine,
      ),
      ((λ z. let one : slice_index s.words 0 ≡ suc t.0 = ap (λ (l : List ℕ). slice_index l 0) t.1 in absurd (omega arith)), (λ _. refl)),
    ))
    h.5

-- the seat gives back the value that it took
gives_same : (g : Current) (v : SeatView) → GivesSame (holder_of g v, (0, g) ∷ [])
gives_same g v x is = let one : g ≡ x = cc (is) in λ i. (0, one i) ∷ []

pub returns : (accepts : Meaning) (first : Story) (slots id : ℕ) (g : Current) (v : SeatView)
    → Allows (IsOneHistory accepts first) slots id (holder_of g v, (0, g) ∷ []) 0 (λ _. 0) (λ _. Returns (step slots 0 0 0 none) (holder_of g v, (0, g) ∷ []) 0)
returns accepts first slots id g v s h len at fits =
    let mine = h.6 id (holder_of g v) at in
    let same : g ≡ h.2 = (mine.holds g refl).1 in (
      freed v,
      gives,
      tt,
      gives_back accepts first s h id (holder_of g v) (freed v) g g h.0 h.3 at refl refl (λ of. of)
          (let here = fits_at accepts first s h g same id (holder_of g v) at in record { holds = λ x e. absurd (cc (e)); owns = mine.owns; knows = with_holds accepts g (holder_of g v) None v.right here.knows.count here.knows; same = here.same })
          (λ is by u apart e free. fits_at accepts first s h g same by u e),
      (gives_same g v, refl),
    )

-- what another seat knows stays true after one more event of a session that it has not
abbrev knows_next : (accepts : Meaning) (g : Current) (e : Event) (u : SeatView) → Knows accepts g u → (u.acts ≡ true → e.session ≢ u.journal.id) → Knows accepts (with_call g e) u
knows_next accepts g e u k apart = record {
  past = k.past;
  runs = k.runs;
  all = k.all;
  over = k.over;
  other = k.other;
  run = k.run;
  committee = k.committee;
  limits = k.limits;
  known = λ r s c. prefix_trans s g.history (with_event g.history e) (k.known r s c) (prefix_next g.history (with_event g.history e) e refl);
  made = k.made;
  count = k.count;
  part = λ acts r. part_other g.history e u.journal (apart acts) (k.part acts r);
  ended = λ acts past. events_other g.history e u.journal.id (apart acts) ∙ k.ended acts past;
  gone = λ past. ended_same accepts u.acts u.journal u.past k.past g.history (with_event g.history e) refl (k.gone past);
}

pub releases : (accepts : Meaning) (first : Story) (slots id : ℕ) (g : Current) (v : SeatView) (e : Event) → e.session ≡ v.journal.id → v.acts ≡ true → v.run ≡ g.run
    → let me : Me Current SeatView = (holder_of g v, (0, with_call g e) ∷ []) in
    Allows (IsOneHistory accepts first) slots id me 0 (λ _. 0) (λ _. Releases (step slots 0 0 0 none) me 0)
releases accepts first slots id g v e own acts run s h len at fits =
    let d = with_call g e in
    let j = v.journal in
    let mine = h.6 id (holder_of g v) at in
    let same : g ≡ h.2 = (mine.holds g refl).1 in
    let w = with_journal v (answered g.history d.history j) in
    let here = fits_at accepts first s h g same id (holder_of g v) at in
    let k = here.knows in
    let longer : IsPrefixOf g.history d.history = prefix_next g.history d.history e refl in
    let i_own : h.0 j.id ≡ id = mine.owns acts in (
      w,
      gives,
      tt,
      gives_back accepts first s h id (holder_of g v) w g d h.0 h.3 at refl refl
          (λ of. record { committee = of.committee; limits = of.limits; begins = λ z. prefix_trans first g.history d.history (of.begins z) longer; follows = λ z. ended_same accepts false (new_journal 0 (first ∷ [])) [] h.3 g.history d.history refl (of.follows z); runs = of.runs })
          (record {
            holds = λ x is. absurd (cc (is));
            owns = λ _. i_own;
            same = here.same;
            knows = record {
              past = k.past;
              runs = k.runs;
              all = k.all;
              over = k.over;
              other = k.other;
              run = k.run;
              committee = true_of_more (λ (x : Story). x.committee ≡ d.history.committee) j.known d.history v.first k.committee refl;
              limits = true_of_more (λ (x : Story). x.limits ≡ d.history.limits) j.known d.history v.first k.limits refl;
              known = λ r. known_more j.known d.history d.history (λ x c. prefix_trans x g.history d.history (k.known r x c) longer) (prefix_itself d.history);
              made = k.made;
              count = k.count;
              part = λ a r. part_own g.history e j own (k.part a r);
              ended = λ _ past. absurd (past run);
              gone = λ past. absurd (past run);
            };
          })
          (λ is by u apart there free. let was = fits_at accepts first s h g same by u there in record {
            holds = λ x e. absurd (cc (e, free));
            owns = was.owns;
            same = was.same;
            knows = knows_next accepts g e u was.knows (λ a (is : e.session ≡ u.journal.id). apart (sym (was.owns a) ∙ (ap h.0 (sym is ∙ own) ∙ i_own)));
          }),
      ((acts, (λ x (is : Some g ≡ Some x). let one : g ≡ x = cc (is) in (e, own, (λ i. (0, with_call (one i) e) ∷ [])))), tells),
    )
  where
    tells : let d : Current = with_call g e in
        (before after : Current) → Some g ≡ Some before → out_at d ≡ out_at after
        → let one : Me Current SeatView = (with_journal v (answered g.history d.history v.journal), []) in let two : Me Current SeatView = (with_journal v (answered before.history after.history v.journal), []) in one ≡ two
    tells before after is there =
        let d : Current = with_call g e in
        let one : g ≡ before = cc (is) in
        let two : d ≡ after = ap (λ (l : List (ℕ × Current)). second_of l d) there in
        λ i. (with_journal v (answered (one i).history (two i).history v.journal), [])

-- a new session has a number that no seat has
pub enrols : (accepts : Meaning) (first : Story) (slots id : ℕ) (g : Current) (v : SeatView) → v.right.one ≡ true → All (λ (e : Event). e.session < g.made) g.history.events
    → let d : Current = record { run = g.run; history = g.history; made = g.made + 1 } in
    let me : Me Current SeatView = (holder_of g v, (0, d) ∷ []) in
    Allows (IsOneHistory accepts first) slots id me 0 (λ _. 0) (λ _. Enrols accepts (step slots 0 0 0 none) me 0)
enrols accepts first slots id g v one below s h len at fits =
    let d : Current = record { run = g.run; history = g.history; made = g.made + 1 } in
    let mine = h.6 id (holder_of g v) at in
    let same : g ≡ h.2 = (mine.holds g refl).1 in
    let owner : ℕ → ℕ = λ i. cond (i == g.made) id (h.0 i) in
    let here = fits_at accepts first s h g same id (holder_of g v) at in
    let k = here.knows in (
      newcomer k.past g g.made,
      gives,
      tt,
      gives_back accepts first s h id (holder_of g v) (newcomer k.past g g.made) g d owner h.3 at refl refl
          (λ of. record { committee = of.committee; limits = of.limits; begins = of.begins; follows = of.follows; runs = of.runs })
          (newcomer_fits accepts owner h.1 h.3 d id g.made k.past here.same (ap (λ (l : List Story). length l) (sym here.same) ∙ k.runs) (ap (λ (b : Bool). cond b id (h.0 g.made)) (eq-eqb g.made g.made refl)) (omega arith) (part_new g.history g.made (g.history ∷ []) below))
          (λ is by u apart there free. let was = fits_at accepts first s h g same by u there in let k = was.knows in record {
            holds = λ x e. absurd (cc (e, free));
            owns = λ acts. let less : u.journal.id < g.made = k.made acts in
                ap (λ (b : Bool). cond b id (h.0 u.journal.id)) (ne_eqb u.journal.id g.made (λ e. omega arith)) ∙ was.owns acts;
            same = was.same;
            knows = record {
              past = k.past;
              runs = k.runs;
              all = k.all;
              over = k.over;
              other = k.other;
              run = k.run;
              committee = k.committee;
              limits = k.limits;
              known = k.known;
              made = λ acts. let less : u.journal.id < g.made = k.made acts in omega arith;
              count = let less : u.right.known ≤ g.made = k.count in omega arith;
              part = k.part;
              ended = k.ended;
              gone = k.gone;
            };
          }),
      (
        (one, (λ (before : Current) (is : Some g ≡ Some before). let same : g ≡ before = cc (is) in λ i. (0, record { run = (same i).run; history = (same i).history; made = (same i).made + 1 }) ∷ [])),
        (λ (before : Current) (is : Some g ≡ Some before). let same : g ≡ before = cc (is) in subst (λ (x : Current). IsMember accepts x (holder_of g v) (newcomer k.past g g.made, [])) same (k, refl)),
      ),
    )

-- the seat gives the value back, and knows of its history
pub reads : (accepts : Meaning) (first : Story) (slots id : ℕ) (g : Current) (v : SeatView) → v.run ≡ g.run
    → Allows (IsOneHistory accepts first) slots id (holder_of g v, (0, g) ∷ []) 0 (λ _. 0) (λ _. Reads (step slots 0 0 0 none) (holder_of g v, (0, g) ∷ []) 0)
reads accepts first slots id g v run s h len at fits =
    let mine = h.6 id (holder_of g v) at in
    let same : g ≡ h.2 = (mine.holds g refl).1 in
    let here = fits_at accepts first s h g same id (holder_of g v) at in
    let k = here.knows in (
      reader_of g.history v,
      gives,
      tt,
      gives_back accepts first s h id (holder_of g v) (reader_of g.history v) g g h.0 h.3 at refl refl (λ of. of)
          (record {
            holds = λ x e. absurd (cc (e));
            owns = mine.owns;
            same = here.same;
            knows = record {
              past = k.past;
              runs = k.runs;
              all = k.all;
              over = k.over;
              other = k.other;
              run = k.run;
              committee = true_of_more (λ (x : Story). x.committee ≡ g.history.committee) v.journal.known g.history v.first k.committee refl;
              limits = true_of_more (λ (x : Story). x.limits ≡ g.history.limits) v.journal.known g.history v.first k.limits refl;
              known = λ r. known_more v.journal.known g.history g.history (k.known r) (prefix_itself g.history);
              made = k.made;
              count = k.count;
              part = λ acts r. let up = k.part acts r in record { id_is = refl; events = up.events; begun = up.begun };
              ended = k.ended;
              gone = λ past. absurd (past run);
            };
          })
          (λ is by u apart e free. fits_at accepts first s h g same by u e),
      (gives_same g v, (λ (now : Current) (is : Some g ≡ Some now). let one : g ≡ now = cc (is) in λ i. (reader_of (one i).history v, []))),
    )

-- the seat gives the value back as it was, and knows of its number of sessions
pub counts : (accepts : Meaning) (first : Story) (slots id : ℕ) (g : Current) (v : SeatView)
    → Allows (IsOneHistory accepts first) slots id (holder_of g v, (0, g) ∷ []) 0 (λ _. 0) (λ _. Counts (step slots 0 0 0 none) (holder_of g v, (0, g) ∷ []) 0)
counts accepts first slots id g v s h len at fits =
    let mine = h.6 id (holder_of g v) at in
    let same : g ≡ h.2 = (mine.holds g refl).1 in
    let here = fits_at accepts first s h g same id (holder_of g v) at in (
      counting g v,
      gives,
      tt,
      gives_back accepts first s h id (holder_of g v) (counting g v) g g h.0 h.3 at refl refl (λ of. of)
          (record { holds = λ x e. absurd (cc (e)); owns = mine.owns; knows = with_holds accepts g (holder_of g v) None (counting g v).right (omega arith) here.knows; same = here.same })
          (λ is by u apart e free. fits_at accepts first s h g same by u e),
      (gives_same g v, (λ (now : Current) (is : Some g ≡ Some now). let one : g ≡ now = cc (is) in λ i. (counting (one i) v, []))),
    )

-- the seat of an ended run gives the value back as it was, and was told so
pub tells : (accepts : Meaning) (first : Story) (slots id : ℕ) (g : Current) (v : SeatView) → (v.run ≡ g.run → ⊥)
    → Allows (IsOneHistory accepts first) slots id (holder_of g v, (0, g) ∷ []) 0 (λ _. 0) (λ _. Tells (step slots 0 0 0 none) (holder_of g v, (0, g) ∷ []) 0)
tells accepts first slots id g v apart s h len at fits =
    let mine = h.6 id (holder_of g v) at in
    let same : g ≡ h.2 = (mine.holds g refl).1 in
    let here = fits_at accepts first s h g same id (holder_of g v) at in
    let k = here.knows in (
      told v,
      gives,
      tt,
      gives_back accepts first s h id (holder_of g v) (told v) g g h.0 h.3 at refl refl (λ of. of)
          (record {
            holds = λ x e. absurd (cc (e));
            owns = mine.owns;
            same = here.same;
            knows = record {
              past = k.past;
              runs = k.runs;
              all = k.all;
              over = λ _. apart;
              other = k.other;
              run = k.run;
              committee = k.committee;
              limits = k.limits;
              known = k.known;
              made = k.made;
              count = k.count;
              part = k.part;
              ended = k.ended;
              gone = k.gone;
            };
          })
          (λ is by u other e free. fits_at accepts first s h g same by u e),
      (gives_same g v, refl),
    )

-- a new table keeps the rule
pub opens : (accepts : Meaning) (now : Current) → now.run ≡ 0 → IsOneHistory accepts now.history (opening (0 ∷ []) (now ∷ []) (owner_of now.history 0 0 0))
opens accepts now opened = ((λ _. 0), 0, now, [], of, inl (refl, refl, none_holds), fits)
  where
    of : IsValueOf accepts now.history [] now
    of = record { committee = refl; limits = refl; begins = λ _. prefix_itself now.history; follows = λ some. absurd (some opened); runs = sym opened }

    first : SeatView
    first = owner_of now.history 0 0 0

    none_holds : NoneHolds (first ∷ [])
    none_holds zero v e = ap (λ (k : SeatView). k.holds) (sym (some-injective _ _ e))
    none_holds (suc by) v e = absurd (some-ne-none v (sym e))

    fits : AllFit accepts (λ _. 0) 0 [] now (first ∷ [])
    fits zero v e = subst (FitsValue accepts (λ _. 0) 0 [] now 0) (some-injective _ _ e) (hearer_fits accepts (λ _. 0) 0 [] now 0 now.history first.right (omega arith) of)
    fits (suc by) v e = absurd (some-ne-none v (sym e))
