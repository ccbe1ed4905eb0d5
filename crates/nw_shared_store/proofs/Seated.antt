-- The seat of a session, from what each step on its lock says.
use Rattle.nw_shared_store.proofs.Words.{◌≡◌, ◌<◌, ℕ, true, List, [], ◌∷◌, Option, Result, Ok, Err, refl, sym, ap, ◌∙◌, subst, arith, none, ⊤, IfErr, Contains-push, TableId, Me, Allows, step, Member, Meaning, Story, Journal}
use Rattle.atomic_table.specs.Table.{Step}
use Rattle.nw_shared_store.specs.Locked.{Current, IsLocked}
use Rattle.nw_shared_store.specs.Rule.{SeatView, HasLock, HasValue, IsJoined, IsOneHistory, Knows, KnowsRun, MayJoin, freed, holder_of, member, told, with_journal}
use Rattle.nw_shared_store.specs.Session.{IsSessionAt, SessionView, IsKept, IsRefusedBy, IsSameSession, IsTurnedAway, IsUnavailable, IsUnseen}
use Rattle.nw_shared_store.specs.declared.error.Refusal.{Refusal}
use Rattle.nw_shared_store.specs.declared.error.Refusal.TheVariants as refusals
use Rattle.nw_shared_store.proofs.Slots.{one_value}

-- the session of a seat, as contracts see it
abbrev pub view_at : TableId → Me Current SeatView → SessionView
view_at at m = record { lock = at; run = m.0.run; past = m.0.past; over = m.0.over; first = m.0.first; journal = m.0.journal }

-- the view of a session whose seat is as before
pub same_view : {at : TableId} {m n : Me Current SeatView} → m ≡ n → view_at at m ≡ view_at at n
same_view {at = at} is = ap (view_at at) is

-- a session whose seat has another journal with its number
pub same_session : (at : TableId) (m n : Me Current SeatView) (j : Journal) → n ≡ (with_journal m.0 j, []) → j.id ≡ m.0.journal.id → IsSameSession (view_at at m) (view_at at n)
same_session at m n j is id = record {
  lock = refl;
  run = ap (λ (x : Me Current SeatView). x.0.run) is;
  past = ap (λ (x : Me Current SeatView). x.0.past) is;
  over = λ told. ap (λ (x : Me Current SeatView). x.0.over) is ∙ told;
  first = ap (λ (x : Me Current SeatView). x.0.first) is;
  id = ap (λ (x : Me Current SeatView). x.0.journal.id) is ∙ id;
}

-- a session whose seat is as before
pub unchanged_session : (at : TableId) (m n : Me Current SeatView) → n ≡ m → IsSameSession (view_at at m) (view_at at n)
unchanged_session at m n is = record { lock = refl; run = ap (λ (x : Me Current SeatView). x.0.run) is; past = ap (λ (x : Me Current SeatView). x.0.past) is; over = λ told. ap (λ (x : Me Current SeatView). x.0.over) is ∙ told; first = ap (λ (x : Me Current SeatView). x.0.first) is; id = ap (λ (x : Me Current SeatView). x.0.journal.id) is }

-- a step may give the value back and free the lock: it keeps the rule, and `then` holds of the seat after it
abbrev pub MayEnd : Meaning → Story → ℕ → ℕ → (Step Current → Me Current SeatView → ℕ → Me Current SeatView → Type 0) → Me Current SeatView → Type 0
MayEnd accepts key slots id then m = Allows (IsOneHistory accepts key) slots id m 0 (λ _. 0) (λ _. then (step slots 0 0 0 none) m 0)

-- what the table asks of such a step
pub may_end : {Same : Type 0} (accepts : Meaning) {words : ℕ} (key : Story) (slots id : ℕ) (then : Step Current → Me Current SeatView → ℕ → Me Current SeatView → Type 0) (m n : Me Current SeatView)
    → Same → words ≡ 1 → n ≡ m → MayEnd accepts key slots id then m → Same × (0 < words) × MayEnd accepts key slots id then n
may_end accepts key slots id then m n same one is may = (same, subst (λ k. 0 < k) (sym one) (omega arith), subst (MayEnd accepts key slots id then) (sym is) may)

-- a seat that took the lock may give the value back as it was
pub may_free : (accepts : Meaning) (v : SeatView) (m1 m : Me Current SeatView) → HasLock v m1 (λ now. Knows accepts now v) → m ≡ m1 → HasLock (freed m.0) m (λ now. ⊤)
may_free accepts v m1 m lock is = subst (λ (n : Me Current SeatView). HasLock (freed n.0) n (λ now. ⊤)) (sym (is ∙ lock.1)) (lock.0, refl, tt)

-- a seat of the run of the value may give the value back, and know of its history
pub may_read : (accepts : Meaning) (v : SeatView) (m1 m : Me Current SeatView) → HasLock v m1 (λ now. KnowsRun accepts now v) → m ≡ m1 → HasLock (freed m.0) m (λ now. m.0.run ≡ now.run)
may_read accepts v m1 m lock is = subst (λ (n : Me Current SeatView). HasLock (freed n.0) n (λ now. n.0.run ≡ now.run)) (sym (is ∙ lock.1)) (lock.0, refl, lock.2.same)

-- it has the value
pub has_value : (accepts : Meaning) (v : SeatView) (m1 : Me Current SeatView) → HasLock v m1 (λ now. Knows accepts now v) → HasValue m1 (λ g. ⊤)
has_value accepts v m1 lock = (lock.0, ap (λ (m : Me Current SeatView). m.1) lock.1, tt)

-- what is true of the value in the slot
pub of_value : {then also : Current → Type 0} (v : SeatView) (m1 : Me Current SeatView) (lock : HasLock v m1 then) → HasValue m1 also → also lock.0
of_value {also = also} v m1 lock has = subst also (one_value m1 has.0 lock.0 has.1 (ap (λ (m : Me Current SeatView). m.1) lock.1)) has.2

-- a refusal for this cause
pub of_cause : {A : Type 0} (P : Refusal → Type 0) (cause : Refusal) (r : Result A Refusal) → P cause → IfErr r (λ why. why ≡ cause) → IfErr r P
of_cause P cause (Ok a) holds is = tt
of_cause P cause (Err why) holds is = subst P (sym is) holds

pub unavailable_of : {A : Type 0} (m0 m1 : Me Current SeatView) (r : Result A Refusal) → IfErr r (IsTurnedAway m0 m1) → IfErr r IsUnavailable
unavailable_of m0 m1 (Ok a) is = tt
unavailable_of m0 m1 (Err refusals.Busy) is = tt
unavailable_of m0 m1 (Err refusals.Ended) is = tt
unavailable_of m0 m1 (Err refusals.TooMany) is = elim is [ ]
unavailable_of m0 m1 (Err (refusals.NoStep _)) is = elim is [ ]

pub kept_of : {A : Type 0} (at : TableId) (m0 m1 : Me Current SeatView) (r : Result A Refusal) → IfErr r (IsTurnedAway m0 m1) → IfErr r (IsKept (view_at at m0) (view_at at m1))
kept_of at m0 m1 (Ok a) is = tt
kept_of at m0 m1 (Err refusals.Busy) is = ap (view_at at) is
kept_of at m0 m1 (Err refusals.Ended) is = ap (view_at at) is
kept_of at m0 m1 (Err refusals.TooMany) is = elim is [ ]
kept_of at m0 m1 (Err (refusals.NoStep _)) is = elim is [ ]

-- a session whose seat could not take its turn
pub refused_by_of : {A : Type 0} (accepts : Meaning) (at : TableId) (m0 m1 : Me Current SeatView) (under : Option (List Member)) (r : Result A Refusal) → IfErr r (IsTurnedAway m0 m1)
    → IfErr r (IsRefusedBy accepts (view_at at m0) (view_at at m1) under)
refused_by_of accepts at m0 m1 under (Ok a) is = tt
refused_by_of accepts at m0 m1 under (Err refusals.Busy) is = ap (view_at at) is
refused_by_of accepts at m0 m1 under (Err refusals.Ended) is = ap (view_at at) is
refused_by_of accepts at m0 m1 under (Err refusals.TooMany) is = elim is [ ]
refused_by_of accepts at m0 m1 under (Err (refusals.NoStep _)) is = elim is [ ]

pub session_away : (at : TableId) (run id : ℕ) (seat other : TableId) (m0 m1 : Me Current SeatView) (why : Refusal) → IsSessionAt at run id seat m0 → other ≡ seat → IsTurnedAway m0 m1 why
    → IsSessionAt at run id other m1 × IsSameSession (view_at at m0) (view_at at m1)
session_away at run id seat other m0 m1 refusals.Busy session is_at is =
    (subst (λ (x : TableId × Me Current SeatView). IsSessionAt at run id x.0 x.1) (λ i. (sym is_at i, sym is i)) session, unchanged_session at m0 m1 is)
session_away at run id seat other m0 m1 refusals.Ended session is_at is = (
  subst (λ (x : TableId × Me Current SeatView). IsSessionAt at run id x.0 x.1) (λ i. (sym is_at i, sym is i)) (record {
    at = session.at;
    member_is = λ i. (told (session.member_is i).0, []);
    id_is = session.id_is;
    run_is = session.run_is;
    knows_first = session.knows_first;
  }),
  subst (λ (m : Me Current SeatView). IsSameSession (view_at at m0) (view_at at m)) (sym is) (record { lock = refl; run = refl; past = refl; over = λ _. refl; first = refl; id = refl }),
)
session_away at run id seat other m0 m1 refusals.TooMany session is_at is = elim is [ ]
session_away at run id seat other m0 m1 (refusals.NoStep _) session is_at is = elim is [ ]

-- the seat of a session of an ended run, once it was told so
pub as_told : {then : Current → Type 0} (v : SeatView) (m1 m n : Me Current SeatView) → HasLock v m1 then → m ≡ m1 → n ≡ (told m.0, []) → n ≡ (told v, [])
as_told v m1 m n lock is tells = tells ∙ ap (λ (x : Me Current SeatView). (told x.0, [])) (is ∙ lock.1)

-- a seat of an ended run may be told so
pub may_tell : (accepts : Meaning) (v : SeatView) (m1 m : Me Current SeatView) (run found : ℕ) → HasLock v m1 (λ now. Knows accepts now v) → m ≡ m1 → v.run ≡ run → (found ≡ run → ⊥)
    → HasValue m1 (λ g. (found ≡ g.run) × IsLocked accepts g) → HasLock (freed m.0) m (λ now. m.0.run ≡ now.run → ⊥)
may_tell accepts v m1 m run found lock is is_run other has =
    let here : (found ≡ lock.0.run) × IsLocked accepts lock.0 = of_value v m1 lock has in
    subst (λ (n : Me Current SeatView). HasLock (freed n.0) n (λ now. n.0.run ≡ now.run → ⊥)) (sym (is ∙ lock.1)) (lock.0, refl, (λ same. other (here.0 ∙ (sym same ∙ is_run))))

pub unseen_of : {A : Type 0} (m0 m1 : Me Current SeatView) (r : Result A Refusal) → IfErr r (IsTurnedAway m0 m1) → IfErr r IsUnseen
unseen_of m0 m1 (Ok a) is = tt
unseen_of m0 m1 (Err refusals.Busy) is = tt
unseen_of m0 m1 (Err refusals.Ended) is = tt
unseen_of m0 m1 (Err refusals.TooMany) is = elim is [ ]
unseen_of m0 m1 (Err (refusals.NoStep _)) is = elim is [ ]

-- the seat of a session that gave the lock back with the value as it was is as before
pub as_free : {then : Current → Type 0} (m0 m1 m n : Me Current SeatView) → m0 ≡ (member m0.0.run m0.0.past m0.0.over m0.0.first m0.0.journal, []) → HasLock m0.0 m1 then → m ≡ m1 → n ≡ (freed m.0, []) → n ≡ m0
as_free m0 m1 m n is_member lock is free = free ∙ (ap (λ (x : Me Current SeatView). (freed x.0, [])) (is ∙ lock.1) ∙ sym (is_member ∙ ap (λ (m : Me Current SeatView). (freed m.0, [])) (sym is_member)))

-- a session took the lock, and its run is the present one
pub took_in : (accepts : Meaning) (v : SeatView) (m1 m2 : Me Current SeatView) (run found : ℕ) (lock : HasLock v m1 (λ now. Knows accepts now v)) → m2 ≡ m1 → v.run ≡ run → found ≡ run
    → HasValue m1 (λ g. (found ≡ g.run) × IsLocked accepts g) → HasLock v m2 (λ now. KnowsRun accepts now v)
took_in accepts v m1 m2 run found lock same is is_found has =
    let here : (found ≡ lock.0.run) × IsLocked accepts lock.0 = of_value v m1 lock has in
    (lock.0, same ∙ lock.1, record { same = is ∙ (sym is_found ∙ here.0); knows = lock.2 })

module _ {then : Current → Type 0} (at : TableId) (run id : ℕ) (seat : TableId) (m0 m1 : Me Current SeatView) (session : IsSessionAt at run id seat m0) (lock : HasLock m0.0 m1 then) where
  pub as_before : (m n : Me Current SeatView) → m ≡ m1 → n ≡ (freed m.0, []) → n ≡ m0
  as_before m n is free = as_free m0 m1 m n session.member_is lock is free

  pub session_freed : (other : TableId) (m n : Me Current SeatView) → other ≡ seat → m ≡ m1 → n ≡ (freed m.0, []) → IsSessionAt at run id other n
  session_freed other m n is_at is free = subst (λ (x : TableId × Me Current SeatView). IsSessionAt at run id x.0 x.1) (λ i. (sym is_at i, sym (as_before m n is free) i)) session

  pub session_may_free : (m : Me Current SeatView) → m ≡ m1 → HasLock (freed m.0) m (λ now. ⊤)
  session_may_free m is = subst (λ (n : Me Current SeatView). HasLock (freed n.0) n (λ now. ⊤)) (sym (is ∙ lock.1)) (lock.0, refl, tt)

  pub session_has_value : HasValue m1 (λ g. ⊤)
  session_has_value = (lock.0, ap (λ (m : Me Current SeatView). m.1) lock.1, tt)

  acting : m0.0.acts ≡ true
  acting = ap (λ (m : Me Current SeatView). m.0.acts) session.member_is

  -- the seat after it came to the run of the value d
  module _ (d : Current) (m2 : Me Current SeatView) (view : m2.0 ≡ m1.0) (out : m2.1 ≡ (0, d) ∷ []) where
    has : m2 ≡ (holder_of lock.0 m0.0, (0, d) ∷ [])
    has = λ i. ((view ∙ ap (λ (m : Me Current SeatView). m.0) lock.1) i, out i)

    pub may_join : (accepts : Meaning) → MayJoin accepts lock.0 d m0.0.run → (g : Current) × (e : Current) × (v : SeatView) × (v.acts ≡ true) × MayJoin accepts g e v.run × (m2 ≡ (holder_of g v, (0, e) ∷ []))
    may_join accepts may = (lock.0, d, m0.0, acting, may, has)

    module _ (accepts : Meaning) (m3 : Me Current SeatView) (joined : (g e : Current) (v : SeatView) → m2 ≡ (holder_of g v, (0, e) ∷ []) → IsJoined accepts g e v m3) where
      pub joined_is : IsJoined accepts lock.0 d m0.0 m3
      joined_is = joined lock.0 d m0.0 has

      pub session_joined : (other : TableId) (next : ℕ) → other ≡ seat → next ≡ d.run → IsSessionAt at next id other m3
      session_joined other next is_at is = subst (λ (x : TableId × Me Current SeatView). IsSessionAt at next id x.0 x.1) (λ i. (sym is_at i, sym joined_is.2 i)) (record {
        at = session.at;
        member_is = refl;
        id_is = session.id_is;
        run_is = sym is;
        knows_first = Contains-push [] d.history;
      })
