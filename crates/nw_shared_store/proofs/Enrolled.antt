-- A session that is made, from what each step on the lock says.
use Rattle.nw_shared_store.proofs.Words.{◌≡◌, ℕ, ◌+◌, ◌<◌, true, false, [], ◌∷◌, Some, refl, sym, ap, ◌∙◌, subst, All, Contains-push, TableId, Me, Meaning, Event, Story, IsLegalStory}
use Rattle.nw_history.specs.declared.limits.Limits.{Limits}
use Rattle.nw_shared_store.specs.Locked.{Current, IsEnrolled, IsFound, IsFullOf}
use Rattle.nw_shared_store.specs.Rule.{SeatView, HasLock, HasValue, IsMember, Knows, after_session, counting, for_session, hearer, holder_of, newcomer, owner_of}
use Rattle.nw_shared_store.specs.Recorded.{AreRecorded}
use Rattle.nw_shared_store.specs.Session.{IsOfStore, IsOwnerAt, IsSessionAt, IsSessionOf, StoreView, owner_at, with_known, with_session}
use Rattle.nw_shared_store.proofs.Seated.{of_value, view_at}

module _ (accepts : Meaning) (at : TableId) (first : Story) (run id : ℕ) (seat : TableId) (m0 m1 m2 : Me Current SeatView) (start : IsOwnerAt at first seat m0) (lock : HasLock m0.0 m1 (λ now. Knows accepts now m0.0)) (view : m2.0 ≡ m1.0)
    (enrolled : HasValue m1 (λ g. HasValue m2 (λ n. IsEnrolled accepts g n run id))) where
  abbrev now : Current
  now = lock.0

  abbrev owner : SeatView
  owner = owner_of first m0.0.right.made m0.0.right.shares m0.0.right.known

  new : HasValue m2 (λ n. IsEnrolled accepts now n run id)
  new = of_value m0.0 m1 lock enrolled

  view_is : m2.0 ≡ holder_of now owner
  view_is = view ∙ (ap (λ (m : Me Current SeatView). m.0) lock.1 ∙ ap (λ (m : Me Current SeatView). holder_of now m.0) start.owner_is)

  pub idle : m2.0.acts ≡ false
  idle = ap (λ (v : SeatView). v.acts) view_is

  -- the owner's seat after it was cut
  pub counted : (other : TableId) (m : Me Current SeatView) → other ≡ seat → m ≡ (after_session m2.0, []) → (IsOwnerAt at first other m) × (owner_at at first m ≡ with_session (owner_at at first m0) id)
  counted other m same is =
      let whole : m ≡ (owner_of first (m0.0.right.made + 1) m0.0.right.shares now.made, []) = is ∙ ap (λ (v : SeatView). (after_session v, [])) view_is in (
        subst (λ (x : TableId × Me Current SeatView). IsOwnerAt at first x.0 x.1) (λ i. (sym same i, sym whole i)) (record { at = start.at; owner_is = refl }),
        ap (owner_at at first) whole ∙ ap (with_session (owner_at at first m0)) (sym new.2.id_is),
      )

  -- the session's seat
  module _ (m3 : Me Current SeatView) (cut : m3 ≡ (for_session m2.0, m2.1)) where
    cut_is : m3 ≡ (holder_of now (for_session owner), (0, new.0) ∷ [])
    cut_is = cut ∙ (λ i. (for_session (view_is i), new.1 i))

    pub may_enrol : (g : Current) × (v : SeatView) × (v.right.one ≡ true) × (m3 ≡ (holder_of g v, (0, record { run = g.run; history = g.history; made = g.made + 1 }) ∷ []))
        × All (λ (e : Event). e.session < g.made) g.history.events
    may_enrol = (
      now,
      for_session owner,
      refl,
      cut_is ∙ ap (λ (g : Current). (holder_of now (for_session owner), (0, g) ∷ [])) new.2.grows,
      new.2.locked.below,
    )

    module _ (m4 : Me Current SeatView) (ended : (g : Current) → m3.0.holds ≡ Some g → IsMember accepts g m3.0 m4) where
      is_made : IsMember accepts now (holder_of now (for_session owner)) m4
      is_made = subst (λ (m : Me Current SeatView). IsMember accepts now m.0 m4) cut_is (ended now (ap (λ (m : Me Current SeatView). m.0.holds) cut_is))

      made : m4 ≡ (newcomer is_made.0.past now now.made, [])
      made = is_made.1

      pub session_made : (other : TableId) → other ≡ seat → IsSessionAt at run id other m4
      session_made other same = subst (λ (x : TableId × Me Current SeatView). IsSessionAt at run id x.0 x.1) (λ i. (sym same i, sym made i)) (record {
        at = start.at;
        member_is = refl;
        id_is = sym new.2.id_is;
        run_is = sym new.2.run_is;
        knows_first = Contains-push [] now.history;
      })

      knows : Knows accepts now owner
      knows = subst (λ (m : Me Current SeatView). Knows accepts now m.0) start.owner_is lock.2

      pub of_store : IsSessionOf accepts (owner_at at first m0) (view_at at m4)
      of_store = subst (λ (m : Me Current SeatView). IsSessionOf accepts (owner_at at first m0) (view_at at m)) (sym made) (record {
        lock = refl;
        committee = sym (knows.committee (Contains-push [] first));
        limits = sym (knows.limits (Contains-push [] first));
        begins = λ z. knows.known (sym z) first (Contains-push [] first);
        follows = λ some. is_made.0.gone (λ z. some (sym z));
        runs = is_made.0.runs;
        over = refl;
        answers = refl;
        number = lock.2.count;
        earlier = new.2.locked.below;
      })

-- no session is made, since the store has made as many as the limit allows
module _ (accepts : Meaning) (at : TableId) (first : Story) (seat : TableId) (m0 m1 m2 : Me Current SeatView) (start : IsOwnerAt at first seat m0) (lock : HasLock m0.0 m1 (λ now. Knows accepts now m0.0)) (same : m2 ≡ m1)
    (full : HasValue m1 (IsFullOf accepts)) (m3 : Me Current SeatView) (ended : (g : Current) → m2.0.holds ≡ Some g → m3 ≡ (counting g m2.0, [])) where
  held : m3 ≡ (counting lock.0 m0.0, [])
  held =
      ended lock.0 (ap (λ (m : Me Current SeatView). m.0.holds) (same ∙ lock.1))
      ∙ ap (λ (m : Me Current SeatView). (counting lock.0 m.0, [])) (same ∙ lock.1)

  pub not_made : (other : TableId) → other ≡ seat → (IsOwnerAt at first other m3) × (owner_at at first m3 ≡ with_known (owner_at at first m0) first.limits.sessions)
  not_made other is_at =
      let owner : m3 ≡ (owner_of first m0.0.right.made m0.0.right.shares lock.0.made, []) = held ∙ ap (λ (m : Me Current SeatView). (counting lock.0 m.0, [])) start.owner_is in
      let all : IsFullOf accepts lock.0 = of_value m0.0 m1 lock full in
      let mine : Knows accepts lock.0 (owner_of first m0.0.right.made m0.0.right.shares m0.0.right.known) = subst (λ (m : Me Current SeatView). Knows accepts lock.0 m.0) start.owner_is lock.2 in
      let count : lock.0.made ≡ first.limits.sessions = all.0 ∙ ap (λ (l : Limits). l.sessions) (sym (mine.limits (Contains-push [] first))) in (
        subst (λ (x : TableId × Me Current SeatView). IsOwnerAt at first x.0 x.1) (λ i. (sym is_at i, sym owner i)) (record { at = start.at; owner_is = refl }),
        ap (owner_at at first) owner ∙ ap (with_known (owner_at at first m0)) count,
      )

-- a history that a seat without a session finds is of the store
pub history_of : (accepts : Meaning) (first : Story) (store : StoreView) (m0 m1 : Me Current SeatView) (h : Story) (made : ℕ) → first ≡ store.first → m0 ≡ (hearer first, []) → HasLock m0.0 m1 (λ now. Knows accepts now m0.0)
    → HasValue m1 (λ g. IsFound accepts g h made) → IsOfStore accepts store h
history_of accepts first store m0 m1 h made same is lock found =
    let found_is : IsFound accepts lock.0 h made = of_value m0.0 m1 lock found in
    let knows : Knows accepts lock.0 (hearer first) = subst (λ (m : Me Current SeatView). Knows accepts lock.0 m.0) is lock.2 in record {
      legal = record { starts = refl; legal = subst (IsLegalStory accepts) found_is.0 found_is.2.legal };
      committee = ap (λ (x : Story). x.committee) (sym found_is.0) ∙ (sym (knows.committee (Contains-push [] first)) ∙ ap (λ (x : Story). x.committee) same);
      limits = ap (λ (x : Story). x.limits) (sym found_is.0) ∙ (sym (knows.limits (Contains-push [] first)) ∙ ap (λ (x : Story). x.limits) same);
      recorded = subst (λ (x : Story). AreRecorded x.events) found_is.0 found_is.2.recorded;
    }
