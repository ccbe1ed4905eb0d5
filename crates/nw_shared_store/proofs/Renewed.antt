-- A session that is renewed, from what each step on its lock says.
use Rattle.nw_shared_store.proofs.Words.{◌≡◌, ℕ, ◌≤◌, Bool, true, List, [], ◌∷◌, length, Some, refl, sym, ap, ◌∙◌, subst, inl, arith, ⊤, TableId, Me, Meaning, Story, IsLegalStory}
use Rattle.nw_shared_store.specs.Locked.{Current, IsLocked}
use Rattle.nw_shared_store.specs.Rule.{HasEnded, SeatView, HasLock, HasValue, freed, IsJoined, Knows, KnowsRun, MayJoin, holder_of, knowing, new_journal, newcomer, reader_of, with_journal}
use Rattle.nw_shared_store.specs.Recorded.{AreRecorded}
use Rattle.nw_shared_store.specs.Session.{IsSessionAt, IsRenewed}
use Rattle.nw_shared_store.proofs.Seated.{may_read, view_at, of_value, may_join, joined_is, session_joined}
use Rattle.nw_shared_store.proofs.Answered.{not_true, read_is, session_knowing, seen, same_reader}

module _ (accepts : Meaning) (at : TableId) (run id : ℕ) (seat : TableId) (m0 m1 : Me Current SeatView) (session : IsSessionAt at run id seat m0) (lock : HasLock m0.0 m1 (λ now. Knows accepts now m0.0))
    (m2 : Me Current SeatView) (same : m2 ≡ m1) (present_run : ℕ) (found : HasValue m1 (λ g. (present_run ≡ g.run) × IsLocked accepts g)) where
  seen_is : (present_run ≡ lock.0.run) × IsLocked accepts lock.0
  seen_is = of_value m0.0 m1 lock found

  seen_view : m2.0 ≡ m1.0
  seen_view = ap (λ (m : Me Current SeatView). m.0) same

  given : m2.1 ≡ (0, lock.0) ∷ []
  given = ap (λ (m : Me Current SeatView). m.1) (same ∙ lock.1)

  pub may_look : present_run ≡ run → HasLock (freed m2.0) m2 (λ now. m2.0.run ≡ now.run)
  may_look is = may_read accepts m0.0 m1 m2 (lock.0, lock.1, record { same = session.run_is ∙ (sym is ∙ seen_is.0); knows = lock.2 }) same

  acting : m0.0.acts ≡ true
  acting = ap (λ (m : Me Current SeatView). m.0.acts) session.member_is

  module _ (apart : present_run ≡ run → ⊥) where
    other_run : m0.0.run ≡ lock.0.run → ⊥
    other_run is = apart (seen_is.0 ∙ (sym is ∙ session.run_is))

    pub may_renew : (g : Current) × (e : Current) × (v : SeatView) × (v.acts ≡ true) × MayJoin accepts g e v.run × (m2 ≡ (holder_of g v, (0, e) ∷ []))
    may_renew = may_join at run id seat m0 m1 session lock lock.0 m2 seen_view given accepts (inl (refl, other_run))

    module _ (m3 : Me Current SeatView) (joined : (g e : Current) (v : SeatView) → m2 ≡ (holder_of g v, (0, e) ∷ []) → IsJoined accepts g e v m3) where
      is_joined : IsJoined accepts lock.0 lock.0 m0.0 m3
      is_joined = joined_is at run id seat m0 m1 session lock lock.0 m2 seen_view given accepts m3 joined

      is_new : m3 ≡ (newcomer is_joined.0.past lock.0 m0.0.journal.id, [])
      is_new = is_joined.2

      pub session_renewed : (other : TableId) → other ≡ seat → IsSessionAt at present_run id other m3
      session_renewed other is_at = session_joined at run id seat m0 m1 session lock lock.0 m2 seen_view given accepts m3 joined other present_run is_at seen_is.0

      run_is : m3.0.run ≡ lock.0.run
      run_is = ap (λ (m : Me Current SeatView). m.0.run) is_new

      past_is : m3.0.past ≡ is_joined.0.past
      past_is = ap (λ (m : Me Current SeatView). m.0.past) is_new

      first_is : m3.0.first ≡ lock.0.history
      first_is = ap (λ (m : Me Current SeatView). m.0.first) is_new

      pub renewed : IsRenewed accepts (view_at at m0) (view_at at m3)
      renewed = record {
        lock = refl;
        run = subst (λ n. m0.0.run ≤ n) (sym run_is) lock.2.run;
        seen = λ is. absurd (other_run (sym is ∙ run_is));
        legal = λ _. record { starts = refl; legal = subst (IsLegalStory accepts) (sym first_is) seen_is.1.legal };
        recorded = λ _. subst (λ (h : Story). AreRecorded h.events) (sym first_is) seen_is.1.recorded;
        committee = ap (λ (h : Story). h.committee) first_is ∙ sym (lock.2.committee session.knows_first);
        limits = ap (λ (h : Story). h.limits) first_is ∙ sym (lock.2.limits session.knows_first);
        ended = λ _. subst (λ (x : Bool × List Story × Story). HasEnded accepts x.0 m0.0.journal m0.0.past x.1 x.2) (λ i. (acting i, sym past_is i, sym first_is i)) (is_joined.0.gone other_run);
        over = λ _ is. other_run (sym is ∙ run_is);
        goes_on = ap (λ (m : Me Current SeatView). m.0.over) is_new;
        runs = λ _. ap (λ (l : List Story). length l) past_is ∙ (is_joined.0.runs ∙ sym run_is);
        journal = λ _. ap (λ (m : Me Current SeatView). m.0.journal) is_new ∙ ap (λ (h : Story). new_journal m0.0.journal.id (h ∷ [])) (sym first_is);
      }

  -- the session is of the present run
  module _ (is : present_run ≡ run) (m3 : Me Current SeatView) (ended : (g : Current) → m2.0.holds ≡ Some g → m3 ≡ (reader_of g.history m2.0, [])) where
    abbrev here : HasLock m0.0 m1 (λ now. KnowsRun accepts now m0.0)
    here = (lock.0, lock.1, record { same = session.run_is ∙ (sym is ∙ seen_is.0); knows = lock.2 })

    pub session_stayed : (other : TableId) → other ≡ seat → IsSessionAt at run id other m3
    session_stayed = session_knowing accepts at run id seat m0 m1 session here m2 m3 same ended

    view_is : m3 ≡ (with_journal m0.0 (knowing m0.0.journal lock.0.history), [])
    view_is = read_is accepts at run id seat m0 m1 session here m2 m3 same ended

    run_stays : m3.0.run ≡ m0.0.run
    run_stays = ap (λ (m : Me Current SeatView). m.0.run) view_is

    pub stayed : IsRenewed accepts (view_at at m0) (view_at at m3)
    stayed = record {
      lock = refl;
      run = subst (λ n. m0.0.run ≤ n) (sym run_stays) (omega arith);
      seen = λ _. (
        same_reader accepts at run id seat m0 m1 session here m2 m3 same ended,
        seen accepts at run id seat m0 m1 session here m2 m3 same ended (λ h. ⊤) (found.0, found.1, (found.2.1, tt)),
      );
      committee = ap (λ (m : Me Current SeatView). m.0.first.committee) view_is;
      limits = ap (λ (m : Me Current SeatView). m.0.first.limits) view_is;
      legal = λ apart. absurd (apart run_stays);
      recorded = λ apart. absurd (apart run_stays);
      ended = λ apart. absurd (apart run_stays);
      runs = λ apart. absurd (apart run_stays);
      over = λ told _. lock.2.over told (session.run_is ∙ (sym is ∙ seen_is.0));
      goes_on = ap (λ (m : Me Current SeatView). m.0.over) view_is ∙ not_true m0.0.over (λ told. lock.2.over told (session.run_is ∙ (sym is ∙ seen_is.0)));
      journal = λ apart. absurd (apart run_stays);
    }
