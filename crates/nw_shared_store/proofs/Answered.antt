-- What an answer of a session means, from what each step on its lock says.
use Rattle.nw_shared_store.proofs.Words.{◌≡◌, ℕ, ◌+◌, ◌<◌, Bool, true, false, List, [], ◌∷◌, ◌++◌, Option, Some, None, length, refl, sym, ap, ◌∙◌, subst, inr, Contains, All-weaker, Contains-append_left, Contains-push, TableId, Me, Member, Meaning, Call, Event, Reply, Story, bounds_of, reopened, state_of, with_event, IsPrefixOf, AnswerView, Takes, IsExplained, Journal, IsHistoryOf, origin_of, IsJournalOf, MatchesCommittee, event, prefix_trans, prefix_next}
use Rattle.std.proofs.lemmas.List.{length-map}
use Rattle.nw_book.specs.Answered.{IsAnswered}
use Rattle.nw_book.specs.Journal.{next_in_journal}
use Rattle.nw_book.specs.Turn.{IsRefusal, next_number}
use Rattle.nw_book.specs.declared.error.NoStep.{NoStep}
use Rattle.nw_book.proofs.Answered.{answered as book_answered}
use Rattle.nw_shared_store.specs.Locked.{Current, IsEnded, IsFound, IsLocked, IsTaken, IsUntaken, next_run}
use Rattle.nw_shared_store.specs.Rule.{SeatView, HasLock, HasValue, IsJoined, Knows, KnowsRun, MayJoin, answered, holder_of, knowing, new_journal, newcomer, no_right, reader_of, with_journal}
use Rattle.nw_shared_store.specs.Session.{IsSessionAt, IsRefusedBy, IsPresent, HasSeen, IsRestarted, IsSameSession}
use Rattle.nw_shared_store.specs.declared.error.Refusal.TheVariants as refusals
use Rattle.nw_shared_store.specs.Recorded.{AreRecorded, IsNoQuestion}
use Rattle.nw_shared_store.proofs.Grown.{answered_one, part_own}
use Rattle.nw_shared_store.proofs.Recorded.{recorded_next}
use Rattle.nw_shared_store.proofs.Seated.{view_at, same_session, of_value, may_join, joined_is, session_joined}

pub not_true : (b : Bool) → (b ≡ true → ⊥) → b ≡ false
not_true true never = absurd (never refl)
not_true false never = refl

-- the number of the session's next call, as its journal and as the history give it
same_number : (h : Story) (j : Journal) → IsJournalOf h j.id j → next_number h j.id ≡ next_in_journal j
same_number h j part = ap (λ n. n + 1) (ap length part.events ∙ length-map j.answers (λ (a : AnswerView). a.event))

module _ (accepts : Meaning) (at : TableId) (run id : ℕ) (seat : TableId) (m0 m1 : Me Current SeatView) (session : IsSessionAt at run id seat m0) (lock : HasLock m0.0 m1 (λ now. KnowsRun accepts now m0.0)) where
  abbrev j : Journal
  j = m0.0.journal

  abbrev now : Current
  now = lock.0

  slot : m1.1 ≡ (0, now) ∷ []
  slot = ap (λ (m : Me Current SeatView). m.1) lock.1

  acts : m0.0.acts ≡ true
  acts = ap (λ (m : Me Current SeatView). m.0.acts) session.member_is

  makes_nothing : m0.0.right ≡ no_right
  makes_nothing = ap (λ (m : Me Current SeatView). m.0.right) session.member_is

  alone : m0.0.other ≡ []
  alone = ap (λ (m : Me Current SeatView). m.0.other) session.member_is

  same_run : m0.0.run ≡ now.run
  same_run = lock.2.same

  knows_now : Knows accepts now m0.0
  knows_now = lock.2.knows

  part : IsJournalOf now.history j.id j
  part = knows_now.part acts same_run

  begins : IsPrefixOf m0.0.first now.history
  begins = knows_now.known same_run m0.0.first session.knows_first

  history_is : IsLocked accepts now → IsHistoryOf accepts (origin_of m0.0.first) now.history
  history_is locked = record {
    starts = λ i. record { committee = sym begins.committee i; limits = sym begins.limits i; base = sym begins.base i };
    legal = locked.legal;
  }

  goes_on : m0.0.over ≡ false
  goes_on = not_true m0.0.over (λ told. knows_now.over told same_run)

  pub may_call : HasValue m1 (λ g. id < g.made)
  may_call = (now, slot, subst (λ n. n < now.made) session.id_is (knows_now.made acts))

  pub present : IsLocked accepts now → IsPresent accepts (origin_of m0.0.first) j now.history now.made
  present locked = record {
    of_store = history_is locked;
    own = part;
    begins = knows_now.known same_run;
    below = locked.below;
    recorded = locked.recorded;
    session = knows_now.made acts;
  }

  -- the history is read
  module _ (m2 m3 : Me Current SeatView) (same : m2 ≡ m1) (ended : (g : Current) → m2.0.holds ≡ Some g → m3 ≡ (reader_of g.history m2.0, [])) where
    pub read_is : m3 ≡ (with_journal m0.0 (knowing j now.history), [])
    read_is =
        ended now (ap (λ (m : Me Current SeatView). m.0.holds) (same ∙ lock.1))
        ∙ ap (λ (m : Me Current SeatView). (reader_of now.history m.0, [])) (same ∙ lock.1)

    knows_it : m3.0.journal ≡ knowing j now.history
    knows_it = ap (λ (m : Me Current SeatView). m.0.journal) read_is

    pub session_knowing : (other : TableId) → other ≡ seat → IsSessionAt at run id other m3
    session_knowing other is_at = subst (λ (x : TableId × Me Current SeatView). IsSessionAt at run id x.0 x.1) (λ i. (sym is_at i, sym read_is i)) (record {
      at = session.at;
      member_is = λ i. (record { holds = None; acts = acts i; run = m0.0.run; past = m0.0.past; over = m0.0.over; other = alone i; first = m0.0.first; journal = knowing j now.history; right = makes_nothing i }, []);
      id_is = session.id_is;
      run_is = session.run_is;
      knows_first = Contains-append_left j.known (now.history ∷ []) m0.0.first session.knows_first;
    })

    pub seen : (then : Story → Type 0) → HasValue m1 (λ g. IsLocked accepts g × then g.history) → HasSeen accepts (view_at at m0) (view_at at m3) then
    seen then found = let t : IsLocked accepts now × then now.history = of_value m0.0 m1 lock found in (now.history, now.made, present t.0, knows_it, t.1)

    pub refused_seen : (under : Option (List Member)) (why : NoStep) → HasValue m1 (λ g. IsUntaken accepts g id under why) → IsRefusedBy accepts (view_at at m0) (view_at at m3) under (refusals.NoStep why)
    refused_seen under why untaken =
        let u : IsUntaken accepts now j.id under why = subst (λ (n : ℕ). IsUntaken accepts now n under why) (sym session.id_is) (of_value m0.0 m1 lock untaken) in (
          u.in_turn,
          (now.history, now.made, present u.locked, knows_it, subst (λ n. IsRefusal now.history j.id n under why) (same_number now.history j part) u.refusal),
        )

    pub same_reader : IsSameSession (view_at at m0) (view_at at m3)
    same_reader = same_session at m0 m3 (knowing j now.history) read_is refl

    module _ (h : Story) (made : ℕ) (found : HasValue m1 (λ g. IsFound accepts g h made)) where
      found_is : IsFound accepts now h made
      found_is = of_value m0.0 m1 lock found

      pub present_is : IsPresent accepts (origin_of m0.0.first) j h made
      present_is = subst (λ (x : Story × ℕ). IsPresent accepts (origin_of m0.0.first) j x.0 x.1) (λ i. (found_is.0 i, found_is.1 i)) (present found_is.2)

      pub knows : m3.0.journal ≡ knowing j h
      knows = knows_it ∙ ap (knowing j) found_is.0

  -- the end of the run
  module _ (last : Story) (next : ℕ) (m2 : Me Current SeatView) (view : m2.0 ≡ m1.0) (ended : HasValue m1 (λ g. HasValue m2 (λ n. IsEnded accepts g n last next))) where
    end : HasValue m2 (λ n. IsEnded accepts now n last next)
    end = of_value m0.0 m1 lock ended

    pub may_restart : (g : Current) × (e : Current) × (v : SeatView) × (v.acts ≡ true) × MayJoin accepts g e v.run × (m2 ≡ (holder_of g v, (0, e) ∷ []))
    may_restart = may_join at run id seat m0 m1 session lock end.0 m2 view end.1 accepts (inr (end.2.next, end.2.locked.legal))

    module _ (m3 : Me Current SeatView) (joined : (g e : Current) (v : SeatView) → m2 ≡ (holder_of g v, (0, e) ∷ []) → IsJoined accepts g e v m3) where
      is_joined : IsJoined accepts now end.0 m0.0 m3
      is_joined = joined_is at run id seat m0 m1 session lock end.0 m2 view end.1 accepts m3 joined

      is_next : m3 ≡ (newcomer is_joined.0.past (next_run now) j.id, [])
      is_next = is_joined.2 ∙ ap (λ (d : Current). (newcomer is_joined.0.past d j.id, [])) end.2.next

      pub session_restarted : (other : TableId) → other ≡ seat → IsSessionAt at next id other m3
      session_restarted other is_at = session_joined at run id seat m0 m1 session lock end.0 m2 view end.1 accepts m3 joined other next is_at end.2.run_is

      pub restarted : IsRestarted accepts (view_at at m0) (view_at at m3) last
      restarted = record {
        present = (now.made, subst (λ (h : Story). IsPresent accepts (origin_of m0.0.first) j h now.made) (sym end.2.last_is) (present end.2.locked));
        lock = refl;
        run = ap (λ (m : Me Current SeatView). m.0.run) is_next ∙ ap (λ n. n + 1) (sym same_run);
        past = ap (λ (m : Me Current SeatView). m.0.past) is_next ∙ (is_joined.1 same_run ∙ ap (λ (h : Story). m0.0.past ++ h ∷ []) (sym end.2.last_is));
        over = (goes_on, ap (λ (m : Me Current SeatView). m.0.over) is_next);
        first = ap (λ (m : Me Current SeatView). m.0.first) is_next ∙ ap reopened (sym end.2.last_is);
        journal = ap (λ (m : Me Current SeatView). m.0.journal) is_next ∙ ap (λ (h : Story). new_journal j.id (reopened h ∷ [])) (sym end.2.last_is);
      }

  module _ (under : Option (List Member)) (call : Call) (reply : Reply) (front : Story) (m2 : Me Current SeatView) (view : m2.0 ≡ m1.0)
      (taken : HasValue m1 (λ g. HasValue m2 (λ n. IsTaken accepts g n id under call reply front))) where
    took : HasValue m2 (λ n. IsTaken accepts now n id under call reply front)
    took = of_value m0.0 m1 lock taken

    abbrev after : Current
    after = took.0

    abbrev e : Event
    e = event j.id (next_in_journal j) call reply

    step : IsTaken accepts now after j.id under call reply front
    step = subst (λ (n : ℕ). IsTaken accepts now after n under call reply front) (sym session.id_is) took.2

    grows : after.history ≡ with_event now.history e
    grows = step.takes.history ∙ ap (λ n. with_event now.history (event j.id n call reply)) (same_number now.history j part)

    after_is : after ≡ record { run = now.run; history = with_event now.history e; made = now.made }
    after_is = λ i. record { run = step.run i; history = grows i; made = step.made i }

    out : m2 ≡ (holder_of now m0.0, (0, after) ∷ [])
    out = λ i. ((view ∙ ap (λ (m : Me Current SeatView). m.0) lock.1) i, took.1 i)

    pub may_end : (g : Current) × (v : SeatView) × (x : Event) × (x.session ≡ v.journal.id) × (v.acts ≡ true) × (v.run ≡ g.run)
        × (m2 ≡ (holder_of g v, (0, record { run = g.run; history = with_event g.history x; made = g.made }) ∷ []))
    may_end = (now, m0.0, e, refl, acts, same_run, out ∙ ap (λ (g : Current). (holder_of now m0.0, (0, g) ∷ [])) after_is)

    pub recorded : IsNoQuestion call → AreRecorded front.events
    recorded plain = subst (λ (h : Story). AreRecorded h.events) (sym (step.takes.front_is ∙ step.takes.history)) (recorded_next (bounds_of now.history.limits) (state_of now.history) now.history.events j.id (next_number now.history j.id) call reply plain step.takes.is_reply step.locked.recorded)

    pub own_committee : MatchesCommittee m0.0.first.committee under
    own_committee = subst (λ c. MatchesCommittee c under) (sym begins.committee) step.own

    module _ (m3 : Me Current SeatView) (released : (g n : Current) (v : SeatView) → m2 ≡ (holder_of g v, (0, n) ∷ []) → m3 ≡ (with_journal v (answered g.history n.history v.journal), [])) where
      ended : m3 ≡ (with_journal m0.0 (answered now.history after.history j), [])
      ended = released now after m0.0 out

      abbrev next : Journal
      next = record { id = j.id; answers = j.answers ++ record { event = e; front = after.history } ∷ []; known = j.known ++ after.history ∷ [] }

      next_is : m3.0.journal ≡ next
      next_is =
          ap (λ (m : Me Current SeatView). m.0.journal) ended
          ∙ (ap (λ (h : Story). answered now.history h j) grows
          ∙ (answered_one now.history e j ∙ ap (λ (h : Story). record { id = j.id; answers = j.answers ++ record { event = e; front = h } ∷ []; known = j.known ++ h ∷ [] }) (sym grows)))

      pub same_called : IsSameSession (view_at at m0) (view_at at m3)
      same_called = same_session at m0 m3 (answered now.history after.history j) ended refl

      pub still_goes_on : m3.0.over ≡ false
      still_goes_on = ap (λ (m : Me Current SeatView). m.0.over) ended ∙ goes_on

      longer : IsPrefixOf now.history after.history
      longer = prefix_next now.history after.history e grows

      answer : IsAnswered accepts now.history j next call reply front
      answer =
          book_answered accepts now.history after.history j.id (next_in_journal j) call reply front j.answers next.answers j.known next.known (record { event = e; front = after.history })
          (subst (λ n. Takes accepts now.history after.history j.id n call reply front) (same_number now.history j part) step.takes)
          refl
          (All-weaker (λ (a : AnswerView). IsPrefixOf a.front now.history) (λ (a : AnswerView). IsPrefixOf a.front after.history) (λ a p. prefix_trans a.front now.history after.history p longer) j.answers part.begun)
          refl
          (sym step.takes.front_is)
          refl
          (λ s c. prefix_trans s now.history after.history (knows_now.known same_run s c) longer)
          (subst (λ f. Contains next.known f) (sym step.takes.front_is) (Contains-push j.known after.history))
          (λ s c. Contains-append_left j.known (after.history ∷ []) s c)

      -- the answer follows some history of the run
      pub explained : IsExplained accepts (origin_of m0.0.first) j m3.0.journal call reply front
      explained = subst (λ (i : Journal). IsExplained accepts (origin_of m0.0.first) j i call reply front) (sym next_is) (now.history, history_is step.locked, answer)

      -- the session's journal is all that the answer's history has of it
      pub own : IsJournalOf front j.id m3.0.journal
      own = subst (λ (x : Story × Journal). IsJournalOf x.0 j.id x.1) (λ i. (sym (step.takes.front_is ∙ grows) i, sym (next_is ∙ ap (λ (h : Story). record { id = j.id; answers = j.answers ++ record { event = e; front = h } ∷ []; known = j.known ++ h ∷ [] }) grows ∙ sym (answered_one now.history e j)) i))
          (part_own now.history e j refl part)

      -- the seat after the call
      pub session_after : (other : TableId) → other ≡ seat → IsSessionAt at run id other m3
      session_after other is_at = subst (λ (x : TableId × Me Current SeatView). IsSessionAt at run id x.0 x.1) (λ i. (sym is_at i, sym ended i)) (record {
        at = session.at;
        member_is = λ i. (record { holds = None; acts = acts i; run = m0.0.run; past = m0.0.past; over = m0.0.over; other = alone i; first = m0.0.first; journal = answered now.history after.history j; right = makes_nothing i }, []);
        id_is = session.id_is;
        run_is = session.run_is;
        knows_first = Contains-append_left j.known (after.history ∷ []) m0.0.first session.knows_first;
      })
