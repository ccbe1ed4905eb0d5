-- The value under the lock, after a step of its book.
use Rattle.nw_shared_store.proofs.Words.{◌≡◌, ℕ, ◌<◌, ◌≤◌, Result, Ok, Err, sym, subst, All, IfOk, All-nil, All-push, Meaning, Call, Event, Reply, Story, bounds_of, reopened, state_of, Takes, event}
use Rattle.std.specs.Result.{OnErr}
use Rattle.nw_history.specs.Limits.{AreInRange}
use Rattle.nw_history.proofs.Reopened.{reopened_legal}
use Rattle.nw_shared_store.specs.Locked.{IsLocked}
use Rattle.nw_shared_store.specs.Recorded.{AreRecorded, IsNoQuestion, IsRecorded}
use Rattle.nw_shared_store.proofs.Recorded.{recorded_next}

pub locked_after : {A E : Type 0} (accepts : Meaning) (old new : Story) (run made id number : ℕ) (call : Call) (reply_of : A → Reply) (front_of : A → Story) (r : Result A E)
    → IsNoQuestion call → IsLocked accepts (record { run = run; history = old; made = made }) → id < made → IfOk r (λ a. Takes accepts old new id number call (reply_of a) (front_of a)) → OnErr r (new ≡ old)
    → IsLocked accepts (record { run = run; history = new; made = made })
locked_after accepts old new run made id number call reply_of front_of (Ok a) plain locked below takes same = record {
  in_range = subst (λ (s : Story). AreInRange s.limits) (sym takes.history) locked.in_range;
  legal = takes.legal;
  few = subst (λ (s : Story). made ≤ s.limits.sessions) (sym takes.history) locked.few;
  below = subst (λ (s : Story). All (λ (x : Event). x.session < made) s.events) (sym takes.history) (All-push (λ (x : Event). x.session < made) old.events (event id number call (reply_of a)) locked.below below);
  recorded = subst (λ (s : Story). AreRecorded s.events) (sym takes.history) (recorded_next (bounds_of old.limits) (state_of old) old.events id number call (reply_of a) plain takes.is_reply locked.recorded);
}
locked_after accepts old new run made id number call reply_of front_of (Err e) plain locked below takes same =
    subst (λ (s : Story). IsLocked accepts (record { run = run; history = s; made = made })) (sym same) locked

-- the value of the next run
pub locked_next : (accepts : Meaning) (old new : Story) (run made next : ℕ) → IsLocked accepts (record { run = run; history = old; made = made }) → new ≡ reopened old
    → IsLocked accepts (record { run = next; history = new; made = made })
locked_next accepts old new run made next locked is = subst (λ (s : Story). IsLocked accepts (record { run = next; history = s; made = made })) (sym is) (record {
  in_range = locked.in_range;
  legal = reopened_legal accepts old locked.legal;
  few = locked.few;
  below = All-nil (λ (x : Event). x.session < made);
  recorded = All-nil (λ (x : Event). IsRecorded x.call x.reply);
})
