-- The promises of started workers.
use Rattle.std.specs.Prelude.{◌≡◌, ℕ, ◌<◌, List, length, slice_index_or, Vec}
use Rattle.std.specs.declared.thread.PromisedHandle.{PromisedHandle}
use Rattle.std.specs.declared.alloc.Global.{Global}
use Rattle.nw_committee.specs.declared.member.Member.{Member}
use Rattle.nw_intake.specs.declared.promise.SharePromise.{SharePromise}

-- the promise is for the share of this worker
pub record IsPromise {S G : Type 0} (members : List Member) (texts : List (Vec ℕ Global)) (gate : G) (workers worker : ℕ) (p : SharePromise S G) : Type 0 where
  -- the worker checks under this committee
  pub has_committee : p.committee.now ≡ members
  -- the worker checks its share of these texts
  pub has_texts : p.texts.now ≡ texts
  -- this gate lets the worker's checks start
  pub has_gate : p.gate.now ≡ gate
  -- there are this many workers
  pub has_workers : p.workers ≡ workers
  -- the worker has this number
  pub has_worker : p.worker ≡ worker

-- the handle at each place promises the share of the worker with that number
abbrev pub ArePromised : {S G T : Type 0} → List Member → List (Vec ℕ Global) → G → ℕ → List (PromisedHandle T (SharePromise S G)) → Type 0
ArePromised {S} {G} {T} members texts gate workers handles =
    (worker : ℕ) (none : PromisedHandle T (SharePromise S G)) → worker < length handles → IsPromise members texts gate workers worker (slice_index_or handles worker none).promise
