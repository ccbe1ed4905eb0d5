use Rattle.nw_dag.proofs.Words.{Contains, from_entries, keys_of, IsStrictlySortedBy, Digest, digest_cmp}
use Rattle.std.specs.Prelude.{take}
use Rattle.nw_dag.specs.Frozen.{AreHeldUnder}
use Rattle.nw_dag.proofs.frozen.freeze_held.Given as goal

abbrev pub invariant-loop-digest : goal.invariant-loop-digest
invariant-loop-digest l =
    record {
      held : AreHeldUnder l.held.state (take l.digest-index l.digests) (from_entries l.entries.items);
      ascend : IsStrictlySortedBy digest_cmp (keys_of l.entries.items);
      before : (k : Digest) → Contains (keys_of l.entries.items) k → Contains (take l.digest-index l.digests) k;
    }
