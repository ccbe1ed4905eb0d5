use Rattle.nw_trie.proofs.Words.{◌<◌, length, Option, ℕ, MatchOption}
use Rattle.nw_trie.specs.Entries.{BranchesAt, HasKey}
use Rattle.nw_trie.proofs.tree.Tree.branch.Given as goal

abbrev pub invariant-loop-near : goal.invariant-loop-near
invariant-loop-near g l =
    record {
      full : 0 < length l.near;
      led : (o : Option ℕ) → MatchOption o (HasKey l.digest l.near) (λ n. BranchesAt l.digest n l.near) → MatchOption o (HasKey l.digest l.self) (λ n. BranchesAt l.digest n l.self);
    }

abbrev pub decreases-loop-near : goal.decreases-loop-near
decreases-loop-near g l = length l.near
