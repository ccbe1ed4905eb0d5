-- Frozen blocks after a collection.
use Rattle.nw_dag.proofs.Words.{ℕ, ◌<◌, List, subst, sym, arith, inl, inr, Contains, FinMap, Contains-append_left, Digest, Block, Pairs, digest_cmp, State, raised, IsSound, was_there, is_kept, AreDigestsUpTo}
use Rattle.nw_dag.specs.Lacking.{IsReady}
use Rattle.nw_dag.specs.Frozen.{AreFrozenExcept, Grows}
use Rattle.nw_dag.proofs.Raising.{held_stands, stood}

module _ (s : State) (round : ℕ) (sound : IsSound s) (higher : s.floor < round) (holders : List Digest) (are : AreDigestsUpTo s round holders) (old new : Pairs) (fresh more : List Digest) (blocks : FinMap digest_cmp Block)
    (was : AreFrozenExcept s old fresh blocks) (grown : Grows (raised s round) (IsReady (raised s round) old) old new fresh more) where
  abbrev t : State
  t = raised s round

  -- a frozen block that is still held stays frozen
  pub frozen_raised : AreFrozenExcept t new more blocks
  frozen_raised = record {
    only = λ d b kept at.
        let before = was.only d b (omega (arith, kept, higher)) at in
        let stays = is_kept (λ (x : Block). x.round) round s.blocks d b before.1 kept in
        (grown.still d (held_stands s round sound higher holders are d b stays before.0.0, before.0.1), stays);
    each = λ d b high (ready, at).
        let there = was_there (λ (x : Block). x.round) round s.blocks d b at in
        elim (grown.listed d ready) [
          | inl kept ↦ elim (was.each d b (omega (arith, high, higher)) (((kept.0.0, stood s round sound higher holders are d kept.0.0 kept.0.1), kept.1), there.0)) [
            | inl frozen ↦ inl frozen
            | inr among ↦ inr (subst (λ xs. Contains xs d) (sym grown.begins.1) (Contains-append_left fresh grown.begins.0 d among))
          ]
          | inr among ↦ inr among
        ];
  }
