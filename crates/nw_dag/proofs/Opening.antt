-- The opening state.
use Rattle.nw_dag.proofs.Words.{[], sym, ◌∙◌, arith, get-empty, empty, none-some, false≢true, Digest, Block, Lacks, pair_cmp, Wanted, digest_cmp, opening}
use Rattle.std.specs.FinMap.{len-empty}
use Rattle.std.specs.FinSet.{contains-empty}
use Rattle.std.proofs.lemmas.List.Elements.{All-nil}
use Rattle.nw_dag.specs.Lacking.{ReferencesParent}
use Rattle.nw_dag.specs.AtRest.{IsAtRest}
use Rattle.nw_dag.proofs.Once.{once_none}

names_nothing : (d : Digest) (w : Wanted) → ReferencesParent opening d w → ⊥
names_nothing d w (b, at, above, among) = none-some b (sym (get-empty digest_cmp d) ∙ at)

lacks_nothing : (d : Digest) (w : Wanted) → Lacks empty d w → ⊥
lacks_nothing d w lacks = false≢true (sym (contains-empty pair_cmp (w, d)) ∙ lacks)

pub opening_at_rest : IsAtRest opening empty empty 0
opening_at_rest = record {
  complete = [];
  coming_to_rest = record {
    standing = λ d w. (λ lacks. absurd (lacks_nothing d w lacks), λ names. absurd (names_nothing d w names.0));
    promoted = record {
      each = λ d w names. absurd (names_nothing d w names);
      only = λ d w lacks. absurd (lacks_nothing d w lacks);
    };
    listed = record { ready = All-nil _; once = once_none };
    all = λ d ready. absurd (none-some ready.0.0 (sym (get-empty digest_cmp d) ∙ ready.0.1.0));
  };
  counts = omega (arith, len-empty digest_cmp Block);
}
