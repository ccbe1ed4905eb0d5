-- The wanted parents are the unmet ones, of all blocks and of one.
use Rattle.nw_dag.proofs.Words.{◌≡◌, ℕ, List, Some, ap, sym, subst, get, Digest, Block, Pairs, Lacks, Wanted, State, HasCount, IsWanted, wanted_cmp}
use Rattle.nw_waiting.specs.Pairs.{AreFirst, AreWanted, WantedCount}
use Rattle.nw_model.specs.Missing.{ListsExactly, AreFirstWanted, Wants}
use Rattle.nw_model.specs.Look.{AreMissed}
use Rattle.nw_dag.specs.Lacking.{AreUnmet}
use Rattle.nw_dag.proofs.Complete.{met_from_satisfied, satisfied_from_met}

wanted_exactly : (s : State) (unmet : Pairs) (all : List Wanted) → AreUnmet s unmet → AreWanted unmet all → ListsExactly wanted_cmp (IsWanted s) all
wanted_exactly s unmet all standing are = record {
  exactly = λ w. (
    λ among.
        let (d, lacks) = (are.exactly w).0 among in
        let (names, fails) = (standing d w).0 lacks in
        let b = names.0 in
        let r = names.3.0 in
        (d, b, names.1, (names.2, r, names.3.1, (λ satisfied. fails (met_from_satisfied s b.round r w names.3.2 satisfied)), names.3.2)),
    λ (d, b, at, wants). (are.exactly w).1 (d, (standing d w).1 ((b, at, wants.0, (wants.1, wants.2, wants.4)), λ met. wants.3 (satisfied_from_met s b.round wants.1 w wants.4 met))),
  );
  ascending = are.ascending;
}

pub first_wanted : (s : State) (unmet : Pairs) (most : ℕ) (first : List Wanted) → AreUnmet s unmet → AreFirst unmet most first → AreFirstWanted s most first
first_wanted s unmet most first standing (all, are, taken) = (all, wanted_exactly s unmet all standing are, taken)

pub wanted_count : (s : State) (unmet : Pairs) (n : ℕ) → AreUnmet s unmet → WantedCount unmet n → HasCount wanted_cmp (IsWanted s) n
wanted_count s unmet n standing (all, are, counts) = (all, wanted_exactly s unmet all standing are, counts)

-- the unmet parents that the block under d lacks are those that it wants
pub wanted_by : (s : State) (unmet : Pairs) (d : Digest) (b : Block) (missing : List Wanted) → AreUnmet s unmet → get s.blocks d ≡ Some b → ListsExactly wanted_cmp (Lacks unmet d) missing → ListsExactly wanted_cmp (Wants s b) missing
wanted_by s unmet d b missing standing held are = record {
  exactly = λ w. (
    (λ among.
        let (names, fails) = (standing d w).0 ((are.exactly w).0 among) in
        let r = names.3.0 in
        let same : names.0 ≡ b = cc (names.1, held) in
        subst (λ x. Wants s x w) same (names.2, r, names.3.1, (λ satisfied. fails (met_from_satisfied s names.0.round r w names.3.2 satisfied)), names.3.2)),
    (λ wants. (are.exactly w).1 ((standing d w).1 ((b, held, wants.0, (wants.1, wants.2, wants.4)), λ met. wants.3 (satisfied_from_met s b.round wants.1 w wants.4 met)))),
  );
  ascending = are.ascending;
}

-- and their number is the number of those that it wants
pub count_missed : (s : State) (unmet : Pairs) (d : Digest) (b : Block) (n : ℕ) → AreUnmet s unmet → get s.blocks d ≡ Some b → HasCount wanted_cmp (Lacks unmet d) n → AreMissed s (Some d) n
count_missed s unmet d b n standing held (missing, are, counts) = (Some missing, (b, held, wanted_by s unmet d b missing standing held are), sym counts)
