use Rattle.nw_generation.proofs.Words.{◌≡◌, ◌<◌, ℕ, true, List, sym, subst, ◌∙◌, arith, Digest, Block}
use Rattle.std.proofs.Common.{is_lt, nat_cmp}
use Rattle.std.specs.Prelude.{All}
use Rattle.std.proofs.lemmas.Bool.Decides.{nat_tests}
use Rattle.nw_generation.specs.Seen.{IsWithin}
use Rattle.nw_generation.proofs.Unions.{within_at}
use Rattle.nw_generation.proofs.index.Index.is_above.Goals as goal

lower_of : (a b : ℕ) → is_lt (nat_cmp a b) ≡ true → a < b
lower_of a b lt = grind (arith, nat_tests)

pub returns-in-Some : goal.returns-in-Some
returns-in-Some c higher d b at =
    let all = subst (λ (xs : List (Digest × Block)). All (λ (e : Digest × Block). IsWithin c.self.inside.rounds e.1.round) xs) c.self.view_is c.self.invariant.3 in
    let within = subst (λ rounds. IsWithin rounds b.round) c.in-Some.is (within_at c.args.self.now c.self.inside.rounds d b all at) in
    let lower : c.args.round < c.in-Some.least = lower_of c.args.round c.in-Some.least (sym c.lt.ensures ∙ higher) in omega (arith, lower, within.0)

pub returns-in-None : goal.returns-in-None
returns-in-None c higher d b at =
    let all = subst (λ (xs : List (Digest × Block)). All (λ (e : Digest × Block). IsWithin c.self.inside.rounds e.1.round) xs) c.self.view_is c.self.invariant.3 in
    absurd (subst (λ rounds. IsWithin rounds b.round) c.in-None.is (within_at c.args.self.now c.self.inside.rounds d b all at))
