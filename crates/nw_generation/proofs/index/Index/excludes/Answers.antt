use Rattle.nw_generation.proofs.Words.{◌≡◌, false, true, List, sym, subst, Digest, Block}
use Rattle.std.specs.Prelude.{All}
use Rattle.nw_generation.specs.Entries.{under}
use Rattle.nw_generation.specs.Seen.{IsOfRound, IsWithin}
use Rattle.nw_generation.proofs.Unions.{none_of}
use Rattle.nw_generation.proofs.index.Index.excludes.Goals as goal

pub returns-in-Some : goal.returns-in-Some
returns-in-Some c _ d of =
    let es : List (Digest × Block) = c.args.self.now in
    let no : c.is_within.result ≡ false = c.if-not-is_within.true in
    sym (none_of es c.self.inside.rounds c.in-Some.round c.in-Some._author d (subst (λ (xs : List (Digest × Block)). All (λ (e : Digest × Block). IsWithin c.self.inside.rounds e.1.round) xs) c.self.view_is c.self.invariant.3)
    (λ within. let yes : c.is_within.result ≡ true = c.is_within.ensures.1 within in cc)
    (subst (λ s. IsOfRound s (under es d)) c.in-Some.is of))
