use Rattle.nw_generation.proofs.Words.{◌≡◌, ◌∷◌, List, sym, ap, ◌∙◌, ordering_reverse, Digest, Block, digest_cmp, digests_total}
use Rattle.nw_generation.proofs.Searches.{empty_below}
use Rattle.nw_generation.proofs.Merging.{both_next, first_below, newer_next, older_next}
use Rattle.nw_generation.proofs.entries.first_of_both.Goals.{in-Less, in-Equal, in-Greater}
use Rattle.nw_generation.proofs.entries.first_of_both.Goals as goal

pub returns-in-None-Some-clause-next : goal.returns-in-None-Some-clause-next
returns-in-None-Some-clause-next c =
    let two : Digest × Block = c.in-None-Some.two.now in
    older_next c.args.older.now two c.args.newer.now c.in-None-Some._left.now c.in-None-Some.ensures'.cases.0 c.requires.newer c.requires.older (empty_below two.0 c.args.newer.now c.in-None-Some.ensures.cases)

pub returns-in-Some-None-clause-next : goal.returns-in-Some-None-clause-next
returns-in-Some-None-clause-next c =
    let one : Digest × Block = c.in-Some-None.one.now in
    rw c.one.view_is (newer_next c.args.newer.now one c.in-Some-None._left.now c.args.older.now c.in-Some-None.ensures.cases.0 c.requires.newer c.requires.older (empty_below one.0 c.args.older.now c.in-Some-None.ensures'.cases))

pub returns-after-cmp-clause-next : goal.returns-after-cmp-clause-next
returns-after-cmp-clause-next c =
    let one : Digest × Block = c.in-Some-Some.one.now in
    let two : Digest × Block = c.in-Some-Some.two.now in
    let newer : List (Digest × Block) = c.in-Some-Some._newer_left.now in
    let older : List (Digest × Block) = c.in-Some-Some._older_left.now in
    let is : c.args.newer.now ≡ one ∷ newer = c.in-Some-Some.ensures.cases.0 in
    let are : c.args.older.now ≡ two ∷ older = c.in-Some-Some.ensures'.cases.0 in
    let compared : c.cmp.result ≡ digest_cmp one.0 two.0 = c.cmp.ensures ∙ ap (λ (e : Digest × Block). digest_cmp e.0 two.0) c.one-in-Some-Some.view_is in
    elim c.match-cmp.branch [
      | in-Less w ↦ rw (w.result-is, c.one-in-Some-Some.view_is)
          (newer_next c.args.newer.now one newer c.args.older.now is c.requires.newer c.requires.older (first_below one.0 c.args.older.now two older are c.requires.older (sym compared ∙ w.in-Less.is)))
      | in-Equal w ↦ rw (w.result-is, c.one-in-Some-Some.view_is)
          (both_next c.args.newer.now c.args.older.now one two newer older is are c.requires.newer c.requires.older (sym compared ∙ w.in-Equal.is))
      | in-Greater w ↦ rw w.result-is (older_next c.args.older.now two c.args.newer.now older are c.requires.newer c.requires.older
          (first_below two.0 c.args.newer.now one newer is c.requires.newer (digests_total.antisymm two.0 one.0 ∙ ap ordering_reverse (sym compared ∙ w.in-Greater.is))))
    ]
