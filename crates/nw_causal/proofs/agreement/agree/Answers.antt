use Rattle.nw_causal.proofs.Words.{List, All, reverse, sym, subst, Contains, take_all, All-contains, Digest, Block, Frozen, HasBlock, IsAncestorIn}
use Rattle.std.proofs.lemmas.List.Elements.{All-map, All-more}
use Rattle.nw_causal.specs.declared.ancestor.Ancestor.{Ancestor}
use Rattle.nw_causal.specs.Agreement.{MatchAt, CollideAt, IsRival}
use Rattle.nw_causal.specs.Looked.{AreFound, blocks, digests}
use Rattle.nw_causal.proofs.Agreeing.{match_at, one_walk, no_walk}
use Rattle.nw_causal.proofs.Levels.{among_digests, found_there, walk_of}
use Rattle.nw_causal.proofs.agreement.agree.Goals as goal

pub returns-in-Some : goal.returns-in-Some
returns-in-Some c =
    let v : Frozen = c.args.one.now.frozen in
    let w : Frozen = c.args.other.now.frozen in
    let d : Digest = c.args.digest in
    let a : Ancestor = c.ancestor-item.result in
    let b : Block = c.in_ok-try_clone.field-0 in
    let found : List Ancestor = c.deref-ancestor-items.result.now in
    let are : AreFound v d found = rw (c.deref-ancestor-items.ensures.value) c.in_ok-found.ensures.found in
    let among : Contains found a = (c.loop-ancestor.ancestor-index, c.loop-ancestor-test.true, sym c.ancestor-item.is) in
    let ancestor : IsAncestorIn v d a.digest.now = (are.exactly a.digest.now).0 (among_digests found a among) in
    let there : HasBlock v a.digest.now b = subst (HasBlock v a.digest.now) (sym c.in_ok-try_clone.ensures) (found_there v d found a are among) in
    let rival : IsRival w a.digest.now b c.in-Some.rival = rw (c.in_ok-try_clone.ensures) (rw c.in-Some.is at c.in_ok-rival.ensures) in
    let collide : CollideAt v w a.digest.now b c.in-Some.rival = (there, rival.0, rival.1) in
    (no_walk v w d a.digest.now b c.in-Some.rival c.in_ok-found.ensures.closed c.floor-floor.ensures.closed c.requires.floor c.requires.in_one c.requires.in_other ancestor collide, (a.digest.now, collide))

pub loop-ancestor-preserved : goal.loop-ancestor-preserved
loop-ancestor-preserved c =
    let v : Frozen = c.args.one.now.frozen in
    let w : Frozen = c.args.other.now.frozen in
    let a : Ancestor = c.ancestor-item.result in
    let found : List Ancestor = c.deref-ancestor-items.result.now in
    let are : AreFound v c.args.digest found = rw (c.deref-ancestor-items.ensures.value) c.in_ok-found.ensures.found in
    let there : HasBlock v a.digest.now a.block.now = found_there v c.args.digest found a are (c.loop-ancestor.ancestor-index, c.loop-ancestor-test.true, sym c.ancestor-item.is) in
    All-more (λ (x : Ancestor). MatchAt v w x.digest.now) found c.loop-ancestor.ancestor-index a c.loop-ancestor-test.true c.loop-ancestor.invariant
    (subst (λ (x : Ancestor). MatchAt v w x.digest.now) c.ancestor-item.is (match_at v w a.digest.now a.block.now there.0 (rw c.in_default.is at c.in_ok-rival.ensures)))

pub returns : goal.returns
returns c =
    let v : Frozen = c.args.one.now.frozen in
    let w : Frozen = c.args.other.now.frozen in
    let d : Digest = c.args.digest in
    let found : List Ancestor = c.deref-ancestor-items.result.now in
    let are : AreFound v d found = rw (c.deref-ancestor-items.ensures.value) c.in_ok-found.ensures.found in
    let match : All (λ (x : Ancestor). MatchAt v w x.digest.now) found = subst (All (λ (x : Ancestor). MatchAt v w x.digest.now)) (take_all c.loop-ancestor.ancestor-index found c.loop-ancestor-test.false) c.loop-ancestor.invariant in
    one_walk v w d (blocks (reverse found)) c.in_ok-found.ensures.closed c.floor-floor.ensures.closed c.requires.floor c.requires.in_one c.requires.in_other (walk_of v d found are)
    (λ e ancestor. All-contains (MatchAt v w) (digests found) e (All-map (MatchAt v w) (λ (x : Ancestor). x.digest.now) found match) ((are.exactly e).1 ancestor))
