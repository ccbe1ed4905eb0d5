-- A view has the ancestors of the state that it shows.
use Rattle.nw_model.proofs.Words.{◌≡◌, ◌+◌, ◌<◌, ◌≤◌, List, [], ◌∷◌, Some, sym, ◌∙◌, subst, arith, get, All-contains, Digest, Block, same_map}
use Rattle.nw_model.specs.State.{State}
use Rattle.nw_model.specs.Paths.{IsStanding, IsSatisfied, IsParent, IsPath, IsComplete, IsCausalList}
use Rattle.nw_model.specs.Sound.{HasNoBlocksBelowFloor}
use Rattle.nw_model.specs.View.{Frozen, HasBlock, IsParentIn, IsPathIn, IsAncestorIn, IsWalk, Shows}
use Rattle.nw_model.specs.Laws.{ViewsShowTheAncestors}
use Rattle.nw_model.proofs.Complete.{parent_complete, parents_complete}

-- each block of the view is held in the state
pub there_held : (v : Frozen) (s : State) (d : Digest) (b : Block) → Shows v s → HasBlock v d b → get s.blocks d ≡ Some b
there_held v s d b shows there = ((shows.complete d b).0 there).0

-- a complete block that stands is in the view
pub complete_there : (v : Frozen) (s : State) (d : Digest) (b : Block) → HasNoBlocksBelowFloor s → Shows v s → IsComplete s d → IsStanding s d b → HasBlock v d b
complete_there v s d b kept shows whole stands = (shows.complete d b).1 (stands.0, kept d b stands.0, whole)

-- the last digest of a path is in the view
pub last_there : (v : Frozen) (d : Digest) (path : List Digest) (a : Digest) → IsPathIn v d path a → (b : Block) × HasBlock v a b
last_there v d [] a on = (on.0.0, subst (λ q. HasBlock v q on.0.0) on.1 on.0.1)
last_there v d (e ∷ path) a on = last_there v e path a on.1

-- a path in the view is a path in the state
path_to_state : (v : Frozen) (s : State) (d : Digest) (path : List Digest) (a : Digest) → Shows v s → IsComplete s d → IsPathIn v d path a → IsPath s d path a
path_to_state v s d [] a shows whole on = (whole.stands, on.1)
path_to_state v s d (e ∷ path) a shows whole on =
    let parent : IsParentIn v d e = on.0 in
    let b = parent.0 in
    let r = parent.1 in
    let floor : v.floor ≡ s.floor = shows.floor in
    let above_in : v.floor < b.round = parent.3 in
    let above : s.floor < b.round = omega arith in
    let stands : IsStanding s d b = (there_held v s d b shows (parent.2, omega arith), whole.stands.1.1) in
    let named = All-contains (λ q. IsSatisfied s b.round q × IsComplete s q.digest) b.parents r (parents_complete s d b whole stands above) parent.4 in
    let below : IsComplete s e = subst (λ q. IsComplete s q) parent.5 named.1 in
    ((b, r, stands, parent.4, named.0, parent.5), path_to_state v s e path a shows below on.1)

-- a path in the state is a path in the view
path_to_view : (v : Frozen) (s : State) (d : Digest) (path : List Digest) (a : Digest) → HasNoBlocksBelowFloor s → Shows v s → IsComplete s d → IsPath s d path a → IsPathIn v d path a
path_to_view v s d [] a kept shows whole on = ((on.0.0, complete_there v s d on.0.0 kept shows whole on.0.1), on.1)
path_to_view v s d (e ∷ path) a kept shows whole on =
    let parent : IsParent s d e = on.0 in
    let b = parent.0 in
    let r = parent.1 in
    let satisfied : IsSatisfied s b.round r = parent.4 in
    let floor : v.floor ≡ s.floor = shows.floor in
    let above : s.floor ≤ satisfied.0.round = kept r.digest satisfied.0 satisfied.1.0 in
    let before : satisfied.0.round + 1 ≡ b.round = satisfied.3 in
    ((b, r, (complete_there v s d b kept shows whole parent.2).0, omega arith, parent.3, parent.5), path_to_view v s e path a kept shows (parent_complete s d e whole parent) on.1)

-- a complete block has the same ancestors in the state and in a view that shows it
pub ancestors_shown : ViewsShowTheAncestors
ancestors_shown v s d kept shows whole a = (
  λ in_view. (in_view.0, path_to_state v s d in_view.0 a shows whole in_view.1),
  λ in_state. (in_state.0, path_to_view v s d in_state.0 a kept shows whole in_state.1),
)

-- a walk of a complete block in a view that shows the state is its causal list
pub walk_is_causal : (v : Frozen) (s : State) (d : Digest) (blocks : List Block) → HasNoBlocksBelowFloor s → Shows v s → IsComplete s d → IsWalk v d blocks → IsCausalList s d blocks
walk_is_causal v s d blocks kept shows whole walk = record {
  digests = walk.digests;
  found = same_map (get s.blocks) (get v.blocks) walk.digests (λ a among.
      let ancestor : IsAncestorIn v d a = (walk.exactly a).0 among in
      let last = last_there v d ancestor.0 a ancestor.1 in
      there_held v s a last.0 shows last.1 ∙ sym last.1.0) ∙ walk.found;
  exactly = λ a. (
    λ among. (ancestors_shown v s d kept shows whole a).0 ((walk.exactly a).0 among),
    λ ancestor. (walk.exactly a).1 ((ancestors_shown v s d kept shows whole a).1 ancestor),
  );
  ascending = walk.ascending;
}
