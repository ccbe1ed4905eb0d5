use Rattle.nw_waiting.proofs.Words.{◌≡◌, ◌&&◌, not, take, get, list_any, eq_by_cmp}
use Rattle.std.specs.BTreeMap.{IsOrdered}
use Rattle.std.specs.List.{IsDistinct}
use Rattle.std.specs.List.Sorted.{IsStrictlySortedBy}
use Rattle.nw_waiting.specs.Lists.{AreFilled, list_of}
use Rattle.nw_waiting.proofs.lists.remove_from_each.Given as goal

-- the value is removed from the lists of the keys read so far
abbrev pub invariant-loop-key : goal.invariant-loop-key
invariant-loop-key g l =
    ((q : _) (v : _) → list_any (eq_by_cmp g.V.Ord.cmp v) (list_of (λ list. list.items) (get g.K.Ord.cmp l.lists q))
    ≡ (list_any (eq_by_cmp g.V.Ord.cmp v) (list_of (λ list. list.items) (get g.K.Ord.cmp l.initial.lists q)) && not (list_any (eq_by_cmp g.K.Ord.cmp q) (take l.key-index l.keys) && eq_by_cmp g.V.Ord.cmp v l.value)))
    × ((q : _) → IsDistinct (eq_by_cmp g.V.Ord.cmp) (list_of (λ list. list.items) (get g.K.Ord.cmp l.lists q)))
    × (((q : _) → IsStrictlySortedBy g.V.Ord.cmp (list_of (λ list. list.items) (get g.K.Ord.cmp l.initial.lists q))) → (q : _) → IsStrictlySortedBy g.V.Ord.cmp (list_of (λ list. list.items) (get g.K.Ord.cmp l.lists q)))
    × (AreFilled (λ v. v.items) (get g.K.Ord.cmp l.initial.lists) → AreFilled (λ v. v.items) (get g.K.Ord.cmp l.lists))
    × (IsOrdered g.K.Ord.cmp l.initial.lists → IsOrdered g.K.Ord.cmp l.lists)
