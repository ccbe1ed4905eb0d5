use Rattle.nw_trie.proofs.Words.{◌≡◌, ◌+◌, ◌*◌, ◌≤◌, ℕ, length, into_iter_items}
use Rattle.std.specs.Vec.{vec_capacity, vec_len}
use Rattle.nw_trie.specs.Places.{AreAtPlaces, joined}
use Rattle.nw_trie.proofs.Places.{Spread}
use Rattle.nw_trie.proofs.map.spread_by.Given as goal

abbrev pub invariant-loop-tree : goal.invariant-loop-tree
invariant-loop-tree g l =
    record {
      can_next : (goal.iterator-loop-tree g).can_next l.tree-iterator;
      is_finite : (goal.iterator-loop-tree g).is_finite l.tree-iterator;
      next : ℕ;
      rest : AreAtPlaces l.bits next (into_iter_items l.tree-iterator);
      spread : Spread l.bits next l.halves.items (into_iter_items l.tree-iterator) (joined l.fn.trees.items);
      len : vec_len l.halves ≡ 2 * next;
      room : 2 * next + 2 * length (into_iter_items l.tree-iterator) ≤ vec_capacity l.halves;
    }
