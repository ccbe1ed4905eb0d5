-- A trie after its caller has changed a value in place.
use Rattle.std.specs.Prelude.{List, Option}
use Rattle.std.specs.BTreeMap.{insert_entry}
use Rattle.std.specs.Borrow.{Fml, LendsIf, MutBor, RattleType}
use Rattle.std.specs.declared.alloc.Allocator.{Ghosts}
use Rattle.nw_digest.specs.declared.digest.Digest.{Digest}
use Rattle.nw_digest.specs.Order.{digest_cmp}
use Rattle.nw_trie.specs.contracts.trie.Trie.{the_row}

module _ (V A : RattleType) (g : Ghosts A.Denot) where
  -- if r is a reference, the caller may change the value of d through it, and nothing else. After r ends, the value of d is the last one
  -- written through r. All other entries are as before. If r is None, the trie is as before
  abbrev pub trie_follows_value : MutBor (List (Digest × V.Denot)) → Digest → Option (MutBor V.Denot) → Fml
  trie_follows_value trie d r = LendsIf (the_row V A g) V trie r (insert_entry digest_cmp trie.now d) trie.now
