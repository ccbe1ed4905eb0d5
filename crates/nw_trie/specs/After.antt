-- The entries that follow a digest.
use Rattle.std.specs.Prelude.{List, [], ◌∷◌, Option, Some, None, if◌then◌else◌}
use Rattle.std.specs.BTreeMap.{is_at}
use Rattle.nw_digest.specs.declared.digest.Digest.{Digest}
use Rattle.nw_digest.specs.Order.{digest_cmp}
use Rattle.nw_trie.specs.Entries.{AreEntries, HasKey}
use denote.Bor.{Bor}

module _ {V : Type 0} where
  -- the first entry, if there is one
  abbrev pub first_entry : List (Digest × V) → Option (Digest × V)
  first_entry [] = None
  first_entry (e ∷ es) = Some e

  -- the entries that follow the entry of the digest
  abbrev pub after : Digest → List (Digest × V) → List (Digest × V)
  after d [] = []
  after d (e ∷ es) = if is_at (digest_cmp d) e.0 then es else after d es

  -- the entries from an iterator's next entry on
  abbrev pub entries_from : List (Digest × V) → Option (Bor Digest × Bor V) → List (Digest × V)
  entries_from es None = []
  entries_from es (Some p) = (p.0.now, p.1.now) ∷ after p.0.now es

  -- the next entry of an iterator, if it has one, is among the entries, and their digests ascend
  abbrev pub IsNextIn : List (Digest × V) → Option (Bor Digest × Bor V) → Type 0
  IsNextIn es None = Unit {0}
  IsNextIn es (Some p) = HasKey p.0.now es × AreEntries es
