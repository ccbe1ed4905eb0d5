-- Entries that are spread over many trees by the first bits of their digests.
use Rattle.std.specs.Prelude.{◌≡◌, ℕ, zero, suc, ◌+◌, ◌*◌, ◌≤◌, List, [], ◌∷◌, ◌++◌, length, if◌then◌else◌}
use Rattle.nw_digest.specs.declared.digest.Digest.{Digest}
use Rattle.nw_digest.specs.Bytes.{AreBytes}
use Rattle.nw_trie.specs.Bits.{bit_of}
use Rattle.nw_trie.specs.Entries.{EachKey}

-- the number whose binary digits are the first n bits of the digest
abbrev pub place_of : ℕ → Digest → ℕ
place_of zero d = 0
place_of (suc n) d = 2 * place_of n d + (if bit_of d n then 1 else 0)

module _ {V : Type 0} where
  -- the entries of all trees, in their order
  abbrev pub joined : List (List (Digest × V)) → List (Digest × V)
  joined [] = []
  joined (tree ∷ trees) = tree ++ joined trees

  -- the first tree has digests whose first n bits are the number `place`, and each further tree those of the next number
  abbrev pub AreAtPlaces : ℕ → ℕ → List (List (Digest × V)) → Type 0
  AreAtPlaces n place [] = Unit {0}
  AreAtPlaces n place (tree ∷ trees) = EachKey (λ d. AreBytes d.0 × (place_of n d ≡ place)) tree × AreAtPlaces n (place + 1) trees

  -- the trees of a map with so many entries
  pub record AreSpread (bits : ℕ) (trees : List (List (Digest × V))) (len : ℕ) : Type 0 where
    -- few bits tell which tree a digest belongs to
    pub few : bits ≤ 24
    -- each digest is in its tree
    pub places : AreAtPlaces bits 0 trees
    -- the trees have so many entries
    pub counted : len ≡ length (joined trees)
