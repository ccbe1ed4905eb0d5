-- The slots of a store tell which digests stand, and which authors have digests.
use Rattle.nw_state.proofs.Words.{◌≡◌, ◌↔◌, ◌⊎◌, ℕ, inl, inr, List, Option, Some, None, IsSome, sym, ap, ◌∙◌, subst, Contains, get, Digest, Block, Certificate, Wanted, Tables, Slot, which, State, block_slot, is_digest, index_answers, same_digest_decides}
use Rattle.std.specs.Ordering.{nat_cmp}
use Rattle.std.specs.Bool.{Decides}
use Rattle.std.specs.Option.{option_eq}
use Rattle.nw_rounds.specs.Slots.{AreAuthorsAt}
use Rattle.nw_rounds.specs.Slots.{IsNewest as IsNewestAt}
use Rattle.nw_digest.proofs.Found.{is_there}
use Rattle.nw_model.specs.Look.{HasDigest, IsNewest}
use Rattle.nw_model.specs.Missing.{ListsExactly}
use Rattle.nw_state.specs.StateTables.{AreStateTables, state_of}
use Rattle.nw_state.specs.Standing.{IsMet}
use Rattle.nw_state.proofs.HeldRaised.{certified_slot}

-- a found digest is compared with another
pub named_decides : (found : Option Digest) (d : Digest) → Decides (option_eq is_digest found (Some d)) (found ≡ Some d)
named_decides None d = (λ e. absurd cc, λ e. absurd cc)
named_decides (Some x) d = (λ e. ap Some ((same_digest_decides x d).0 e), λ e. (same_digest_decides x d).1 cc)

module _ (blocks : List (Digest × Block)) (certificates : List (Digest × Certificate)) (slots : Tables) (floor : ℕ) (held : AreStateTables blocks certificates slots floor) (w : Wanted) where
  abbrev s : State
  s = state_of blocks certificates slots floor

  -- a first digest is held
  pub first_held : get slots.firsts (w.round, w.author) ≡ Some w.digest → IsSome (get s.blocks w.digest)
  first_held first = let (b, there, here) = held.voted (w.round, w.author) w.digest first in is_there (get s.blocks w.digest) b there

  -- a digest that is held, and certified for a slot, stands with a block of that slot
  pub met : get slots.certified (w.round, w.author) ≡ Some w.digest → IsSome (get s.blocks w.digest) → IsMet s w
  met certified some =
      let (c, is, here) = (held.kept.indexed (w.round, w.author) w.digest).0 certified in
      let (b, there) = which (get s.blocks w.digest) some in
      let slot = certified_slot blocks certificates slots floor held (w.round, w.author) w.digest b certified there in
      (b, (there, is_there (get s.certificates w.digest) c is), ap (λ (q : Slot). q.1) slot, ap (λ (q : Slot). q.0) slot)

  -- a digest that stands is held, and certified for its block's slot
  pub met_certified : IsMet s w → get slots.certified (w.round, w.author) ≡ Some w.digest
  met_certified (b, (there, some), author, round) =
      let (c, is) = which (get s.certificates w.digest) some in
      let slot : block_slot b ≡ (w.round, w.author) = λ i. (round i, author i) in
      (held.kept.indexed (w.round, w.author) w.digest).1 (c, is, sym (held.kept.sound.one_slot w.digest b c there is) ∙ slot)

  pub met_held : IsMet s w → IsSome (get s.blocks w.digest)
  met_held (b, (there, some), author, round) = is_there (get s.blocks w.digest) b there

-- a slot has a digest exactly if it has one in the state
slot_tells : (blocks : List (Digest × Block)) (certificates : List (Digest × Certificate)) (slots : Tables) (floor : ℕ) (held : AreStateTables blocks certificates slots floor) (slot : Slot)
    → (IsSome (get slots.firsts slot) ⊎ IsSome (get slots.certified slot)) ≡ HasDigest (state_of blocks certificates slots floor) slot
slot_tells blocks certificates slots floor held slot = ap (λ found. IsSome (get slots.firsts slot) ⊎ IsSome found) (index_answers (state_of blocks certificates slots floor) slots.certified slot held.kept.indexed)

-- the newest round with a digest is that of the state
pub newest_round : (blocks : List (Digest × Block)) (certificates : List (Digest × Certificate)) (slots : Tables) (floor : ℕ) (held : AreStateTables blocks certificates slots floor) (round : ℕ) → IsNewestAt slots floor round
    → IsNewest (state_of blocks certificates slots floor) round
newest_round blocks certificates slots floor held round is = record {
  floor = is.least_first;
  last = λ slot has. is.last slot (subst (λ T. T) (sym (slot_tells blocks certificates slots floor held slot)) has);
  some = elim is.some [
    | inl same ↦ inl same
    | inr (author, has) ↦ inr (author, subst (λ T. T) (slot_tells blocks certificates slots floor held (round, author)) has)
  ];
}

-- the authors with digests in a round are those of the state
pub listed_authors : (blocks : List (Digest × Block)) (certificates : List (Digest × Certificate)) (slots : Tables) (floor : ℕ) (held : AreStateTables blocks certificates slots floor) (round : ℕ) (authors : List ℕ) → AreAuthorsAt slots round authors
    → ListsExactly nat_cmp (λ author. HasDigest (state_of blocks certificates slots floor) (round, author)) authors
listed_authors blocks certificates slots floor held round authors are = record {
  exactly = λ author.
      let certified = index_answers (state_of blocks certificates slots floor) slots.certified (round, author) held.kept.indexed in
      subst (λ found. Contains authors author ↔ (IsSome (get slots.firsts (round, author)) ⊎ IsSome found)) certified (are.exactly author);
  ascending = are.ascending;
}
