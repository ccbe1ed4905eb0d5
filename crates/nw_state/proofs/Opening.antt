-- A state in which nothing is held.
use Rattle.nw_state.proofs.Words.{◌≡◌, [], Some, sym, ◌∙◌, none-some, eq_by_cmp, get, from_entries, get-empty, Digest, Block, digest_cmp, Slot, slot_cmp, block_slot}
use Rattle.std.specs.List.{IsDistinct}
use Rattle.nw_rounds.specs.Slots.{no_digests}
use Rattle.nw_state.specs.StateTables.{IsListed}

pub none_once : IsDistinct (eq_by_cmp digest_cmp) []
unfolding IsDistinct
none_once = tt

pub nothing_listed : (d : Digest) (b : Block) → get (from_entries {R = digest_cmp} []) d ≡ Some b → IsListed no_digests d b
nothing_listed d b at = absurd (none-some b (sym (get-empty digest_cmp d) ∙ at))

pub nothing_voted : (slot : Slot) (d : Digest) → get no_digests.firsts slot ≡ Some d → (b : Block) × (get (from_entries {R = digest_cmp} []) d ≡ Some b) × (block_slot b ≡ slot)
nothing_voted slot d at = absurd (none-some d (sym (get-empty slot_cmp slot) ∙ at))
