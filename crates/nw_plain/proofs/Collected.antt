-- The maps of a store after a collection.
use Rattle.nw_plain.proofs.Words.{◌≡◌, ℕ, List, filter, ap, sym, ◌∙◌, subst, keys_of, from_entries, Digest, Block, Certificate, digest_cmp, Slot, slot_cmp, State, filtered_round}
use Rattle.std.specs.Prelude.{nat_le}
use Rattle.std.specs.List.Sorted.{IsStrictlySortedBy}
use Rattle.nw_model.specs.Step.{raised}
use Rattle.nw_model.specs.Sound.{IsSoundWithIndex}
use Rattle.nw_model.proofs.Raised.{filtered_slots, kept_raised, slots_from}

-- the state of these entries
abbrev pub state_of : List (Digest × Block) → List (Digest × Certificate) → List (Slot × Digest) → ℕ → State
state_of bs cs fs floor = record { blocks = from_entries bs; certificates = from_entries cs; firsts = from_entries fs; floor = floor }

module _ (bs blocks : List (Digest × Block)) (cs certificates : List (Digest × Certificate)) (fs firsts : List (Slot × Digest)) (floor round : ℕ)
    (blocks_stay : blocks ≡ filter (λ e. nat_le round e.1.round) bs) (blocks_ordered : IsStrictlySortedBy digest_cmp (keys_of bs))
    (certificates_stay : certificates ≡ filter (λ e. nat_le round e.1.round) cs) (certificates_ordered : IsStrictlySortedBy digest_cmp (keys_of cs))
    (firsts_stay : firsts ≡ filter (λ e. nat_le round e.0.0) fs)
  where
    pub collected : state_of blocks certificates firsts round ≡ raised (state_of bs cs fs floor) round
    collected =
        let of_blocks = ap (from_entries {R = digest_cmp}) blocks_stay ∙ filtered_round (λ (b : Block). b.round) round bs blocks_ordered in
        let of_certificates = ap (from_entries {R = digest_cmp}) certificates_stay ∙ filtered_round (λ (c : Certificate). c.round) round cs certificates_ordered in
        let of_firsts = ap (from_entries {R = slot_cmp}) firsts_stay ∙ filtered_slots round fs in
        λ i. record { blocks = of_blocks i; certificates = of_certificates i; firsts = of_firsts i; floor = round }

    pub kept_collected : (is index : List (Slot × Digest)) → index ≡ filter (λ e. nat_le round e.0.0) is → IsSoundWithIndex (state_of bs cs fs floor) (from_entries is) → IsSoundWithIndex (state_of blocks certificates firsts round) (from_entries index)
    kept_collected is index index_stays kept =
        let of_index : from_entries {R = slot_cmp} index ≡ slots_from round (from_entries is) = ap (from_entries {R = slot_cmp}) index_stays ∙ filtered_slots round is in
        subst (λ s. IsSoundWithIndex s (from_entries index)) (sym collected)
        (subst (λ m. IsSoundWithIndex (raised (state_of bs cs fs floor) round) m) (sym of_index) (kept_raised (state_of bs cs fs floor) (from_entries is) round kept))
