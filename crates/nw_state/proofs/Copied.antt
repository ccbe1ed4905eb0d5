-- The maps of slots that a copy of the tables makes, digest by digest.
use Rattle.nw_state.proofs.Words.{◌≡◌, ℕ, inr, List, [], ◌∷◌, ◌++◌, Option, Some, None, refl, sym, ap, ◌∙◌, subst, same_Some, Contains, insert_entry, FinMap, from_entries, get, Digest, Block, Certificate, Slot, slot_cmp, Wanted, State, block_slot, certificate_slot, HasAllDigests, Tables, IsSoundWithIndex, slots_apart, slots_total}
use Rattle.std.specs.Option.{option_map}
use Rattle.nw_model.specs.Sound.{IsIndex, IsSound}
use Rattle.nw_state.specs.StateTables.{AreStateTables, state_of}
use Rattle.nw_state.specs.Standing.{name_of}
use Rattle.nw_state.proofs.Gathered.{Gathers, gathers_entry, gathers_skip}

-- the block whose name was found
pub named : (d : Digest) (found : Option Block) (name : Wanted) → option_map (name_of d) found ≡ Some name → (b : Block) × (found ≡ Some b) × (name_of d b ≡ name)
named d None name is = absurd cc
named d (Some b) name is = (b, refl, cc)

pub not_named : (d : Digest) (found : Option Block) → option_map (name_of d) found ≡ None → found ≡ None
not_named d None is = refl
not_named d (Some b) is = absurd cc

pub no_some : {X : Type 0} (found : Option X) (x : X) → found ≡ None → found ≡ Some x → ⊥
no_some found x none some = cc

-- the first digest of each slot has a block of this slot
abbrev pub AreVoted : State → Type 0
AreVoted s = (slot : Slot) (d : Digest) → get s.firsts slot ≡ Some d → (b : Block) × (get s.blocks d ≡ Some b) × (block_slot b ≡ slot)

module _ (s : State) where
  -- d is the first digest of the slot
  abbrev pub IsFirstAt : Slot → Digest → Type 0
  IsFirstAt slot d = get s.firsts slot ≡ Some d

  -- d is certified for the slot
  abbrev pub IsCertifiedAt : Slot → Digest → Type 0
  IsCertifiedAt slot d = (c : Certificate) × (get s.certificates d ≡ Some c) × (certificate_slot c ≡ slot)

  -- the map has each such digest that is listed, under its slot
  abbrev pub GathersSlots : (Slot → Digest → Type 0) → List Digest → FinMap slot_cmp Digest → Type 0
  GathersSlots Q digests m = Gathers {R = slot_cmp} (λ slot d. d) Q digests m

  pub first_put : AreVoted s → (digests : List Digest) (d : Digest) (b : Block) (old new : List (Slot × Digest)) → GathersSlots IsFirstAt digests (from_entries old) → get s.blocks d ≡ Some b
      → IsFirstAt (block_slot b) d → new ≡ insert_entry slot_cmp old (block_slot b) d → GathersSlots IsFirstAt (digests ++ d ∷ []) (from_entries new)
  first_put voted digests d b old new gathers there first put =
      gathers_entry (λ slot d. d) IsFirstAt slots_total slots_apart digests d old new (block_slot b) d gathers first
      (λ slot e is same.
      let (x, held, at) = voted slot e is in
      ap block_slot (same_Some b x (sym there ∙ ap (get s.blocks) same ∙ held)) ∙ at)
      (λ slot e f is also. same_Some e f (sym is ∙ also))
      put

  pub first_skip : AreVoted s → (digests : List Digest) (d : Digest) (m : FinMap slot_cmp Digest) → GathersSlots IsFirstAt digests m
      → ((b : Block) → get s.blocks d ≡ Some b → IsFirstAt (block_slot b) d → ⊥) → GathersSlots IsFirstAt (digests ++ d ∷ []) m
  first_skip voted digests d m gathers none = gathers_skip (λ slot d. d) IsFirstAt digests d m gathers (λ slot e is same.
      let (x, held, at) = voted slot e is in
      none x (ap (get s.blocks) same ∙ held) (ap (get s.firsts) at ∙ is ∙ ap Some (sym same)))

  pub certified_put : IsSound s → (digests : List Digest) (d : Digest) (c : Certificate) (old new : List (Slot × Digest)) → GathersSlots IsCertifiedAt digests (from_entries old) → get s.certificates d ≡ Some c
      → new ≡ insert_entry slot_cmp old (certificate_slot c) d → GathersSlots IsCertifiedAt (digests ++ d ∷ []) (from_entries new)
  certified_put sound digests d c old new gathers kept put =
      gathers_entry (λ slot d. d) IsCertifiedAt slots_total slots_apart digests d old new (certificate_slot c) d gathers (c, kept, refl)
      (λ slot e (x, is, at) same. ap certificate_slot (same_Some c x (sym kept ∙ ap (get s.certificates) same ∙ is)) ∙ at)
      (λ slot e f (x, is, at) (y, also, here). sound.one_certificate e f x y is also (at ∙ sym here))
      put

  pub certified_skip : (digests : List Digest) (d : Digest) (m : FinMap slot_cmp Digest) → GathersSlots IsCertifiedAt digests m → get s.certificates d ≡ None → GathersSlots IsCertifiedAt (digests ++ d ∷ []) m
  certified_skip digests d m gathers none =
      gathers_skip (λ slot d. d) IsCertifiedAt digests d m gathers (λ slot e (x, is, at) same. no_some (get s.certificates d) x none (ap (get s.certificates) same ∙ is))

module _ (blocks : List (Digest × Block)) (certificates : List (Digest × Certificate)) (slots : Tables) (floor : ℕ) (held : AreStateTables blocks certificates slots floor) (digests : List Digest) (all : HasAllDigests slots digests) where
  abbrev t : State
  t = state_of blocks certificates slots floor

  -- the digest of each held block is listed
  pub block_listed : (d : Digest) (b : Block) → get t.blocks d ≡ Some b → Contains digests d
  block_listed d b there = all b.round d (b.author, held.listed d b there)

  -- each certified digest is listed
  pub certificate_listed : (d : Digest) (c : Certificate) → get t.certificates d ≡ Some c → Contains digests d
  certificate_listed d c there = all c.round d (c.author, inr ((held.kept.indexed (certificate_slot c) d).1 (c, there, refl)))

-- a state that equals a sound one is sound, with the same index
pub sound_copy : (s t : State) (index : FinMap slot_cmp Digest) → t ≡ s → IsSound s → IsIndex s.certificates index → IsSoundWithIndex t index
sound_copy s t index same sound is = record { sound = subst IsSound (sym same) sound; indexed = subst (λ (x : State). IsIndex x.certificates index) (sym same) is }
