-- `==` decides equality of blocks, certificates and ordered maps of them.
use Rattle.nw_model.proofs.Words.{◌==◌, ◌≡◌, ◌∙◌, ℕ, Bool, false, nat_eq, List, length, ap, sym, Ordering, IsTotalOrder, IsAntisymmetric, from_entries, get, len, Digest, Ref, Block, Certificate, same_block, digest_cmp, Slot, slot_cmp, get_lookup}
use Rattle.std.proofs.Common.{◌&&◌}
use Rattle.std.specs.BTreeMap.{BTreeMap, IsOrdered}
use Rattle.std.specs.FinMap.{len-empty, empty_of_len}
use Rattle.std.specs.Bool.{Decides}
use Rattle.std.specs.Cmp.Lexicographic.{pointwise, pointwise_decides, bytes_decides}
use Rattle.std.proofs.lemmas.Bool.Decides.{Decides-eqb, Decides-and}
use Rattle.std.proofs.lemmas.Map.Lookups.{btree_map_eq-Decides, btree_map_from_get}
use Rattle.nw_codec.specs.declared.certificate.Seal.{Seal}
use Rattle.nw_codec.specs.Same.{same_bytes, same_ref}
use Rattle.nw_model.specs.State.{State, opening}
use Rattle.nw_model.specs.Step.{is_slot, is_digest}

-- a test that decides one statement decides each equivalent statement
by_parts : {P Q : Type 0} (r : Bool) → (P → Q) → (Q → P) → Decides r P → Decides r Q
by_parts r to from d = (λ e. to (d.0 e), λ q. d.1 (from q))

digest_of : List ℕ → Digest
digest_of bytes = record { 0 = bytes }

pub same_digest_decides : (a b : Digest) → Decides (is_digest a b) (a ≡ b)
unfolding digest_of
same_digest_decides a b = by_parts (is_digest a b) (λ e. ap digest_of e) (λ e. ap (λ (d : Digest). d.0) e) (bytes_decides a.0 b.0)

same_ref_decides : (a b : Ref) → Decides (same_ref a b) (a ≡ b)
same_ref_decides a b = by_parts (same_ref a b)
    (λ e. λ i. record { author = e.0 i; digest = e.1 i })
    (λ e. (ap (λ (r : Ref). r.author) e, ap (λ (r : Ref). r.digest) e))
    (Decides-and (a.author == b.author) (is_digest a.digest b.digest) (Decides-eqb a.author b.author) (same_digest_decides a.digest b.digest))

pub same_block_decides : (a b : Block) → Decides (same_block a b) (a ≡ b)
same_block_decides a b = by_parts (same_block a b)
    (λ e. λ i. record { author = e.0.0.0 i; round = e.0.0.1 i; parents = e.0.1 i; transactions = e.1 i })
    (λ e. (((ap (λ (x : Block). x.author) e, ap (λ (x : Block). x.round) e), ap (λ (x : Block). x.parents) e), ap (λ (x : Block). x.transactions) e))
    (Decides-and _ _
    (Decides-and _ _
    (Decides-and _ _ (Decides-eqb a.author b.author) (Decides-eqb a.round b.round))
    (pointwise_decides same_ref_decides a.parents b.parents))
    (pointwise_decides bytes_decides a.transactions b.transactions))

abbrev same_seal : Seal → Seal → Bool
same_seal a b = (a.signer == b.signer) && same_bytes a.signature.0 b.signature.0

abbrev pub same_certificate : Certificate → Certificate → Bool
same_certificate a b = same_bytes a.digest.0 b.digest.0 && (a.round == b.round) && (a.author == b.author) && pointwise same_seal a.votes b.votes

same_seal_decides : (a b : Seal) → Decides (same_seal a b) (a ≡ b)
same_seal_decides a b = by_parts (same_seal a b)
    (λ e. λ i. record { signer = e.0 i; signature = record { 0 = e.1 i } })
    (λ e. (ap (λ (s : Seal). s.signer) e, ap (λ (s : Seal). s.signature.0) e))
    (Decides-and (a.signer == b.signer) _ (Decides-eqb a.signer b.signer) (bytes_decides a.signature.0 b.signature.0))

pub same_certificate_decides : (a b : Certificate) → Decides (same_certificate a b) (a ≡ b)
same_certificate_decides a b = by_parts (same_certificate a b)
    (λ e. λ i. record { digest = e.0.0.0 i; round = e.0.0.1 i; author = e.0.1 i; votes = e.1 i })
    (λ e. (((ap (λ (x : Certificate). x.digest) e, ap (λ (x : Certificate). x.round) e), ap (λ (x : Certificate). x.author) e), ap (λ (x : Certificate). x.votes) e))
    (Decides-and _ _
    (Decides-and _ _
    (Decides-and _ _ (same_digest_decides a.digest b.digest) (Decides-eqb a.round b.round))
    (Decides-eqb a.author b.author))
    (pointwise_decides same_seal_decides a.votes b.votes))

pub same_slot_decides : (a b : Slot) → Decides (is_slot a b) (a ≡ b)
same_slot_decides a b = by_parts (is_slot a b) (λ e. λ i. (e.0 i, e.1 i)) (λ e. (ap (λ (s : Slot). s.0) e, ap (λ (s : Slot). s.1) e))
    (Decides-and (a.0 == b.0) _ (Decides-eqb a.0 b.0) (Decides-eqb a.1 b.1))

-- ---- ordered maps, seen as finite maps

module _ {K X : Type 0} {R : K → K → Ordering} (o : IsTotalOrder R) (exact : IsAntisymmetric R) (m n : BTreeMap K X) (s : IsOrdered R m) (t : IsOrdered R n) where
  -- ordered maps that are equal as finite maps have the same entries
  same_list : from_entries {R = R} m.entries ≡ from_entries n.entries → m.entries ≡ n.entries
  same_list e = btree_map_from_get o m n s t (λ q. sym (get_lookup o m.entries q) ∙ ap (λ f. get f q) e ∙ get_lookup o n.entries q) exact

  -- `==` of ordered maps decides whether they are equal as finite maps
  pub maps_decide : {E : K → K → Bool} {F : X → X → Bool} → ((a b : K) → Decides (E a b) (a ≡ b)) → ((a b : X) → Decides (F a b) (a ≡ b))
      → (r : Bool) → r ≡ pointwise (λ (p q : K × X). E p.0 q.0 && F p.1 q.1) m.entries n.entries → Decides r (from_entries {R = R} m.entries ≡ from_entries n.entries)
  maps_decide keys values r is = by_parts r (λ e. ap (from_entries {R = R}) e) same_list (btree_map_eq-Decides keys values m n r is)

  -- ordered maps of different lengths are different finite maps
  pub other_length : (k l : ℕ) → k ≡ length m.entries → l ≡ length n.entries → (k ≡ l → ⊥) → Decides (nat_eq k l) (from_entries {R = R} m.entries ≡ from_entries n.entries)
  other_length k l is_k is_l differ = (λ yes. absurd (differ ((Decides-eqb k l).0 yes)), λ e. absurd (differ (is_k ∙ ap length (same_list e) ∙ sym is_l)))

-- the result of `==` for the entries of each map of a store
abbrev pub same_blocks : List (Digest × Block) → List (Digest × Block) → Bool
same_blocks = pointwise (λ p q. is_digest p.0 q.0 && same_block p.1 q.1)

abbrev pub same_certificates : List (Digest × Certificate) → List (Digest × Certificate) → Bool
same_certificates = pointwise (λ p q. is_digest p.0 q.0 && same_certificate p.1 q.1)

abbrev pub same_slots : List (Slot × Digest) → List (Slot × Digest) → Bool
same_slots = pointwise (λ p q. is_slot p.0 q.0 && is_digest p.1 q.1)

-- a state with three empty maps and garbage round 0 is the opening state
pub nothing : (s : State) → s.floor ≡ 0 → len s.blocks ≡ 0 → len s.certificates ≡ 0 → len s.firsts ≡ 0 → s ≡ opening
nothing s floor blocks certificates firsts =
    let no_blocks = empty_of_len s.blocks blocks in
    let no_certificates = empty_of_len s.certificates certificates in
    let no_firsts = empty_of_len s.firsts firsts in
    λ i. record { blocks = no_blocks i; certificates = no_certificates i; firsts = no_firsts i; floor = floor i }

pub no_blocks : (s : State) → s ≡ opening → len s.blocks ≡ 0
no_blocks s e = ap (λ (x : State). len x.blocks) e ∙ len-empty digest_cmp Block

pub no_certificates : (s : State) → s ≡ opening → len s.certificates ≡ 0
no_certificates s e = ap (λ (x : State). len x.certificates) e ∙ len-empty digest_cmp Certificate

pub no_firsts : (s : State) → s ≡ opening → len s.firsts ≡ 0
no_firsts s e = ap (λ (x : State). len x.firsts) e ∙ len-empty slot_cmp Digest

-- if the state is not the opening state, `false` decides whether it is
pub not_opening : (s : State) → (s ≡ opening → ⊥) → Decides false (s ≡ opening)
not_opening s other = (λ yes. absurd cc, λ e. absurd (other e))

-- if a number is 0 exactly when a statement holds, a test for 0 decides the statement
pub zero_decides : {P : Type 0} (n : ℕ) → (n ≡ 0 → P) → (P → n ≡ 0) → Decides (nat_eq n 0) P
zero_decides n to from = by_parts (nat_eq n 0) to from (Decides-eqb n 0)
