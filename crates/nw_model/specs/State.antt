-- The state of a store.
use Rattle.std.specs.Prelude.{ℕ, List, refl}
use Rattle.std.specs.Coded.{Coded, code_by, coded×, coded_ℕ, coded_list}
use Rattle.std.specs.FinMap as map
use Rattle.std.specs.FinMap.{FinMap, empty}
use Rattle.nw_digest.specs.Codes.{coded_digest}
use Rattle.nw_digest.specs.Order.{digest_cmp, Slot, slot_cmp}
use Rattle.nw_digest.specs.declared.digest.Digest.{Digest}
use Rattle.nw_codec.specs.declared.block.Ref.{Ref}
use Rattle.nw_codec.specs.declared.block.Block.{Block}
use Rattle.nw_codec.specs.declared.certificate.Seal.{Seal}
use Rattle.nw_codec.specs.declared.certificate.Certificate.{Certificate}
use Rattle.nw_codec.specs.declared.subject.Subject.{Subject}

-- what the calls so far have left in the store
pub record State : Type 0 where
  -- the held blocks, by digest
  pub blocks : FinMap digest_cmp Block
  -- the certificates, by the digest that each certifies
  pub certificates : FinMap digest_cmp Certificate
  -- the first digest of each slot: that of the one block for which this validator votes
  pub firsts : FinMap slot_cmp Digest
  -- the garbage round: the store keeps and accepts nothing of a lower round
  pub floor : ℕ

-- the opening state: three empty maps, and garbage round 0
abbrev pub opening : State
opening = record { blocks = empty; certificates = empty; firsts = empty; floor = 0 }

-- the slot of a block
abbrev pub block_slot : Block → Slot
block_slot b = (b.round, b.author)

-- the slot of a certificate
abbrev pub certificate_slot : Certificate → Slot
certificate_slot c = (c.round, c.author)

-- the slot of a subject
abbrev pub subject_slot : Subject → Slot
subject_slot q = (q.round, q.author)

-- the code of a reference
abbrev pub coded_ref : Coded Ref
coded_ref = code_by (ℕ × Digest) (coded× coded_ℕ coded_digest) (λ r. (r.author, r.digest)) (λ p. record { author = p.0; digest = p.1 }) (λ _. refl)

-- the code of a block
abbrev pub coded_block : Coded Block
coded_block =
    code_by (ℕ × (ℕ × (List Ref × List (List ℕ)))) (coded× coded_ℕ (coded× coded_ℕ (coded× (coded_list coded_ref) (coded_list (coded_list coded_ℕ)))))
    (λ b. (b.author, (b.round, (b.parents, b.transactions))))
    (λ p. record { author = p.0; round = p.1.0; parents = p.1.1.0; transactions = p.1.1.1 }) (λ _. refl)

-- the code of a vote in a certificate
abbrev pub coded_seal : Coded Seal
coded_seal = code_by (ℕ × List ℕ) (coded× coded_ℕ (coded_list coded_ℕ)) (λ s. (s.signer, s.signature.0)) (λ p. record { signer = p.0; signature = record { 0 = p.1 } }) (λ _. refl)

-- the code of a certificate
abbrev pub coded_certificate : Coded Certificate
coded_certificate =
    code_by (Digest × (ℕ × (ℕ × List Seal))) (coded× coded_digest (coded× coded_ℕ (coded× coded_ℕ (coded_list coded_seal))))
    (λ c. (c.digest, (c.round, (c.author, c.votes))))
    (λ p. record { digest = p.0; round = p.1.0; author = p.1.1.0; votes = p.1.1.1 }) (λ _. refl)

-- the code of a state
abbrev pub coded_state : Coded State
coded_state =
    code_by (FinMap digest_cmp Block × (FinMap digest_cmp Certificate × (FinMap slot_cmp Digest × ℕ)))
    (coded× (map.code coded_digest coded_block) (coded× (map.code coded_digest coded_certificate) (coded× (map.code (coded× coded_ℕ coded_ℕ) coded_digest) coded_ℕ)))
    (λ s. (s.blocks, (s.certificates, (s.firsts, s.floor))))
    (λ p. record { blocks = p.0; certificates = p.1.0; firsts = p.1.1.0; floor = p.1.1.1 }) (λ _. refl)
