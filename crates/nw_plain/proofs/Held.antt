-- The state after one more block or certificate.
use Rattle.nw_plain.proofs.Words.{◌≡◌, true, false, FinMap, insert, Digest, Block, Certificate, digest_cmp, slot_cmp, State, block_slot}
use Rattle.nw_model.specs.Step.{with_block, with_certificate}

pub held : (s : State) (blocks : FinMap digest_cmp Block) (d : Digest) (b : Block) → blocks ≡ insert s.blocks d b → record s { blocks = blocks } ≡ with_block s d b false
held s blocks d b e = λ i. record s { blocks = e i }

pub held_first : (s : State) (blocks : FinMap digest_cmp Block) (firsts : FinMap slot_cmp Digest) (d : Digest) (b : Block)
    → blocks ≡ insert s.blocks d b → firsts ≡ insert s.firsts (block_slot b) d → record s { blocks = blocks; firsts = firsts } ≡ with_block s d b true
held_first s blocks firsts d b e f = λ i. record s { blocks = e i; firsts = f i }

pub held_certificate : (s : State) (certificates : FinMap digest_cmp Certificate) (c : Certificate) → certificates ≡ insert s.certificates c.digest c → record s { certificates = certificates } ≡ with_certificate s c
held_certificate s certificates c e = λ i. record s { certificates = e i }
