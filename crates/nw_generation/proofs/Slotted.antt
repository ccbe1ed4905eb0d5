-- The blocks of slots are those of the entries.
use Rattle.nw_generation.proofs.Words.{◌≡◌, ℕ, ◌<◌, true, List, [], ◌∷◌, ◌++◌, Some, cond, length, get_or, ap, sym, ◌∙◌, subst, arith, Less, is_eq, bytes_eq, Digest, Block, digest_cmp, same_digest}
use Rattle.std.proofs.Common.{zero, suc}
use Rattle.std.proofs.lemmas.List.Elements.{All-append, All-cons, All-nil}
use Rattle.nw_trie.proofs.Inserts.{digest_equal}
use Rattle.nw_generation.specs.declared.slots.SlottedBlock.{SlottedBlock}
use Rattle.nw_generation.specs.Entries.{Ascend, ComesBeforeAll, under}
use Rattle.nw_generation.specs.Slots.{AreSlotsOf}
use Rattle.nw_generation.proofs.Searches.{Entries, head_below, is_tie, past, tail_ascends}

below_at : (d : Digest) (es : Entries) (i : ℕ) (e : Digest × Block) → ComesBeforeAll d es → i < length es → digest_cmp d (get_or es i e).0 ≡ Less
below_at d [] i e below within = absurd (omega (arith, within))
below_at d (x ∷ es) zero e below within = below.0
below_at d (x ∷ es) (suc i) e below within = below_at d es i e below.1 (omega (arith, within))

-- each entry is found under its digest
found_each : (es : Entries) (i : ℕ) (e : Digest × Block) → Ascend es → i < length es → under es (get_or es i e).0 ≡ Some (get_or es i e).1
found_each [] i e ascend within = absurd (omega (arith, within))
found_each (x ∷ es) zero e ascend within = ap (λ o. cond (is_eq o) (Some x.1) (under es x.0)) (digest_equal x.0)
found_each (x ∷ es) (suc i) e ascend within =
    ap (λ t. cond t (Some x.1) (under es (get_or es i e).0)) (past (get_or es i e).0 x.0 (below_at x.0 es i e (head_below x es ascend) (omega (arith, within))))
    ∙ found_each es i e (tail_ascends x es ascend) (omega (arith, within))

-- one more slot, for an entry
pub among_more : (slots : List SlottedBlock) (es : Entries) (i : ℕ) (e : Digest × Block) (s : SlottedBlock) → AreSlotsOf slots es → Ascend es → i < length es → e ≡ get_or es i e → s.digest ≡ e.0 → s.block ≡ e.1 → AreSlotsOf (slots ++ s ∷ []) es
among_more slots es i e s are ascend within is digest block =
    let at : under es e.0 ≡ Some e.1 = subst (λ (x : Digest × Block). under es x.0 ≡ Some x.1) (sym is) (found_each es i e ascend within) in
    All-append (λ (t : SlottedBlock). under es t.digest ≡ Some t.block) slots (s ∷ []) are
    (All-cons (λ (t : SlottedBlock). under es t.digest ≡ Some t.block) s [] (ap (under es) digest ∙ at ∙ ap Some (sym block)) (All-nil _))

-- a slot with the digest has the block under the digest
pub slot_answers : (slots : List SlottedBlock) (es : Entries) (place : ℕ) (s : SlottedBlock) (d : Digest) → AreSlotsOf slots es → place < length slots → s ≡ get_or slots place s → true ≡ bytes_eq d.0 s.digest.0 → under es d ≡ Some s.block
slot_answers slots es place s d are within is same =
    ap (under es) (same_digest d s.digest (ap is_eq (sym (is_tie d s.digest same)))) ∙ subst (λ (x : SlottedBlock). under es x.digest ≡ Some x.block) (sym is) (are place s within)
