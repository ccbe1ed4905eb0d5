-- One more block is put under the digest of its slot.
use Rattle.std.proofs.Common.{◌≡◌, ℕ, ◌+◌, ◌*◌, ◌<◌, Bool, true, false, cond, Some, get_or, refl, ap, sym, ◌∙◌, subst, inl, inr, arith, below_more}
use Rattle.std.specs.FinMap.{FinMap, empty, get, insert, get-empty, get-insert}
use Rattle.std.specs.Ordering.{eq_by_cmp}
use Rattle.std.proofs.lemmas.List.{get_or-replicate}
use Rattle.nw_digest.specs.declared.digest.Digest.{Digest}
use Rattle.nw_codec.specs.declared.block.Block.{Block}
use Rattle.nw_digest.specs.Order.{digest_cmp, Slot}
use Rattle.nw_model.specs.State.{block_slot}
use Rattle.std.proofs.lemmas.Option.{none-some}
use Rattle.nw_model.proofs.Kept.{after_insert, at_insert}
use Rattle.nw_digest.proofs.Maps.{digests_total, same_digest}
use Rattle.samples.specs.Sample.{name_of, AreNamed, AreBases, NameBases, AreNext}

-- the digests of two slots differ in their first byte
pub names_apart : (s t : Slot) → name_of s ≡ name_of t → 16 * s.0 + s.1 ≡ 16 * t.0 + t.1
unfolding name_of
names_apart s t same =
    sym (get_or-replicate 32 0 (16 * s.0 + s.1) 0 (omega arith)) ∙ ap (λ (d : Digest). get_or d.0 0 0) same ∙ get_or-replicate 32 0 (16 * t.0 + t.1) 0 (omega arith)

still : (m : FinMap digest_cmp Block) (k : Digest) (v : Block) (q : Digest) (x : Block) → get m q ≡ Some x → (q ≡ k → ⊥) → get (insert m k v) q ≡ Some x
still m k v q x at apart = by (eq_by_cmp digest_cmp q k) refl
  where
    by : (b : Bool) → eq_by_cmp digest_cmp q k ≡ b → get (insert m k v) q ≡ Some x
    by true is = absurd (apart (same_digest q k is))
    by false is = get-insert digests_total m k v q ∙ ap (λ b. cond b (Some v) (get m q)) is ∙ at

slot_is : (b : Block) (round author : ℕ) → b.round ≡ round → b.author ≡ author → name_of (round, author) ≡ name_of (block_slot b)
slot_is b round author same_round same_author = ap (λ (s : Slot). name_of s) (λ i. (sym same_round i, sym same_author i))

named_more : (m : FinMap digest_cmp Block) (s : Slot) (b : Block) → AreNamed m → name_of s ≡ name_of (block_slot b) → AreNamed (insert m (name_of s) b)
named_more m s b named own d c at = elim (after_insert m (name_of s) b d c at) [
  | inl here ↦ here.0 ∙ own ∙ ap (λ (x : Block). name_of (block_slot x)) here.1
  | inr there ↦ named d c there
]

pub bases_none : AreBases 0 empty
bases_none = record {
  named = λ d b at. absurd (none-some b (sym (get-empty digest_cmp d) ∙ at));
  first = λ d b at. absurd (none-some b (sym (get-empty digest_cmp d) ∙ at));
  held = λ author below. absurd (omega arith);
}

pub bases_more : (n : ℕ) (blocks : FinMap digest_cmp Block) (b : Block) → AreBases n blocks → b.round ≡ 0 → b.author ≡ n → AreBases (n + 1) (insert blocks (name_of (0, n)) b)
bases_more n blocks b bases round author = record {
  named = named_more blocks (0, n) b bases.named (slot_is b 0 n round author);
  first = λ d c at. elim (after_insert blocks (name_of (0, n)) b d c at) [
    | inl here ↦ sym (ap (λ (x : Block). x.round) here.1) ∙ round
    | inr there ↦ bases.first d c there
  ];
  held = below_more Holds n earlier (b, at_insert blocks (name_of (0, n)) b, author, round);
}
  where
    Holds : ℕ → Type 0
    Holds k = (x : Block) × (get (insert blocks (name_of (0, n)) b) (name_of (0, k)) ≡ Some x) × (x.author ≡ k) × (x.round ≡ 0)

    earlier : (k : ℕ) → k < n → Holds k
    earlier k below =
        let old = bases.held k below in
        (old.0, still blocks (name_of (0, n)) b (name_of (0, k)) old.0 old.1 (λ same. let first = names_apart (0, k) (0, n) same in absurd (omega arith)), old.2, old.3)

pub next_one : (n : ℕ) (b : Block) → b.round ≡ 1 → b.author ≡ 0 → NameBases n b.parents → AreNext n (insert empty (name_of (1, 0)) b)
next_one n b round author parents = record {
  named = named_more empty (1, 0) b (λ d c at. absurd (none-some c (sym (get-empty digest_cmp d) ∙ at))) (slot_is b 1 0 round author);
  second = λ d c at. sym (ap (λ (x : Block). x.round) (alone_there d c at)) ∙ round;
  parents = λ d c at. subst (λ (x : Block). NameBases n x.parents) (alone_there d c at) parents;
}
  where
    alone_there : (d : Digest) (c : Block) → get {R = digest_cmp} (insert empty (name_of (1, 0)) b) d ≡ Some c → b ≡ c
    alone_there d c at = elim (after_insert empty (name_of (1, 0)) b d c at) [
      | inl here ↦ here.1
      | inr there ↦ absurd (none-some c (sym (get-empty digest_cmp d) ∙ there))
    ]
