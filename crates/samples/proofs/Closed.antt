-- Views of sample blocks are closed.
use Rattle.std.proofs.Common.{◌≡◌, ℕ, ◌<◌, ◌≤◌, ◌⊎◌, [], ◌∷◌, Option, Some, None, get_or, refl, ap, sym, ◌∙◌, inl, inr, arith}
use Rattle.std.specs.Option.{option_or}
use Rattle.std.specs.FinMap.{FinMap, get}
use Rattle.nw_digest.specs.declared.digest.Digest.{Digest}
use Rattle.nw_codec.specs.declared.block.Ref.{Ref}
use Rattle.nw_codec.specs.declared.block.Block.{Block}
use Rattle.nw_digest.specs.Order.{digest_cmp, Slot}
use Rattle.nw_model.specs.State.{block_slot}
use Rattle.nw_model.specs.View.{HasParent, IsClosed}
use Rattle.nw_generation.specs.Seen.{union, seen_of}
use Rattle.samples.specs.Sample.{name_of, AreNamed, AreBases, AreNext}
use Rattle.samples.proofs.Bases.{names_apart}
use Rattle.nw_generation.proofs.Unions.{get_latest, get_from_none}

-- a found block is of the later generation or of the older one
of_either : {X : Type 0} (first later : Option X) (x : X) → option_or first later ≡ Some x → (first ≡ Some x) ⊎ (later ≡ Some x)
of_either None later x is = inr is
of_either (Some y) later x is = inl is

of_later : {X : Type 0} (first later : Option X) (x : X) → ((y : X) → first ≡ Some y → ⊥) → later ≡ Some x → option_or first later ≡ Some x
of_later None later x lacks is = is
of_later (Some y) later x lacks is = absurd (lacks y refl)

-- a lookup in a view of one generation
alone : (blocks : FinMap digest_cmp Block) (d : Digest) → get (union (blocks ∷ [])) d ≡ get blocks d
alone blocks d = get_latest [] blocks d ∙ whole (get blocks d)
  where
    whole : (found : Option Block) → option_or found (get (union []) d) ≡ found
    whole None = get_from_none [] d refl
    whole (Some b) = refl

-- a lookup in a view of two generations
both : (older newer : FinMap digest_cmp Block) (d : Digest) → get (union (older ∷ newer ∷ [])) d ≡ option_or (get newer d) (get older d)
both older newer d = get_latest (older ∷ []) newer d ∙ ap (option_or (get newer d)) (alone older d)

-- each block of a view of two generations is of one of them
held_by : (older newer : FinMap digest_cmp Block) (d : Digest) (b : Block) → get (union (older ∷ newer ∷ [])) d ≡ Some b → (get newer d ≡ Some b) ⊎ (get older d ≡ Some b)
held_by older newer d b at = of_either (get newer d) (get older d) b (sym (both older newer d) ∙ at)

pub closed_both : (n : ℕ) (older newer : FinMap digest_cmp Block) (floor : ℕ) → n ≤ 16 → AreBases n older → AreNext n newer → IsClosed (seen_of (older ∷ newer ∷ []) floor).frozen
closed_both n older newer floor few bases next = record {
  parents = λ d b at above. elim (held_by older newer d b at) [
    | inl here ↦ λ k r lt. parent (get_or b.parents k r) b (next.second d b here) (next.parents d b here k r lt)
    | inr there ↦ let first = bases.first d b there in absurd (omega arith)
  ];
  apart = λ d e b c at there kept slots. named d b at ∙ ap (λ (s : Slot). name_of s) slots ∙ sym (named e c there);
}
  where
    named : AreNamed (union (older ∷ newer ∷ []))
    named d b at = elim (held_by older newer d b at) [ inl here ↦ next.named d b here | inr there ↦ bases.named d b there ]

    lacks : (r : Ref) → r.author < n → r.digest ≡ name_of (0, r.author) → (y : Block) → get newer r.digest ≡ Some y → ⊥
    lacks r below is y at =
        let second = next.second r.digest y at in
        let first = names_apart (0, r.author) (block_slot y) (sym is ∙ next.named r.digest y at) in
        absurd (omega arith)

    parent : (r : Ref) (b : Block) → b.round ≡ 1 → (r.author < n) × (r.digest ≡ name_of (0, r.author)) → HasParent (union (older ∷ newer ∷ [])) b.round r
    parent r b round is =
        let base = bases.held r.author is.0 in
        (base.0, both older newer r.digest ∙ of_later (get newer r.digest) (get older r.digest) base.0 (lacks r is.0 is.1) (ap (get older) is.1 ∙ base.1), base.2, omega arith)

pub closed_one : (n : ℕ) (blocks : FinMap digest_cmp Block) (floor : ℕ) → AreBases n blocks → IsClosed (seen_of (blocks ∷ []) floor).frozen
closed_one n blocks floor bases = record {
  parents = λ d b at above. let first = bases.first d b (own d b at) in absurd (omega arith);
  apart = λ d e b c at there kept slots. bases.named d b (own d b at) ∙ ap (λ (s : Slot). name_of s) slots ∙ sym (bases.named e c (own e c there));
}
  where
    own : (d : Digest) (b : Block) → get (union (blocks ∷ [])) d ≡ Some b → get blocks d ≡ Some b
    own d b at = sym (alone blocks d) ∙ at
