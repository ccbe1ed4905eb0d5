-- What looks tell: a state has one look at a slot, and one list of the looks at a round.
use Rattle.nw_model.proofs.Words.{◌≡◌, ◌↔◌, ◌⊎◌, ℕ, ◌≤◌, inl, inr, length, None, Option, ◌+◌, Bool, true, false, Some, refl, sym, ◌∙◌, ap, subst, arith, option_map_or, get, Digest, Slot, which, is_there, Ref}
use Rattle.std.specs.Prelude.{IsTrue}
use Rattle.nw_model.specs.declared.look.Look.{Look}
use Rattle.nw_model.specs.State.{State, block_slot}
use Rattle.nw_model.specs.Sound.{IsSound}
use Rattle.nw_model.specs.Paths.{IsComplete, IsSatisfied}
use Rattle.nw_model.specs.Look.{AreMissed, HasDigest, IsLook, IsNewest, TellsSatisfied}
use Rattle.nw_model.specs.Step.{is_held}
use Rattle.nw_model.proofs.Kept.{certified_is}
use Rattle.nw_model.proofs.OneReply.{one_missing_of}

-- tests of the same fact are equal
same_tests : {P : Type 0} (a b : Bool) → IsTrue a ↔ P → IsTrue b ↔ P → a ≡ b
same_tests true true one other = refl
same_tests true false one other = sym (other.1 (one.0 refl))
same_tests false true one other = one.1 (other.0 refl)
same_tests false false one other = refl

-- a round that has a digest, or is the garbage round, is not above the newest one
not_above : (s : State) (a b : ℕ) → IsNewest s b → (a ≡ s.floor) ⊎ ((author : ℕ) × HasDigest s (a, author)) → a ≤ b
not_above s a b is (inl floor) = subst (λ n. n ≤ b) (sym floor) is.floor
not_above s a b is (inr (author, has)) = is.last (a, author) has

-- so there is one newest round
one_newest : (s : State) (a b : ℕ) → IsNewest s a → IsNewest s b → a ≡ b
one_newest s a b one other =
    let below : a ≤ b = not_above s a b other one.some in
    let above : b ≤ a = not_above s b a one other.some in
    omega arith

-- and one count of missing parents
one_count : (s : State) (found : Option Digest) (a b : ℕ) → AreMissed s found a → AreMissed s found b → a ≡ b
one_count s None a b one other = one ∙ sym other
one_count s (Some d) a b (here, is, count) (there, was, other) = count ∙ ap (λ missing. option_map_or length missing 0) (one_missing_of s d here there is was) ∙ sym other

pub one_look : (s : State) (slot : Slot) (a b : Look) → IsLook s slot a → IsLook s slot b → a ≡ b
one_look s slot a b one other =
    let floor : a.floor ≡ b.floor = one.floor ∙ sym other.floor in
    let first : a.first ≡ b.first = one.first ∙ sym other.first in
    let certified : a.certified ≡ b.certified = one.certified ∙ sym other.certified in
    let stands : a.stands ≡ b.stands = one.stands ∙ ap (λ found. option_map_or (is_held s) found false) certified ∙ sym other.stands in
    let complete : a.complete ≡ b.complete =
    same_tests {P = (d : Digest) × (b.certified ≡ Some d) × IsComplete s d} a.complete b.complete
    (subst (λ found. IsTrue a.complete ↔ ((d : Digest) × (found ≡ Some d) × IsComplete s d)) certified one.complete) other.complete in
    let newest : a.newest ≡ b.newest = one_newest s a.newest b.newest one.newest other.newest in
    let missing : a.missing ≡ b.missing =
    one_count s b.first a.missing b.missing (subst (λ found. AreMissed s found a.missing) first one.missing) other.missing in
    λ i. record { floor = floor i; newest = newest i; first = first i; missing = missing i; certified = certified i; stands = stands i; complete = complete i }

-- in a sound state, a look tells which references of the next round are satisfied
module _ (s : State) (sound : IsSound s) (slot : Slot) (look : Look) (is : IsLook s slot look) where
  held_at : (d : Digest) → look.certified ≡ Some d → look.stands ≡ is_held s d
  held_at d named = is.stands ∙ ap (λ found. option_map_or (is_held s) found false) named

  told : (r : Ref) → r.author ≡ slot.1 → IsSatisfied s (slot.0 + 1) r → (look.certified ≡ Some r.digest) × IsTrue look.stands
  told r same (p, (held, certified), author, next) =
      let (c, at) = which (get s.certificates r.digest) certified in
      let round : p.round ≡ slot.0 = omega arith in
      let by : p.author ≡ slot.1 = author ∙ same in
      let here : ◌≡◌ {A = Slot} (block_slot p) slot = λ i. (round i, by i) in
      let named : look.certified ≡ Some r.digest = is.certified ∙ (certified_is s sound slot r.digest).1 (c, at, sym (sound.one_slot r.digest p c held at) ∙ here) in
      (named, held_at r.digest named ∙ is_there (get s.blocks r.digest) p held)

  tells : (r : Ref) → r.author ≡ slot.1 → look.certified ≡ Some r.digest → IsTrue look.stands → IsSatisfied s (slot.0 + 1) r
  tells r same named stands =
      let (c, at, here) = (certified_is s sound slot r.digest).0 (sym is.certified ∙ named) in
      let (p, held) = which (get s.blocks r.digest) (sym (held_at r.digest named) ∙ stands) in
      let there : block_slot p ≡ slot = sound.one_slot r.digest p c held at ∙ here in
      let round : p.round ≡ slot.0 = ap (λ (q : Slot). q.0) there in
      let next : p.round + 1 ≡ slot.0 + 1 = omega arith in
      (p, (held, is_there (get s.certificates r.digest) c at), ap (λ (q : Slot). q.1) there ∙ sym same, next)

  pub tells_satisfied : TellsSatisfied s slot look
  tells_satisfied r same = (told r same, λ (named, stands). tells r same named stands)
