-- The parents that blocks lack after a collection.
use Rattle.nw_dag.proofs.Words.{◌≡◌, ◌↔◌, ◌⊎◌, ℕ, ◌<◌, ◌≤◌, List, [], Some, IsSome, ap, arith, inl, inr, Contains, get, cases_lt, Digest, Block, Certificate, Wanted, Pairs, Lacks, Slot, State, raised, IsSound, IsStanding, was_there, is_kept, one_block, contains_none, which, is_there, Stands, IsMet, AreDigestsUpTo}
use Rattle.nw_dag.specs.Lacking.{ReferencesParent, IsReady, IsPromoted, AreLacking, AreUnmet}
use Rattle.nw_dag.specs.Collection.{AreReleased, StandsButLacks}

module _ (s : State) (round : ℕ) (sound : IsSound s) (higher : s.floor < round) (holders : List Digest) (are : AreDigestsUpTo s round holders) where
  abbrev t : State
  t = raised s round

  was_held : (d : Digest) (b : Block) → get t.blocks d ≡ Some b → (get s.blocks d ≡ Some b) × (round ≤ b.round)
  was_held d b at = was_there (λ (x : Block). x.round) round s.blocks d b at

  was_certified : (d : Digest) → IsSome (get t.certificates d) → IsSome (get s.certificates d)
  was_certified d some =
      let c = which (get t.certificates d) some in
      is_there (get s.certificates d) c.0 (was_there (λ (x : Certificate). x.round) round s.certificates d c.0 c.1).0

  -- a digest that stands now stood before
  pub stood : (d : Digest) (b : Block) → IsStanding t d b → IsStanding s d b
  stood d b stands = ((was_held d b stands.0).0, was_certified d stands.1)

  -- a digest that stood still stands, if its block is not below the round
  pub still_stands : (d : Digest) (b : Block) → IsStanding s d b → round ≤ b.round → IsStanding t d b
  still_stands d b stands high =
      let c = which (get s.certificates d) stands.1 in
      let same : b.round ≡ c.0.round = ap (λ (slot : Slot). slot.0) (sound.one_slot d b c.0 stands.0 c.1) in (
        is_kept (λ (x : Block). x.round) round s.blocks d b stands.0 high,
        is_there (get t.certificates d) c.0 (is_kept (λ (x : Certificate). x.round) round s.certificates d c.0 c.1 (omega (arith, same, high))),
      )

  -- a digest that stood still stands, if its block is held
  pub held_stands : (d : Digest) (b : Block) → get t.blocks d ≡ Some b → Stands s d → Stands t d
  held_stands d b at (x, stands) =
      let was = was_held d b at in
      let same : b ≡ x = one_block b x was.0 stands.0 in
      (x, still_stands d x stands (omega (arith, was.1, ap (λ (y : Block). y.round) same)))

  met_before : (w : Wanted) → IsMet t w → IsMet s w
  met_before w (b, stands, author, at) = (b, stood w.digest b stands, author, at)

  met_still : (w : Wanted) → round ≤ w.round → IsMet s w → IsMet t w
  met_still w high (b, stands, author, at) = (b, still_stands w.digest b stands (omega (arith, at, high)), author, at)

  -- the block of a holder belongs to a round up to the new garbage round
  low_holder : (d : Digest) (b : Block) → get s.blocks d ≡ Some b → Contains holders d → b.round ≤ round
  low_holder d b at among = are.only d b among at

  -- a block that names a parent now named it before, and is no holder
  named : (d : Digest) (w : Wanted) → ReferencesParent t d w → ReferencesParent s d w × (Contains holders d → ⊥) × (round ≤ w.round)
  named d w (b, at, above, among) =
      let was = was_held d b at in
      let (r, listed, by) = among in (
        (b, was.0, omega (arith, higher, above), among),
        λ holder. let low = low_holder d b was.0 holder in omega (arith, low, above),
        omega (arith, by.0, above),
      )

  still_names : (d : Digest) (w : Wanted) → ReferencesParent s d w → (Contains holders d → ⊥) → ReferencesParent t d w
  still_names d w (b, at, above, among) apart = elim (cases_lt round b.round) [
    | inl high ↦ (b, is_kept (λ (x : Block). x.round) round s.blocks d b at (omega (arith, high)), high, among)
    | inr low ↦ absurd (apart (are.blocks d b at low))
  ]

  -- the unmet parents
  pub unmet_raised : (old new : Pairs) → AreUnmet s old → AreReleased holders old new → AreUnmet t new
  unmet_raised old new since without d w = (
    λ lacks.
        let both = (without d w).0 lacks in
        let was = (since d w).0 both.0 in
        (still_names d w was.0 both.1, λ met. was.1 (met_before w met)),
    λ (names, unmet).
        let was = named d w names in
        (without d w).1 ((since d w).1 (was.0, λ met. unmet (met_still w was.2 met)), was.1),
  )

  module _ (old new : Pairs) (without : AreReleased holders old new) where
    -- a digest that was ready and still stands is still ready
    pub ready_still : (x : Digest) → Stands t x → IsReady s old x → IsReady t new x
    ready_still x stands ready = (stands, λ w lacks. ready.1 w ((without x w).0 lacks).0)

    -- a ready digest that lacked nothing was ready before
    pub ready_before : (x : Digest) → IsReady t new x → ((w : Wanted) → Lacks old x w → ⊥) → IsReady s old x
    ready_before x ready nothing = ((ready.0.0, stood x ready.0.0 ready.0.1), nothing)

    -- a ready digest that is no holder lacked nothing
    nothing_lacked : (x : Digest) → IsReady t new x → (Contains holders x → ⊥) → (w : Wanted) → Lacks old x w → ⊥
    nothing_lacked x ready apart w lacks = ready.1 w ((without x w).1 (lacks, apart))

    holder_or_not : (x : Digest) → Stands t x → Contains holders x ⊎ (Contains holders x → ⊥)
    holder_or_not x (b, stands) = elim (cases_lt round b.round) [
      | inl high ↦ inr (λ holder. let low = low_holder x b (stood x b stands).0 holder in omega (arith, low, high))
      | inr low ↦ inl (are.blocks x b (stood x b stands).0 low)
    ]

    module _ (due : List Digest) (exactly : (x : Digest) → Contains due x ↔ (Contains holders x × StandsButLacks t old x)) where
      promoted_still : (x : Digest) → Stands t x → IsPromoted s old [] x → IsPromoted t new due x
      promoted_still x stands promoted = (ready_still x stands promoted.0, λ among. let lacks = ((exactly x).0 among).1.1 in promoted.0.1 lacks.0 lacks.1)

      -- a digest that is promoted now lacked nothing
      lacked_nothing : (x : Digest) → IsPromoted t new due x → (w : Wanted) → Lacks old x w → ⊥
      lacked_nothing x promoted w lacks = elim (holder_or_not x promoted.0.0) [
        | inl holder ↦ promoted.1 ((exactly x).1 (holder, (promoted.0.0, (w, lacks))))
        | inr apart ↦ nothing_lacked x promoted.0 apart w lacks
      ]

      -- the parents that are not met or not promoted
      pub lacking_raised : AreLacking s old [] → AreLacking t new due
      lacking_raised far = record {
        each = λ d w names.
            let was = named d w names in
            elim (far.each d w was.0) [
              | inl lacks ↦ inl ((without d w).1 (lacks, was.1))
              | inr (met, promoted) ↦ let now = met_still w was.2 met in inr (now, promoted_still w.digest (now.0, now.1) promoted)
            ];
        only = λ d w lacks.
            let both = (without d w).0 lacks in
            let was = far.only d w both.0 in (
              still_names d w was.0 both.1,
              λ met promoted. was.1 (met_before w met) (ready_before w.digest promoted.0 (lacked_nothing w.digest promoted), contains_none w.digest),
            );
      }

      -- a ready digest was ready before, or is due
      pub ready_cases : (x : Digest) → IsReady t new x → (Contains due x → ⊥) → IsReady s old x
      ready_cases x ready apart = ready_before x ready (lacked_nothing x (ready, apart))
