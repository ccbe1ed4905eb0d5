-- The order of places.
use Rattle.nw_rounds.proofs.Words.{◌≡◌, ℕ, refl, subst, nat_cmp, slot_cmp, slots_total, slots_apart}
use Rattle.std.specs.Cmp.{IsTotalOrder}
use Rattle.std.specs.FinMap.{IsAntisymmetric}
use Rattle.std.proofs.lemmas.Cmp.{on_total, then_total, nat_cmp_total}
use Rattle.std.proofs.lemmas.Map.Lookups.{exact_pairs}
use Rattle.nw_rounds.specs.declared.kind.DigestKind.{DigestKind}
use Rattle.nw_rounds.specs.declared.kind.DigestKind.TheVariants.{First, Certified}
use Rattle.nw_rounds.specs.Places.{Place, place_cmp, kind_cmp}

kinds_apart : IsAntisymmetric kind_cmp
kinds_apart First First e = refl
kinds_apart First Certified e = cc
kinds_apart Certified First e = cc
kinds_apart Certified Certified e = refl

abbrev rank : DigestKind → ℕ
rank First = 0
rank Certified = 1

ranked : (s t : DigestKind) → nat_cmp (rank s) (rank t) ≡ kind_cmp s t
ranked First First = refl
ranked First Certified = refl
ranked Certified First = refl
ranked Certified Certified = refl

kinds_total : IsTotalOrder kind_cmp
kinds_total = subst IsTotalOrder (λ i s t. ranked s t i) (on_total rank nat_cmp_total)

pub places_total : IsTotalOrder place_cmp
places_total = then_total (on_total (λ (p : Place). p.0) slots_total) (on_total (λ (p : Place). p.1) kinds_total)

pub places_apart : IsAntisymmetric place_cmp
places_apart = exact_pairs slot_cmp kind_cmp slots_apart kinds_apart
