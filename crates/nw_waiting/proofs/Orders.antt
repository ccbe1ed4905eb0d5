-- The order of pairs.
use Rattle.nw_waiting.proofs.Words.{◌≡◌, ◌&&◌, sym, IsTotalOrder, eq_by_cmp, digest_cmp, wanted_cmp, digests_total, wanted_apart, wanted_total}
use Rattle.std.specs.Cmp.{tied_then}
use Rattle.std.specs.FinMap.{IsAntisymmetric}
use Rattle.std.proofs.lemmas.Cmp.{on_total, then_total}
use Rattle.std.proofs.lemmas.Map.Lookups.{exact_pairs}
use Rattle.nw_digest.proofs.Maps.{digests_apart}
use Rattle.nw_waiting.specs.Pairs.{Pair, pair_cmp}

pub pairs_total : IsTotalOrder pair_cmp
pairs_total = then_total (on_total (λ (p : Pair). p.0) wanted_total) (on_total (λ (p : Pair). p.1) digests_total)

pub pairs_apart : IsAntisymmetric pair_cmp
pairs_apart = exact_pairs wanted_cmp digest_cmp wanted_apart digests_apart

-- pairs compare as equal exactly when both parts do
pub pair_tied : (p q : Pair) → eq_by_cmp pair_cmp p q ≡ (eq_by_cmp wanted_cmp p.0 q.0 && eq_by_cmp digest_cmp p.1 q.1)
pair_tied p q = sym (tied_then (wanted_cmp p.0 q.0) (digest_cmp p.1 q.1))
