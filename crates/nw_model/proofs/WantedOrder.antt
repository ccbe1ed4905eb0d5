-- The order of wanted parents.
use Rattle.nw_model.proofs.Words.{◌≡◌, ℕ, true, ap, IsTotalOrder, IsAntisymmetric, nat_cmp, eq_by_cmp, on_total, Digest, digest_cmp, digests_apart, digests_total, tie}
use Rattle.std.specs.Ordering.{ordering_then}
use Rattle.std.proofs.lemmas.Cmp.{then_total, nat_cmp_total}
use Rattle.std.proofs.lemmas.Map.Lookups.{exact_unsigned, exact_pairs}
use Rattle.nw_model.specs.declared.wanted.Wanted.{Wanted}
use Rattle.nw_model.specs.Missing.{wanted_cmp}

pub wanted_total : IsTotalOrder wanted_cmp
wanted_total = then_total (on_total (λ (w : Wanted). w.round) nat_cmp_total) (then_total (on_total (λ (w : Wanted). w.author) nat_cmp_total) (on_total (λ (w : Wanted). w.digest) digests_total))

pub wanted_apart : IsAntisymmetric wanted_cmp
wanted_apart a b e =
    ap (λ (f : ℕ × (ℕ × Digest)). let w : Wanted = record { round = f.0; author = f.1.0; digest = f.1.1 } in w)
    (exact_pairs nat_cmp (λ (x y : ℕ × Digest). ordering_then (nat_cmp x.0 y.0) (digest_cmp x.1 y.1)) exact_unsigned (exact_pairs nat_cmp digest_cmp exact_unsigned digests_apart)
    (a.round, (a.author, a.digest)) (b.round, (b.author, b.digest)) e)

-- wanted parents that compare as equal are equal
pub one_wanted : (v w : Wanted) → eq_by_cmp wanted_cmp v w ≡ true → v ≡ w
one_wanted v w e = wanted_apart v w (tie (wanted_cmp v w) e)
