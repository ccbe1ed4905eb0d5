-- The code of a digest.
use Rattle.std.specs.Prelude.{ℕ, List, refl}
use Rattle.std.specs.Coded.{Coded, code_by, coded_ℕ, coded_list}
use Rattle.nw_digest.specs.declared.digest.Digest.{Digest}

-- digests with equal codes are equal
abbrev pub coded_digest : Coded Digest
coded_digest = code_by (List ℕ) (coded_list coded_ℕ) (λ d. d.0) (λ b. record { 0 = b }) (λ _. refl)
