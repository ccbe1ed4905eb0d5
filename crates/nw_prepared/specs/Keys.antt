-- The keys of prepared members.
use Rattle.std.specs.Prelude.{List, map}
use Rattle.nw_committee.specs.declared.member.Key.{Key}
use Rattle.nw_ed25519.specs.declared.keys.PreparedKey.{PreparedKey}

-- the keys that were prepared, in order
abbrev pub prepared_keys : List PreparedKey → List Key
prepared_keys prepared = map (λ p. p.key) prepared
