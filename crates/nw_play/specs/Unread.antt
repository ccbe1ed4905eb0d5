-- Faults of a script that was not read to its end.
use Rattle.std.specs.Prelude.{ℕ}
use Rattle.nw_play.specs.declared.fault.PlayFault.{PlayFault}
use Rattle.nw_play.specs.declared.fault.PlayFault.TheVariants as fault

-- the greatest size of a script in bytes
abbrev pub longest_script : ℕ
longest_script = 1_048_576

-- the script is too long, or its reader or an allocation failed before that was known
abbrev pub IsUnread : PlayFault → Type 0
IsUnread fault.TooLong = Unit {0}
IsUnread fault.Read = Unit {0}
IsUnread fault.NoMemory = Unit {0}
IsUnread fault.Write = ⊥
IsUnread (fault.BadLine line) = ⊥
IsUnread (fault.Differs session) = ⊥
