-- The members of a script's committee.
use Rattle.std.specs.Prelude.{◌≡◌, List, length, map}
use Rattle.nw_committee.specs.Committee.{equal_members}
use Rattle.nw_committee.specs.declared.member.Key.{Key}
use Rattle.nw_committee.specs.declared.member.Member.{Member}
use Rattle.nw_script.specs.declared.line.CommitteeLine.{CommitteeLine}
use Rattle.nw_script.specs.declared.line.CommitteeLine.TheVariants as lines

-- the members of a committee line: the given number of members of weight 1, or members with the given weights, in order
abbrev pub AreMembersOf : CommitteeLine → List Member → Type 0
AreMembersOf (lines.Equal count) members =
    (keys : List Key) × (members ≡ equal_members keys) × (length keys ≡ count)
AreMembersOf (lines.Weighted weights) members = map (λ m. m.weight) members ≡ weights.items
