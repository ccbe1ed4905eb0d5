-- The call and the committee of a command.
use Rattle.std.specs.Prelude.{Option, Some, None, List}
use Rattle.nw_committee.specs.declared.member.Member.{Member}
use Rattle.nw_model.specs.Checks.{digest_of}
use Rattle.nw_model.specs.declared.call.Call.{Call}
use Rattle.nw_model.specs.declared.call.Call.TheVariants as call
use Rattle.nw_book.specs.declared.command.Command.{Command}
use Rattle.nw_book.specs.declared.command.Command.TheVariants as command

-- the committee under which the command's block or certificate was checked, if it has one
abbrev pub committee_of : {S : Type 0} → Command S → Option (List Member)
committee_of (command.Write b) = Some b.now.committee
committee_of (command.Certify c) = Some c.now.committee
committee_of other = None

-- the call of a command: a block is written under its digest
abbrev pub call_of : {S : Type 0} → Command S → Call
call_of (command.Write b) = call.Write (digest_of b.now.block) b.now.block
call_of (command.Certify c) = call.Certify c.now.certificate
call_of (command.Certificate d) = call.Certificate d
call_of (command.Read d) = call.Read d
call_of (command.Collect round) = call.Collect round
call_of (command.Missing most) = call.Missing most
call_of (command.MissingOf d) = call.MissingOf d
call_of command.Status = call.Status

-- the call is not a causal read
abbrev pub IsNoCausalRead : Call → Type 0
IsNoCausalRead (call.Causal d) = ⊥
IsNoCausalRead other = Unit {0}
