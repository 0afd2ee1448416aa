-- A command as the rules know it.
use Rattle.std.specs.Prelude.{◌≤◌, Option, Some, None}
use Rattle.program_rules.specs.Commands.{Play, Bulk, ShowDump, Evacuate, Audit, Record, Node}
use Rattle.program_rules.specs.Commands as rules
use Rattle.program_rules.specs.Mixes.{IsMix}
use Rattle.command_line.specs.declared.command.Command.{Command}
use Rattle.command_line.specs.declared.command.Command.TheVariants as command

abbrev pub known : Command → rules.Command
known command.Play = Play
known (command.Bulk seed mix) = Bulk seed mix
known (command.ShowDump name) = ShowDump name
known (command.Evacuate from targets) = Evacuate from targets.items
known command.Audit = Audit
known command.Record = Record
known (command.Node id own) = Node id own

-- .. if there is one
abbrev pub known_if : Option Command → Option rules.Command
known_if None = None
known_if (Some c) = Some (known c)

-- a command asks for no more
abbrev pub IsInRange : Command → Type 0
IsInRange (command.Bulk seed mix) = IsMix mix
IsInRange (command.Node id own) = 1 ≤ id
IsInRange other = Unit {0}
