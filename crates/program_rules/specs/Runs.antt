-- A run of the program: what it is given and what it leaves, where that is told.
use Rattle.std.specs.Prelude.{ℕ, ◌≡◌, ◌≤◌, List, Option, Some}
use Rattle.host_ports.specs.Streams.{Puts, TakesAll, TakesCount}
use Rattle.node_rules.specs.Told.{Contents}
use Rattle.program_rules.specs.Commands.{Audit, Command, Evacuate, Node, Play, Record, ShowDump, command_of}

pub record Run : Type 0 where
  pub words : List (List ℕ)  -- without the program's name
  pub left : Option (List ℕ)  -- what is to be read, before and after
  pub left_after : Option (List ℕ)
  pub input_faults : ℕ  -- how many faults the input counted, before and after
  pub input_faults_after : ℕ
  pub before : Contents  -- what link, clock, depot and output tell, and how many faults each counted, before and after
  pub after : Contents

-- its command, if its words are of one
abbrev pub command : Run → Option Command
command r = command_of r.words

-- bytes of an input at most
abbrev pub input_limit : ℕ
input_limit = 1048576

-- that is what it wrote
abbrev pub Writes : Run → List ℕ → Type 0
Writes r text = Puts r.before.written r.after.written text

-- that is all that was to be read, and it read it
abbrev pub ReadsAll : Run → List ℕ → Type 0
ReadsAll r text = TakesAll r.left r.left_after text

-- no more than the limit was taken of the input
pub record TakesFew (r : Run) : Type 0 where
  pub count : ℕ
  pub short : count ≤ input_limit
  pub read : TakesCount r.left r.left_after count

-- the line was written whole, and all else is as it was
pub record WritesLine (line : List ℕ) (before after : Contents) : Type 0 where
  pub written : Puts before.written after.written line
  pub others : after ≡ record before { written = after.written }

-- ---- what a command does not use

-- the input is read for these commands
abbrev pub ReadsInput : Option Command → Type 0
ReadsInput (Some Play) = Unit {0}
ReadsInput (Some (Evacuate from targets)) = Unit {0}
ReadsInput (Some Audit) = Unit {0}
ReadsInput (Some Record) = Unit {0}
ReadsInput (Some (Node id own)) = Unit {0}
ReadsInput other = ⊥

-- .. and for no other
abbrev pub KeepsInput : Run → Option Command → Type 0
KeepsInput r (Some Play) = Unit {0}
KeepsInput r (Some (Evacuate from targets)) = Unit {0}
KeepsInput r (Some Audit) = Unit {0}
KeepsInput r (Some Record) = Unit {0}
KeepsInput r (Some (Node id own)) = Unit {0}
KeepsInput r other = r.left_after ≡ r.left

-- link and clock are used for this command
abbrev pub UsesLink : Option Command → Type 0
UsesLink (Some (Node id own)) = Unit {0}
UsesLink other = ⊥

-- the depot is used for these
abbrev pub UsesDepot : Option Command → Type 0
UsesDepot (Some (ShowDump name)) = Unit {0}
UsesDepot (Some (Node id own)) = Unit {0}
UsesDepot other = ⊥

-- but for a node, no command changes more than what was written and the counts of faults
abbrev pub KeepsOutside : Run → Option Command → Type 0
KeepsOutside r (Some (Node id own)) = Unit {0}
KeepsOutside r other = r.after ≡ record r.before { written = r.after.written; faults = r.after.faults }

-- what the command does not use is as it was
pub record KeepsUnused (r : Run) : Type 0 where
  pub input : KeepsInput r (command r)
  pub outside : KeepsOutside r (command r)
