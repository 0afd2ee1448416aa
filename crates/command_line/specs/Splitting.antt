-- The commands as they are told to `clap`, and what is read of its matches.
use Rattle.std.specs.Prelude.{◌≡◌, true, false, List, [], ◌∷◌, Option, Some, None, bytes_eq, codes, if◌then◌else◌}
use Rattle.script_lang.specs.Texts.{◌>>=◌}
use Rattle.program_rules.specs.Commands as rules
use Rattle.clap.specs.Words.{App, Row, Rule, Shape, Text, app_of, first_of, new_app, new_rule, with_rule, with_subcommand}
use Rattle.clap.specs.declared.builder.command.Command.{Command}
use Rattle.clap.specs.declared.builder.command.Command.TheViews.{out-Command}

-- ---- the forms

-- a word that has to stand at its place
abbrev pub place_rule : Text → Rule
place_rule id = record (new_rule id) { required = true }

abbrev pub play_shape : Shape
play_shape = (new_app (codes "play")).top

abbrev pub bulk_shape : Shape
bulk_shape = (with_rule (with_rule (with_rule (with_rule (new_app (codes "bulk")) (place_rule (codes "seed"))) (place_rule (codes "connections"))) (place_rule (codes "messages"))) (place_rule (codes "moves"))).top

abbrev pub show_dump_shape : Shape
show_dump_shape = (with_rule (new_app (codes "show-dump")) (place_rule (codes "name"))).top

abbrev pub audit_shape : Shape
audit_shape = (new_app (codes "audit")).top

abbrev pub record_shape : Shape
record_shape = (new_app (codes "record")).top

abbrev pub node_shape : Shape
node_shape = (with_rule (with_rule (new_app (codes "node")) (place_rule (codes "id"))) (place_rule (codes "address"))).top

-- one of the commands has to be named, no word asks for help, and the program's name is none of the words
abbrev pub bare_app : App
bare_app = record (new_app (codes "jichurpa")) {
  top = record (new_app (codes "jichurpa")).top { no_binary_name = true; disable_help_flag = true; disable_help_subcommand = true; subcommand_required = true };
}

-- the six commands
abbrev pub splitter_app : App
splitter_app = with_subcommand (with_subcommand (with_subcommand (with_subcommand (with_subcommand (with_subcommand bare_app play_shape) bulk_shape) show_dump_shape) audit_shape) record_shape) node_shape

-- the command has this shape, and no argument of it is one of every command
abbrev pub MakesLeaf : Shape → Command → Type 0
MakesLeaf s c = (app_of c ≡ record { top = s; subs = [] }) × ((out-Command c).has_globals ≡ false)

-- ---- the matches

-- `bulk`
abbrev pub bulk_in : List Row → Option rules.Command
bulk_in rows = do
  seed ← first_of (codes "seed") rows
  connections ← first_of (codes "connections") rows
  messages ← first_of (codes "messages") rows
  moves ← first_of (codes "moves") rows
  rules.bulk_of (seed ∷ connections ∷ messages ∷ moves ∷ [])

-- `show-dump`
abbrev pub show_dump_in : List Row → Option rules.Command
show_dump_in rows = do
  name ← first_of (codes "name") rows
  rules.show_dump_of (name ∷ [])

-- `node`
abbrev pub node_in : List Row → Option rules.Command
node_in rows = do
  id ← first_of (codes "id") rows
  address ← first_of (codes "address") rows
  rules.node_of (id ∷ address ∷ [])

-- the command of a subcommand and its values
abbrev pub spelled_by : Text → List Row → Option rules.Command
spelled_by name rows =
    if bytes_eq name (codes "play") then Some rules.Play
    else if bytes_eq name (codes "bulk") then bulk_in rows
    else if bytes_eq name (codes "show-dump") then show_dump_in rows
    else if bytes_eq name (codes "audit") then Some rules.Audit
    else if bytes_eq name (codes "record") then Some rules.Record
    else if bytes_eq name (codes "node") then node_in rows
    else None

-- .. if one was met
abbrev pub spelled_in : Option (Text × List Row) → Option rules.Command
spelled_in None = None
spelled_in (Some p) = spelled_by p.0 p.1
