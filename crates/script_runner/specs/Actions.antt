-- What an action is in the rules.
use Rattle.std.specs.Prelude.{Option, Some, None}
use Rattle.protocol.specs.Script.{Happening, Event, Dump, Settles}
use Rattle.script_runner.specs.declared.actions.Action.{Action}
use Rattle.script_runner.specs.declared.actions.Action.TheVariants as action

-- what happens by an action
abbrev pub happening_of : Action → Happening
happening_of (action.Event e) = Event e
happening_of (action.Dump name) = Dump name
happening_of action.Settle = Settles

-- .. if there is one
abbrev pub happening_by : Option Action → Option Happening
happening_by None = None
happening_by (Some a) = Some (happening_of a)
