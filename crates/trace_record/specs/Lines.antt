-- What is said of a line that may settle.
use Rattle.std.specs.Prelude.{List, [], ◌∷◌, Option, Some, None, if◌then◌else◌, bytes_eq, codes}
use Rattle.protocol.specs.Script.{Happening, Event, Dump, Settles}
use Rattle.script_lang.specs.declared.lines.LineWhy.TheVariants as why
use Rattle.script_lang.specs.declared.lines.Offence.{Offence}
use Rattle.script_lang.specs.Words.{Word, offence}

-- the first word is `settle`, with which no line begins that is recorded
abbrev pub settle_offence : List Word → Option Offence
settle_offence [] = None
settle_offence (w ∷ ws) = if bytes_eq w.text (codes "settle") then Some (offence w.column why.Word) else None

-- what happens is not settling
abbrev pub IsNoSettling : Option Happening → Type 0
IsNoSettling None = Unit {0}
IsNoSettling (Some (Event e)) = Unit {0}
IsNoSettling (Some (Dump name)) = Unit {0}
IsNoSettling (Some Settles) = ⊥
