-- What the code read, as the rules know it.
use Rattle.std.specs.Prelude.{Option, Some, None, option_map}
use Rattle.command_line.specs.Asked as rules
use Rattle.command_line.specs.declared.serve_words.Asked.{Asked}
use Rattle.command_line.specs.declared.serve_words.Options.{Options}
use Rattle.command_line.specs.declared.serve_words.Reading.{Reading}

abbrev pub told_options : Options → rules.Options
told_options o = record { depot = option_map (λ s. s.now) o.depot; timeout = o.timeout; keep = o.keep }

-- .. if there are any
abbrev pub told : Option Options → Option rules.Options
told None = None
told (Some o) = Some (told_options o)

abbrev pub told_reading : Reading → rules.Reading
told_reading r = record { options = told_options r.options; awaited = r.awaited }

-- .. if there is one
abbrev pub told_if : Option Reading → Option rules.Reading
told_if None = None
told_if (Some r) = Some (told_reading r)

abbrev pub told_asked : Option Asked → Option rules.Asked
told_asked None = None
told_asked (Some a) = Some (record { id = a.id; own = a.own; options = told_options a.options })
