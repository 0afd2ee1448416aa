-- What a control is to give, line after line.
use Rattle.std.specs.Prelude.{◌≡◌, List, [], ◌∷◌, drop, Option, None, Some}
use Rattle.host_ports.specs.declared.control.Heard.{Heard}
use Rattle.host_ports.specs.declared.control.Heard.TheVariants.{Ended}

-- the first of what is to come; behind the last is the end
abbrev pub first_heard : List Heard → Heard
first_heard [] = Ended
first_heard (h ∷ hs) = h

-- that is what a control gives: the first of what is to come, which it takes away, where that is told
abbrev pub GivesNext : Option (List Heard) → Option (List Heard) → Heard → Type 0
GivesNext None new got = new ≡ None
GivesNext (Some to_come) new got = (got ≡ first_heard to_come) × (new ≡ Some (drop 1 to_come))
