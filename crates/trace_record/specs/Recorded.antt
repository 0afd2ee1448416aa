-- How far a script is recorded, beside a world that keeps the last datagrams.
use Rattle.std.specs.Prelude.{ℕ, ◌≡◌, ◌+◌, ◌++◌, List, Option, Ok}
use Rattle.protocol.specs.Script.{Happening}
use Rattle.protocol.specs.State.{World}
use Rattle.packetless_machine.specs.Machine.{Machine}
use Rattle.law_kept_datagrams.specs.Alike.{with_kept_datagrams}
use Rattle.law_traces.specs.Said.{AreShort}
use Rattle.law_simulation.specs.Stands.{Stands}
use Rattle.trace_rules.specs.Playing.{IsRecorded}
use Rattle.trace_rules.specs.Recording.{Written, line_steps, machine_past, recorded_from, recorded_of, recorded_text, traced_from, traced_of, world_past}
use Rattle.run_traces.specs.declared.trace_audit.verdicts.Verdict.TheVariants.{Legal}
use Rattle.run_traces.specs.Traces.{Traced, trace_of}
use Rattle.run_traces.specs.Verdicts.{verdict_of}

-- the whole world and the machine come to where a line leads, what is kept of that world is left, and what is recorded of the
-- line stands behind what was written; the numbers of its inner steps have 32 bits
pub record IsLineRecorded (w : World) (m : Machine) (bs : List ℕ) (o : Option Happening) (next : World) (m' : Machine) (old new : List ℕ) : Type 0 where
  pub left : next ≡ with_kept_datagrams (world_past w o)
  pub machine : m' ≡ machine_past w m o
  pub stands : Stands (world_past w o) (machine_past w m o)
  pub text : new ≡ old ++ recorded_text w m bs o
  pub short : AreShort (line_steps w m o)

-- the numbers of the inner steps of a whole script have 32 bits, where those of the lines to come have
abbrev pub AreShortBefore : List ℕ → World → Machine → ℕ → List (List ℕ) → Type 0
AreShortBefore script w m number rest =
    (all ls : List Written) → recorded_of script ≡ Ok all → recorded_from rest (number + 1) ≡ Ok ls → AreShort (traced_from w m ls) → AreShort (traced_of all)

-- where `number` lines of a script were read and `rest` are to come: the world is what is kept of a whole one, which stands for
-- the machine's state, the lines to come say how the whole is recorded, and the numbers of the inner steps so far have 32 bits
pub record IsRecordedTo (script done : List ℕ) (w : World) (m : Machine) (number : ℕ) (rest : List (List ℕ)) : Type 0 where
  pub whole : World
  pub left : w ≡ with_kept_datagrams whole
  pub stands : Stands whole m
  pub recorded : IsRecorded script done whole m number rest
  pub short : AreShortBefore script whole m number rest

-- the text is a trace, and an audit finds its steps a run of the machine
pub record IsLegalText (text : List ℕ) : Type 0 where
  pub steps : List Traced
  pub says : trace_of text ≡ Ok steps
  pub verbs : ℕ
  pub inner : ℕ
  pub finds : verdict_of steps ≡ Legal verbs inner
