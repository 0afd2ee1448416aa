-- The text of what is recorded reads back as its steps.
use Rattle.std.specs.Prelude.{ℕ, ◌≡◌, ◌<◌, ◌^◌, List, [], ◌∷◌, Ok}
use Rattle.packetless_machine.specs.declared.steps.MachineStep.{MachineStep}
use Rattle.packetless_machine.specs.declared.steps.MachineStep.TheVariants as steps
use Rattle.run_traces.specs.Traces.{Traced, Spoken, Made, trace_of}
use Rattle.trace_rules.specs.Recording.{Written, recorded_of, trace_text, traced_of}

-- the numbers of an inner step have the 32 bits that a line of a trace has for them
abbrev pub IsShort : MachineStep → Type 0
IsShort (steps.Run q n) = n < 2 ^ 32
IsShort (steps.Offer q i off n) = (i < 2 ^ 32) × (off < 2 ^ 32) × (n < 2 ^ 32)
IsShort (steps.Land q o) = o < 2 ^ 32
IsShort (steps.Known q bytes) = bytes < 2 ^ 32
IsShort other = Unit {0}

-- .. of each inner step that is recorded
abbrev pub AreShort : List Traced → Type 0
AreShort [] = Unit {0}
AreShort (Spoken v lines ∷ ts) = AreShort ts
AreShort (Made s ∷ ts) = IsShort s × AreShort ts

-- where the numbers of the inner steps have 32 bits, the trace of a script is in the grammar, and says the steps of the run
abbrev pub RecordsAreSaid : Type 0
RecordsAreSaid = (script : List ℕ) (ls : List Written) → recorded_of script ≡ Ok ls → AreShort (traced_of ls) → trace_of (trace_text ls) ≡ Ok (traced_of ls)
