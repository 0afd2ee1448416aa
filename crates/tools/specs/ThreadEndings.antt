-- How a command that runs threads ends: the line that it writes under each status (this project's choice).
use Rattle.std.specs.Prelude.{◌≡◌, ◌⊎◌, ℕ, List, Option, Result, Ok, Err, codes}
use Rattle.tools.specs.Endings.{EndsBy, done, no_memory}
use Rattle.thread_plan.specs.declared.plan.PlanFault.{PlanFault}
use Rattle.thread_plan.specs.declared.plan.PlanFault.TheVariants as fault

-- the status where neither the threads' run nor the caller's own is as planned
abbrev pub not_as_planned : ℕ
not_as_planned = 10

-- the status of why there is no line, and what is written of it
abbrev pub fault_status : PlanFault → ℕ
fault_status fault.OutOfMemory = no_memory
fault_status fault.NotAsPlanned = not_as_planned

abbrev pub fault_text : PlanFault → List ℕ
fault_text fault.OutOfMemory = codes "out of memory\n"
fault_text fault.NotAsPlanned = codes "not as planned\n"

-- the same of a line, or of why there is none
abbrev pub status_of : Result (List ℕ) PlanFault → ℕ
status_of (Ok line) = done
status_of (Err why) = fault_status why

abbrev pub text_of : Result (List ℕ) PlanFault → List ℕ
text_of (Ok line) = line
text_of (Err why) = fault_text why

-- what is written under a status, where the line of a run is such a one
abbrev pub IsTextOf : (List ℕ → Type 0) → ℕ → List ℕ → Type 0
IsTextOf IsLine status text =
    ((status ≡ done) × IsLine text)
    ⊎ ((status ≡ no_memory) × (text ≡ codes "out of memory\n"))
    ⊎ ((status ≡ not_as_planned) × (text ≡ codes "not as planned\n"))

-- how a run of the command ends, where its line is such a one
abbrev pub EndsRun : (List ℕ → Type 0) → Option (List ℕ) → Option (List ℕ) → ℕ → ℕ → ℕ → Type 0
EndsRun IsLine = EndsBy (IsTextOf IsLine)
