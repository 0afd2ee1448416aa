-- What an answer says of a refusal.
use Rattle.std.specs.Prelude.{Option, Some, None, Result, Ok, Err}
use Rattle.rdma_types.specs.declared.answers.Refusal.{Refusal}
use Rattle.rdma_types.specs.declared.answers.Refusal.TheVariants as refusal
use Rattle.memory_keys.specs.declared.MemFault.{MemFault}
use Rattle.memory_keys.specs.declared.MemFault.TheVariants as memory
use Rattle.memory_keys.specs.declared.MemFault.TheVariants.{NumberTaken, TooMany, NoPage}
use Rattle.context_core.specs.declared.ContextFault.{ContextFault}
use Rattle.context_core.specs.declared.ContextFault.TheVariants.{Refused, OutOfMemory}

-- why no region was made
abbrev pub fault_of : MemFault → ContextFault
fault_of NumberTaken = Refused refusal.NumberTaken
fault_of TooMany = Refused refusal.TooMany
fault_of NoPage = Refused refusal.NoPage
fault_of memory.OutOfMemory = OutOfMemory

-- a refusal; out of memory is none, and has no cause
abbrev pub told_as : ContextFault → Option Refusal
told_as (Refused r) = Some r
told_as OutOfMemory = None

-- the refusal of an answer; out of memory is none
abbrev pub refusal_of : {T : Type 0} → Result T ContextFault → Option Refusal
refusal_of (Ok x) = None
refusal_of (Err fault) = told_as fault
