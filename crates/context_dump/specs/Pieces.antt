-- A dump that is read by pieces.
use Rattle.std.specs.Prelude.{ℕ, ◌≡◌, List, ◌++◌, Bool, true, false, not, Result, Ok, Err, Option, Some, None, if◌then◌else◌}
use Rattle.protocol.specs.declared.dumps.DumpWhy.{DumpWhy}
use Rattle.protocol.specs.Dumps.{Reading, Good, Bad, read_dump}
use Rattle.law_dump_round_trip.specs.Later.{is_short}
use Rattle.dump_reader.specs.declared.fault.DumpFault.{DumpFault}
use Rattle.dump_reader.specs.declared.fault.DumpFault.TheVariants.{BadDump, OutOfMemory}
use Rattle.dump_reader.specs.declared.cursor.Offence.{Offence}

-- bytes are at fault otherwise than by being too few
abbrev pub is_bad : {A : Type 0} → Reading A → Bool
is_bad (Good x place rest) = false
is_bad (Bad place why) = not (is_short why)

-- more bytes were taken, and none is at fault
pub record IsTaken (old piece new : List ℕ) : Type 0 where
  pub bytes : new ≡ old ++ piece
  pub sound : is_bad (read_dump new) ≡ false

-- the bytes are at fault, and the reader keeps the fault
pub record IsRefused (old piece new : List ℕ) (place : ℕ) (why : DumpWhy) : Type 0 where
  pub bad : is_short why ≡ false
  pub here : read_dump (old ++ piece) ≡ Bad place why
  pub ever : read_dump new ≡ Bad place why

-- it was out of memory, and the reader is as before
pub record IsAsBefore (old new : List ℕ) : Type 0 where
  pub bytes : new ≡ old
  pub sound : is_bad (read_dump old) ≡ false

-- what feeding a piece comes to, to a reader of the bytes before
abbrev pub Feeds : List ℕ → List ℕ → List ℕ → Result (Unit {0}) DumpFault → Type 0
Feeds old piece new (Ok u) = IsTaken old piece new
Feeds old piece new (Err (BadDump place why)) = IsRefused old piece new place why
Feeds old piece new (Err OutOfMemory) = IsAsBefore old new

-- the fault that a reader of these bytes keeps
abbrev pub Keeps : List ℕ → Option Offence → Type 0
Keeps bytes None = is_bad (read_dump bytes) ≡ false
Keeps bytes (Some e) = (read_dump bytes ≡ Bad e.place e.why) × (is_short e.why ≡ false)

-- reading goes on where bytes were too few, or a dump is whole
abbrev pub goes_on : Result (Unit {0}) DumpFault → Bool
goes_on (Ok u) = true
goes_on (Err (BadDump place why)) = is_short why
goes_on (Err OutOfMemory) = false

-- the fault, but where the bytes were too few
abbrev pub unless_short : ℕ → DumpWhy → Result (Unit {0}) DumpFault
unless_short place why = if is_short why then Ok tt else Err (BadDump place why)

-- the fault that lasts
abbrev pub fault_in : Result (Unit {0}) DumpFault → Option Offence
fault_in (Ok u) = None
fault_in (Err (BadDump place why)) = Some (record { place = place; why = why })
fault_in (Err OutOfMemory) = None
