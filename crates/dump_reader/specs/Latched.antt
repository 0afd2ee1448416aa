-- Fields of a group that are read one after the other, up to the first fault.
use Rattle.dump_reader.specs.Groups.{came}
use Rattle.std.specs.Prelude.{IfOk, ℕ, ◌≡◌, ◌+◌, ◌<◌, ◌≤◌, Bool, true, false, List, length, Option, Some, None, IfNone, Result, Ok, Err}
use Rattle.protocol.specs.declared.dumps.DumpWhy.{DumpWhy}
use Rattle.protocol.specs.Dumps.{Reading, Reader, Good, Bad, raw, number, any}
use Rattle.dump_reader.specs.declared.cursor.Cursor.{Cursor}
use Rattle.dump_reader.specs.declared.cursor.Offence.{Offence}
use Rattle.dump_reader.specs.declared.fields.Fields.{Fields}

-- a value that was read up to a place, or the fault that came before
abbrev pub reading : {A : Type 0} → A → Option Offence → ℕ → List ℕ → Reading A
reading x None place bytes = Good x place bytes
reading x (Some e) place bytes = Bad e.place e.why

-- the same where the fields stand
abbrev pub at : {A : Type 0} → A → Fields → Reading A
at x f = reading x f.fault f.place f.bytes.now

-- what a reader comes to, unless there was a fault
abbrev pub before : {A : Type 0} → Reader A → Option Offence → ℕ → List ℕ → Reading A
before r None place bytes = r place bytes
before r (Some e) place bytes = Bad e.place e.why

-- the same from where the fields stand
abbrev pub ahead_of : {A : Type 0} → Reader A → Fields → Reading A
ahead_of r f = before r f.fault f.place f.bytes.now

-- no fields of the group were read
pub record Begun (c : Cursor) (f : Fields) : Type 0 where
  pub sound : f.fault ≡ None
  pub place : f.place ≡ c.place
  pub bytes : f.bytes.now ≡ c.bytes.now

-- something was read next, which took some bytes; or there was a fault
pub record Reads {A : Type 0} (r : Reader A) (old new : Fields) (x : A) : Type 0 where
  pub read : ahead_of r old ≡ at x new
  pub passed : IfNone new.fault (old.place < new.place)

-- the same, where it may have taken none
pub record Onward {A : Type 0} (r : Reader A) (old new : Fields) (x : A) : Type 0 where
  pub read : ahead_of r old ≡ at x new
  pub passed : IfNone new.fault (old.place ≤ new.place)

-- a number of a width was read next
pub record Number (width n : ℕ) (old new : Fields) : Type 0 where
  pub read : ahead_of (number width any) old ≡ at n new
  pub passed : IfNone new.fault (old.place < new.place)
  pub start : IfNone new.fault (new.start ≡ old.place)

-- so many bytes were taken
pub record Took (count : ℕ) (field : List ℕ) (old new : Fields) : Type 0 where
  pub sound : old.fault ≡ None
  pub still : new.fault ≡ None
  pub read : raw count old.place old.bytes.now ≡ Good field new.place new.bytes.now
  pub long : length field ≡ count
  pub place : new.place ≡ old.place + count
  pub start : new.start ≡ old.place

-- there was a fault, or there are too few bytes
pub record Stuck (count : ℕ) (old new : Fields) : Type 0 where
  pub fault : Offence
  pub bad : new.fault ≡ Some fault
  pub read : ahead_of (raw count) old ≡ Bad fault.place fault.why

-- the fault after a rule was tested
abbrev pub fault_after : Option Offence → ℕ → DumpWhy → Bool → Option Offence
fault_after (Some e) start why ok = Some e
fault_after None start why true = None
fault_after None start why false = Some (record { place = start; why = why })

-- a rule was tested
pub record Keeps (why : DumpWhy) (ok : Bool) (old new : Fields) : Type 0 where
  pub fault : new.fault ≡ fault_after old.fault old.start why ok
  pub start : new.start ≡ old.start
  pub place : new.place ≡ old.place
  pub bytes : new.bytes.now ≡ old.bytes.now

-- the group was read
pub record EndedWell (f : Fields) (c : Cursor) : Type 0 where
  pub sound : f.fault ≡ None
  pub place : c.place ≡ f.place
  pub bytes : c.bytes.now ≡ f.bytes.now

-- the group came to its value, or to the fault
abbrev pub Ended : {A : Type 0} → Fields → A → Cursor → Result A Offence → Type 0
Ended f x c (Ok y) = (y ≡ x) × EndedWell f c
Ended f x c (Err e) = f.fault ≡ Some e

-- what a group came to
pub record Parsed {A : Type 0} (r : Reader A) (old new : Cursor) (res : Result A Offence) : Type 0 where
  pub read : r old.place old.bytes.now ≡ came res new.place new.bytes.now
  pub passed : IfOk res (λ x. old.place < new.place)
