-- One step of reading.
use Rattle.std.specs.Prelude.{◌≡◌, ◌++◌, ℕ, ◌+◌, ◌-◌, ◌*◌, ◌<◌, List, length, drop, Bool, true, false, Result, Ok, Err, ⊤}
use Rattle.protocol.specs.declared.dumps.DumpWhy.{DumpWhy}
use Rattle.protocol.specs.declared.images.ContextImage.{ContextImage}
use Rattle.protocol.specs.Dumps.{Reading, Reader, Bad}
use Rattle.law_dump_round_trip.specs.Later.{is_short}
use Rattle.dump_reader.specs.declared.heads.DumpHead.{DumpHead}
use Rattle.dump_reader.specs.declared.lists.Lists.{Lists}
use Rattle.dump_reader.specs.declared.lists.ReadState.{ReadState}
use Rattle.dump_reader.specs.declared.cursor.Cursor.{Cursor}
use Rattle.dump_reader.specs.declared.fault.DumpFault.{DumpFault}
use Rattle.dump_reader.specs.declared.fault.DumpFault.TheVariants.{BadDump, OutOfMemory}
use Rattle.dump_reader.specs.Ahead.{ahead, weight}

-- the bytes that are left behind those that were read
pub record IsLeft (place : ℕ) (bytes : List ℕ) (place' : ℕ) (bytes' : List ℕ) : Type 0 where
  pub left : bytes' ≡ drop (place' - place) bytes
  pub fits : place' + length bytes' ≡ place + length bytes

-- reading went on: whatever bytes come later, the same is read from the new place as from the old
pub record WentOn (before after : Reader ContextImage) (w w' place : ℕ) (bytes : List ℕ) (place' : ℕ) (bytes' : List ℕ) : Type 0 where
  pub alike : (later : List ℕ) → before place (bytes ++ later) ≡ after place' (bytes' ++ later)
  pub left : IsLeft place bytes place' bytes'
  pub less : 2 * length bytes' + w' < 2 * length bytes + w

-- the bytes are bad there; where they ended too early, the lists are as they were
pub record Refused (before : Reading ContextImage) (at : ℕ) (why : DumpWhy) (old new : Lists) : Type 0 where
  pub bad : before ≡ Bad at why
  pub same : is_short why ≡ true → new ≡ old

-- why there is no next place: the bytes are bad, or it was out of memory
abbrev pub Fails : Reading ContextImage → Lists → Lists → DumpFault → Type 0
Fails before old new (BadDump at why) = Refused before at why old new
Fails before old new OutOfMemory = ⊤

-- a step from one place to the next: reading went on, or the bytes are bad, or it was out of memory
abbrev pub Steps : DumpHead → ReadState → Lists → Lists → Cursor → Cursor → Result ReadState DumpFault → Type 0
Steps o state old new c c' (Ok next) = WentOn (ahead o old state) (ahead o new next) (weight state) (weight next) c.place c.bytes.now c'.place c'.bytes.now
Steps o state old new c c' (Err e) = Fails (ahead o old state c.place c.bytes.now) old new e

-- the bytes are bad there, and not for being too few
pub record Barred (before : Reader ContextImage) (at : ℕ) (why : DumpWhy) : Type 0 where
  pub bad : (place : ℕ) (bytes : List ℕ) → before place bytes ≡ Bad at why
  pub enough : is_short why ≡ false

-- the next place, before which nothing is read: the same is read from there, or the bytes are bad, or it was out of memory
abbrev pub Enters : Reader ContextImage → (ReadState → Reader ContextImage) → Result ReadState DumpFault → Type 0
Enters before after (Ok next) = (place : ℕ) (bytes : List ℕ) → before place bytes ≡ after next place bytes
Enters before after (Err (BadDump at why)) = Barred before at why
Enters before after (Err OutOfMemory) = ⊤

-- the bytes are bad there, or it was out of memory
abbrev pub IsFault : {A : Type 0} → Reading A → DumpFault → Type 0
IsFault reading (BadDump place why) = reading ≡ Bad place why
IsFault reading OutOfMemory = ⊤

-- the bytes ended too early
abbrev pub is_wanting : DumpFault → Bool
is_wanting (BadDump place why) = is_short why
is_wanting OutOfMemory = false
