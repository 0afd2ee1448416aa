-- What is known after a field was read.
use Rattle.std.specs.Prelude.{ℕ, ◌≡◌, List}
use Rattle.protocol.specs.declared.dumps.DumpWhy.{DumpWhy}
use Rattle.protocol.specs.Bytes.{big_number}
use Rattle.protocol.specs.Dumps.{Good, Bad, after, raw, name_field, judged_name, is_magic, magic}
use Rattle.rdma_types.specs.declared.names.Name.{Name}

-- the number of that width at a place is n
pub record IsNext (width n place : ℕ) (bytes : List ℕ) (place' : ℕ) (bytes' : List ℕ) : Type 0 where
  pub field : List ℕ
  pub read : raw width place bytes ≡ Good field place' bytes'
  pub spelled : big_number field ≡ n

-- there are too few bytes for it
pub record IsShort (width place : ℕ) (bytes : List ℕ) (at : ℕ) (why : DumpWhy) : Type 0 where
  pub read : raw width place bytes ≡ Bad at why

-- the text at a place
pub record IsText (text : List ℕ) (place : ℕ) (bytes : List ℕ) (place' : ℕ) (bytes' : List ℕ) : Type 0 where
  pub read : (seen : List Name) → name_field seen place bytes ≡ judged_name place seen text place' bytes'

-- there are too few bytes for a text
pub record IsShortText (place : ℕ) (bytes : List ℕ) (at : ℕ) (why : DumpWhy) : Type 0 where
  pub read : (seen : List Name) → name_field seen place bytes ≡ Bad at why

-- the first eight bytes are those of a dump
pub record IsMagic (place : ℕ) (bytes : List ℕ) (place' : ℕ) (bytes' : List ℕ) : Type 0 where
  pub read : after (raw 8 place bytes) is_magic ≡ Good magic place' bytes'

-- they are not
pub record IsNoMagic (place : ℕ) (bytes : List ℕ) (at : ℕ) (why : DumpWhy) : Type 0 where
  pub read : after (raw 8 place bytes) is_magic ≡ Bad at why
