-- Readers of one field of a line, and of fields that stand together (this project's choice).
use Rattle.std.specs.Prelude.{ℕ, Bool, true, false, List, Option, Some, None, if◌then◌else◌, bytes_eq, codes}
use Rattle.rdma_types.specs.declared.names.Name.{Name}
use Rattle.rdma_types.specs.declared.names.ObjName.{ObjName}
use Rattle.rdma_types.specs.declared.requests.Address.{Address}
use Rattle.rdma_types.specs.declared.requests.Terms.{Terms}
use Rattle.rdma_types.specs.declared.rights.Rights.{Rights}
use Rattle.script_lang.specs.declared.lines.LineWhy.TheVariants as why
use Rattle.script_lang.specs.Texts.{greatest_u32, greatest_u64, name_of, object_of, own_name, number_in, mtu_of, hex_number, bytes_of, rights_of, address_of}
use Rattle.script_lang.specs.Words.{Reads, ◌>>=◌, done, a_field, an_option}

-- ---- one word

-- a name
unfoldable pub a_name : Reads Name
a_name = a_field name_of why.Name

-- an object, `context.name`
unfoldable pub an_object : Reads ObjName
an_object = a_field object_of why.Name

-- an object that o's context is to have: its name, or None where its context is another
unfoldable pub an_own : ObjName → Reads (Option Name)
an_own o = do
  other ← an_object
  done (own_name o other)

-- a number from `low` to `high`
unfoldable pub a_number : ℕ → ℕ → Reads ℕ
a_number low high = a_field (number_in low high) why.Number

-- a number of 64 bits, and of 32
abbrev pub a_long : Reads ℕ
a_long = a_number 0 greatest_u64

abbrev pub a_short : Reads ℕ
a_short = a_number 0 greatest_u32

-- the id of a device
abbrev pub a_device : Reads ℕ
a_device = a_number 1 255

-- an MTU
unfoldable pub an_mtu : Reads ℕ
an_mtu = a_field mtu_of why.Number

-- a key or an immediate, of eight hexadecimal digits
unfoldable pub a_key : Reads ℕ
a_key = a_field (hex_number 4) why.Hex

-- a queue pair number, of six hexadecimal digits
unfoldable pub a_queue_pair : Reads ℕ
a_queue_pair = a_field (hex_number 3) why.Hex

-- bytes of 2 to 8,192 hexadecimal digits
unfoldable pub some_bytes : Reads (List ℕ)
some_bytes = a_field bytes_of why.Hex

-- rights
unfoldable pub some_rights : Reads Rights
some_rights = a_field rights_of why.Rights

-- an address
unfoldable pub an_address : Reads Address
an_address = a_field address_of why.Address

-- nothing, where a text is the other
abbrev pub same_text : List ℕ → List ℕ → Option (Unit {0})
same_text text other = if bytes_eq other text then Some tt else None

-- this word
unfoldable pub the_word : List ℕ → Reads (Unit {0})
the_word text = a_field (same_text text) why.BadOption

-- ---- several words

-- the immediate behind `imm`
abbrev pub immediate_if : Bool → Reads (Option ℕ)
immediate_if true = do
  imm ← a_key
  done (Some imm)
immediate_if false = done None

-- `imm` and an immediate, where `imm` stands next
unfoldable pub an_immediate : Reads (Option ℕ)
an_immediate = do
  stands ← an_option (codes "imm")
  immediate_if stands

-- this word, a number behind it, and what follows
abbrev pub labeled_then : List ℕ → ℕ → ℕ → (ℕ → Reads Terms) → Reads Terms
labeled_then label low high more = do
  a ← the_word label
  n ← a_number low high
  more n

-- `mtu` m `psn` own peer `retry` r `rnr` w `reads` n
unfoldable pub some_terms : Reads Terms
some_terms = do
  a ← the_word (codes "mtu")
  mtu ← an_mtu
  b ← the_word (codes "psn")
  own_start ← a_number 0 16777215
  peer_start ← a_number 0 16777215
  c ← the_word (codes "retry")
  retry ← a_number 0 7
  d ← the_word (codes "rnr")
  rnr ← a_number 0 7
  e ← the_word (codes "reads")
  reads ← a_number 1 16
  done (record { mtu = mtu; own_start = own_start; peer_start = peer_start; retry = retry; rnr = rnr; reads = reads })
