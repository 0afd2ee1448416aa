-- Images as bytes, and back, as C is told of them. A result is 0 where it is done, 1 where memory ran out, 2 where an argument is
-- outside of what is allowed, and 3 where the bytes are no dump.
use Rattle.std.specs.Prelude.{ℕ, ◌++◌, List, [], drop, Bool, true, false, ◌==◌, ◌||◌, slice_get, Option, Some, None, option_map, is_none, if◌then◌else◌}
use Rattle.protocol.specs.declared.images.ContextImage.{ContextImage}
use Rattle.protocol.specs.Dumps.{Reading, Good, Bad, dump_bytes, read_dump}
use Rattle.dump_reader.specs.declared.fault.DumpFault.{DumpFault}
use Rattle.dump_reader.specs.declared.fault.DumpFault.TheVariants.{BadDump, OutOfMemory}
use Rattle.context_dump.specs.Pieces.{is_bad}
use Rattle.c_layout.specs.declared.layout.CEnd.{CEnd}
use Rattle.c_layout.specs.declared.layout.CFault.{CFault}
use Rattle.c_layout.specs.Told.{fault_told, image_end_told}
use Rattle.device_c.specs.declared.content.Content.{Content}
use Rattle.device_c.specs.declared.content.Content.TheVariants as content

-- the bytes of a dump from a place on
abbrev pub dump_from : ℕ → ContextImage → List ℕ
dump_from place i = drop place (dump_bytes 2 i)

-- ---- faults

abbrev pub fault_result : DumpFault → ℕ
fault_result (BadDump place why) = 3
fault_result OutOfMemory = 1

abbrev pub fault_after : DumpFault → CFault → CFault
fault_after (BadDump place why) old = fault_told place why
fault_after OutOfMemory old = old

-- ---- what reading bytes comes to, by the result; None where an argument is outside of what is allowed

-- an image is read into a handle that holds nothing
abbrev pub read_into : Option Content → Option (Reading ContextImage) → Option (Reading ContextImage)
read_into image r = if is_none image then r else None

abbrev pub read_result : Bool → Option (Reading ContextImage) → ℕ
read_result no_memory None = 2
read_result no_memory (Some (Good i place rest)) = if no_memory then 1 else 0
read_result no_memory (Some (Bad place why)) = if no_memory then 1 else 3

abbrev pub read_image : ℕ → Option (Reading ContextImage) → Option Content → Option Content
read_image result None old = old
read_image result (Some (Good i place rest)) old = if result == 0 then Some (content.Image i) else old
read_image result (Some (Bad place why)) old = old

abbrev pub read_fault : ℕ → Option (Reading ContextImage) → CFault → CFault
read_fault result None old = old
read_fault result (Some (Good i place rest)) old = old
read_fault result (Some (Bad place why)) old = if result == 3 then fault_told place why else old

-- ---- readers

-- what the bytes that a reader was fed read as; None where there is no reader
abbrev pub reading_of : Content → Option (Reading ContextImage)
reading_of (content.Device d) = None
reading_of (content.Image i) = None
reading_of (content.Reader bytes) = Some (read_dump bytes)

-- the bytes that a reader was fed
abbrev pub fed_to : Content → Option (List ℕ)
fed_to (content.Device d) = None
fed_to (content.Image i) = None
fed_to (content.Reader bytes) = Some bytes

-- .. in a handle
abbrev pub reading_by : Option Content → Option (Reading ContextImage)
reading_by None = None
reading_by (Some c) = reading_of c

abbrev pub fed_by : Option Content → Option (List ℕ)
fed_by None = None
fed_by (Some c) = fed_to c

-- the bytes with more behind them
abbrev pub fed_more : Option (List ℕ) → List ℕ → List ℕ
fed_more None piece = piece
fed_more (Some bytes) piece = bytes ++ piece

-- bytes are at fault otherwise than by being too few
abbrev pub are_bad : List ℕ → Bool
are_bad bytes = is_bad (read_dump bytes)

-- the fault of bytes
abbrev pub reading_fault : Reading ContextImage → CFault → CFault
reading_fault (Good i place rest) old = old
reading_fault (Bad place why) old = fault_told place why

-- the results of a feeding: 2 exactly where there is no reader, and else 0, 1 or 3
abbrev pub is_fed_result : ℕ → Option (List ℕ) → Bool
is_fed_result result None = result == 2
is_fed_result result (Some bytes) = (result == 0) || ((result == 1) || (result == 3))

-- a reader without bytes
abbrev pub emptied : Content → Content
emptied (content.Device d) = content.Device d
emptied (content.Image i) = content.Image i
emptied (content.Reader bytes) = content.Reader []

-- ---- queue pairs of an image

-- queue pair n of an image
abbrev pub end_at : ℕ → ContextImage → Option CEnd
end_at n i = option_map (image_end_told i.name) (slice_get i.ends n)
