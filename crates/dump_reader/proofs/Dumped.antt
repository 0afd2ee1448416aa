-- What was decoded is a dump.
use Rattle.std.proofs.Common.{◌≡◌, ◌<◌, ℕ, List, []}
use Rattle.std.specs.Prelude.{Result, Ok, Err, IfOk, slice_index}
use Rattle.protocol.specs.declared.images.ContextImage.{ContextImage}
use Rattle.protocol.specs.Dumps.{Dumps, Good, read_dump}
use Rattle.protocol.specs.Lawful.{IsLawful}
use Rattle.law_dump_round_trip.proofs.Exact.{bytes_of}
use Rattle.law_dump_round_trip.proofs.Whole.{read_dumps}
use Rattle.dump_reader.specs.declared.fault.DumpFault.{DumpFault}

module _ (bs : List ℕ) (small : (k : ℕ) → slice_index bs k < 256) (n : ℕ) where
  pub dumps_of : (r : Result ContextImage DumpFault) → IfOk r (λ image. read_dump bs ≡ Good image n []) → IfOk r (λ image. Dumps image bs)
  dumps_of (Ok image) h = read_dumps bs (bytes_of bs small) image n [] h
  dumps_of (Err e) h = h

  pub lawful_of : (r : Result ContextImage DumpFault) → IfOk r (λ image. read_dump bs ≡ Good image n []) → IfOk r IsLawful
  lawful_of (Ok image) h = (read_dumps bs (bytes_of bs small) image n [] h).lawful
  lawful_of (Err e) h = h
