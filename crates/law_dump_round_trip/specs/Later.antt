-- Faults that bytes which come later can mend.
use Rattle.std.specs.Prelude.{Bool, true, false}
use Rattle.protocol.specs.declared.dumps.DumpWhy.{DumpWhy}
use Rattle.protocol.specs.declared.dumps.DumpWhy.TheVariants as dump_why

-- the bytes ended too early
abbrev pub is_short : DumpWhy → Bool
is_short dump_why.Short = true
is_short _ = false
