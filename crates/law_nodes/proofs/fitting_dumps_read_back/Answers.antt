use Rattle.std.proofs.Common.{[], refl}
use Rattle.protocol.specs.Dumps.{dump_bytes}
use Rattle.node_rules.specs.Lines.{version}
use Rattle.law_nodes.proofs.fitting_dumps_read_back.Goals as goal

pub returns : goal.returns
returns c image lawful fits =
    let read = c.what_is_written_reads_back.ensures image (dump_bytes version image) (record { version = version; known = refl; lawful = lawful; bytes = refl }) fits in
    (read.0, [], read.1)
