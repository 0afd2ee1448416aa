use Rattle.std.specs.Prelude.{◌==◌, ◌||◌}
use Rattle.dump_reader.proofs.Latched.{group, kept}
use Rattle.dump_reader.proofs.machine.read_version.Goals as goal

pub returns : goal.returns
returns c = group _ _ c.of-fields.ensures (kept (λ n. n == 1 || n == 2) c.u16-version.ensures c.keep_or.ensures c.is_version.ensures) c.end.ensures
