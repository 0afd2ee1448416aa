use Rattle.std.proofs.Common.{rules}
use Rattle.std.specs.Prelude.{◌||◌, ◌==◌}
use Rattle.dump_reader.proofs.Latched.{kept}
use Rattle.dump_reader.proofs.fields.Fields.u32_if.Goals as goal

pub returns : goal.returns
returns c = kept (λ n. c.args.may_be || n == 0) c.u32-n.ensures c.keep.ensures (search rules)
