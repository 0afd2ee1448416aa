use Rattle.std.proofs.Common.{refl}
use Rattle.dump_reader.specs.Ahead.{may_be_untold}
use Rattle.dump_reader.proofs.Latched.{group, counted}
use Rattle.dump_reader.proofs.end_steps.read_untold_count.Goals as goal

pub returns : goal.returns
returns c = group _ _ c.of-fields.ensures (counted c.args.depth (may_be_untold c.args.link.now) c.u16-count.ensures c.keep_or.ensures c.keep.ensures refl c.untold_rule.ensures) c.end.ensures
