use Rattle.std.proofs.Common.{List, ap, sym}
use Rattle.protocol.specs.declared.images.EndImage.{EndImage}
use Rattle.dump_reader.specs.declared.lists.ReadState.TheVariants as place
use Rattle.dump_reader.specs.Ahead.{more_ends, queues_of}
use Rattle.dump_reader.proofs.Later.{limit_steady}
use Rattle.dump_reader.proofs.Onward.{into, refused}
use Rattle.dump_reader.proofs.Opens.{opens_end_count}
use Rattle.dump_reader.proofs.end_steps.end_count_step.Goals as goal

pub returns : goal.returns
returns c =
    into c.args.opened.now place.EndCount c.args.lists.now c.args.c.now _ _ (opens_end_count c.args.opened.now c.args.lists.now) c.read_count.new.c _ (limit_steady _ _) c.in_ok-count.ensures.read c.enter_ends.result c.in_ok-count.ensures.passed _ (ap (λ (es : List EndImage). more_ends c.args.opened.now c.args.lists.now.domains.items c.args.lists.now.regions.items (queues_of c.args.lists.now) c.in_ok-count.count es) (sym c.new.ensures.items)) c.enter_ends.ensures

pub returns-in_err-count : goal.returns-in_err-count
returns-in_err-count c =
    refused c.args.opened.now place.EndCount c.args.lists.now c.args.c.now _ _ (opens_end_count c.args.opened.now c.args.lists.now) c.read_count.new.c c.in_err-count.field-0.0 c.from_residual.result c.from_residual.ensures.1 c.in_err-count.ensures.read
