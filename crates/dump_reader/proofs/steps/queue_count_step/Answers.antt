use Rattle.std.proofs.Common.{List, map, ap, sym}
use Rattle.dump_reader.specs.declared.heads.PlacedQueue.{PlacedQueue}
use Rattle.dump_reader.specs.declared.lists.ReadState.TheVariants as place
use Rattle.dump_reader.specs.Groups.{placed}
use Rattle.dump_reader.specs.Ahead.{more_queues}
use Rattle.dump_reader.proofs.Later.{limit_steady}
use Rattle.dump_reader.proofs.Onward.{goes, refused}
use Rattle.dump_reader.proofs.Opens.{opens_queue_count}
use Rattle.dump_reader.proofs.steps.queue_count_step.Goals as goal

pub returns : goal.returns
returns c =
    goes c.args.opened.now place.QueueCount c.args.lists.now c.args.c.now _ _ (opens_queue_count c.args.opened.now c.args.lists.now) c.read_count.new.c _ (limit_steady _ _) c.in_ok-count.ensures.read c.enter_queues.result c.in_ok-count.ensures.passed _ (ap (λ (qs : List PlacedQueue). more_queues c.args.opened.now c.args.lists.now.domains.items c.args.lists.now.regions.items c.in_ok-count.count (map placed qs)) (sym c.new.ensures.items)) c.enter_queues.ensures

pub returns-in_err-count : goal.returns-in_err-count
returns-in_err-count c =
    refused c.args.opened.now place.QueueCount c.args.lists.now c.args.c.now _ _ (opens_queue_count c.args.opened.now c.args.lists.now) c.read_count.new.c c.in_err-count.field-0.0 c.from_residual.result c.from_residual.ensures.1 c.in_err-count.ensures.read
