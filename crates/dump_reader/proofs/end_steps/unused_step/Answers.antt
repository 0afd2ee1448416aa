use Rattle.std.proofs.Common.{List, ap, sym}
use Rattle.rdma_types.specs.declared.requests.Receive.{Receive}
use Rattle.dump_reader.specs.declared.lists.ReadState.TheVariants as place
use Rattle.dump_reader.specs.Ahead.{more_receives, linked_of, queues_of}
use Rattle.law_dump_round_trip.proofs.Steady.{count_steady}
use Rattle.dump_reader.proofs.Onward.{into, refused}
use Rattle.dump_reader.proofs.Opens.{opens_unused}
use Rattle.dump_reader.proofs.end_steps.unused_step.Goals as goal

pub returns : goal.returns
returns c =
    into c.args.opened.now (place.Unused c.args.head.now c.args.link.now c.args.after) c.args.lists.now c.args.c.now _ _ (opens_unused c.args.opened.now c.args.lists.now c.args.head.now c.args.after c.args.link.now) c.read_unused_count.new.c _ (count_steady _ _ _) c.in_ok-count.ensures.read c.enter_receives.result c.in_ok-count.ensures.passed _ (ap (λ (us : List Receive). more_receives c.args.opened.now c.args.lists.now.domains.items c.args.lists.now.regions.items (queues_of c.args.lists.now) c.args.lists.now.ends.items c.args.after c.args.head.now (linked_of c.args.link.now c.args.lists.now.kept.items) c.args.lists.now.untold.items c.in_ok-count.count us) (sym c.new.ensures.items)) c.enter_receives.ensures

pub returns-in_err-count : goal.returns-in_err-count
returns-in_err-count c =
    refused c.args.opened.now (place.Unused c.args.head.now c.args.link.now c.args.after) c.args.lists.now c.args.c.now _ _ (opens_unused c.args.opened.now c.args.lists.now c.args.head.now c.args.after c.args.link.now) c.read_unused_count.new.c c.in_err-count.field-0.0 c.from_residual.result c.from_residual.ensures.1 c.in_err-count.ensures.read
