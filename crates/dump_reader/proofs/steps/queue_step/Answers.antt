use Rattle.std.proofs.Common.{List, ap, sym}
use Rattle.rdma_types.specs.declared.requests.Completion.{Completion}
use Rattle.dump_reader.specs.declared.lists.ReadState.TheVariants as place
use Rattle.dump_reader.specs.Ahead.{more_entries, queues_of}
use Rattle.dump_reader.proofs.Later.{queue_head_steady}
use Rattle.dump_reader.proofs.Onward.{into, refused}
use Rattle.dump_reader.proofs.Opens.{opens_queue}
use Rattle.dump_reader.proofs.steps.queue_step.Goals as goal

pub returns : goal.returns
returns c =
    let read = rw c.deref.ensures.value at c.in_ok-head.ensures.read in
    into c.args.opened.now (place.Queue c.args.more) c.args.lists.now c.args.c.now _ _ (opens_queue c.args.opened.now c.args.lists.now c.args.more) c.read_queue.new.c _ (queue_head_steady _) read c.enter_entries.result c.in_ok-head.ensures.passed _ (ap (λ (es : List Completion). more_entries c.args.opened.now c.args.lists.now.domains.items c.args.lists.now.regions.items (queues_of c.args.lists.now) c.args.more c.in_ok-head.head c.in_ok-head.head.count es) (sym c.new.ensures.items)) c.enter_entries.ensures

pub returns-in_err-head : goal.returns-in_err-head
returns-in_err-head c =
    let read = rw c.deref.ensures.value at c.in_err-head.ensures.read in
    refused c.args.opened.now (place.Queue c.args.more) c.args.lists.now c.args.c.now _ _ (opens_queue c.args.opened.now c.args.lists.now c.args.more) c.read_queue.new.c c.in_err-head.field-0.0 c.from_residual.result c.from_residual.ensures.1 read
