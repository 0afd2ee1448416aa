use Rattle.std.proofs.Common.{List, ap, sym}
use Rattle.rdma_types.specs.declared.requests.Completion.{Completion}
use Rattle.dump_reader.specs.declared.lists.ReadState.TheVariants as place
use Rattle.dump_reader.specs.Ahead.{more_entries, queues_of}
use Rattle.law_dump_round_trip.proofs.Steady.{entry_steady}
use Rattle.dump_reader.proofs.Onward.{into, refused}
use Rattle.dump_reader.proofs.Opens.{opens_entry}
use Rattle.dump_reader.proofs.steps.entry_step.Goals as goal

pub returns : goal.returns
returns c =
    into c.args.opened.now (place.Entry c.args.head.now c.args.more c.args.after) c.args.lists.now c.args.c.now _ _ (opens_entry c.args.opened.now c.args.lists.now c.args.head.now c.args.more c.args.after) c.read_entry.new.c _ (entry_steady _) c.in_ok-entry.ensures.read c.enter_entries.result c.in_ok-entry.ensures.passed _ (ap (λ (es : List Completion). more_entries c.args.opened.now c.args.lists.now.domains.items c.args.lists.now.regions.items (queues_of c.args.lists.now) c.args.after c.args.head.now c.args.more es) (sym c.in_ok-push.ensures.ok)) c.enter_entries.ensures

pub returns-in_err-entry : goal.returns-in_err-entry
returns-in_err-entry c =
    refused c.args.opened.now (place.Entry c.args.head.now c.args.more c.args.after) c.args.lists.now c.args.c.now _ _ (opens_entry c.args.opened.now c.args.lists.now c.args.head.now c.args.more c.args.after) c.read_entry.new.c c.in_err-entry.field-0.0 c.from_residual.result c.from_residual.ensures.1 c.in_err-entry.ensures.read
