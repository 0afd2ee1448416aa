use Rattle.std.proofs.Common.{List, ap, sym}
use Rattle.rdma_types.specs.declared.requests.Receive.{Receive}
use Rattle.dump_reader.specs.declared.lists.ReadState.TheVariants as place
use Rattle.dump_reader.specs.Ahead.{more_receives, linked_of, queues_of}
use Rattle.law_dump_round_trip.proofs.Steady.{receive_steady}
use Rattle.dump_reader.proofs.Onward.{into, refused}
use Rattle.dump_reader.proofs.Opens.{opens_receive}
use Rattle.dump_reader.proofs.end_steps.receive_step.Goals as goal

pub returns : goal.returns
returns c =
    let read = rw (c.scope_of.ensures.domains, c.scope_of.ensures.regions, c.scope_of.ensures.domain) at c.in_ok-receive.ensures.read in
    into c.args.opened.now (place.Receive c.args.head.now c.args.link.now c.args.more c.args.after) c.args.lists.now c.args.c.now _ _ (opens_receive c.args.opened.now c.args.lists.now c.args.head.now c.args.after c.args.link.now c.args.more) c.read_waiting_receive.new.c _ (receive_steady _ _ _) read c.enter_receives.result c.in_ok-receive.ensures.passed _ (ap (λ (us : List Receive). more_receives c.args.opened.now c.args.lists.now.domains.items c.args.lists.now.regions.items (queues_of c.args.lists.now) c.args.lists.now.ends.items c.args.after c.args.head.now (linked_of c.args.link.now c.args.lists.now.kept.items) c.args.lists.now.untold.items c.args.more us) (sym c.in_ok-push.ensures.ok)) c.enter_receives.ensures

pub returns-in_err-receive : goal.returns-in_err-receive
returns-in_err-receive c =
    let read = rw (c.scope_of.ensures.domains, c.scope_of.ensures.regions, c.scope_of.ensures.domain) at c.in_err-receive.ensures.read in
    refused c.args.opened.now (place.Receive c.args.head.now c.args.link.now c.args.more c.args.after) c.args.lists.now c.args.c.now _ _ (opens_receive c.args.opened.now c.args.lists.now c.args.head.now c.args.after c.args.link.now c.args.more) c.read_waiting_receive.new.c c.in_err-receive.field-0.0 c.from_residual.result c.from_residual.ensures.1 read
