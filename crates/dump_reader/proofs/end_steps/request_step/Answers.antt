use Rattle.std.proofs.Common.{[], ◌∷◌, ◌++◌, ap, sym}
use Rattle.protocol.specs.Dumps.{then_read, raw}
use Rattle.dump_reader.specs.declared.heads.EarlierRequests.{EarlierRequests}
use Rattle.dump_reader.specs.declared.lists.ReadState.TheVariants as place
use Rattle.dump_reader.specs.Groups.{link_of_head, payload_length}
use Rattle.dump_reader.specs.Ahead.{more_untold, queues_of}
use Rattle.dump_reader.proofs.Later.{request_start_steady}
use Rattle.dump_reader.proofs.Onward.{into, refused}
use Rattle.dump_reader.proofs.Opens.{opens_request}
use Rattle.dump_reader.proofs.end_steps.request_step.Goals as goal

pub returns : goal.returns
returns c =
    let read = rw (c.standing_of-standing.ensures, c.scope_of.ensures.domains, c.scope_of.ensures.regions, c.scope_of.ensures.domain) at c.in_ok-request.ensures.request.read in
    into c.args.opened.now (place.Request c.args.head.now c.args.link.now c.args.before.now c.args.more c.args.after) c.args.lists.now c.args.c.now _ _ (opens_request c.args.opened.now c.args.lists.now c.args.head.now c.args.after c.args.link.now c.args.before.now c.args.more) c.read_request.new.c _ (request_start_steady _ _ _ _) read c.enter_payload.result c.in_ok-request.ensures.request.passed _ (ap (λ (before : EarlierRequests). then_read (raw (payload_length c.in_ok-request.request)) (λ payload. more_untold c.args.opened.now c.args.lists.now.domains.items c.args.lists.now.regions.items (queues_of c.args.lists.now) c.args.lists.now.ends.items c.args.after c.args.head.now (link_of_head c.args.link.now c.args.lists.now.kept.items) before c.args.more (c.args.lists.now.untold.items ++ record { request = c.in_ok-request.request; payload = payload } ∷ []))) (sym c.advanced-before.ensures)) c.enter_payload.ensures

pub returns-in_err-request : goal.returns-in_err-request
returns-in_err-request c =
    let read = rw (c.standing_of-standing.ensures, c.scope_of.ensures.domains, c.scope_of.ensures.regions, c.scope_of.ensures.domain) at c.in_err-request.ensures.request.read in
    refused c.args.opened.now (place.Request c.args.head.now c.args.link.now c.args.before.now c.args.more c.args.after) c.args.lists.now c.args.c.now _ _ (opens_request c.args.opened.now c.args.lists.now c.args.head.now c.args.after c.args.link.now c.args.before.now c.args.more) c.read_request.new.c c.in_err-request.field-0.0 c.from_residual.result c.from_residual.ensures.1 read
