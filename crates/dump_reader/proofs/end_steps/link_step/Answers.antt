use Rattle.std.proofs.Common.{List, ap, sym}
use Rattle.protocol.specs.declared.images.KeptReply.{KeptReply}
use Rattle.dump_reader.specs.declared.lists.ReadState.TheVariants as place
use Rattle.dump_reader.specs.Ahead.{more_kept, queues_of}
use Rattle.dump_reader.proofs.Later.{link_head_steady}
use Rattle.dump_reader.proofs.Onward.{goes, refused}
use Rattle.dump_reader.proofs.Opens.{opens_link}
use Rattle.dump_reader.proofs.end_steps.link_step.Goals as goal

pub returns : goal.returns
returns c =
    let read = rw (c.scope_of.ensures.domains, c.scope_of.ensures.regions, c.scope_of.ensures.domain) at c.in_ok-link.ensures.read in
    goes c.args.opened.now (place.Link c.args.head.now c.args.after) c.args.lists.now c.args.c.now _ _ (opens_link c.args.opened.now c.args.lists.now c.args.head.now c.args.after) c.read_link.new.c _ (link_head_steady _ _ _) read c.enter_kept.result c.in_ok-link.ensures.passed _ (ap (λ (ks : List KeptReply). more_kept c.args.opened.now c.args.lists.now.domains.items c.args.lists.now.regions.items (queues_of c.args.lists.now) c.args.lists.now.ends.items c.args.after c.args.head.now c.in_ok-link.link c.in_ok-link.link.count ks) (sym c.new.ensures.items)) c.enter_kept.ensures

pub returns-in_err-link : goal.returns-in_err-link
returns-in_err-link c =
    let read = rw (c.scope_of.ensures.domains, c.scope_of.ensures.regions, c.scope_of.ensures.domain) at c.in_err-link.ensures.read in
    refused c.args.opened.now (place.Link c.args.head.now c.args.after) c.args.lists.now c.args.c.now _ _ (opens_link c.args.opened.now c.args.lists.now c.args.head.now c.args.after) c.read_link.new.c c.in_err-link.field-0.0 c.from_residual.result c.from_residual.ensures.1 read
