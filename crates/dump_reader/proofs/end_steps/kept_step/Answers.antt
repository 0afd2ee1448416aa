use Rattle.std.proofs.Common.{List, ap, sym}
use Rattle.protocol.specs.declared.images.KeptReply.{KeptReply}
use Rattle.dump_reader.specs.declared.lists.ReadState.TheVariants as place
use Rattle.dump_reader.specs.Ahead.{more_kept, queues_of}
use Rattle.law_dump_round_trip.proofs.Steady.{kept_steady}
use Rattle.dump_reader.proofs.Onward.{goes, refused}
use Rattle.dump_reader.proofs.Opens.{opens_kept}
use Rattle.dump_reader.proofs.end_steps.kept_step.Goals as goal

pub returns : goal.returns
returns c =
    let read = rw c.deref.ensures.value at c.in_ok-reply.ensures.read in
    goes c.args.opened.now (place.Kept c.args.head.now c.args.link.now c.args.more c.args.after) c.args.lists.now c.args.c.now _ _ (opens_kept c.args.opened.now c.args.lists.now c.args.head.now c.args.after c.args.link.now c.args.more) c.read_kept.new.c _ (kept_steady _ _) read c.enter_kept.result c.in_ok-reply.ensures.passed _ (ap (λ (ks : List KeptReply). more_kept c.args.opened.now c.args.lists.now.domains.items c.args.lists.now.regions.items (queues_of c.args.lists.now) c.args.lists.now.ends.items c.args.after c.args.head.now c.args.link.now c.args.more ks) (sym c.in_ok-push.ensures.ok)) c.enter_kept.ensures

pub returns-in_err-reply : goal.returns-in_err-reply
returns-in_err-reply c =
    let read = rw c.deref.ensures.value at c.in_err-reply.ensures.read in
    refused c.args.opened.now (place.Kept c.args.head.now c.args.link.now c.args.more c.args.after) c.args.lists.now c.args.c.now _ _ (opens_kept c.args.opened.now c.args.lists.now c.args.head.now c.args.after c.args.link.now c.args.more) c.read_kept.new.c c.in_err-reply.field-0.0 c.from_residual.result c.from_residual.ensures.1 read
