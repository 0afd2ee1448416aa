use Rattle.std.proofs.Common.{refl}
use Rattle.dump_reader.specs.declared.lists.ReadState.TheVariants as place
use Rattle.dump_reader.proofs.Later.{end_head_steady}
use Rattle.dump_reader.proofs.Onward.{goes, refused}
use Rattle.dump_reader.proofs.Opens.{opens_end}
use Rattle.dump_reader.proofs.end_steps.end_step.Goals as goal

pub returns : goal.returns
returns c =
    let read = rw (c.len-domains.ensures, c.len.ensures, c.args.lists.now.domains.ok.0, c.args.lists.now.queues.ok.0, c.deref.ensures.value) at c.in_ok-head.ensures.read in
    goes c.args.opened.now (place.End c.args.more) c.args.lists.now c.args.c.now _ _ (opens_end c.args.opened.now c.args.lists.now c.args.more) c.read_end.new.c _ (end_head_steady _ _ _) read c.enter_end.result c.in_ok-head.ensures.passed _ (refl) c.enter_end.ensures

pub returns-in_err-head : goal.returns-in_err-head
returns-in_err-head c =
    let read = rw (c.len-domains.ensures, c.len.ensures, c.args.lists.now.domains.ok.0, c.args.lists.now.queues.ok.0, c.deref.ensures.value) at c.in_err-head.ensures.read in
    refused c.args.opened.now (place.End c.args.more) c.args.lists.now c.args.c.now _ _ (opens_end c.args.opened.now c.args.lists.now c.args.more) c.read_end.new.c c.in_err-head.field-0.0 c.from_residual.result c.from_residual.ensures.1 read
