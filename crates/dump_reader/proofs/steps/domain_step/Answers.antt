use Rattle.std.proofs.Common.{List, ap, sym}
use Rattle.rdma_types.specs.declared.names.Name.{Name}
use Rattle.law_dump_round_trip.proofs.Steady.{name_steady}
use Rattle.dump_reader.specs.declared.lists.ReadState.TheVariants as place
use Rattle.dump_reader.specs.Ahead.{more_domains}
use Rattle.dump_reader.proofs.Onward.{goes, refused}
use Rattle.dump_reader.proofs.Opens.{opens_domain}
use Rattle.dump_reader.proofs.steps.domain_step.Goals as goal

pub returns : goal.returns
returns c =
    let read = rw c.deref.ensures.value at c.in_ok-name.ensures.read in
    goes c.args.opened.now (place.Domain c.args.more) c.args.lists.now c.args.c.now _ _ (opens_domain c.args.opened.now c.args.lists.now c.args.more) c.read_name.new.c _ (name_steady _) read c.enter_domains.result c.in_ok-name.ensures.passed _ (ap (λ (ds : List Name). more_domains c.args.opened.now c.args.more ds) (sym c.in_ok-push.ensures.ok)) c.enter_domains.ensures

pub returns-in_err-name : goal.returns-in_err-name
returns-in_err-name c =
    let read = rw c.deref.ensures.value at c.in_err-name.ensures.read in
    refused c.args.opened.now (place.Domain c.args.more) c.args.lists.now c.args.c.now _ _ (opens_domain c.args.opened.now c.args.lists.now c.args.more) c.read_name.new.c c.in_err-name.field-0.0 c.from_residual.result c.from_residual.ensures.1 read
