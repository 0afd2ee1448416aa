use Rattle.std.proofs.Common.{ℕ, List, [], ◌∷◌, ◌++◌, refl, ap, sym}
use Rattle.protocol.specs.Dumps.{then_read, raw}
use Rattle.dump_reader.specs.declared.lists.ReadState.TheVariants as place
use Rattle.dump_reader.specs.Groups.{region_of_head}
use Rattle.dump_reader.specs.Ahead.{ahead, more_regions}
use Rattle.dump_reader.proofs.Later.{region_head_steady}
use Rattle.dump_reader.proofs.Onward.{goes, refused}
use Rattle.dump_reader.proofs.Opens.{opens_region}
use Rattle.dump_reader.proofs.steps.region_step.Goals as goal

pub returns : goal.returns
unfolding ahead
returns c =
    let read = rw (c.len.ensures, c.args.lists.now.domains.ok.0, c.deref.ensures.value) at c.in_ok-head.ensures.read in
    goes c.args.opened.now (place.Region c.args.more) c.args.lists.now c.args.c.now _ _ (opens_region c.args.opened.now c.args.lists.now c.args.more) c.read_region.new.c (record c.args.lists.now { run = c.make.result }) (region_head_steady _ _) read (place.Bytes c.in_ok-head.head c.in_ok-head.head.length c.args.more) c.in_ok-head.ensures.passed _ (ap (λ (run : List ℕ). then_read (raw c.in_ok-head.head.length) (λ more. more_regions c.args.opened.now c.args.lists.now.domains.items c.args.more (c.args.lists.now.regions.items ++ region_of_head c.in_ok-head.head (run ++ more) ∷ []))) (sym c.make.ensures)) refl

pub returns-in_err-head : goal.returns-in_err-head
returns-in_err-head c =
    let read = rw (c.len.ensures, c.args.lists.now.domains.ok.0, c.deref.ensures.value) at c.in_err-head.ensures.read in
    refused c.args.opened.now (place.Region c.args.more) c.args.lists.now c.args.c.now _ _ (opens_region c.args.opened.now c.args.lists.now c.args.more) c.read_region.new.c c.in_err-head.field-0.0 c.from_residual.result c.from_residual.ensures.1 read
