use Rattle.std.proofs.Common.{List, ap, sym}
use Rattle.protocol.specs.declared.images.RegionImage.{RegionImage}
use Rattle.dump_reader.specs.declared.lists.ReadState.TheVariants as place
use Rattle.dump_reader.specs.Ahead.{more_regions}
use Rattle.dump_reader.proofs.Later.{limit_steady}
use Rattle.dump_reader.proofs.Onward.{goes, refused}
use Rattle.dump_reader.proofs.Opens.{opens_region_count}
use Rattle.dump_reader.proofs.steps.region_count_step.Goals as goal

pub returns : goal.returns
returns c =
    goes c.args.opened.now place.RegionCount c.args.lists.now c.args.c.now _ _ (opens_region_count c.args.opened.now c.args.lists.now) c.read_count.new.c _ (limit_steady _ _) c.in_ok-count.ensures.read c.enter_regions.result c.in_ok-count.ensures.passed _ (ap (λ (rs : List RegionImage). more_regions c.args.opened.now c.args.lists.now.domains.items c.in_ok-count.count rs) (sym c.new.ensures.items)) c.enter_regions.ensures.ahead

pub returns-in_err-count : goal.returns-in_err-count
returns-in_err-count c =
    refused c.args.opened.now place.RegionCount c.args.lists.now c.args.c.now _ _ (opens_region_count c.args.opened.now c.args.lists.now) c.read_count.new.c c.in_err-count.field-0.0 c.from_residual.result c.from_residual.ensures.1 c.in_err-count.ensures.read
