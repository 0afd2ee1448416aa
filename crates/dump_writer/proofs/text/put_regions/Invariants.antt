use Rattle.std.proofs.Common.{◌≡◌, ◌++◌, take}
use Rattle.std.specs.Prelude.{flat_map}
use Rattle.dump_writer.specs.Text.{region_line}
use Rattle.dump_writer.proofs.text.put_regions.Given as goal

abbrev pub invariant-loop-region : goal.invariant-loop-region
invariant-loop-region l = l.out.items ≡ l.initial.out.items ++ flat_map region_line (take l.region-index l.regions)
