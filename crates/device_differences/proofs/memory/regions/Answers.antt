use Rattle.std.proofs.Common.{◌≡◌, length, rules, sym, ◌∙◌, arith}
use Rattle.std.proofs.lemmas.Grind.{common_steps}
use Rattle.std.proofs.lemmas.List.{length-map}
use Rattle.memory_keys.specs.Regions.{region_of, regions_of}
use Rattle.device_differences.specs.Differences.{region_difference}
use Rattle.device_differences.specs.Shown.{region_under}
use Rattle.device_differences.proofs.Found.{found-here, passed-here, end-mapped}
use Rattle.device_differences.proofs.Under.{is-under, region-at}
use Rattle.device_differences.proofs.memory.regions.Goals as goal

pub region-found-requires-clause-there : goal.region-found-requires-clause-there
region-found-requires-clause-there c = is-under c.args.a.now c.loop-i.i c.unwrap-x.result c.requires.keyed (grind (arith, common_steps))

pub region-found-requires-clause-other_there : goal.region-found-requires-clause-other_there
region-found-requires-clause-other_there c = is-under c.args.b.now c.loop-i.i c.unwrap-y.result c.requires.other_keyed (grind (arith, common_steps))

pub returns-then-is_some : goal.returns-then-is_some
returns-then-is_some c =
    let x = region-at c.args.pool.now c.args.a.now c.loop-i.i c.unwrap-x.result c.requires.keyed (grind (arith, common_steps)) in
    let y = region-at c.args.other_pool.now c.args.b.now c.loop-i.i c.unwrap-y.result c.requires.other_keyed (grind (arith, common_steps)) in
    found-here region_difference (regions_of c.args.pool.now c.args.a.now) (regions_of c.args.other_pool.now c.args.b.now) c.loop-i.i (region_under c.args.pool.now c.args.a.now c.unwrap-x.result) (region_under c.args.other_pool.now c.args.b.now c.unwrap-y.result) c.region-found.result x y c.region-found.ensures (search rules) c.loop-i.invariant

pub loop-i-preserved : goal.loop-i-preserved
loop-i-preserved c =
    let x = region-at c.args.pool.now c.args.a.now c.loop-i.i c.unwrap-x.result c.requires.keyed (grind (arith, common_steps)) in
    let y = region-at c.args.other_pool.now c.args.b.now c.loop-i.i c.unwrap-y.result c.requires.other_keyed (grind (arith, common_steps)) in
    passed-here region_difference (regions_of c.args.pool.now c.args.a.now) (regions_of c.args.other_pool.now c.args.b.now) c.loop-i.i (region_under c.args.pool.now c.args.a.now c.unwrap-x.result) (region_under c.args.other_pool.now c.args.b.now c.unwrap-y.result) c.region-found.result x y c.region-found.ensures (search rules) c.loop-i.invariant

pub returns : goal.returns
returns c = end-mapped region_difference (region_of c.args.pool.now) (region_of c.args.other_pool.now) c.args.a.now c.args.b.now c.loop-i.i c.apart.result (omega arith) (grind (arith, common_steps)) c.loop-i.invariant
