use Rattle.std.proofs.Common.{◌≡◌, ◌+◌, ◌≤◌, length, rules, ap, sym, ◌∙◌, arith}
use Rattle.std.proofs.lemmas.Grind.{common_steps}
use Rattle.rdma_types.specs.Memory.{cut}
use Rattle.device_differences.specs.Differing.{between}
use Rattle.device_differences.specs.Shown.{bytes_under}
use Rattle.device_differences.proofs.Blocks.{block-found, block-passed}
use Rattle.device_differences.proofs.Found.{numbers-end}
use Rattle.device_differences.proofs.Under.{under-cut, under-length, under-spot}
use Rattle.device_differences.proofs.memory.region_bytes.Goals as goal

pub returns-then-is_some : goal.returns-then-is_some
returns-then-is_some c =
    let left = under-length c.args.pool.now c.args.regions.now c.args.head.now c.requires.held c.requires.there in
    let right = under-length c.args.other_pool.now c.args.other.now c.args.other_head.now c.requires.other_held c.requires.other_there in
    let here = under-cut c.args.pool.now c.args.regions.now c.args.head.now c.loop-done.done c.min-size.result c.requires.there (omega arith) in
    let there = under-cut c.args.other_pool.now c.args.other.now c.args.other_head.now c.loop-done.done c.min-size.result c.requires.other_there (omega arith) in
    let same : c.spots-found.result ≡ between (cut c.loop-done.done c.min-size.result (bytes_under c.args.pool.now c.args.regions.now c.args.head.now.keys.local)) (cut c.loop-done.done c.min-size.result (bytes_under c.args.other_pool.now c.args.other.now c.args.other_head.now.keys.local)) = c.spots-found.ensures ∙ (λ i. between (here i) (there i)) in
    block-found _ _ c.loop-done.done c.min-size.result c.spots-found.result (omega (arith, left)) (omega (arith, right)) same (search rules) c.loop-done.invariant.passed

pub loop-done-preserved : goal.loop-done-preserved
loop-done-preserved c =
    let left = under-length c.args.pool.now c.args.regions.now c.args.head.now c.requires.held c.requires.there in
    let right = under-length c.args.other_pool.now c.args.other.now c.args.other_head.now c.requires.other_held c.requires.other_there in
    let here = under-cut c.args.pool.now c.args.regions.now c.args.head.now c.loop-done.done c.min-size.result c.requires.there (omega arith) in
    let there = under-cut c.args.other_pool.now c.args.other.now c.args.other_head.now c.loop-done.done c.min-size.result c.requires.other_there (omega arith) in
    let same : c.spots-found.result ≡ between (cut c.loop-done.done c.min-size.result (bytes_under c.args.pool.now c.args.regions.now c.args.head.now.keys.local)) (cut c.loop-done.done c.min-size.result (bytes_under c.args.other_pool.now c.args.other.now c.args.other_head.now.keys.local)) = c.spots-found.ensures ∙ (λ i. between (here i) (there i)) in
    record {
      passed = block-passed _ _ c.loop-done.done c.min-size.result c.spots-found.result (omega (arith, left)) (omega (arith, right)) same (search rules) c.loop-done.invariant.passed;
      inside = omega arith;
    }

pub returns : goal.returns
returns c =
    let left = under-length c.args.pool.now c.args.regions.now c.args.head.now c.requires.held c.requires.there in
    let right = under-length c.args.other_pool.now c.args.other.now c.args.other_head.now c.requires.other_held c.requires.other_there in
    numbers-end (bytes_under c.args.pool.now c.args.regions.now c.args.head.now.keys.local) (bytes_under c.args.other_pool.now c.args.other.now c.args.other_head.now.keys.local) c.loop-done.done c.apart.result (omega (arith, left, right)) (grind (arith, common_steps, left, right)) c.loop-done.invariant.passed
