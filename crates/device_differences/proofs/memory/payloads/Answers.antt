use Rattle.std.proofs.Common.{◌≡◌, ◌+◌, ◌-◌, ◌%◌, ◌≤◌, length, take, rules, ap, sym, ◌∙◌, arith}
use Rattle.std.proofs.lemmas.Grind.{common_steps}
use Rattle.page_pool.specs.Held.{payload_bytes}
use Rattle.rdma_types.specs.Memory.{cut}
use Rattle.device_differences.specs.Differing.{between}
use Rattle.device_differences.proofs.Blocks.{block-found, block-passed, payload-cut, payload-length}
use Rattle.device_differences.proofs.Found.{numbers-end}
use Rattle.device_differences.proofs.memory.payloads.Goals as goal

pub returns-then-is_some : goal.returns-then-is_some
returns-then-is_some c =
    let xs = payload_bytes c.args.pool.now c.args.payload.now in
    let ys = payload_bytes c.args.other_pool.now c.args.other.now in
    let left : length xs ≡ c.args.payload.now.length = payload-length c.args.pool.now c.args.payload.now c.requires.held in
    let right : length ys ≡ c.args.other.now.length = payload-length c.args.other_pool.now c.args.other.now c.requires.other_held in
    let one : take c.min-size.result c.piece-a.result.now ≡ cut c.loop-done.done c.min-size.result xs = ap (take c.min-size.result) (grind (arith, common_steps)) ∙ payload-cut c.args.pool.now c.args.payload.now c.loop-done.done c.min-size.result (4096 - (c.args.payload.now.first + c.loop-done.done) % 4096) (omega arith) (omega arith) in
    let two : take c.min-size.result c.piece-b.result.now ≡ cut c.loop-done.done c.min-size.result ys = ap (take c.min-size.result) (grind (arith, common_steps)) ∙ payload-cut c.args.other_pool.now c.args.other.now c.loop-done.done c.min-size.result (4096 - (c.args.other.now.first + c.loop-done.done) % 4096) (omega arith) (omega arith) in
    let same : c.bytes-found.result ≡ between (cut c.loop-done.done c.min-size.result xs) (cut c.loop-done.done c.min-size.result ys) = c.bytes-found.ensures ∙ (λ i. between (one i) (two i)) in
    block-found xs ys c.loop-done.done c.min-size.result c.bytes-found.result (omega (arith, left)) (omega (arith, right)) same (search rules) c.loop-done.invariant.passed

pub loop-done-preserved : goal.loop-done-preserved
loop-done-preserved c =
    let xs = payload_bytes c.args.pool.now c.args.payload.now in
    let ys = payload_bytes c.args.other_pool.now c.args.other.now in
    let left : length xs ≡ c.args.payload.now.length = payload-length c.args.pool.now c.args.payload.now c.requires.held in
    let right : length ys ≡ c.args.other.now.length = payload-length c.args.other_pool.now c.args.other.now c.requires.other_held in
    let one : take c.min-size.result c.piece-a.result.now ≡ cut c.loop-done.done c.min-size.result xs = ap (take c.min-size.result) (grind (arith, common_steps)) ∙ payload-cut c.args.pool.now c.args.payload.now c.loop-done.done c.min-size.result (4096 - (c.args.payload.now.first + c.loop-done.done) % 4096) (omega arith) (omega arith) in
    let two : take c.min-size.result c.piece-b.result.now ≡ cut c.loop-done.done c.min-size.result ys = ap (take c.min-size.result) (grind (arith, common_steps)) ∙ payload-cut c.args.other_pool.now c.args.other.now c.loop-done.done c.min-size.result (4096 - (c.args.other.now.first + c.loop-done.done) % 4096) (omega arith) (omega arith) in
    let same : c.bytes-found.result ≡ between (cut c.loop-done.done c.min-size.result xs) (cut c.loop-done.done c.min-size.result ys) = c.bytes-found.ensures ∙ (λ i. between (one i) (two i)) in
    record {
      passed = block-passed xs ys c.loop-done.done c.min-size.result c.bytes-found.result (omega (arith, left)) (omega (arith, right)) same (search rules) c.loop-done.invariant.passed;
      inside = omega arith;
    }

pub returns : goal.returns
returns c =
    let left = payload-length c.args.pool.now c.args.payload.now c.requires.held in
    let right = payload-length c.args.other_pool.now c.args.other.now c.requires.other_held in
    numbers-end (payload_bytes c.args.pool.now c.args.payload.now) (payload_bytes c.args.other_pool.now c.args.other.now) c.loop-done.done c.apart.result (omega (arith, left, right)) (grind (arith, common_steps, left, right)) c.loop-done.invariant.passed
