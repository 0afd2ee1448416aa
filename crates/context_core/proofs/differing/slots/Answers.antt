use Rattle.std.proofs.Common.{◌≡◌, ◌∷◌, [], ℕ, true, false, arith, rules, sym, ◌∙◌}
use Rattle.std.specs.Prelude.{Option, is_some}
use Rattle.std.proofs.lemmas.Grind.{common_steps}
use Rattle.device_differences.specs.Differences.{end_difference, work_difference}
use Rattle.device_differences.specs.Differing.{between, first_of}
use Rattle.protocol.specs.State.{End}
use Rattle.device_differences.proofs.Found.{looked, part-found, part-passed}
use Rattle.rdma_types.specs.declared.names.Name.{Name}
use Rattle.context_core.specs.declared.state.EndSlot.{EndSlot}
use Rattle.context_core.specs.Context.{end_of, names_in}
use Rattle.context_core.proofs.differing.slots.Goals as goal

pub returns : goal.returns
unfolding end_difference
returns c =
    let x : Name × EndSlot = (c.args.x.0.now, c.args.x.1.now) in
    let y : Name × EndSlot = (c.args.y.0.now, c.args.y.1.now) in
    let w : c.work.result ≡ work_difference (end_of c.args.pool.now c.args.queues.now.entries x) (end_of c.args.other_pool.now c.args.other_queues.now.entries y) = c.work.ensures (names_in c.args.queues.now.entries x) (names_in c.args.other_queues.now.entries y) in
    grind (arith, common_steps, looked, w)

-- the fifth part differs, and the four before it do not
fifth : (r1 r2 r3 r4 r5 d1 d2 d3 d4 d5 d6 : Option (ℕ × ℕ)) → r1 ≡ d1 → r2 ≡ d2 → r3 ≡ d3 → r4 ≡ d4 → r5 ≡ d5 → is_some r1 ≡ false → is_some r2 ≡ false → is_some r3 ≡ false → is_some r4 ≡ false → is_some r5 ≡ true → r5 ≡ first_of (d1 ∷ d2 ∷ d3 ∷ d4 ∷ d5 ∷ d6 ∷ [])
fifth r1 r2 r3 r4 r5 d1 d2 d3 d4 d5 d6 e1 e2 e3 e4 e5 n1 n2 n3 n4 s5 =
    part-found r5 d5 (d6 ∷ []) e5 s5
    ∙ sym (part-passed r1 d1 (d2 ∷ d3 ∷ d4 ∷ d5 ∷ d6 ∷ []) e1 n1
    ∙ part-passed r2 d2 (d3 ∷ d4 ∷ d5 ∷ d6 ∷ []) e2 n2
    ∙ part-passed r3 d3 (d4 ∷ d5 ∷ d6 ∷ []) e3 n3
    ∙ part-passed r4 d4 (d5 ∷ d6 ∷ []) e4 n4)

pub returns-then-is_some-5 : goal.returns-then-is_some-5
unfolding end_difference
returns-then-is_some-5 c =
    let x : Name × EndSlot = (c.args.x.0.now, c.args.x.1.now) in
    let y : Name × EndSlot = (c.args.y.0.now, c.args.y.1.now) in
    let a : End = end_of c.args.pool.now c.args.queues.now.entries x in
    let b : End = end_of c.args.other_pool.now c.args.other_queues.now.entries y in
    let e1 : c.names-found.result ≡ between a.name b.name = search rules in
    let e2 : c.numbers-found.result ≡ between (a.number ∷ []) (b.number ∷ []) = search rules in
    let e3 : c.names-found-2.result ≡ between a.domain b.domain = search rules in
    let e4 : c.names-found-3.result ≡ between a.send_cq b.send_cq = search rules in
    let e5 : c.names-found-4.result ≡ between a.recv_cq b.recv_cq = search rules in
    let n1 : is_some c.names-found.result ≡ false = search rules in
    let n2 : is_some c.numbers-found.result ≡ false = search rules in
    let n3 : is_some c.names-found-2.result ≡ false = search rules in
    let n4 : is_some c.names-found-3.result ≡ false = search rules in
    let s5 : is_some c.names-found-4.result ≡ true = search rules in
    fifth _ _ _ _ _ _ _ _ _ _ (work_difference a b) e1 e2 e3 e4 e5 n1 n2 n3 n4 s5
