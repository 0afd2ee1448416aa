use Rattle.std.proofs.Common.{◌+◌, ◌*◌, ◌≤◌, ◌∙◌, ap, length, arith}
use Rattle.page_pool.specs.Store.{Store}
use Rattle.rdma_types.proofs.Cuts.{length-put}
use Rattle.page_pool.proofs.Stock.{sound}
use Rattle.page_pool.proofs.Kept.{front_inside, seen_put, still_made, still_stocked}
use Rattle.page_pool.proofs.frames.Frames.put.Goals as goal

pub put-requires-clause-page : goal.put-requires-clause-page
put-requires-clause-page c = omega (arith, c.requires.room, front_inside c.self.inside.bytes.items c.self.inside.holders.items c.args.self.now.holders c.self.inside.pages c.args.page _ _ c.self.invariant.0 (ap (λ (s : Store). s.holders) c.self.view_is) c.requires.held)

pub invariant_of-self : goal.invariant_of-self
invariant_of-self c =
    let inside : c.args.page * 4096 + 4096 ≤ length c.self.inside.bytes.items = front_inside c.self.inside.bytes.items c.self.inside.holders.items c.args.self.now.holders c.self.inside.pages c.args.page _ _ c.self.invariant.0 (ap (λ (s : Store). s.holders) c.self.view_is) c.requires.held in
    let size = ap length c.put.ensures.items ∙ length-put c.self.inside.bytes.items (c.args.page * 4096 + c.args.at) c.args.bytes.now (omega (arith, c.requires.room)) in
    (still_made c.self.inside.bytes.items c.put.new.self.items c.self.inside.holders.items c.self.inside.pages _ _ _ c.self.invariant.0 size (omega (arith, c.put.ensures.room)), still_stocked c.self.inside.bytes.items c.put.new.self.items c.self.inside.holders.items _ c.self.inside.pages _ _ _ c.self.invariant.0 c.self.invariant.1 size)

pub returns-clause-new : goal.returns-clause-new
returns-clause-new c =
    let inside : c.args.page * 4096 + 4096 ≤ length c.self.inside.bytes.items = front_inside c.self.inside.bytes.items c.self.inside.holders.items c.args.self.now.holders c.self.inside.pages c.args.page _ _ c.self.invariant.0 (ap (λ (s : Store). s.holders) c.self.view_is) c.requires.held in
    seen_put c.self.inside.bytes.items c.put.new.self.items c.self.inside.holders.items c.args.bytes.now c.args.self.now _ c.self.inside.pages _ _ c.self.view_is c.put.ensures.items (omega (arith, c.requires.room)) (omega arith)

pub returns-clause-sound : goal.returns-clause-sound
returns-clause-sound c =
    let inside : c.args.page * 4096 + 4096 ≤ length c.self.inside.bytes.items = front_inside c.self.inside.bytes.items c.self.inside.holders.items c.args.self.now.holders c.self.inside.pages c.args.page _ _ c.self.invariant.0 (ap (λ (s : Store). s.holders) c.self.view_is) c.requires.held in
    let size = ap length c.put.ensures.items ∙ length-put c.self.inside.bytes.items (c.args.page * 4096 + c.args.at) c.args.bytes.now (omega (arith, c.requires.room)) in
    sound _ _ _ _ (still_stocked c.self.inside.bytes.items c.put.new.self.items c.self.inside.holders.items _ c.self.inside.pages _ _ _ c.self.invariant.0 c.self.invariant.1 size)
