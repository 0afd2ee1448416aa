use Rattle.std.proofs.Common.{ap, arith}
use Rattle.page_pool.specs.Bytes.{Bytes}
use Rattle.page_pool.proofs.Kept.{none_made, none_seen}
use Rattle.page_pool.proofs.frames.Frames.make.Goals as goal

pub invariant_of-result : goal.invariant_of-result
invariant_of-result c = none_made _ _ _ c.args.pages _ _ _ (ap (λ (b : Bytes). b.items) c.in_ok-make.ensures) c.in_ok-with_capacity.ensures.items c.in_ok-with_capacity-2.ensures.items c.ranges.pages.fits (omega (arith, ap (λ (b : Bytes). b.room) c.in_ok-make.ensures)) (omega (arith, c.in_ok-with_capacity.ensures.capacity)) (omega (arith, c.in_ok-with_capacity-2.ensures.capacity))

pub returns : goal.returns
returns c = none_seen _ _ c.args.pages (ap (λ (b : Bytes). b.items) c.in_ok-make.ensures) c.in_ok-with_capacity.ensures.items
