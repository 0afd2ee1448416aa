use Rattle.std.proofs.Common.{arith, rules}
use Rattle.std.specs.Prelude.{bytes_eq}
use Rattle.packetless_machine.proofs.Places.{found_here, not_here, nowhere}
use Rattle.packetless_machine.proofs.named.place_of.Goals as goal

pub returns-then-eq : goal.returns-then-eq
returns-then-eq g c =
    found_here (λ x. bytes_eq (g.T.Named.named x) c.args.name) c.args.items.now c.loop-i.i c.index-items-i.result (omega arith) c.index-items-i.is (search rules) c.loop-i.invariant

pub returns : goal.returns
returns g c = nowhere (λ x. bytes_eq (g.T.Named.named x) c.args.name) c.args.items.now c.loop-i.i (omega arith) (omega arith) c.loop-i.invariant

pub loop-i-preserved : goal.loop-i-preserved
loop-i-preserved g c =
    not_here (λ x. bytes_eq (g.T.Named.named x) c.args.name) c.args.items.now c.loop-i.i c.index-items-i.result (omega arith) c.index-items-i.is (search rules) c.loop-i.invariant
