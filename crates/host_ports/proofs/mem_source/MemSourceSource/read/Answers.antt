use Rattle.std.proofs.Common.{◌≡◌, ◌+◌, List, ℕ, ◌≤◌, length, take, drop, refl, arith, drop-drop}
use Rattle.std.proofs.lemmas.Grind.{common_steps}
use Rattle.host_ports.proofs.Chains.{read_piece}
use Rattle.host_ports.proofs.mem_source.MemSourceSource.read.Goals as goal

pub returns-clause-taken : goal.returns-clause-taken
returns-clause-taken c =
    let left : List ℕ = drop c.self.inside.at c.self.inside.bytes.items in
    let fits : c.min-n.result ≤ length left = grind (arith, common_steps) in
    let piece : c.copy_from_slice.new.self ≡ take c.min-n.result left = grind (arith, common_steps) in
    (drop (c.self.inside.at + c.min-n.result) c.self.inside.bytes.items, rw (← c.self.view_is, ← drop-drop) (read_piece left c.copy_from_slice.new.self (drop c.min-n.result c.args.out.now) c.min-n.result fits piece), refl)
