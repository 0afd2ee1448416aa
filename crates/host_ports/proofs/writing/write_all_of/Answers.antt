use Rattle.std.proofs.Common.{◌≡◌, ◌-◌, length, take, drop, take-add, arith}
use Rattle.std.proofs.lemmas.Grind.{common_steps}
use Rattle.host_ports.proofs.Chains.{Puts-then}
use Rattle.host_ports.proofs.writing.write_all_of.Goals as goal

pub loop-done-preserved : goal.loop-done-preserved
loop-done-preserved g c =
    let rest : take (length c.args.bytes.now - c.loop-done.done) (drop c.loop-done.done c.args.bytes.now) ≡ drop c.loop-done.done c.args.bytes.now = grind (arith, common_steps) in
    record {
      put = rw take-add (Puts-then _ _ _ _ _ c.loop-done.invariant.put (rw rest at c.in-Ok.ensures.put));
      within = omega (arith, c.in-Ok.ensures.most);
      faults_unchanged = grind (arith, common_steps);
      room = omega (arith, c.in-Ok.ensures.spends);
    }
