use Rattle.std.proofs.Common.{arith, ◌≤◌, ap}
use Rattle.std.specs.Prelude.{nat_eq}
use Rattle.std.specs.Map.{lookup}
use Rattle.device_core.proofs.NewDevices.{held-new}
use Rattle.device_core.proofs.device.Device.make.Goals as goal

pub invariant_of-result : goal.invariant_of-result
invariant_of-result c =
    let few : c.args.id ≤ 255 = omega (arith, c.ranges.id) in
    held-new c.args.id c.args.address c.in_ok-pool.pool c.new.result.entries c.new-2.result.entries _ c.new.ensures.empty c.new-2.ensures.empty (λ k. ap (lookup (nat_eq k)) c.new-3.ensures.empty) c.in_ok-pool.ensures c.requires few
