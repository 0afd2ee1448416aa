-- The device is sound, and its contexts have different names.
use Rattle.std.proofs.Common.{subst}
use Rattle.device_core.proofs.Within.{AreWithin}
use Rattle.device_core.proofs.device.Device.bounds_turns.Goals as goal

pub returns : goal.returns
returns c = subst AreWithin c.self.view_is (λ e turn. c.turns_change_what_arrivals_may.ensures.event _ e turn c.self.invariant.sound c.self.invariant.names)
