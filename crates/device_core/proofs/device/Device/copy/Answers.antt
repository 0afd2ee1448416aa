use Rattle.std.proofs.Common.{◌∙◌}
use Rattle.device_core.proofs.Copied.{device-copied, held-copied}
use Rattle.device_core.proofs.device.Device.copy.Goals as goal

pub invariant_of-result : goal.invariant_of-result
invariant_of-result c = held-copied _ _ _ _ _ _ _ _ _ _ c.in_ok-copy.ensures c.in_ok-copy_contexts.ensures c.in_ok-copy_husks.ensures _ _ c.in_ok-copy_index.ensures c.self.invariant

pub returns : goal.returns
returns c = device-copied _ _ _ _ _ _ _ _ _ _ c.in_ok-copy.ensures c.in_ok-copy_contexts.ensures c.in_ok-copy_husks.ensures ∙ c.self.view_is
