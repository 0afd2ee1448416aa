-- The first cause by what is found.
use Rattle.std.proofs.Common.{◌≡◌, ◌∙◌, ap, sym, true, false, length, arith, nat_le}
use Rattle.std.proofs.lemmas.Bool.Decides.{nat_tests}
use Rattle.rdma_types.specs.declared.answers.Refusal.TheVariants as refusal
use Rattle.rdma_types.specs.Limits.{most_devices}
use Rattle.protocol.specs.State.{World}
use Rattle.world_core.proofs.Causes.{holds_first, holds_not, no_cause}
use Rattle.world_core.proofs.world.World.device_refusal.Goals as goal

pub returns-then-is_taken : goal.returns-then-is_taken
returns-then-is_taken c = sym (holds_first refusal.NumberTaken _ _ (sym c.is_taken.ensures ∙ c.if-is_taken.true))

pub returns-then-len-ge-MOST_DEVICES : goal.returns-then-len-ge-MOST_DEVICES
returns-then-len-ge-MOST_DEVICES c =
    let same : length c.self.inside.devices.items ≡ length c.args.self.now.devices = ap (λ (w : World). length w.devices) c.self.view_is in
    let full : nat_le most_devices (length c.args.self.now.devices) ≡ true = grind (arith, nat_tests) in
    sym (holds_not refusal.NumberTaken _ _ (sym c.is_taken.ensures ∙ c.if-is_taken.false) ∙ holds_first refusal.TooMany _ _ full)

pub returns : goal.returns
returns c =
    let same : length c.self.inside.devices.items ≡ length c.args.self.now.devices = ap (λ (w : World). length w.devices) c.self.view_is in
    let room : nat_le most_devices (length c.args.self.now.devices) ≡ false = grind (arith, nat_tests) in
    sym (holds_not refusal.NumberTaken _ _ (sym c.is_taken.ensures ∙ c.if-is_taken.false) ∙ (holds_not refusal.TooMany _ _ room ∙ no_cause))
