-- How an end of a connection of letters comes to Error: no request is refused, so what is left are expiries, and waits where they are
-- limited.
use Rattle.std.specs.Prelude.{ℕ, ◌≡◌, ◌≢◌, List, slice_get, true, false}
use Rattle.rdma_types.specs.declared.answers.RefusalReason.{RefusalReason}
use Rattle.rdma_types.specs.declared.names.ObjName.{ObjName}
use Rattle.packetless_machine.specs.declared.steps.MachineStep.{MachineStep}
use Rattle.packetless_machine.specs.declared.steps.MachineStep.TheVariants as steps
use Rattle.packetless_machine.specs.Legal.{effect, is_enabled}
use Rattle.packetless_machine.specs.Machine.{Machine, end_of}
use Rattle.packetless_machine.specs.Steps.{is_denied}
use Rattle.mailbox_rules.specs.Histories.{Turn}
use Rattle.mailbox_rules.specs.State.{Mail}
use Rattle.law_mailbox.specs.Held.{AreAllKept, IsEndOf, IsInner}

-- where all is kept, no end refuses a request of its peer: a Send fits its receive, and a Read names bytes of the slot, which are granted
abbrev pub NoRequestIsRefused : Type 0
NoRequestIsRefused = (peers : ℕ) (ts : List Turn) (m : Mail) (machine : Machine) (q : ObjName) (why : RefusalReason) → AreAllKept peers ts m machine → is_enabled machine (steps.Refuse q why) ≡ true → ⊥

-- what brings the end o to Error: an expiry when as many were counted of its first untold request as it has retries, so the one after
-- them; a wait likewise, where waits are limited; or that it learns of a refusal, or refuses
abbrev pub EndsIt : Machine → ObjName → MachineStep → Type 0
EndsIt m o (steps.Expire q) = (q ≡ o) × ((end_of m o).spent ≡ (end_of m o).retry)
EndsIt m o (steps.Wait q) = (q ≡ o) × ((end_of m o).rnr ≢ 7) × ((end_of m o).waits ≡ (end_of m o).rnr)
EndsIt m o (steps.Bounce q) = (q ≡ o) × (is_denied (slice_get (end_of m o).answers (end_of m o).told) ≡ true)
EndsIt m o (steps.Refuse q why) = o ≡ (end_of m q).peer
EndsIt m o other = ⊥

-- of these an end of a connection of letters has only the first three, and the third only where an answer refuses
abbrev pub EndsByExpiry : Machine → ObjName → MachineStep → Type 0
EndsByExpiry m o (steps.Refuse q why) = ⊥
EndsByExpiry m o other = EndsIt m o other

abbrev pub EndsEndSo : Type 0
EndsEndSo = (peers : ℕ) (ts : List Turn) (m : Mail) (machine : Machine) (s : MachineStep) (o : ObjName) → IsInner s → is_enabled machine s ≡ true → AreAllKept peers ts m machine → IsEndOf peers o →
    (end_of machine o).ended ≡ false → (end_of (effect machine s) o).ended ≡ true → EndsByExpiry machine o s
