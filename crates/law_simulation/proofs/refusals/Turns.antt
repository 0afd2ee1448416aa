-- The cases of expected requests that do not act, as they are promised.
use Rattle.std.proofs.Common.{◌≡◌, ℕ, List, sym, ◌∙◌}
use Rattle.std.specs.Prelude.{Some}
use Rattle.rdma_types.specs.declared.names.ObjName.{ObjName}
use Rattle.protocol.specs.State.{World, Link}
use Rattle.protocol.specs.Wire.{Packet}
use Rattle.packetless_machine.specs.Machine.{Machine}
use Rattle.law_simulation.specs.Packets.{class_of, IsRequest}
use Rattle.law_simulation.specs.Delivered.{Arrives}
use Rattle.law_simulation.specs.Taken.{AreTakenWhere, IsExpected}
use Rattle.law_simulation.proofs.requests.Requests.{request_at_end}
use Rattle.law_simulation.proofs.requests.Cases.{number_is}
use Rattle.law_simulation.proofs.requests.Checks.{invalid_is, target_is, not_ready_is, too_long_is}
use Rattle.law_simulation.specs.Refusals.{ChecksAgree, FindsNoReceive, IsInvalid, IsNotGranted, IsTooLong, MayNotAct}
use Rattle.law_simulation.proofs.refusals.Dried.{dry_taken}
use Rattle.law_simulation.proofs.refusals.Refused.{access_taken, invalid_taken, length_taken}
use Rattle.law_simulation.proofs.refusals.Acts.{idle_taken}

-- its number is the expected one
expected_now : (w : World) (m : Machine) (o : ObjName) (l : Link) (n : ℕ) (bytes : List ℕ) (d : Packet) (a : Arrives w m o l (Some n) bytes d) (is : class_of d ≡ IsRequest) → IsExpected w m o l n d → (request_at_end w m o l (Some n) bytes d a is).0 ≡ l.receiver.expected
expected_now w m o l n bytes d a is h = sym (number_is w m o l n bytes d a is) ∙ h.1

pub agree : ChecksAgree
agree w m o l n bytes d a is h =
    let now = expected_now w m o l n bytes d a is h in
    record {
      invalid = invalid_is w m o l (Some n) bytes d a is h.0 now;
      granted = target_is w m o l (Some n) bytes d a is h.0 now;
      ready = not_ready_is w m o l (Some n) bytes d a is h.0 now;
      fits = too_long_is w m o l (Some n) bytes d a is h.0 now;
    }

pub are_invalid : AreTakenWhere IsInvalid
are_invalid w m o l n bytes d a is h = invalid_taken w m o l (Some n) bytes d a is h.0.0 (expected_now w m o l n bytes d a is h.0) h.1

pub are_not_granted : AreTakenWhere IsNotGranted
are_not_granted w m o l n bytes d a is h = access_taken w m o l (Some n) bytes d a is h.0.0.0 (expected_now w m o l n bytes d a is h.0.0) h.0.1 h.1

pub are_too_long : AreTakenWhere IsTooLong
are_too_long w m o l n bytes d a is h = length_taken w m o l (Some n) bytes d a is h.0.0.0.0 (expected_now w m o l n bytes d a is h.0.0.0) h.0.0.1 h.0.1 h.1 h.2

pub are_dry : AreTakenWhere FindsNoReceive
are_dry w m o l n bytes d a is h = dry_taken w m o l (Some n) bytes d a is h.0.0.0.0 (expected_now w m o l n bytes d a is h.0.0.0) h.0.0.1 h.0.1 h.1

pub are_idle : AreTakenWhere MayNotAct
are_idle w m o l n bytes d a is h = idle_taken w m o l (Some n) bytes d a is h.0.0 (expected_now w m o l n bytes d a is h.0) h.1 h.2 h.3
