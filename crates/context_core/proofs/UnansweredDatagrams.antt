-- A datagram that is neither a request nor a RESUME is not answered.
use Rattle.std.proofs.Common.{◌≡◌, Bool, List, [], false, true, refl, length, ap, arith}
use Rattle.std.specs.Prelude.{Option, Some, None, ◌==◌, ◌||◌}
use Rattle.rdma_types.specs.declared.answers.Sent.{Sent}
use Rattle.protocol.specs.State.{Link, End, Context}
use Rattle.protocol.specs.Wire.{Packet, is_request}
use Rattle.law_devices.proofs.Silent.{reply_silent}
use Rattle.endpoint_core.specs.Answers.{taken_at}

-- at an end that may be connected
pub unanswered : (c : Context) (e : End) (o : Option Link) (d : Packet) → is_request d.opcode ≡ false → (d.opcode == 0x1E) ≡ false → (taken_at c e o d).sent ≡ []
unanswered c e None d a b = refl
unanswered c e (Some l) d a b = (reply_silent c e l d a b).none

-- neither is one of the two, where none of both is
pub neither : (a b : Bool) → (a || b) ≡ false → (a ≡ false) × (b ≡ false)
neither true b h = absurd (cc)
neither false b h = (refl, h)

-- memory that is there for each answer is there for one datagram
pub for-answer : {P : Type 0} (answers : Bool) (draft : List Sent) → (answers ≡ true → P) → (answers ≡ false → draft ≡ []) → length draft ≡ 1 → P
for-answer true draft made none there = made refl
for-answer false draft made none there = absurd (omega (arith, ap length (none refl), there))
