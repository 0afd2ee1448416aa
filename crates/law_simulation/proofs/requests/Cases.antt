-- The cases of requests, as they are promised.
use Rattle.std.proofs.Common.{◌≡◌, ◌<◌, ℕ, List, false, subst, ◌∙◌, sym}
use Rattle.std.specs.Prelude.{Some}
use Rattle.rdma_types.specs.declared.names.ObjName.{ObjName}
use Rattle.rdma_types.specs.Kinds.{is_read, is_atomic, kind_of}
use Rattle.protocol.specs.State.{World, Link}
use Rattle.protocol.specs.Wire.{Packet}
use Rattle.packetless_machine.specs.Machine.{Machine}
use Rattle.law_simulation.specs.Packets.{class_of, IsRequest}
use Rattle.law_simulation.specs.Delivered.{Arrives}
use Rattle.law_simulation.specs.Taken.{AreTakenWhere, IsAtPaused, IsAhead, IsMessageRepeat, IsWriteDry, IsWriteRun, IsSendRun, IsSendDry, IsReadTurn, asked}
use Rattle.law_simulation.proofs.requests.Requests.{request_at_end}
use Rattle.law_simulation.proofs.requests.Responding.{paused_taken}
use Rattle.law_simulation.proofs.requests.WritesDry.{write_dry}
use Rattle.law_simulation.proofs.requests.SendsRun.{send_taken}
use Rattle.law_simulation.proofs.requests.SendsDry.{send_dry}
use Rattle.law_simulation.proofs.requests.ReadTurns.{read_taken}
use Rattle.law_simulation.proofs.requests.WritesRun.{write_taken}
use Rattle.law_simulation.proofs.requests.Early.{ahead_taken, dup_taken}

some_number : (a b : ℕ) → Some a ≡ Some b → a ≡ b
some_number a b h = cc

-- its number is the one that was read
pub number_is : (w : World) (m : Machine) (o : ObjName) (l : Link) (n : ℕ) (bytes : List ℕ) (d : Packet) (a : Arrives w m o l (Some n) bytes d) (is : class_of d ≡ IsRequest) → n ≡ (request_at_end w m o l (Some n) bytes d a is).0
number_is w m o l n bytes d a is = some_number n _ (request_at_end w m o l (Some n) bytes d a is).1

pub at_paused : AreTakenWhere IsAtPaused
at_paused w m o l n bytes d a is h = paused_taken w m o l (Some n) bytes d a is h

pub are_ahead : AreTakenWhere IsAhead
are_ahead w m o l n bytes d a is h = ahead_taken w m o l (Some n) bytes d a is h.0 (subst (λ k. l.receiver.expected < k) (number_is w m o l n bytes d a is) h.1)

pub are_message_repeats : AreTakenWhere IsMessageRepeat
are_message_repeats w m o l n bytes d a is h =
    let same : n ≡ (request_at_end w m o l (Some n) bytes d a is).0 = number_is w m o l n bytes d a is in
    dup_taken w m o l (Some n) bytes d a is h.0.0
    (subst (λ k. is_read (kind_of (asked m o k)) ≡ false) same h.1)
    (subst (λ k. is_atomic (kind_of (asked m o k)) ≡ false) same h.2)
    (subst (λ k. k < l.receiver.expected) same h.0.1)

pub are_write_runs : AreTakenWhere IsWriteRun
are_write_runs w m o l n bytes d a is h = write_taken w m o l (Some n) bytes d a is h.0.0 (sym (number_is w m o l n bytes d a is) ∙ h.0.1) h.1 h.2

pub are_write_dries : AreTakenWhere IsWriteDry
are_write_dries w m o l n bytes d a is h = write_dry w m o l (Some n) bytes d a is h.0.0 (sym (number_is w m o l n bytes d a is) ∙ h.0.1) h.1 h.2 h.3

pub are_send_runs : AreTakenWhere IsSendRun
are_send_runs w m o l n bytes d a is h = send_taken w m o l (Some n) bytes d a is h.0.0 (sym (number_is w m o l n bytes d a is) ∙ h.0.1) h.1 h.2

pub are_send_dries : AreTakenWhere IsSendDry
are_send_dries w m o l n bytes d a is h = send_dry w m o l (Some n) bytes d a is h.0.0 (sym (number_is w m o l n bytes d a is) ∙ h.0.1) h.1 h.2 h.3

pub are_read_turns : AreTakenWhere IsReadTurn
are_read_turns w m o l n bytes d a is h = read_taken w m o l (Some n) bytes d a is h.0.0 (sym (number_is w m o l n bytes d a is) ∙ h.0.1) h.1 h.2
