-- Sorts of datagrams, and their steps.
use Rattle.std.proofs.Common.{arith, ◌≡◌, ◌<◌, ◌≤◌, ◌==◌, ℕ, Bool, true, false, List, refl, sym, ap, ◌∙◌, if◌then◌else◌}
use Rattle.std.specs.Prelude.{◌||◌, Option, Some, None}
use Rattle.std.proofs.lemmas.Bool.Decides.{nat_tests}
use Rattle.rdma_types.specs.declared.answers.ArrivalEffect.{ArrivalEffect}
use Rattle.rdma_types.specs.declared.names.ObjName.{ObjName}
use Rattle.protocol.specs.declared.wire.ResumeBody.{ResumeBody}
use Rattle.protocol.specs.EndWords.{is_paused}
use Rattle.protocol.specs.State.{World}
use Rattle.protocol.specs.Wire.{Packet, is_read_response, is_request}
use Rattle.packetless_machine.specs.Machine.{Machine}
use Rattle.law_simulation.specs.Named.{class_steps}
use Rattle.law_simulation.specs.Packets.{Class, IsRequest, IsReadResponse, IsAtomicResponse, IsAck, IsSequenceNak, IsRefusal, IsReceiverNotReady, IsStopped, IsResume, IsResumeAck, IsNothing, aeth_class, class_of, nak_class, resume_class}
use Rattle.law_simulation.specs.Views.{link_of}
use Rattle.trace_record.specs.declared.recorder.arrivals.DatagramKind.TheVariants as sort
use Rattle.trace_record.specs.Arrivals.{sort_of, sorted_steps}

-- ---- NAKs

by_code : (a b c d : Bool) (count : ℕ) → sort_of (if a then IsSequenceNak else if b then IsRefusal false else if c then IsRefusal true else if d then IsStopped count else IsNothing) ≡ (if a || (b || c) then sort.Nak else sort.Other)
by_code true b c d count = refl
by_code false true c d count = refl
by_code false false true d count = refl
by_code false false false true count = refl
by_code false false false false count = refl

pub small_nak : (code count : ℕ) → code ≤ 2 → sort.Nak ≡ sort_of (nak_class code count)
unfolding nak_class
small_nak code count h =
    let t : ((code == 0) || ((code == 1) || (code == 2))) ≡ true = grind (arith, nat_tests) in
    sym (by_code (code == 0) (code == 1) (code == 2) (code == 5) count ∙ ap (λ b. if b then sort.Nak else sort.Other) t)

pub large_nak : (code count : ℕ) → 2 < code → sort.Other ≡ sort_of (nak_class code count)
unfolding nak_class
large_nak code count h =
    let t : ((code == 0) || ((code == 1) || (code == 2))) ≡ false = grind (arith, nat_tests) in
    sym (by_code (code == 0) (code == 1) (code == 2) (code == 5) count ∙ ap (λ b. if b then sort.Nak else sort.Other) t)

-- ---- opcodes

moving : (r : Option ResumeBody) (opcode : ℕ) → sort_of (resume_class opcode r) ≡ sort.Other
unfolding resume_class
moving None opcode = refl
moving (Some body) opcode = by (opcode == 0x1E)
  where
    by : (c : Bool) → sort_of (if c then IsResume body else IsResumeAck body) ≡ sort.Other
    by true = refl
    by false = refl

abbrev by_opcode : Bool → Bool → Bool → Bool → Class → Class → Class
by_opcode a b c d x y = if a then IsRequest else if b then IsReadResponse else if c then IsAtomicResponse else if d then x else y

module _ (d : Packet) where
  class_is : class_of d ≡ by_opcode (is_request d.opcode) (is_read_response d.opcode) (d.opcode == 0x12) (d.opcode == 0x11) (aeth_class d.aeth) (resume_class d.opcode d.resume)
  unfolding class_of
  class_is = refl

  pub request_sort : is_request d.opcode ≡ true → sort.Request ≡ sort_of (class_of d)
  request_sort a = sym (ap sort_of (class_is ∙ ap (λ z. by_opcode z (is_read_response d.opcode) (d.opcode == 0x12) (d.opcode == 0x11) (aeth_class d.aeth) (resume_class d.opcode d.resume)) a))

  pub response_sort : is_request d.opcode ≡ false → is_read_response d.opcode ≡ true → sort.ReadResponse ≡ sort_of (class_of d)
  response_sort a b = sym (ap sort_of (class_is ∙ λ i. by_opcode (a i) (b i) (d.opcode == 0x12) (d.opcode == 0x11) (aeth_class d.aeth) (resume_class d.opcode d.resume)))

  pub value_sort : is_request d.opcode ≡ false → is_read_response d.opcode ≡ false → (d.opcode == 0x12) ≡ true → sort.AtomicResponse ≡ sort_of (class_of d)
  value_sort a b c = sym (ap sort_of (class_is ∙ λ i. by_opcode (a i) (b i) (c i) (d.opcode == 0x11) (aeth_class d.aeth) (resume_class d.opcode d.resume)))

  pub ack_sort : is_request d.opcode ≡ false → is_read_response d.opcode ≡ false → (d.opcode == 0x12) ≡ false → (d.opcode == 0x11) ≡ true → sort_of (aeth_class d.aeth) ≡ sort_of (class_of d)
  ack_sort a b c e = sym (ap sort_of (class_is ∙ λ i. by_opcode (a i) (b i) (c i) (e i) (aeth_class d.aeth) (resume_class d.opcode d.resume)))

  pub moving_sort : is_request d.opcode ≡ false → is_read_response d.opcode ≡ false → (d.opcode == 0x12) ≡ false → (d.opcode == 0x11) ≡ false → sort.Other ≡ sort_of (class_of d)
  moving_sort a b c e = sym (ap sort_of (class_is ∙ λ i. by_opcode (a i) (b i) (c i) (e i) (aeth_class d.aeth) (resume_class d.opcode d.resume)) ∙ moving d.resume d.opcode)

-- ---- the steps of a sort are those of each class of it

pub class_sorted : (w : World) (m : Machine) (p : ObjName) (n : ℕ) (bytes : List ℕ) (c : Class) (t : ArrivalEffect) → class_steps w m p n bytes c t ≡ sorted_steps m (is_paused (link_of w p).moving.phase) p n bytes (sort_of c) t
class_sorted w m p n bytes IsRequest t = refl
class_sorted w m p n bytes IsReadResponse t = refl
class_sorted w m p n bytes IsAtomicResponse t = refl
class_sorted w m p n bytes IsAck t = refl
class_sorted w m p n bytes IsSequenceNak t = refl
class_sorted w m p n bytes (IsRefusal is_access) t = refl
class_sorted w m p n bytes IsReceiverNotReady t = refl
class_sorted w m p n bytes (IsStopped count) t = refl
class_sorted w m p n bytes (IsResume body) t = refl
class_sorted w m p n bytes (IsResumeAck body) t = refl
class_sorted w m p n bytes IsNothing t = refl
