-- An acknowledgement arrives at a live end in Rts: its number is found, and the table of acknowledges is looked at.
use Rattle.std.proofs.Common.{arith, ◌≡◌, ◌≤◌, ◌+◌, ℕ, suc, List, true, false, Bool, refl, sym, ap, ◌∙◌, inl, inr}
use Rattle.std.specs.Prelude.{Option, Some, None, nat_lt, ◌==◌, ◌||◌, if◌then◌else◌}
use Rattle.std.proofs.lemmas.Bool.Decides.{nat_tests, leb_tells, eqb_tells}
use Rattle.rdma_types.specs.declared.names.ObjName.{ObjName}
use Rattle.rdma_types.specs.Limits.{latest}
use Rattle.protocol.specs.declared.wire.Aeth.{Aeth}
use Rattle.protocol.specs.declared.wire.ResumeBody.{ResumeBody}
use Rattle.protocol.specs.declared.wire.Syndrome.{Syndrome}
use Rattle.protocol.specs.declared.wire.Syndrome.TheVariants.{Ack, Rnr, Nak}
use Rattle.rdma_types.specs.declared.answers.DropReason.TheVariants as why
use Rattle.protocol.specs.EndStep.{takes, takes_kind}
use Rattle.protocol.specs.EndWords as words
use Rattle.protocol.specs.Moves.{control_of, resuming_of, stopped_of}
use Rattle.protocol.specs.Numbers.{unwrap_near, wire_number}
use Rattle.protocol.specs.Requester.{takes_response, takes_aeth, takes_landing, response_at}
use Rattle.protocol.specs.Responder.{takes_request}
use Rattle.protocol.specs.State.{World, Link}
use Rattle.protocol.specs.Wire.{Packet, packet_of, layout_of, is_nak_stopped, is_read_response, is_request, is_stopped, has_resume, when, read_resume}
use Rattle.protocol.proofs.NearNumbers.{known}
use Rattle.protocol.proofs.PacketGrammar.{read_spelled}
use Rattle.packetless_machine.specs.Machine as machine
use Rattle.packetless_machine.specs.Machine.{Machine}
use Rattle.packetless_machine.specs.Numbers.{due}
use Rattle.law_simulation.specs.Facts.{IsNumbered}
use Rattle.law_simulation.specs.Packets.{Class, class_of, aeth_class, syndrome_class, nak_class, resume_class, IsRequest, IsReadResponse, IsAtomicResponse, IsAck, IsSequenceNak, IsRefusal, IsReceiverNotReady, IsStopped, IsResume, IsResumeAck, IsNothing}
use Rattle.protocol.specs.WorldStep.{is_carried}
use Rattle.law_simulation.specs.Views.{side_of}
use Rattle.law_simulation.proofs.relation.Worlds.{is_there}
use Rattle.law_simulation.specs.Delivered.{Arrives, context_there, end_there}
use Rattle.law_simulation.proofs.sending.GoLive.{LiveEnd, link_is, ordered_here}
use Rattle.law_simulation.proofs.responses.ResponseAdvance.{near_una}

-- ---- what an acknowledgement is

-- ACK, NAK 0, 1 and 2, and RNR NAK
unfoldable pub is_answer : Class → Bool
is_answer IsAck = true
is_answer IsSequenceNak = true
is_answer (IsRefusal is_access) = true
is_answer IsReceiverNotReady = true
is_answer IsRequest = false
is_answer IsReadResponse = false
is_answer IsAtomicResponse = false
is_answer (IsStopped count) = false
is_answer (IsResume body) = false
is_answer (IsResumeAck body) = false
is_answer IsNothing = false

-- an acknowledgement with this header
pub record IsAcknowledge (d : Packet) (c : Class) (h : Aeth) : Type 0 where
  pub opcode : d.opcode ≡ 0x11
  pub header : d.aeth ≡ Some h
  pub says : syndrome_class h.syndrome h.msn ≡ c

resume_no : (opcode : ℕ) (body : Option ResumeBody) → is_answer (resume_class opcode body) ≡ true → ⊥
unfolding is_answer resume_class
resume_no opcode None h = cc
resume_no opcode (Some body) h = by_test (opcode == 0x1E) h
  where
    by_test : (b : Bool) → is_answer (if b then IsResume body else IsResumeAck body) ≡ true → ⊥
    by_test true h = cc
    by_test false h = cc

aeth_yes : (a : Option Aeth) (c : Class) → is_answer c ≡ true → aeth_class a ≡ c → (h : Aeth) × (a ≡ Some h) × (syndrome_class h.syndrome h.msn ≡ c)
unfolding is_answer aeth_class
aeth_yes None c good e = absurd (cc (ap is_answer e, good))
aeth_yes (Some h) c good e = (h, refl, e)

pub acknowledge : (d : Packet) (c : Class) → is_answer c ≡ true → class_of d ≡ c → (h : Aeth) × IsAcknowledge d c h
unfolding class_of is_answer
acknowledge d c good e = by_tests (is_request d.opcode) (is_read_response d.opcode) (d.opcode == 0x12) (d.opcode == 0x11) refl e
  where
    by_tests : (p q r t : Bool) → (d.opcode == 0x11) ≡ t → (if p then IsRequest else if q then IsReadResponse else if r then IsAtomicResponse else if t then aeth_class d.aeth else resume_class d.opcode d.resume) ≡ c → (h : Aeth) × IsAcknowledge d c h
    by_tests true q r t u e = absurd (cc (ap is_answer e, good))
    by_tests false true r t u e = absurd (cc (ap is_answer e, good))
    by_tests false false true t u e = absurd (cc (ap is_answer e, good))
    by_tests false false false false u e = absurd (resume_no d.opcode d.resume (ap is_answer e ∙ good))
    by_tests false false false true u e =
        let found = aeth_yes d.aeth c good e in
        let opcode : d.opcode ≡ 0x11 = elim (eqb_tells d.opcode 0x11) [ inl x ↦ x.1 | inr x ↦ absurd (cc (x.0, u)) ] in
        (found.0, record { opcode = opcode; header = found.1; says = found.2 })

-- ---- no message of moving

none_when : {A : Type 0} (b : Bool) (x : A) → b ≡ false → when b x ≡ None
none_when true x h = absurd (cc)
none_when false x h = refl

same_layout : {A : Type 0} (a b : A) → Some a ≡ Some b → a ≡ b
same_layout a b h = cc

no_resume : (d : Packet) (bytes : List ℕ) → packet_of bytes ≡ Some d → d.opcode ≡ 0x11 → d.resume ≡ None
unfolding layout_of
no_resume d bytes read opcode =
    let s = read_spelled d bytes read in
    s.resume ∙ none_when (has_resume s.layout.headers) (read_resume bytes) (ap (λ x. has_resume x.headers) (same_layout s.layout _ (sym s.known ∙ ap layout_of opcode)))

not_stopped : (y : Syndrome) (msn : ℕ) (c : Class) → is_answer c ≡ true → syndrome_class y msn ≡ c → is_stopped y ≡ false
unfolding is_answer syndrome_class nak_class
not_stopped Ack msn c good e = refl
not_stopped Rnr msn c good e = refl
not_stopped (Nak code) msn c good e = elim (eqb_tells code 5) [
  | inl x ↦ absurd (cc (ap is_answer (sym (ap (λ k. nak_class k msn) x.1) ∙ e), good))
  | inr x ↦ x.0
]

no_control : (d : Packet) (bytes : List ℕ) (c : Class) (h : Aeth) → is_answer c ≡ true → packet_of bytes ≡ Some d → IsAcknowledge d c h → control_of d ≡ None
unfolding control_of is_nak_stopped
no_control d bytes c h good read a =
    ap (λ x. if is_nak_stopped x then stopped_of x else resuming_of d.opcode d.resume) a.header
    ∙ (ap (λ b. if b then stopped_of (Some h) else resuming_of d.opcode d.resume) (not_stopped h.syndrome h.msn c good a.says)
    ∙ ap (resuming_of d.opcode) (no_resume d bytes read a.opcode))

-- ---- at the end

-- the end lives
pub live_end : (w : World) (m : Machine) (o : ObjName) (l : Link) (number : Option ℕ) (bytes : List ℕ) (d : Packet) → Arrives w m o l number bytes d → LiveEnd w m o l
live_end w m o l number bytes d a = record { live = a.live; there = is_there w m o.context a.stands.placed ∙ ap (λ b. b || is_carried w o.context) a.live; found = a.there; linked = a.linked }

not_late : (top n : ℕ) → nat_lt (n + latest) top ≡ false → top ≤ n + latest
not_late top n h = grind (arith, nat_tests, leb_tells (suc (n + 4194304)) top)

module _ (w : World) (m : Machine) (o : ObjName) (l : Link) (n : ℕ) (bytes : List ℕ) (d : Packet) (a : Arrives w m o l (Some n) bytes d) (numbered : IsNumbered (side_of w o).link n d) (said : n ≤ due (machine.end_of m o)) (response : is_request d.opcode ≡ false) where
  -- a response is not later than so many numbers
  top_near : l.sender.top ≤ n + latest
  top_near = not_late l.sender.top n (ap (λ b. nat_lt (n + latest) (if b then l.receiver.expected else l.sender.top)) (sym response) ∙ a.fresh)

  -- its number is found
  pub number_found : unwrap_near l.terms.own_start d.psn l.sender.una ≡ Some n
  number_found =
      let h : LiveEnd w m o l = live_end w m o l (Some n) bytes d a in
      let u : l.sender.una ≤ l.sender.top = omega (arith, (ordered_here w m o l a.stands h).una_next, (ordered_here w m o l a.stands h).next_top) in
      known l.terms.own_start d.psn l.sender.una n (record {
        spelled = ap (λ z. wire_number z.terms.own_start n) (sym (link_is w m o l a.stands h)) ∙ sym numbered;
        low = omega (arith, u, top_near);
        high = omega (arith, near_una w m o l a.stands h a.alive n said);
      })

  -- an acknowledgement is looked up in its table
  pub answered : (c : Class) (h : Aeth) → is_answer c ≡ true → IsAcknowledge d c h → takes (context_there w o) (end_there w o) l d ≡ takes_aeth (context_there w o) (end_there w o) l n (Some h)
  unfolding takes takes_response
  answered c h good k =
      let cx = context_there w o in
      let e = end_there w o in
      let other : (is_read_response d.opcode || d.opcode == 0x12) ≡ false = ap (λ p. is_read_response p || p == 0x12) k.opcode in
      ap (λ b. if b then words.silent cx why.Ended else takes_kind cx e l d (control_of d)) a.alive
      ∙ (ap (takes_kind cx e l d) (no_control d bytes c h good a.read k)
      ∙ (ap (λ b. if b then (if words.is_paused l.moving.phase then words.silent cx why.Paused else takes_request cx e l d) else takes_response cx e l d) response
      ∙ (ap (response_at cx e l d) number_found
      ∙ (ap (λ b. if b then takes_landing cx e l d n else takes_aeth cx e l n d.aeth) other
      ∙ ap (takes_aeth cx e l n) k.header))))

-- an acknowledgement is no request
pub answer_response : (d : Packet) (c : Class) (h : Aeth) → IsAcknowledge d c h → is_request d.opcode ≡ false
unfolding is_request
answer_response d c h k = ap is_request k.opcode

pub ack_header : (d : Packet) → class_of d ≡ IsAck → (h : Aeth) × IsAcknowledge d IsAck h
unfolding is_answer
ack_header d e = acknowledge d IsAck refl e

pub ack_good : is_answer IsAck ≡ true
unfolding is_answer
ack_good = refl
