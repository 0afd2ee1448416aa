-- A response that lands arrives at a live end in Rts: its number is found, and it is looked up at the barrier alone.
use Rattle.std.proofs.Common.{arith, ◌≡◌, ◌≤◌, ◌+◌, ◌-◌, ◌%◌, ℕ, List, true, false, Bool, refl, sym, ap, ◌∙◌, subst}
use Rattle.std.specs.Prelude.{Option, Some, None, IsTrue, not, ◌==◌, ◌&&◌, ◌||◌, if◌then◌else◌}
use Rattle.rdma_types.specs.declared.names.ObjName.{ObjName}
use Rattle.rdma_types.specs.declared.answers.DropReason.TheVariants as why
use Rattle.rdma_types.specs.Kinds.{kind_of, lands}
use Rattle.rdma_types.specs.Spans.{Piece, first_number, piece_at, next_landing}
use Rattle.protocol.specs.declared.wire.Syndrome.TheVariants.{Ack, Rnr, Nak}
use Rattle.protocol.specs.Bytes.{byte_at}
use Rattle.protocol.specs.EndStep.{takes, takes_kind}
use Rattle.protocol.specs.EndWords as words
use Rattle.protocol.specs.Moves.{control_of, resuming_of, stopped_of}
use Rattle.protocol.specs.Requester as requester
use Rattle.protocol.specs.Requester.{takes_response, takes_aeth, takes_landing, takes_piece, response_at, useless}
use Rattle.protocol.specs.Responder.{takes_request}
use Rattle.protocol.specs.State.{World, Link}
use Rattle.protocol.specs.Wire.{Packet, Spells, has_aeth, has_resume, is_nak_stopped, is_read_response, is_request, is_stopped, is_syndrome, read_aeth, read_resume, read_syndrome, syndrome_type, when}
use Rattle.packetless_machine.specs.Machine as machine
use Rattle.packetless_machine.specs.Machine.{Machine}
use Rattle.packetless_machine.specs.Numbers.{due, oldest}
use Rattle.law_simulation.specs.Facts.{IsNumbered}
use Rattle.law_simulation.specs.Views.{side_of}
use Rattle.law_simulation.specs.Delivered.{Arrives, context_there, end_there}
use Rattle.law_simulation.proofs.sending.GoLive.{LiveEnd, mtu_is, sends_here, untold_here}
use Rattle.law_simulation.proofs.sending.GoPieces.{piece_at-drop}
use Rattle.law_simulation.proofs.responses.ResponseAdvance.{una_is}
use Rattle.law_simulation.proofs.responses.ResponseArrives.{live_end, number_found}
use Rattle.law_simulation.proofs.responses.ResponseOld.{barrier_lands}

-- ---- it is no message of moving

resume_none : (d : Packet) (bytes : List ℕ) (s : Spells d bytes) → has_resume s.layout.headers ≡ false → d.resume ≡ None
resume_none d bytes s h = s.resume ∙ ap (λ b. when b (read_resume bytes)) h

ack_read : (t : Bool) (b : ℕ) → (syndrome_type b == 0) ≡ true → is_stopped (read_syndrome b) ≡ false
ack_read t b h = ap (λ z. is_stopped (if z then Ack else if syndrome_type b == 1 then Rnr else Nak (b % 32))) h

stopped_none : (d : Packet) (bytes : List ℕ) (s : Spells d bytes) → (d.opcode == 0x11) ≡ false → is_nak_stopped d.aeth ≡ false
unfolding is_nak_stopped is_syndrome
stopped_none d bytes s other = by_header (has_aeth s.layout.headers) refl
  where
    no_other : (t x : Bool) → IsTrue (not true || (t || ((d.opcode == 0x11) && x))) → t ≡ true
    no_other true x h = refl
    no_other false x h = absurd (cc (ap (λ z. z && x) other, h))

    by_header : (b : Bool) → has_aeth s.layout.headers ≡ b → is_nak_stopped d.aeth ≡ false
    by_header false t = ap is_nak_stopped (s.aeth ∙ ap (λ z. when z (read_aeth bytes)) t)
    by_header true t =
        ap is_nak_stopped (s.aeth ∙ ap (λ z. when z (read_aeth bytes)) t)
        ∙ ack_read true (byte_at 12 bytes) (no_other _ _ (subst (λ z. IsTrue (not z || is_syndrome d.opcode (byte_at 12 bytes))) t s.syndrome))

pub landing_control : (d : Packet) (bytes : List ℕ) (s : Spells d bytes) → (d.opcode == 0x11) ≡ false → has_resume s.layout.headers ≡ false → control_of d ≡ None
unfolding control_of
landing_control d bytes s other none =
    ap (λ b. if b then stopped_of d.aeth else resuming_of d.opcode d.resume) (stopped_none d bytes s other)
    ∙ ap (resuming_of d.opcode) (resume_none d bytes s none)

-- ---- the table of landings

module _ (w : World) (m : Machine) (o : ObjName) (l : Link) (n : ℕ) (bytes : List ℕ) (d : Packet) (a : Arrives w m o l (Some n) bytes d) (numbered : IsNumbered (side_of w o).link n d) (said : n ≤ due (machine.end_of m o)) (response : is_request d.opcode ≡ false) (lands' : (is_read_response d.opcode || d.opcode == 0x12) ≡ true) (control : control_of d ≡ None) where
  abbrev h : LiveEnd w m o l
  h = live_end w m o l (Some n) bytes d a

  pub landing_is : takes (context_there w o) (end_there w o) l d ≡ takes_landing (context_there w o) (end_there w o) l d n
  unfolding takes takes_response
  landing_is =
      let cx = context_there w o in
      let e = end_there w o in
      ap (λ b. if b then words.silent cx why.Ended else takes_kind cx e l d (control_of d)) a.alive
      ∙ (ap (takes_kind cx e l d) control
      ∙ (ap (λ b. if b then (if words.is_paused l.moving.phase then words.silent cx why.Paused else takes_request cx e l d) else takes_response cx e l d) response
      ∙ (ap (response_at cx e l d) (number_found w m o l n bytes d a numbered said response)
      ∙ ap (λ b. if b then takes_landing cx e l d n else takes_aeth cx e l n d.aeth) lands')))

-- ---- the piece at the barrier

module _ (w : World) (m : Machine) (o : ObjName) (l : Link) (n : ℕ) (number : Option ℕ) (bytes : List ℕ) (d : Packet) (a : Arrives w m o l number bytes d) (at : n ≡ requester.barrier l.terms l.sender) (x : Piece) (found : piece_at l.sender.untold l.terms.mtu (n - l.sender.first) ≡ Some x) where
  abbrev h' : LiveEnd w m o l
  h' = live_end w m o l number bytes d a

  abbrev f : machine.End
  f = machine.end_of m o

  first_una : l.sender.first ≤ l.sender.una
  unfolding oldest
  first_una = omega (arith, (sends_here w m o l a.stands h' a.alive).first, una_is w m o l a.stands h' a.alive)

  -- it lands
  pub found_lands : lands (kind_of x.posted) ≡ true
  unfolding requester.barrier
  found_lands =
      let back : n - l.sender.first ≡ next_landing l.sender.untold l.terms.mtu (l.sender.una - l.sender.first) = omega (arith, at) in
      barrier_lands l.sender.untold l.terms.mtu (l.sender.una - l.sender.first) x (sym (ap (piece_at l.sender.untold l.terms.mtu) back) ∙ found)

  -- it is the machine's
  pub found_here : l.sender.una ≤ n → piece_at f.posted f.mtu n ≡ Some x
  found_here low =
      let first = (sends_here w m o l a.stands h' a.alive).first in
      let here : n ≡ first_number f.posted f.mtu f.told + (n - l.sender.first) = omega (arith, first, first_una, low) in
      ap (piece_at f.posted f.mtu) here
      ∙ (piece_at-drop f.posted f.mtu f.told (n - l.sender.first)
      ∙ (ap (λ us. piece_at us f.mtu (n - l.sender.first)) (sym (untold_here w m o l a.stands h'))
      ∙ (ap (λ k. piece_at l.sender.untold k (n - l.sender.first)) (sym (mtu_is w m o l a.stands h')) ∙ found)))
