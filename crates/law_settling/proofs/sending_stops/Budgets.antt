-- How often an end may still send before it stops.
use Rattle.std.proofs.Common.{◌≡◌, ◌≤◌, ◌<◌, ◌+◌, ◌⊎◌, ℕ, true, false, refl, ap, ◌∙◌}
use Rattle.std.specs.Prelude.{Option, Some, None, is_some, ◌==◌, ◌&&◌, ◌||◌, length, if◌then◌else◌}
use Rattle.rdma_types.specs.declared.names.ObjName.{ObjName}
use Rattle.rdma_types.specs.Spans.{Piece}
use Rattle.protocol.specs.declared.wire.AtomicEth.{AtomicEth}
use Rattle.protocol.specs.declared.wire.Reth.{Reth}
use Rattle.rdma_types.specs.Memory.{RemoteAtomic, RemoteRead, RemoteWrite, granted, remote_key}
use Rattle.rdma_types.specs.Objects.{no_region}
use Rattle.protocol.specs.Numbers.{wire_number}
use Rattle.protocol.specs.Segments.{packet_of_piece}
use Rattle.protocol.specs.State.{World, Context, End, Link, Moving}
use Rattle.protocol.specs.Wire.{Packet}
use Rattle.protocol.specs.EndWords.{is_paused, is_resuming}
use Rattle.protocol.specs.Requester.{end_of_queue}
use Rattle.protocol.specs.Responder.{is_bad_read, is_bad_write, is_empty, is_invalid, is_missized, is_out_of_place, is_read_request, is_unaligned, is_write, needs_receive, part_of, reth_target, target, target_of}
use Rattle.packetless_machine.specs.Machine.{Machine}
use Rattle.law_simulation.specs.Stands.{Stands}
use Rattle.law_simulation.specs.Views.{place_of}
use Rattle.law_settling.proofs.bound.Lives.{lives, at_end, context_in}
use Rattle.law_settling.proofs.sending_stops.Turns.{IsDryFor, IsHeld, piece_with}

-- ---- a request that lacks a receive lacks it still where nothing of its end changed

module _ (c c' : Context) (e e' : End) (regions : c'.regions ≡ c.regions) (domain : e'.domain ≡ e.domain) where
  reth_like : (opcode : ℕ) (h : Option Reth) → reth_target c' e' opcode h ≡ reth_target c e opcode h
  reth_like opcode None = refl
  reth_like opcode (Some h) = λ i. if h.length == 0 then Some no_region else granted remote_key (regions i) (domain i) h.rkey h.address h.length (if is_read_request opcode then RemoteRead else RemoteWrite)

  target_like : (d : Packet) (h : Option AtomicEth) → target_of c' e' d h ≡ target_of c e d h
  target_like d None = reth_like d.opcode d.reth
  target_like d (Some h) = λ i. granted remote_key (regions i) (domain i) h.rkey h.address 8 RemoteAtomic

pub dry_like : (c c' : Context) (e e' : End) (l l' : Link) (d : Packet) → c'.regions ≡ c.regions → e'.domain ≡ e.domain → e'.unused ≡ e.unused → l'.receiver.progress ≡ l.receiver.progress → l'.terms.mtu ≡ l.terms.mtu → IsDryFor c e l d → IsDryFor c' e' l' d
unfolding is_invalid target
dry_like c c' e e' l l' d regions domain unused progress mtu h = record {
  valid =
      (λ i. is_out_of_place (part_of d.opcode) d.opcode (progress i) || (is_missized (part_of d.opcode) (length d.payload) (mtu i) || ((is_write d.opcode && is_bad_write d (progress i)) || ((is_read_request d.opcode && is_bad_read d.reth) || is_unaligned d.atomic))))
      ∙ h.valid;
  granted = ap is_some (target_like c c' e e' regions domain d d.atomic) ∙ h.granted;
  dry = ap (λ us. needs_receive d && is_empty us) unused ∙ h.dry;
}

-- ---- the numbers of an end that sends

-- the packet of a piece
abbrev pub packet_with : Link → Piece → ℕ → Packet
packet_with l x n = packet_of_piece x.posted l.terms.mtu x.k l.peer (wire_number l.terms.own_start n)

-- one past its last number
abbrev pub end_of : Link → ℕ
end_of l = end_of_queue l.terms l.sender

module _ (o : ObjName) (number : ℕ) (moving : Moving) where
  -- the end lives where o sends to
  abbrev pub IsReached : World → ObjName → Type 0
  IsReached w p = place_of w p.context ≡ Some moving.partner

  -- what is true of the partner, the end with the number, where it takes requests
  abbrev pub Watches : World → (ObjName → Link → Type 0) → Type 0
  Watches w P = (p : ObjName) (lp : Link) → (at_end w p).link ≡ Some lp → (at_end w p).number ≡ number → lp.ended ≡ false → is_paused lp.moving.phase ≡ false → IsReached w p → P p lp

  -- the request of that number lacks a receive
  abbrev pub IsDryAt : World → Link → ObjName → Link → ℕ → Type 0
  IsDryAt w l p lp n = (x : Piece) → piece_with l n ≡ Some x → IsDryFor (context_in (lives w) p.context) (at_end w p) lp (packet_with l x n)

  -- the partner has asked for the expected number already, and it is behind, or it lacks a receive
  abbrev pub AsksNoMore : World → Link → ObjName → Link → Type 0
  AsksNoMore w l p lp = (lp.receiver.nak_sent ≡ true) × ((lp.receiver.expected < l.sender.next) ⊎ IsDryAt w l p lp lp.receiver.expected)

  -- o is not ahead of what is expected
  abbrev pub IsInStep : Link → ObjName → Link → Type 0
  IsInStep l p lp = l.sender.next ≤ lp.receiver.expected

  -- the expected number is behind, and lacks a receive
  abbrev pub IsStuck : World → Link → ObjName → Link → Type 0
  IsStuck w l p lp = (lp.receiver.expected < l.sender.next) × IsDryAt w l p lp lp.receiver.expected

  -- the end with the link l sends at most n times: it has nothing to send; it is not asked to go back again; it is in step with
  -- what is expected; it is asked to go back once more; or any of these
  abbrev pub IsBound : ℕ → World → Link → Type 0
  IsBound n w l =
      (end_of l ≤ l.sender.next)
      ⊎ ((end_of l ≤ n + l.sender.next) × Watches w (AsksNoMore w l))
      ⊎ ((end_of l + end_of l ≤ n + l.sender.next + l.sender.una) × Watches w (IsInStep l))
      ⊎ ((1 + end_of l ≤ n + l.sender.una) × Watches w (IsStuck w l))
      ⊎ (1 + end_of l + end_of l ≤ n + l.sender.una + l.sender.una)

  -- it is held, and does not resume
  abbrev pub IsStopped : Link → Type 0
  IsStopped l = IsHeld l × ((l.ended ≡ true) ⊎ (is_resuming l.moving.phase ≡ false))

  -- the end o sends at most n times
  pub record Budget (n : ℕ) (w : World) : Type 0 where
    pub machine : Machine
    pub stands : Stands w machine
    pub link : Link
    pub linked : (at_end w o).link ≡ Some link
    pub bound : IsStopped link ⊎ ((link.ended ≡ false) × (link.moving ≡ moving) × (link.peer ≡ number) × IsBound n w link)
