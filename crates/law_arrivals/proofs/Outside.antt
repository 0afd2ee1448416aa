-- Outside the window of packet numbers a packet changes nothing but a note.
use Rattle.std.proofs.Common.{arith, ◌≡◌, ◌⊎◌, ◌≤◌, ◌<◌, ◌+◌, ◌-◌, ℕ, true, false, Bool, refl, sym, inl, inr}
use Rattle.std.specs.Prelude.{Option, Some, None, if◌then◌else◌, is_some, nat_le, nat_lt, ◌==◌, ◌&&◌, ◌||◌}
use Rattle.std.proofs.lemmas.Bool.Decides.{eqb_tells, leb_tells, nat_tests}
use Rattle.rdma_types.specs.declared.answers.DropReason.TheVariants as why
use Rattle.rdma_types.specs.Lists.{first_that}
use Rattle.rdma_types.specs.Objects.{Region, no_region}
use Rattle.rdma_types.specs.Memory.{RemoteRead}
use Rattle.rdma_types.specs.Spans.{pieces, piece_at}
use Rattle.rdma_types.proofs.Numbers.{landing_after}
use Rattle.protocol.specs.declared.images.KeptReply.{KeptReply}
use Rattle.protocol.specs.declared.wire.Aeth.{Aeth}
use Rattle.protocol.specs.declared.wire.Reth.{Reth}
use Rattle.protocol.specs.EndStep.{takes, takes_kind, takes_other}
use Rattle.protocol.specs.EndWords.{EndStep, is_paused, silent, with_receiver}
use Rattle.protocol.specs.Moves.{Control, control_of}
use Rattle.protocol.specs.Numbers.{unwrap_near}
use Rattle.protocol.specs.Requester.{barrier, response_at, takes_aeth, takes_landing, takes_piece, takes_response, takes_syndrome, useless}
use Rattle.protocol.specs.Responder.{ahead, answers_old, answers_read, expected_packet, is_read_request, no_repeat, read_grant, repeated, repeats_read, request_at, takes_request}
use Rattle.protocol.specs.State.{Context, End, Link}
use Rattle.protocol.specs.Wire.{Packet, is_read_response, is_request}
use Rattle.law_arrivals.specs.Reach.{OnlyNotes, is_between, is_in_window, is_number}

module _ (c : Context) (e : End) (l : Link) (d : Packet) where
  abbrev Notes : EndStep → Type 0
  Notes x = OnlyNotes e l c x.context

  if_notes : (b : Bool) (x y : EndStep) → Notes x → Notes y → Notes (if b then x else y)
  if_notes true x y h g = h
  if_notes false x y h g = g

  -- ---- requests

  ahead_notes : Notes (ahead c e l)
  unfolding ahead
  ahead_notes = if_notes l.receiver.nak_sent _ _ (inl refl) (inr refl)

  answered : (o : Option Region) (h : Reth) (n : ℕ) → Notes (answers_read c l o h n)
  answered None h n = inl refl
  answered (Some r) h n = inl refl

  reread : (o : Option Reth) (n : ℕ) → Notes (repeats_read c e l o n)
  reread None n = inl refl
  reread (Some h) n = if_notes (nat_le (n + pieces h.length l.terms.mtu) l.receiver.expected) _ _ (answered _ h n) (inl refl)

  old : (n : ℕ) (o : Option KeptReply) → Notes (answers_old c l n o)
  old n None = inl refl
  old n (Some k) = inl refl

  repeated_notes : (n : ℕ) → Notes (repeated c e l d n)
  unfolding repeated
  repeated_notes n = if_notes (is_read_request d.opcode) _ _ (reread d.reth n) (if_notes (is_some d.atomic) _ _ (old n _) (inl refl))

  request_notes : (o : Option ℕ) → is_number o l.receiver.expected ≡ false → Notes (request_at c e l d o)
  request_notes None out = inl refl
  request_notes (Some n) out = by (nat_lt l.receiver.expected n) (nat_lt n l.receiver.expected) refl refl
    where
      by : (a b : Bool) → nat_lt l.receiver.expected n ≡ a → nat_lt n l.receiver.expected ≡ b → Notes (if a then ahead c e l else if b then repeated c e l d n else expected_packet c e l d n)
      by true b s t = ahead_notes
      by false true s t = repeated_notes n
      by false false s t = absurd (let not_below : n ≤ l.receiver.expected = grind (arith, nat_tests, s) in let not_above : l.receiver.expected ≤ n = grind (arith, nat_tests, t) in grind (arith, nat_tests, eqb_tells n l.receiver.expected, out, not_below, not_above))

  -- ---- responses

  landing_notes : (n : ℕ) → (nat_le l.sender.una n && nat_lt n l.sender.top) ≡ false → Notes (takes_landing c e l d n)
  unfolding takes_landing barrier
  landing_notes n out = by (n == barrier l.terms l.sender && nat_lt n l.sender.top) refl
    where
      by : (b : Bool) → (n == barrier l.terms l.sender && nat_lt n l.sender.top) ≡ b → Notes (if b then takes_piece c e l d n (piece_at l.sender.untold l.terms.mtu (n - l.sender.first)) else useless c)
      by true t = absurd (
          let later = landing_after l.sender.untold l.terms.mtu (l.sender.una - l.sender.first) in
          let both : (n ≡ barrier l.terms l.sender) × (n < l.sender.top) = grind (arith, nat_tests, eqb_tells n (barrier l.terms l.sender), t) in
          let low : l.sender.una ≤ n = omega (arith, both, later) in
          grind (arith, nat_tests, leb_tells l.sender.una n, out, both, low))
      by false t = inl refl

  aeth_notes : (n : ℕ) (h : Option Aeth) → (nat_le l.sender.una n && nat_lt n l.sender.top) ≡ false → Notes (takes_aeth c e l n h)
  aeth_notes n None out = inl refl
  aeth_notes n (Some h) out = by (nat_le l.sender.una n && nat_lt n l.sender.top) out
    where
      by : (b : Bool) → b ≡ false → Notes (if b then takes_syndrome c e l n h.syndrome else useless c)
      by true t = absurd (cc)
      by false t = inl refl

  response_notes : (o : Option ℕ) → is_between o l.sender.una l.sender.top ≡ false → Notes (response_at c e l d o)
  response_notes None out = inl refl
  response_notes (Some n) out = if_notes (is_read_response d.opcode || d.opcode == 0x12) _ _ (landing_notes n out) (aeth_notes n d.aeth out)

  -- ---- every packet but the messages of moving

  other_notes : is_in_window l d ≡ false → Notes (takes_other c e l d)
  unfolding takes_request takes_response
  other_notes = by (is_request d.opcode)
    where
      by : (b : Bool) → (if b then is_number (unwrap_near l.terms.peer_start d.psn l.receiver.expected) l.receiver.expected else is_between (unwrap_near l.terms.own_start d.psn l.sender.una) l.sender.una l.sender.top) ≡ false
          → Notes (if b then (if is_paused l.moving.phase then silent c why.Paused else takes_request c e l d) else takes_response c e l d)
      by true out = if_notes (is_paused l.moving.phase) _ _ (inl refl) (request_notes (unwrap_near l.terms.peer_start d.psn l.receiver.expected) out)
      by false out = response_notes (unwrap_near l.terms.own_start d.psn l.sender.una) out

  kind_notes : (m : Option Control) → m ≡ None → is_in_window l d ≡ false → Notes (takes_kind c e l d m)
  kind_notes (Some m) h out = absurd (cc)
  kind_notes None h out = other_notes out

  pub takes_notes : control_of d ≡ None → is_in_window l d ≡ false → Notes (takes c e l d)
  unfolding takes
  takes_notes h out = if_notes l.ended (silent c why.Ended) (takes_kind c e l d (control_of d)) (inl refl) (kind_notes (control_of d) h out)
