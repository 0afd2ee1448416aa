-- An end sends nothing for a packet that is neither a request nor a RESUME.
use Rattle.std.proofs.Common.{◌≡◌, ◌-◌, ◌+◌, ℕ, true, false, Bool, refl}
use Rattle.std.specs.Prelude.{Option, Some, None, if◌then◌else◌, ◌==◌, ◌&&◌, ◌||◌, not, nat_le, nat_lt}
use Rattle.rdma_types.specs.declared.requests.WcStatus.{WcStatus}
use Rattle.rdma_types.specs.declared.requests.WcStatus.TheVariants as status
use Rattle.rdma_types.specs.declared.answers.ArrivalEffect.TheVariants as took
use Rattle.rdma_types.specs.declared.answers.DropReason.TheVariants as why
use Rattle.rdma_types.specs.Spans.{Piece, piece_at}
use Rattle.protocol.specs.declared.wire.Aeth.{Aeth}
use Rattle.protocol.specs.declared.wire.ResumeBody.{ResumeBody}
use Rattle.protocol.specs.declared.wire.Syndrome.{Syndrome}
use Rattle.protocol.specs.declared.wire.Syndrome.TheVariants.{Ack, Rnr, Nak}
use Rattle.protocol.specs.State.{Link, End, Context, Sender}
use Rattle.protocol.specs.Wire.{Packet, is_request, is_nak_stopped, is_read_response}
use Rattle.protocol.specs.EndWords.{EndStep, silent, stays, is_paused}
use Rattle.protocol.specs.Requester as requester
use Rattle.protocol.specs.Responder as responder
use Rattle.protocol.specs.Moves.{Stopped, ResumeAck, MoveTook, GoesPaused, Resumed, Again, GoesRunning, Stale, control_of, stopped_of, resuming_of, moves_by, takes_control}
use Rattle.protocol.specs.EndStep.{takes, takes_kind, takes_other}
use Rattle.law_devices.specs.Silent.{IsSilent}

module _ (c : Context) (e : End) (l : Link) (d : Packet) where
  silent_if : (b : Bool) (x y : EndStep) → IsSilent x → IsSilent y → IsSilent (if b then x else y)
  silent_if true x y h k = h
  silent_if false x y h k = k

  refusal_silent : (s : Sender) (n : ℕ) (status : WcStatus) → IsSilent (requester.takes_refusal c e l s n status)
  unfolding requester.takes_refusal
  refusal_silent s n status = silent_if (s.una == n) (requester.ends_after c e l s status) (requester.goes_back c e l s) (record { none = refl }) (record { none = refl })

  nak_silent : (n code : ℕ) → IsSilent (requester.takes_nak c e l n code)
  unfolding requester.takes_nak
  nak_silent n code =
      silent_if (code == 0) (requester.goes_back c e l (requester.acknowledged l n)) _ (record { none = refl })
      (silent_if (code == 1) _ _ (refusal_silent (requester.acknowledged l n) n status.RemoteInvalid)
      (silent_if (code == 2) _ (requester.useless c) (refusal_silent (requester.acknowledged l n) n status.RemoteAccess) (record { none = refl })))

  moved_silent : (s : Sender) (before after : Context) → IsSilent (requester.moved_or_useless l s before after)
  moved_silent s before after = silent_if (nat_lt l.sender.una s.una) (stays after took.Acked) (requester.useless before) (record { none = refl }) (record { none = refl })

  rnr_silent : (s : Sender) (n : ℕ) → IsSilent (requester.takes_rnr c e l s n)
  unfolding requester.takes_rnr requester.waits_again
  rnr_silent s n =
      silent_if (s.una == n) _ _
      (silent_if (not (l.terms.rnr == 7) && (requester.waited s).waits == l.terms.rnr + 1) (requester.ends_after c e l (requester.waited s) status.RnrExceeded) (stays (requester.telling c e l (requester.waiting (requester.waited s))) took.Waits) (record { none = refl }) (record { none = refl }))
      (moved_silent s c (requester.telling c e l s))

  syndrome_silent : (n : ℕ) (s : Syndrome) → IsSilent (requester.takes_syndrome c e l n s)
  unfolding requester.takes_ack
  syndrome_silent n Ack = moved_silent (requester.acknowledged l (n + 1)) c _
  syndrome_silent n Rnr = silent_if l.sender.rnr_wait (requester.useless c) _ (record { none = refl }) (rnr_silent (requester.acknowledged l n) n)
  syndrome_silent n (Nak code) = nak_silent n code

  aeth_silent : (n : ℕ) (h : Option Aeth) → IsSilent (requester.takes_aeth c e l n h)
  aeth_silent n None = (record { none = refl })
  aeth_silent n (Some h) = silent_if (nat_le l.sender.una n && nat_lt n l.sender.top) _ (requester.useless c) (syndrome_silent n h.syndrome) (record { none = refl })

  piece_silent : (n : ℕ) (o : Option Piece) → IsSilent (requester.takes_piece c e l d n o)
  unfolding requester.takes_piece
  piece_silent n None = (record { none = refl })
  piece_silent n (Some x) = silent_if (requester.is_this_piece l d x) (stays (requester.telling (requester.landing c l d x) e l (requester.advanced l.sender (n + 1))) took.Landed) (requester.useless c) (record { none = refl }) (record { none = refl })

  landing_silent : (n : ℕ) → IsSilent (requester.takes_landing c e l d n)
  unfolding requester.takes_landing
  landing_silent n = silent_if (n == requester.barrier l.terms l.sender && nat_lt n l.sender.top) _ (requester.useless c) (piece_silent n (piece_at l.sender.untold l.terms.mtu (n - l.sender.first))) (record { none = refl })

  pub response_silent : (o : Option ℕ) → IsSilent (requester.response_at c e l d o)
  response_silent None = (record { none = refl })
  response_silent (Some n) = silent_if (is_read_response d.opcode || d.opcode == 0x12) _ _ (landing_silent n) (aeth_silent n d.aeth)

  -- ---- messages of moving

  stopped_silent : (count : ℕ) (r : MoveTook) → IsSilent (moves_by c e l (Stopped count) r)
  unfolding moves_by
  stopped_silent count GoesPaused = (record { none = refl })
  stopped_silent count Resumed = (record { none = refl })
  stopped_silent count Again = (record { none = refl })
  stopped_silent count GoesRunning = (record { none = refl })
  stopped_silent count Stale = (record { none = refl })

  ack_silent : (count : ℕ) (r : MoveTook) → IsSilent (moves_by c e l (ResumeAck count) r)
  unfolding moves_by
  ack_silent count GoesPaused = (record { none = refl })
  ack_silent count Resumed = (record { none = refl })
  ack_silent count Again = (record { none = refl })
  ack_silent count GoesRunning = (record { none = refl })
  ack_silent count Stale = (record { none = refl })

  -- ---- every packet

  -- an answer is not answered
  other_by : (b : Bool) → b ≡ false → IsSilent (if b then if is_paused l.moving.phase then silent c why.Paused else responder.takes_request c e l d else requester.takes_response c e l d)
  unfolding requester.takes_response
  other_by true h = absurd (cc)
  other_by false h = response_silent _

  other_silent : is_request d.opcode ≡ false → IsSilent (takes_other c e l d)
  other_silent h = other_by (is_request d.opcode) h

  control_silent : (b : Bool) (h : Option Aeth) (o : Option ResumeBody) → is_request d.opcode ≡ false → (d.opcode == 0x1E) ≡ false → IsSilent (takes_kind c e l d (if b then stopped_of h else resuming_of d.opcode o))
  unfolding takes_control requester.takes_response
  control_silent true None o a k = other_silent a
  control_silent true (Some h) o a k = stopped_silent h.msn _
  control_silent false h None a k = other_silent a
  control_silent false h (Some body) a k = rw k (ack_silent body.count _)

  pub reply_silent : is_request d.opcode ≡ false → (d.opcode == 0x1E) ≡ false → IsSilent (takes c e l d)
  unfolding takes control_of
  reply_silent a k = silent_if l.ended (silent c why.Ended) (takes_kind c e l d (if is_nak_stopped d.aeth then stopped_of d.aeth else resuming_of d.opcode d.resume)) (record { none = refl }) (control_silent (is_nak_stopped d.aeth) d.aeth d.resume a k)
