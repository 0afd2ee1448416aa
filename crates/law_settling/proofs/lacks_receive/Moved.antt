-- What a message of moving leaves of the end that takes it.
use Rattle.std.proofs.Common.{◌≡◌, ◌⊎◌, ℕ, List, [], ◌∷◌, true, false, Bool, refl, sym, ap, ◌∙◌, subst, inl, inr}
use Rattle.std.specs.Prelude.{All, Option, Some, None, ◌==◌, if◌then◌else◌}
use Rattle.std.proofs.lemmas.List.Elements.{All-nil, All-cons}
use Rattle.rdma_types.specs.declared.answers.DropReason.TheVariants as why
use Rattle.rdma_types.specs.declared.answers.Sent.{Sent}
use Rattle.protocol.specs.declared.wire.Aeth.{Aeth}
use Rattle.protocol.specs.declared.wire.Headers.TheVariants as headers
use Rattle.protocol.specs.declared.wire.Layout.{Layout}
use Rattle.protocol.specs.declared.wire.ResumeBody.{ResumeBody}
use Rattle.protocol.specs.Bytes.{byte_at, number_at}
use Rattle.protocol.specs.State.{Link, End, Context, Paused, Running}
use Rattle.protocol.specs.EndWords.{EndStep, silent, linked, with_moving}
use Rattle.protocol.specs.EndStep.{takes, takes_kind}
use Rattle.protocol.specs.Moves.{Control, Stopped, Resume, ResumeAck, MoveTook, GoesPaused, Resumed, Again, GoesRunning, control_of, in_phase, move_row, moves_by, resume_packet, resumed_link, resuming_of, stopped_of, takes_control}
use Rattle.protocol.specs.Wire.{Packet, has_aeth, has_resume, is_nak_stopped, layout_of, packet_of, read_aeth, read_resume, unloaded, when}
use Rattle.protocol.proofs.PacketGrammar.{read_spelled}
use Rattle.law_settling.proofs.draining.Replies.{IsStop, opcode_first}
use Rattle.law_settling.proofs.sending_stops.Reading.{stop_says}
use Rattle.law_settling.proofs.lacks_receive.Kept.{IsLinkMoved}

-- ---- at the end

module _ (c : Context) (e : End) (l : Link) where
  -- nothing changes, or the link alone; a RESUME_ACK is sent, or nothing
  pub record IsMoveTaken (s : EndStep) : Type 0 where
    pub context : (s.context ≡ c) ⊎ ((l' : Link) × (s.context ≡ linked c e l') × IsLinkMoved l l')
    pub sent : All (λ z. byte_at 0 z.bytes ≡ 0x1F) s.sent

  acks : (bs : List ℕ) (z : Sent) → byte_at 0 z.bytes ≡ 0x1F → All (λ (y : Sent). byte_at 0 y.bytes ≡ 0x1F) (z ∷ [])
  acks bs z h = All-cons (λ (y : Sent). byte_at 0 y.bytes ≡ 0x1F) z [] h (All-nil _)

  moves_taken : (control : Control) (row : MoveTook) → IsMoveTaken (moves_by c e l control row)
  unfolding moves_by with_moving
  moves_taken (Stopped count) GoesPaused = record {
    context = inr (with_moving l (in_phase l.moving Paused), refl, record { peer = refl; terms = refl; ended = refl; receiver = refl; sender = inl refl });
    sent = All-nil _;
  }
  moves_taken (Resume body) Resumed = record {
    context = inr (resumed_link l body, refl, record { peer = refl; terms = refl; ended = refl; receiver = refl; sender = inr refl });
    sent = acks [] _ (opcode_first (resume_packet 0x1F l.peer body));
  }
  moves_taken (Resume body) Again = record { context = inl refl; sent = acks [] _ (opcode_first (resume_packet 0x1F l.peer body)) }
  moves_taken (ResumeAck count) GoesRunning = record {
    context = inr (with_moving l (in_phase l.moving Running), refl, record { peer = refl; terms = refl; ended = refl; receiver = refl; sender = inl refl });
    sent = All-nil _;
  }
  moves_taken control row = record { context = inl refl; sent = All-nil _ }

  control_by : (d : Packet) (control : Control) (b : Bool) → IsMoveTaken (if b then silent c why.Ended else takes_kind c e l d (Some control))
  unfolding takes_control
  control_by d control true = record { context = inl refl; sent = All-nil _ }
  control_by d control false = moves_taken control (move_row l.moving control)

  pub control_taken : (d : Packet) (control : Control) → control_of d ≡ Some control → IsMoveTaken (takes c e l d)
  unfolding takes
  control_taken d control h = subst (λ m. IsMoveTaken (if l.ended then silent c why.Ended else takes_kind c e l d m)) (sym h) (control_by d control l.ended)

-- ---- by the bytes

-- bytes that say a message of moving, where they say something
abbrev pub IsMove : List ℕ → Type 0
IsMove bs = (p : Packet) → packet_of bs ≡ Some p → (control : Control) × (control_of p ≡ Some control)

pub stop_moves : (bs : List ℕ) → IsStop bs → IsMove bs
stop_moves bs h p read = (Stopped (number_at 13 3 bs), stop_says bs p read h)

row_resume : (n : ℕ) → (n ≡ 0x1E) ⊎ (n ≡ 0x1F) → layout_of n ≡ Some (unloaded headers.Resume)
unfolding layout_of
row_resume n (inl h) = rw h refl
row_resume n (inr h) = rw h refl

same_layout : (a b : Layout) → Some a ≡ Some b → a ≡ b
same_layout a b h = cc

resuming_some : (opcode : ℕ) (a : Option Aeth) (o : Option ResumeBody) (body : ResumeBody) → a ≡ None → o ≡ Some body → (control : Control) × ((if is_nak_stopped a then stopped_of a else resuming_of opcode o) ≡ Some control)
unfolding is_nak_stopped
resuming_some opcode None (Some body) body' h k = (if opcode == 0x1E then Resume body else ResumeAck body.count, refl)
resuming_some opcode None None body' h k = absurd (cc)
resuming_some opcode (Some a) o body' h k = absurd (cc)

pub resume_moves : (bs : List ℕ) → (byte_at 0 bs ≡ 0x1E) ⊎ (byte_at 0 bs ≡ 0x1F) → IsMove bs
unfolding control_of
resume_moves bs h p read =
    let s = read_spelled p bs read in
    let row : s.layout ≡ unloaded headers.Resume = same_layout s.layout (unloaded headers.Resume) (sym s.known ∙ (ap layout_of s.opcode ∙ row_resume (byte_at 0 bs) h)) in
    let none : p.aeth ≡ None = s.aeth ∙ ap (λ (z : Layout). when (has_aeth z.headers) (read_aeth bs)) row in
    let some : p.resume ≡ Some (read_resume bs) = s.resume ∙ ap (λ (z : Layout). when (has_resume z.headers) (read_resume bs)) row in
    resuming_some p.opcode p.aeth p.resume (read_resume bs) none some
