-- One transmission of an end that runs.
use Rattle.std.proofs.Common.{◌≡◌, ◌-◌, ◌⊎◌, true, false, Bool, refl, sym, ap, ◌∙◌, inl, inr}
use Rattle.std.specs.Prelude.{Option, Some, None, not, ◌&&◌, ◌||◌, if◌then◌else◌}
use Rattle.rdma_types.specs.declared.names.ObjName.{ObjName}
use Rattle.rdma_types.specs.Spans.{Piece, piece_at}
use Rattle.protocol.specs.declared.events.Event.TheVariants as events
use Rattle.protocol.specs.State.{World, Device, Context, End, Link, context_at, end_at}
use Rattle.protocol.specs.EndWords.{is_paused, is_resuming}
use Rattle.protocol.specs.Refusals as refusing
use Rattle.protocol.specs.Requester.{Transmission, SendsResume, Waits, IsIdle, WindowIsFull, ReadsAreFull, IsFenced, Sends, transmission, next_transmission}
use Rattle.protocol.specs.DeviceStep as device
use Rattle.protocol.specs.WorldStep as step
use Rattle.protocol.specs.WorldStep.{world_step, home, ran}
use Rattle.protocol.specs.Settle.{is_sent, transmit}
use Rattle.packetless_machine.specs.Machine.{Machine}
use Rattle.law_simulation.proofs.sending.GoLive.{LiveEnd}
use Rattle.law_settling.proofs.bound.Turns.{connected_none, stepped_done}

module _ (w : World) (m : Machine) (o : ObjName) (l : Link) (h : LiveEnd w m o l) where
  abbrev d : Device
  d = home w o.context

  abbrev c : Context
  c = context_at d o.context

  abbrev e : End
  e = end_at c o.name

  -- the row of the table that is stepped
  pub transmit_is : world_step w (transmit o) ≡ ran w (device.sends_by d c e l (transmission l))
  unfolding refusing.refusal_of device.transmits
  transmit_is =
      stepped_done w (events.Transmit o) h.live (connected_none w m o l h)
      ∙ ap (λ z. ran w (device.at_link d z (λ k. device.sends_by d c e k (transmission k)))) h.linked

  by_row : (t : Transmission) → is_sent (ran w (device.sends_by d c e l t)).answer ≡ true → (t ≡ SendsResume) ⊎ ((x : Piece) × (t ≡ Sends x))
  unfolding ran step.numbered device.sends_piece
  by_row SendsResume k = inl refl
  by_row Waits k = absurd (cc)
  by_row IsIdle k = absurd (cc)
  by_row WindowIsFull k = absurd (cc)
  by_row ReadsAreFull k = absurd (cc)
  by_row IsFenced k = absurd (cc)
  by_row (Sends x) k = inr (x, refl)

  pub sent_row : is_sent (world_step w (transmit o)).answer ≡ true → (transmission l ≡ SendsResume) ⊎ ((x : Piece) × (transmission l ≡ Sends x))
  sent_row k = by_row (transmission l) (ap (λ z. is_sent z.answer) (sym transmit_is) ∙ k)

next_never : (l : Link) (o : Option Piece) → next_transmission l.terms l.sender o ≡ SendsResume → ⊥
unfolding next_transmission
next_never l None h = cc
next_never l (Some z) h = by_tests _ _ h
  where
    by_tests : (a b : Bool) → (if a then ReadsAreFull else if b then IsFenced else Sends z) ≡ SendsResume → ⊥
    by_tests true b h = cc
    by_tests false true h = cc
    by_tests false false h = cc

-- only an end that resumes sends a RESUME
pub resumes_needs : (l : Link) → transmission l ≡ SendsResume → is_resuming l.moving.phase ≡ true
unfolding transmission
resumes_needs l h = by_tests (not l.ended) (is_resuming l.moving.phase) _ _ _ refl h
  where
    by_tests : (e a b c d : Bool) → is_resuming l.moving.phase ≡ a → (if e && a then SendsResume else if b then Waits else if c then IsIdle else if d then WindowIsFull else next_transmission l.terms l.sender (piece_at l.sender.untold l.terms.mtu (l.sender.next - l.sender.first))) ≡ SendsResume → is_resuming l.moving.phase ≡ true
    by_tests e true b c d t g = t
    by_tests true false true c d t g = absurd (cc)
    by_tests true false false true d t g = absurd (cc)
    by_tests true false false false true t g = absurd (cc)
    by_tests true false false false false t g = absurd (next_never l _ g)
    by_tests false false true c d t g = absurd (cc)
    by_tests false false false true d t g = absurd (cc)
    by_tests false false false false true t g = absurd (cc)
    by_tests false false false false false t g = absurd (next_never l _ g)

-- an end that sends a piece is not held
pub sends_open : (l : Link) (x : Piece) → transmission l ≡ Sends x → (is_paused l.moving.phase ≡ false) × (l.ended ≡ false) × (l.sender.rnr_wait ≡ false)
unfolding transmission
sends_open l x h = by_tests (not l.ended && is_resuming l.moving.phase) _ _ _ refl h
  where
    parts_false : (a b c : Bool) → (a || (b || c)) ≡ false → (a ≡ false) × (b ≡ false) × (c ≡ false)
    parts_false false false false t = (refl, refl, refl)
    parts_false true b c t = absurd (cc)
    parts_false false true c t = absurd (cc)
    parts_false false false true t = absurd (cc)

    by_tests : (a b c d : Bool) → (is_paused l.moving.phase || (l.ended || l.sender.rnr_wait)) ≡ b → (if a then SendsResume else if b then Waits else if c then IsIdle else if d then WindowIsFull else next_transmission l.terms l.sender (piece_at l.sender.untold l.terms.mtu (l.sender.next - l.sender.first))) ≡ Sends x → (is_paused l.moving.phase ≡ false) × (l.ended ≡ false) × (l.sender.rnr_wait ≡ false)
    by_tests true b c d t g = absurd (cc)
    by_tests false true c d t g = absurd (cc)
    by_tests false false c d t g = parts_false (is_paused l.moving.phase) l.ended l.sender.rnr_wait t
