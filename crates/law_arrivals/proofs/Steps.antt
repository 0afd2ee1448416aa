-- Steps of an end that write no bytes: its link, its receives and its completions.
use Rattle.std.proofs.Common.{◌≡◌, ◌+◌, ℕ, List, [], true, false, Bool, refl, sym, ◌∙◌, inl, inr}
use Rattle.std.specs.Prelude.{Option, Some, None, if◌then◌else◌, nat_lt, nat_le, not, ◌==◌, ◌&&◌}
use Rattle.rdma_types.specs.declared.answers.ArrivalEffect.TheVariants as took
use Rattle.rdma_types.specs.declared.requests.Completion.{Completion}
use Rattle.rdma_types.specs.declared.requests.Receive.{Receive}
use Rattle.rdma_types.specs.declared.requests.WcStatus.{WcStatus}
use Rattle.rdma_types.specs.declared.requests.WcStatus.TheVariants as status
use Rattle.rdma_types.specs.Objects.{CompletionQueue, Region}
use Rattle.protocol.specs.declared.wire.Aeth.{Aeth}
use Rattle.protocol.specs.declared.wire.Syndrome.{Syndrome}
use Rattle.protocol.specs.declared.wire.Syndrome.TheVariants.{Ack, Rnr, Nak}
use Rattle.protocol.specs.EndWords.{EndStep, completing, linked, stays, with_moving, with_queue, with_sender, with_unused}
use Rattle.protocol.specs.Moves.{Control, Stopped, Resume, ResumeAck, MoveTook, GoesPaused, Resumed, Again, GoesRunning, in_phase, move_row, moves_by, resumed_link, takes_control}
use Rattle.protocol.specs.Requester.{acknowledged, after_telling, ended_link, ended_with, ends_after, goes_back, moved_or_useless, rewound, takes_ack, takes_aeth, takes_nak, takes_refusal, takes_rnr, takes_syndrome, telling, told_completions, useless, waited, waiting, waits_again}
use Rattle.protocol.specs.State.{Context, End, Link, Paused, Running, Sender}
use Rattle.law_devices.specs.Sound.{IsSoundContext}
use Rattle.law_devices.proofs.Rooms.{IsHere, end-sound}
use Rattle.law_devices.proofs.Tables.{word-there}
use Rattle.law_arrivals.specs.Touched.{connection_of}
use Rattle.law_arrivals.proofs.Changes.{Changes, changes-completing, changes-linked, changes-none}

module _ (may : Region → ℕ → Bool) (c : Context) (e : End) (l : Link) (s : IsSoundContext c) (here : IsHere c e) (there : e.link ≡ Some l) where
  -- the step leaves such a context
  abbrev pub Fine : EndStep → Type 0
  Fine x = Changes may c e x.context

  pub if_fine : (b : Bool) (x y : EndStep) → Fine x → Fine y → Fine (if b then x else y)
  if_fine true x y h g = h
  if_fine false x y h g = g

  pub test_fine : (b : Bool) (x y : EndStep) → (b ≡ true → Fine x) → (b ≡ false → Fine y) → Fine (if b then x else y)
  test_fine true x y h g = h refl
  test_fine false x y h g = g refl

  pub none : Changes may c e c
  none = changes-none may c e

  pub to_send_cq : (x : Context) (es : List Completion) → Changes may c e x → Changes may c e (completing x e.send_cq es)
  to_send_cq x es h = changes-completing may c e x e.send_cq es (inl refl) h (sym (word-there (λ (q : CompletionQueue). q.name) e.send_cq c.queues) ∙ (end-sound c e s.parts here).send_cq)

  pub to_recv_cq : (x : Context) (es : List Completion) → Changes may c e x → Changes may c e (completing x e.recv_cq es)
  to_recv_cq x es h = changes-completing may c e x e.recv_cq es (inr refl) h (sym (word-there (λ (q : CompletionQueue). q.name) e.recv_cq c.queues) ∙ (end-sound c e s.parts here).recv_cq)

  pub to_end : (x : Context) (us : List Receive) (l' : Link) → Changes may c e x → x.ends ≡ c.ends → connection_of (Some l') ≡ connection_of (Some l) → Changes may c e (linked x (with_unused e us) l')
  to_end x us l' h ends same = changes-linked may c x e l us l' h ends here there same

  pub to_link : (x : Context) (l' : Link) → Changes may c e x → x.ends ≡ c.ends → connection_of (Some l') ≡ connection_of (Some l) → Changes may c e (linked x e l')
  unfolding with_unused
  to_link x l' h ends same = changes-linked may c x e l e.unused l' h ends here there same

  -- ---- telling, and going to Error

  pub to_telling : (x : Context) (y : Sender) → Changes may c e x → x.ends ≡ c.ends → Changes may c e (telling x e l y)
  unfolding telling with_sender
  to_telling x y h ends = to_send_cq _ _ (to_link x (record l { sender = after_telling l.terms y }) h ends refl)

  pub to_ended : (x : Context) (us : List Receive) (l0 : Link) (st : WcStatus) → Changes may c e x → x.ends ≡ c.ends → connection_of (Some l0) ≡ connection_of (Some l) → Changes may c e (ended_with x (with_unused e us) l0 st)
  unfolding ended_with ended_link with_unused
  to_ended x us l0 st h ends same = to_recv_cq _ _ (to_send_cq _ _ (to_end x [] (ended_link l0) h ends same))

  -- ---- acknowledges

  tells : (y : Sender) → Changes may c e (telling c e l y)
  tells y = to_telling c y none refl

  ends_fine : (y : Sender) (st : WcStatus) → Fine (ends_after c e l y st)
  unfolding with_sender with_unused completing with_queue
  ends_fine y st = to_ended _ e.unused (record l { sender = after_telling l.terms y }) st (to_send_cq c (told_completions e.number l.terms y) none) refl refl

  moved_fine : (y : Sender) → Fine (moved_or_useless l y c (telling c e l y))
  moved_fine y = if_fine (nat_lt l.sender.una y.una) (stays (telling c e l y) took.Acked) (useless c) (tells y) none

  refusal_fine : (y : Sender) (n : ℕ) (st : WcStatus) → Fine (takes_refusal c e l y n st)
  unfolding takes_refusal
  refusal_fine y n st = if_fine (y.una == n) (ends_after c e l y st) (goes_back c e l y) (ends_fine y st) (tells (rewound y))

  nak_fine : (n code : ℕ) → Fine (takes_nak c e l n code)
  unfolding takes_nak
  nak_fine n code =
      if_fine (code == 0) (goes_back c e l (acknowledged l n)) _ (tells (rewound (acknowledged l n)))
      (if_fine (code == 1) _ _ (refusal_fine (acknowledged l n) n status.RemoteInvalid)
      (if_fine (code == 2) _ (useless c) (refusal_fine (acknowledged l n) n status.RemoteAccess) none))

  waits_fine : (y : Sender) → Fine (waits_again c e l y)
  unfolding waits_again
  waits_fine y = if_fine (not (l.terms.rnr == 7) && y.waits == l.terms.rnr + 1) (ends_after c e l y status.RnrExceeded) (stays (telling c e l (waiting y)) took.Waits) (ends_fine y status.RnrExceeded) (tells (waiting y))

  rnr_fine : (y : Sender) (n : ℕ) → Fine (takes_rnr c e l y n)
  unfolding takes_rnr
  rnr_fine y n = if_fine (y.una == n) _ _ (waits_fine (waited y)) (moved_fine y)

  syndrome_fine : (n : ℕ) (y : Syndrome) → Fine (takes_syndrome c e l n y)
  unfolding takes_ack
  syndrome_fine n Ack = moved_fine (acknowledged l (n + 1))
  syndrome_fine n Rnr = if_fine l.sender.rnr_wait (useless c) _ none (rnr_fine (acknowledged l n) n)
  syndrome_fine n (Nak code) = nak_fine n code

  pub aeth_fine : (n : ℕ) (h : Option Aeth) → Fine (takes_aeth c e l n h)
  aeth_fine n None = none
  aeth_fine n (Some h) = if_fine (nat_le l.sender.una n && nat_lt n l.sender.top) _ (useless c) (syndrome_fine n h.syndrome) none

  -- ---- messages of moving

  row_fine : (m : Control) (r : MoveTook) → Fine (moves_by c e l m r)
  unfolding moves_by with_moving
  row_fine (Stopped count) GoesPaused = to_link c (record l { moving = in_phase l.moving Paused }) none refl refl
  row_fine (Resume body) Resumed = to_link c (resumed_link l body) none refl refl
  row_fine (Resume body) Again = none
  row_fine (ResumeAck count) GoesRunning = to_link c (record l { moving = in_phase l.moving Running }) none refl refl
  row_fine m r = none

  pub control_fine : (m : Control) → Fine (takes_control c e l m)
  unfolding takes_control
  control_fine m = row_fine m (move_row l.moving m)
