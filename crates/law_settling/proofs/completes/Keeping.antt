-- What an end that runs would transmit next, and when that stays.
use Rattle.std.proofs.Common.{◌≡◌, ◌≢◌, ◌-◌, true, false, Bool, refl, sym, ap, ◌∙◌, inl, inr}
use Rattle.std.specs.Prelude.{Some, None, nat_le, not, if◌then◌else◌, ◌==◌, ◌&&◌, ◌||◌}
use Rattle.rdma_types.specs.declared.names.ObjName.{ObjName}
use Rattle.rdma_types.specs.declared.requests.Terms.{Terms}
use Rattle.rdma_types.specs.Limits.{window}
use Rattle.rdma_types.specs.Spans.{Piece, piece_at}
use Rattle.protocol.specs.declared.events.WorldEvent.{WorldEvent}
use Rattle.protocol.specs.EndWords.{is_paused, is_resuming, is_resuming_link, is_running}
use Rattle.protocol.specs.Fabric.{pending}
use Rattle.protocol.specs.Requester.{IsIdle, Sends, SendsResume, Transmission, Waits, WindowIsFull, end_of_queue, next_transmission, packets_in_flight, transmission}
use Rattle.protocol.specs.State.{World, Link, Phase, Running, Paused, Resuming, Sender}
use Rattle.protocol.specs.WorldStep.{world_step}
use Rattle.protocol.specs.Settle.{Settling, drained, is_sent, link_at, phase_code, settle_step, transmit}
use Rattle.packetless_machine.specs.Machine.{Machine}
use Rattle.law_simulation.specs.Law.{AlwaysFollows}
use Rattle.law_simulation.specs.Stands.{Stands}
use Rattle.law_settling.specs.Weights.{TakingLightens}
use Rattle.law_settling.proofs.bound.Lives.{at_end, link_is}
use Rattle.law_settling.specs.Spares.{IsSpared, SendingSpares}
use Rattle.law_settling.proofs.completes.Still.{IsStill, IsStillLink, sent_runs, still_before}

-- ---- the state of an end by its mark

running_code : (b : Bool) (p : Phase) → (not b && (not (is_paused p) && not (is_resuming p))) ≡ ((if b then 4 else phase_code p) == 1)
running_code true p = refl
running_code false Running = refl
running_code false Paused = refl
running_code false Resuming = refl

resuming_code : (b : Bool) (p : Phase) → (not b && is_resuming p) ≡ ((if b then 4 else phase_code p) == 3)
resuming_code true p = refl
resuming_code false Running = refl
resuming_code false Paused = refl
resuming_code false Resuming = refl

pub still_running : (l l' : Link) → IsStillLink (Some l) (Some l') → is_running (Some l') ≡ is_running (Some l)
still_running l l' h = running_code l'.ended l'.moving.phase ∙ (ap (λ n. n == 1) h.2 ∙ sym (running_code l.ended l.moving.phase))

pub still_resuming : (l l' : Link) → IsStillLink (Some l) (Some l') → is_resuming_link (Some l') ≡ is_resuming_link (Some l)
still_resuming l l' h = resuming_code l'.ended l'.moving.phase ∙ (ap (λ n. n == 3) h.2 ∙ sym (resuming_code l.ended l.moving.phase))

-- an end that runs is in Rts, and neither Paused nor Resuming
pub runs_is : (l : Link) → is_running (Some l) ≡ true → (l.ended ≡ false) × (is_paused l.moving.phase ≡ false) × (is_resuming l.moving.phase ≡ false)
runs_is l h = by_tests l.ended (is_paused l.moving.phase) (is_resuming l.moving.phase) h
  where
    by_tests : (a b c : Bool) → (not a && (not b && not c)) ≡ true → (a ≡ false) × (b ≡ false) × (c ≡ false)
    by_tests false false false t = (refl, refl, refl)
    by_tests true b c t = absurd (cc)
    by_tests false true c t = absurd (cc)
    by_tests false false true t = absurd (cc)

-- ---- the next transmission

-- by what it depends on
abbrev row_of : Bool → Bool → Bool → Terms → Sender → Transmission
row_of ended paused resuming terms s =
    if not ended && resuming
    then SendsResume
    else if paused || (ended || s.rnr_wait)
    then Waits
    else if s.next == end_of_queue terms s
    then IsIdle
    else if nat_le window (packets_in_flight s.untold terms.mtu s.first s.una s.next) then WindowIsFull else next_transmission terms s (piece_at s.untold terms.mtu (s.next - s.first))

row_is : (l : Link) → transmission l ≡ row_of l.ended (is_paused l.moving.phase) (is_resuming l.moving.phase) l.terms l.sender
unfolding transmission
row_is l = refl

same_row : (l l' : Link) → is_running (Some l) ≡ true → is_running (Some l') ≡ true → l'.terms ≡ l.terms → l'.sender ≡ l.sender → transmission l' ≡ transmission l
same_row l l' h h' terms sender =
    let a = runs_is l h in
    let b = runs_is l' h' in
    row_is l'
    ∙ ((λ i. row_of ((b.0 ∙ sym a.0) i) ((b.1 ∙ sym a.1) i) ((b.2 ∙ sym a.2) i) (terms i) (sender i))
    ∙ sym (row_is l))

-- the end has nothing to send now, where it runs
abbrev pub IsStopped : ObjName → World → Type 0
IsStopped z w = (l : Link) → (at_end w z).link ≡ Some l → is_running (Some l) ≡ true → (x : Piece) → transmission l ≡ Sends x → ⊥

-- where the end runs, it ran before, and would have sent the same
abbrev pub IsKept : ObjName → World → World → Type 0
IsKept z w w' = (l' : Link) → (at_end w' z).link ≡ Some l' → is_running (Some l') ≡ true → (l : Link) × ((at_end w z).link ≡ Some l) × (is_running (Some l) ≡ true) × (transmission l' ≡ transmission l)

pub kept_same : (z : ObjName) (w : World) → IsKept z w w
kept_same z w l at running = (l, at, running, refl)

pub kept_on : (z : ObjName) (a b c : World) → IsKept z a b → IsKept z b c → IsKept z a c
kept_on z a b c h k l at running =
    let later = k l at running in
    let before = h later.0 later.1 later.2 in
    (before.0, before.1, before.2, later.3 ∙ before.3)

pub stopped_on : (z : ObjName) (w w' : World) → IsStopped z w → IsKept z w w' → IsStopped z w'
stopped_on z w w' stopped kept l at running x row = let before = kept l at running in stopped before.0 before.1 before.2 x (sym before.3 ∙ row)

-- an end keeps what it would send, where nothing changed and it has the same requester while it runs
pub kept_still : (z : ObjName) (w w' : World) → IsStill w w' → ((l l' : Link) → (at_end w z).link ≡ Some l → (at_end w' z).link ≡ Some l' → is_running (Some l') ≡ true → l'.sender ≡ l.sender) → IsKept z w w'
kept_still z w w' still same l' at running =
    let before = still_before w w' z l' still at in
    let ran : is_running (Some before.0) ≡ true = sym (still_running before.0 l' before.2) ∙ running in
    (before.0, before.1, ran, same_row before.0 l' ran running before.2.0 (same before.0 l' before.1 at running))

-- ---- where an end sends a piece

some_link : (a b : Link) → Some a ≡ Some b → a ≡ b
some_link a b h = cc

module _ (lightens : TakingLightens) (follows : (e : WorldEvent) → AlwaysFollows e) (spares : SendingSpares) (s : Settling) (m : Machine) (stands : Stands s.world m) (calm : pending s.world.sent ≡ None) (o : ObjName) (running : is_running (link_at s.world o) ≡ true) (sent : is_sent (world_step s.world (transmit o)).answer ≡ true) (same : (drained (settle_step s (transmit o))).changed ≡ false) where
  abbrev w' : World
  w' = (drained (settle_step s (transmit o))).world

  still : IsStill s.world w'
  still = ((sent_runs lightens follows s o (m, stands)).still same).1

  -- what the law of sending leaves of it
  spared_sender : (z : ObjName) (l l' : Link) → IsSpared l (link_at w' z) → (at_end w' z).link ≡ Some l' → is_running (Some l') ≡ true → l'.sender ≡ l.sender
  spared_sender z l l' spared at runs =
      let is : spared.link ≡ l' = some_link spared.link l' (sym spared.linked ∙ (link_is w' z ∙ at)) in
      let state = runs_is l' runs in
      elim spared.kept [
        | inl kept ↦ ap (λ (k : Link). k.sender) (sym is) ∙ kept
        | inr more ↦ elim more [
          | inl ended ↦ absurd (cc (ap (λ (k : Link). k.ended) is, ended, state.0))
          | inr paused ↦ absurd (cc (ap (λ (k : Link). is_paused k.moving.phase) is, paused, state.1))
        ]
      ]

  pub sent_kept : (z : ObjName) → z ≢ o → IsKept z s.world w'
  sent_kept z ne = kept_still z s.world w' still (λ l l' at at' runs. spared_sender z l l' (spares s m o z l stands calm running sent ne (link_is s.world z ∙ at)) at' runs)
