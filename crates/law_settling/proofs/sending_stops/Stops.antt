-- The fuel of one end's sends in a round is not used up.
use Rattle.std.proofs.Common.{arith, ◌≡◌, ◌⊎◌, ℕ, zero, suc, true, false, Bool, refl, sym, ap, inl, inr}
use Rattle.std.specs.Prelude.{Option, Some, None, not, ◌&&◌}
use Rattle.rdma_types.specs.declared.names.ObjName.{ObjName}
use Rattle.rdma_types.specs.Spans.{Piece}
use Rattle.protocol.specs.declared.events.WorldEvent.{WorldEvent}
use Rattle.protocol.specs.EndWords.{is_paused, is_resuming, is_running}
use Rattle.protocol.specs.Fabric.{pending}
use Rattle.protocol.specs.Requester.{Sends, SendsResume, transmission}
use Rattle.protocol.specs.State.{World, Link, Moving}
use Rattle.protocol.specs.WorldStep.{world_step}
use Rattle.protocol.specs.Settle.{Settling, drained, is_sent, link_at, sending_all, sending_fuel, sends_all, settle_step, transmit}
use Rattle.packetless_machine.specs.Machine.{Machine}
use Rattle.law_simulation.specs.Law.{AlwaysFollows}
use Rattle.law_simulation.specs.Stands.{Stands}
use Rattle.law_simulation.proofs.sending.GoTransmit.{resumes_is}
use Rattle.law_settling.specs.Drained.{DrainingDrains}
use Rattle.law_settling.specs.Weights.{TakingLightens}
use Rattle.law_settling.proofs.bound.Lives.{at_end, link_is}
use Rattle.law_settling.proofs.bound.Turns.{live_end}
use Rattle.law_settling.specs.Stops.{SendingStops}
use Rattle.law_settling.proofs.sending_stops.Turns.{IsHeld}
use Rattle.law_settling.proofs.sending_stops.Budgets.{Budget, IsBound, IsStopped}
use Rattle.law_settling.proofs.sending_stops.Sending.{past_end, past_low, una_next}
use Rattle.law_settling.proofs.sending_stops.Stopping.{sent_budget}
use Rattle.law_settling.proofs.sending_stops.Transmitting.{resumes_needs, sends_open, sent_row}

not_held : (l : Link) (x : Piece) → transmission l ≡ Sends x → IsHeld l → ⊥
not_held l x row (inl h) = cc (h, (sends_open l x row).1)
not_held l x row (inr (inl h)) = cc (h, (sends_open l x row).2)
not_held l x row (inr (inr h)) = cc (h, (sends_open l x row).0)

module _ (drains : DrainingDrains) (lightens : TakingLightens) (follows : (e : WorldEvent) → AlwaysFollows e) (o : ObjName) (number : ℕ) (moving : Moving) (runs : is_resuming moving.phase ≡ false) where
  no_resume : (l : Link) → transmission l ≡ SendsResume → IsStopped o number moving l ⊎ (l.moving ≡ moving) → ⊥
  no_resume l row (inl (held, inl over)) = cc (over, resumes_is l row)
  no_resume l row (inl (held, inr phase)) = cc (phase, resumes_needs l row)
  no_resume l row (inr same) = cc (ap (λ z. is_resuming z.phase) same, resumes_needs l row, runs)

  -- what is sent where something is left
  piece_sent : (n : ℕ) (w : World) (b : Budget o number moving n w) → is_sent (world_step w (transmit o)).answer ≡ true → (x : Piece) × (transmission b.link ≡ Sends x) × (b.link.moving ≡ moving) × (b.link.peer ≡ number) × IsBound o number moving n w b.link
  piece_sent n w b sent = elim (sent_row w b.machine o b.link (live_end w b.machine o b.link b.stands b.linked) sent) [
    | inl resume ↦ absurd (no_resume b.link resume (elim b.bound [ inl stopped ↦ inl stopped | inr rest ↦ inr rest.1 ]))
    | inr piece ↦ elim b.bound [
      | inl stopped ↦ absurd (not_held b.link piece.0 piece.1 stopped.0)
      | inr rest ↦ (piece.0, piece.1, rest.1, rest.2, rest.3)
    ]
  ]

  no_more : (w : World) → Budget o number moving 0 w → is_sent (world_step w (transmit o)).answer ≡ true → ⊥
  no_more w b sent =
      let g = piece_sent 0 w b sent in
      let low = past_low lightens follows w b.machine o b.link b.stands b.linked g.0 g.1 in
      let end = past_end lightens follows w b.machine o b.link b.stands b.linked g.0 g.1 in
      let una = una_next lightens follows w b.machine o b.link b.stands b.linked g.0 g.1 in
      elim g.4 [
        | inl h ↦ omega (arith, h, low, end)
        | inr b1 ↦ elim b1 [
          | inl h ↦ omega (arith, h.0, low, end)
          | inr b2 ↦ elim b2 [
            | inl h ↦ omega (arith, h.0, low, end, una)
            | inr b3 ↦ elim b3 [
              | inl h ↦ omega (arith, h.0, low, end, una)
              | inr h ↦ omega (arith, h, low, end, una)
            ]
          ]
        ]
      ]

  one_less : (n : ℕ) (s : Settling) → pending s.world.sent ≡ None → Budget o number moving (suc n) s.world → is_sent (world_step s.world (transmit o)).answer ≡ true → Budget o number moving n (drained (settle_step s (transmit o))).world
  one_less n s calm b sent =
      let g = piece_sent (suc n) s.world b sent in
      sent_budget lightens follows s b.machine o b.link b.stands b.linked g.0 g.1 calm number moving g.2 runs g.3 n g.4

  stops_from : (fuel : ℕ) (s : Settling) → pending s.world.sent ≡ None → Budget o number moving fuel s.world → is_sent (world_step (sending_all fuel s o).world (transmit o)).answer ≡ false
  unfolding sending_all
  stops_from zero s calm b = by_test (is_sent (world_step s.world (transmit o)).answer) refl
    where
      by_test : (c : Bool) → is_sent (world_step s.world (transmit o)).answer ≡ c → is_sent (world_step s.world (transmit o)).answer ≡ false
      by_test false t = t
      by_test true t = absurd (no_more s.world b t)
  stops_from (suc fuel) s calm b = by_test (is_sent (world_step s.world (transmit o)).answer) refl (stops_from fuel (drained (settle_step s (transmit o))) (drains (settle_step s (transmit o))))
    where
      by_test : (c : Bool) → is_sent (world_step s.world (transmit o)).answer ≡ c → (Budget o number moving fuel (drained (settle_step s (transmit o))).world → is_sent (world_step (sending_all fuel (drained (settle_step s (transmit o))) o).world (transmit o)).answer ≡ false) →
          is_sent (world_step (elim c as (λ z. Settling) [ true ↦ sending_all fuel (drained (settle_step s (transmit o))) o | false ↦ s ]).world (transmit o)).answer ≡ false
      by_test true t later = later (one_less fuel s calm b t)
      by_test false t later = t

pub runs_is : (l : Link) → is_running (Some l) ≡ true → (l.ended ≡ false) × (is_resuming l.moving.phase ≡ false)
runs_is l h = by_tests l.ended (is_paused l.moving.phase) (is_resuming l.moving.phase) h
  where
    by_tests : (a b c : Bool) → (not a && (not b && not c)) ≡ true → (a ≡ false) × (c ≡ false)
    by_tests false false false t = (refl, refl)
    by_tests true b c t = absurd (cc)
    by_tests false true c t = absurd (cc)
    by_tests false false true t = absurd (cc)

begins : (w : World) (m : Machine) (o : ObjName) (l : Link) → Stands w m → (at_end w o).link ≡ Some l → l.ended ≡ false → Budget o l.peer l.moving (sending_fuel (Some l)) w
begins w m o l s at alive = record {
  machine = m;
  stands = s;
  link = l;
  linked = at;
  bound = inr (alive, refl, refl, inr (inr (inr (inr (omega arith)))));
}

stops_by : DrainingDrains → TakingLightens → ((e : WorldEvent) → AlwaysFollows e) → (s : Settling) (m : Machine) (o : ObjName) → Stands s.world m → pending s.world.sent ≡ None → (r : Option Link) → (at_end s.world o).link ≡ r → is_running r ≡ true →
    is_sent (world_step (sending_all (sending_fuel r) s o).world (transmit o)).answer ≡ false
stops_by drains lightens follows s m o stands calm None at running = absurd (cc)
stops_by drains lightens follows s m o stands calm (Some l) at running =
    let r = runs_is l running in
    stops_from drains lightens follows o l.peer l.moving r.1 (sending_fuel (Some l)) s calm (begins s.world m o l stands at r.0)

pub stops : DrainingDrains → TakingLightens → ((e : WorldEvent) → AlwaysFollows e) → SendingStops
unfolding sends_all
stops drains lightens follows s m o stands calm running = stops_by drains lightens follows s m o stands calm (link_at s.world o) (sym (link_is s.world o)) running
