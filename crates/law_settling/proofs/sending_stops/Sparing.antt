-- What one send leaves of every other end.
use Rattle.std.proofs.Common.{◌≡◌, ◌≢◌, ◌⊎◌, true, refl, sym, ap, ◌∙◌, subst, inl, inr}
use Rattle.std.specs.Prelude.{Option, Some, None}
use Rattle.rdma_types.specs.declared.names.ObjName.{ObjName}
use Rattle.rdma_types.specs.Lists.{named}
use Rattle.rdma_types.specs.Spans.{Piece}
use Rattle.protocol.specs.declared.events.WorldEvent.{WorldEvent}
use Rattle.protocol.specs.EndWords.{is_paused, is_running, with_link, with_receiver}
use Rattle.protocol.specs.Fabric.{pending}
use Rattle.protocol.specs.Requester.{Sends, transmission, transmitted}
use Rattle.protocol.specs.State.{World, Link, no_end}
use Rattle.protocol.specs.WorldStep.{world_step}
use Rattle.protocol.specs.Settle.{Settling, drained, is_sent, link_at, settle_step, transmit}
use Rattle.packetless_machine.specs.Machine.{Machine}
use Rattle.law_simulation.specs.Law.{AlwaysFollows}
use Rattle.law_simulation.specs.Stands.{Stands}
use Rattle.law_simulation.proofs.relation.Grows.{object_or_not}
use Rattle.law_settling.specs.Weights.{TakingLightens}
use Rattle.law_settling.proofs.bound.Lives.{at_end, context_in, link_is}
use Rattle.law_settling.proofs.bound.Turns.{live_end}
use Rattle.law_settling.specs.Spares.{IsSpared, SendingSpares}
use Rattle.law_settling.proofs.sending_stops.Draining.{During}
use Rattle.law_settling.proofs.sending_stops.Exchanges as exchange
use Rattle.law_settling.proofs.sending_stops.Landing.{IsDead, IsTaken, first_delivery}
use Rattle.law_settling.proofs.sending_stops.Responders.{Acts, Asks, IsIdle, Refuses}
use Rattle.law_settling.proofs.sending_stops.Sending.{other_now}
use Rattle.law_settling.proofs.sending_stops.Stops.{runs_is}
use Rattle.law_settling.proofs.sending_stops.Transmitting.{resumes_needs, sent_row}

some_link : (a b : Link) → Some a ≡ Some b → a ≡ b
some_link a b h = cc

module _ (lightens : TakingLightens) (follows : (e : WorldEvent) → AlwaysFollows e) (s0 : Settling) (m : Machine) (o : ObjName) (l : Link) (s : Stands s0.world m) (at : (at_end s0.world o).link ≡ Some l) (x : Piece) (row : transmission l ≡ Sends x) (calm : pending s0.world.sent ≡ None)
    (z : ObjName) (ne : z ≢ o) (k : Link) (there : (at_end s0.world z).link ≡ Some k) where
  abbrev w : World
  w = s0.world

  abbrev v1 : World
  v1 = exchange.v1 lightens follows s0 m o l s at x row calm

  abbrev v2 : World
  v2 = exchange.v2 lightens follows s0 m o l s at x row calm

  abbrev q : ObjName
  q = exchange.q lightens follows s0 m o l s at x row calm

  abbrev w3 : World
  w3 = (drained (exchange.t1 lightens follows s0 m o l s at x row calm)).world

  there1 : (at_end v1 z).link ≡ Some k
  there1 = ap (λ e. e.link) (other_now lightens follows w m o l s at x row z ne) ∙ there

  -- after the drain it is as it was after the first delivery, or Paused
  last : (Back : Type 0) → During lightens follows w o q (exchange.apart lightens follows s0 m o l s at x row calm) Back (transmitted l x) v2 (exchange.n1 lightens follows s0 m o l s at x row calm) w3 → IsSpared k (at_end v2 z).link → IsSpared k (at_end w3 z).link
  last Back d h = elim (d.others z ne) [
    | inl same ↦ subst (IsSpared k) (sym same) h
    | inr paused ↦ record { link = paused.0; linked = paused.1; kept = inr (inr paused.2) }
  ]

  same_spared : at_end v2 z ≡ at_end v1 z → IsSpared k (at_end v2 z).link
  same_spared h = record { link = k; linked = ap (λ e. e.link) h ∙ there1; kept = inl refl }

  dead_spared : IsDead lightens follows w m o l s at x row → IsSpared k (at_end w3 z).link
  dead_spared dead = last ⊥ (exchange.dead_drained lightens follows s0 m o l s at x row calm dead) (same_spared (ap (λ cs. named (λ e. e.name) no_end z.name (context_in cs z.context).ends) dead.lives))

  module _ (t : IsTaken lightens follows w m o l s at x row) where
    -- the partner, whose link was k
    partner_by : (j : Link) → (at_end v2 q).link ≡ Some j → (j.sender ≡ t.y.link.sender) ⊎ (j.ended ≡ true) ⊎ (is_paused j.moving.phase ≡ true) → IsSpared k (at_end v2 z).link
    partner_by j now kept = elim (object_or_not z q) [
      | inr other ↦ same_spared (exchange.else_then lightens follows s0 m o l s at x row calm t z other)
      | inl same ↦
          let is : t.y.link ≡ k = some_link t.y.link k (sym t.linked ∙ (ap (λ n. (at_end v1 n).link) (sym same) ∙ there1)) in
          record { link = j; linked = ap (λ n. (at_end v2 n).link) same ∙ now; kept = subst (λ (y : Link). (j.sender ≡ y.sender) ⊎ (j.ended ≡ true) ⊎ (is_paused j.moving.phase ≡ true)) is kept }
    ]

    idle_spared : IsIdle t.y.context t.y.end t.y.link t.y.packet l.sender.next (exchange.s2 lightens follows s0 m o l s at x row calm t) → IsSpared k (at_end w3 z).link
    idle_spared i = last ⊥ (exchange.taken_drained lightens follows s0 m o l s at x row calm t ⊥ i.answers) (partner_by t.y.link (ap (λ e. e.link) (exchange.end_same lightens follows s0 m o l s at x row calm t i.context) ∙ t.linked) (inl refl))

    asks_spared : Asks t.y.context t.y.end t.y.link t.y.packet l.sender.next (exchange.s2 lightens follows s0 m o l s at x row calm t) → IsSpared k (at_end w3 z).link
    unfolding with_link with_receiver
    asks_spared a =
        let j : Link = with_receiver t.y.link (record t.y.link.receiver { nak_sent = true }) in
        last (Unit {0}) (exchange.taken_drained lightens follows s0 m o l s at x row calm t (Unit {0}) a.answers) (partner_by j (ap (λ e. e.link) (exchange.end_changed lightens follows s0 m o l s at x row calm t j a.context)) (inl refl))

    refuses_spared : Refuses t.y.context t.y.end t.y.link t.y.packet l.sender.next (exchange.s2 lightens follows s0 m o l s at x row calm t) → IsSpared k (at_end w3 z).link
    refuses_spared r = last (Unit {0}) (exchange.taken_drained lightens follows s0 m o l s at x row calm t (Unit {0}) r.answers) (partner_by r.link (exchange.link_then lightens follows s0 m o l s at x row calm t ∙ r.linked) (inr (inl r.ended)))

    acts_spared : Acts t.y.context t.y.end t.y.link t.y.packet l.sender.next (exchange.s2 lightens follows s0 m o l s at x row calm t) → IsSpared k (at_end w3 z).link
    acts_spared c = last ⊥ (exchange.taken_drained lightens follows s0 m o l s at x row calm t ⊥ c.answers) (partner_by c.link (exchange.link_then lightens follows s0 m o l s at x row calm t ∙ c.linked) (inl c.sender))

    taken_spared : IsSpared k (at_end w3 z).link
    taken_spared = elim t.outcome [
      | inl idle ↦ idle_spared idle
      | inr more ↦ elim more [
        | inl asks ↦ asks_spared asks
        | inr others ↦ elim others [ inl refuses ↦ refuses_spared refuses | inr acts ↦ acts_spared acts ]
      ]
    ]

  pub sent_spares : IsSpared k (at_end w3 z).link
  sent_spares = elim (first_delivery lightens follows w m o l s at x row) [ inl dead ↦ dead_spared dead | inr t ↦ taken_spared t ]

module _ (lightens : TakingLightens) (follows : (e : WorldEvent) → AlwaysFollows e) (s : Settling) (m : Machine) (o z : ObjName) (k : Link) (stands : Stands s.world m) (calm : pending s.world.sent ≡ None) (sent : is_sent (world_step s.world (transmit o)).answer ≡ true) (ne : z ≢ o) (there : (at_end s.world z).link ≡ Some k) where
  by_link : (r : Option Link) → (at_end s.world o).link ≡ r → is_running r ≡ true → IsSpared k (at_end (drained (settle_step s (transmit o))).world z).link
  by_link None at running = absurd (cc)
  by_link (Some l) at running = elim (sent_row s.world m o l (live_end s.world m o l stands at) sent) [
    | inl resume ↦ absurd (cc (resumes_needs l resume, (runs_is l running).1))
    | inr piece ↦ sent_spares lightens follows s m o l stands at piece.0 piece.1 calm z ne k there
  ]

pub spares : TakingLightens → ((e : WorldEvent) → AlwaysFollows e) → SendingSpares
spares lightens follows s m o z l stands calm running sent ne there =
    subst (IsSpared l) (sym (link_is (drained (settle_step s (transmit o))).world z))
    (by_link lightens follows s m o z l stands calm sent ne (sym (link_is s.world z) ∙ there) (link_at s.world o) (sym (link_is s.world o)) running)
