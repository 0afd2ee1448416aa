-- Three passes leave nothing pending.
use Rattle.std.proofs.Common.{arith, ◌≡◌, ◌<◌, ◌-◌, ◌⊎◌, ℕ, List, [], ◌∷◌, length, sym, subst, inl, inr}
use Rattle.std.specs.Prelude.{All, Contains, Some, None, slice_get}
use Rattle.std.proofs.lemmas.List.Elements.{All-contains}
use Rattle.protocol.specs.declared.events.WorldEvent.TheVariants as world_events
use Rattle.protocol.specs.State.{World, Flight}
use Rattle.protocol.specs.Fabric.{pending, pending_numbers}
use Rattle.protocol.specs.WorldStep.{world_step}
use Rattle.protocol.specs.Settle.{Settling, delivering, drained, pass, settle_step, stepped_to}
use Rattle.law_settling.proofs.draining.Pending.{IsPending, contains_here, contains_later, contains_cases, numbers_pend, pending_listed, none_pending}
use Rattle.law_settling.proofs.draining.Replies.{IsReply, IsStop}
use Rattle.law_settling.proofs.draining.Arrivals.{Flown, IsDelivered, delivered, grows, bytes_kept, still_pending}

-- datagram k is there, and its bytes are of that class
record IsThere (Class : List ℕ → Type 0) (sent : List Flight) (k : ℕ) : Type 0 where
  flight : Flight
  there : slice_get sent (k - 1) ≡ Some flight
  class : Class flight.bytes

-- what datagrams of one class are answered by is of the next
module _ (Class Next : List ℕ → Type 0) (answered : (bs : List ℕ) (more : List Flight) → Class bs → Flown bs more → All (λ f. Next f.bytes) more) where
  abbrev IsLeft : List Flight → List ℕ → ℕ → Flight → Type 0
  IsLeft sent ks j f = (IsPending sent j f × (Contains ks j → ⊥)) ⊎ ((length sent < j) × Next f.bytes)

  class_kept : (w w' : World) (j k : ℕ) → IsDelivered w w' k → IsThere Class w.sent j → IsThere Class w'.sent j
  class_kept w w' j k h t =
      let g = bytes_kept w w' k h (j - 1) t.flight t.there in
      record { flight = g.0; there = g.1; class = subst Class (sym g.2) t.class }

  left_on : (w w' : World) (k : ℕ) (ks : List ℕ) (j : ℕ) (f : Flight) → (h : IsDelivered w w' k) → IsThere Class w.sent k → IsLeft w'.sent ks j f → IsLeft w.sent (k ∷ ks) j f
  left_on w w' k ks j f h t l = elim l [
    | inr b ↦ inr (omega (arith, b.0, grows w w' k h), b.1)
    | inl a ↦ elim (still_pending w w' k h j f a.0) [
      | inl p ↦ inl (p.0, λ c. elim (contains_cases j k ks c) [ inl e ↦ p.1 (sym e) | inr d ↦ a.1 d ])
      | inr q ↦ inr (q.0, All-contains (λ z. Next z.bytes) h.more f (answered t.flight.bytes h.more t.class (h.flown t.flight t.there)) q.1)
    ]
  ]

  delivering_leaves : (ks : List ℕ) (s : Settling) → ((k : ℕ) → Contains ks k → IsThere Class s.world.sent k) → (j : ℕ) (f : Flight) → IsPending (delivering s ks).world.sent j f → IsLeft s.world.sent ks j f
  unfolding delivering settle_step stepped_to
  delivering_leaves [] s there j f p = inl (p, λ c. absurd (omega (arith, c.1)))
  delivering_leaves (k ∷ ks) s there j f p =
      let w' : World = (world_step s.world (world_events.Deliver k)).world in
      let h : IsDelivered s.world w' k = delivered s.world k in
      left_on s.world w' k ks j f h (there k (contains_here k ks))
      (delivering_leaves ks (settle_step s (world_events.Deliver k)) (λ i c. class_kept s.world w' i k h (there i (contains_later i k ks c))) j f p)

  abbrev pub AreAll : (List ℕ → Type 0) → List Flight → Type 0
  AreAll C sent = (j : ℕ) (f : Flight) → IsPending sent j f → C f.bytes

  pass_leaves : (s : Settling) → AreAll Class s.world.sent → AreAll Next (pass s).world.sent
  pass_leaves s all j f p =
      elim (delivering_leaves (pending_numbers s.world.sent) s (λ k c. let g = numbers_pend s.world.sent k c in record { flight = g.0; there = g.1.there; class = all k g.0 g.1 }) j f p) [
        | inl a ↦ absurd (a.1 (pending_listed s.world.sent j f a.0))
        | inr b ↦ b.1
      ]

abbrev Any : List ℕ → Type 0
Any bs = Unit {0}

abbrev Nothing : List ℕ → Type 0
Nothing bs = ⊥

nothing_more : (more : List Flight) → more ≡ [] → All (λ f. Nothing f.bytes) more
nothing_more more h = subst (All (λ f. Nothing f.bytes)) (sym h) (λ k x b. absurd (omega (arith, b)))

pub drains : (s : Settling) → pending (drained s).world.sent ≡ None
unfolding drained
drains s =
    none_pending _
    (pass_leaves IsStop Nothing (λ bs more c a. nothing_more more (a.none c)) (pass (pass s))
    (pass_leaves IsReply IsStop (λ bs more c a. a.stops c) (pass s)
    (pass_leaves Any IsReply (λ bs more c a. a.replies) s (λ j f p. tt))))
