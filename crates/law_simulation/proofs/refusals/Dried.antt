-- The expected request finds no receive: an RNR NAK is sent, and the machine notes the dry turn.
use Rattle.std.proofs.Common.{arith, ◌≡◌, ◌⊎◌, ℕ, List, [], ◌∷◌, ◌++◌, length, true, false, Bool, refl, sym, ap, ◌∙◌, subst, inl, inr}
use Rattle.std.specs.Prelude.{Option, Some, None, if◌then◌else◌, is_some, not, ◌==◌, ◌&&◌, ◌||◌, All, Contains}
use Rattle.std.proofs.lemmas.Bool.Decides.{nat_tests, eqb_tells}
use Rattle.std.proofs.lemmas.List.Elements.{All-nil, All-cons, Contains-push}
use Rattle.rdma_types.specs.declared.requests.Kind.{Kind}
use Rattle.rdma_types.specs.declared.requests.Kind.TheVariants as kinds'
use Rattle.rdma_types.specs.declared.names.ObjName.{ObjName}
use Rattle.rdma_types.specs.declared.answers.ArrivalEffect.TheVariants as took
use Rattle.rdma_types.specs.declared.answers.RefusalReason.TheVariants as refused
use Rattle.rdma_types.specs.Kinds as kinds
use Rattle.rdma_types.specs.Kinds.{kind_of}
use Rattle.rdma_types.specs.Objects.{Region}
use Rattle.protocol.specs.declared.wire.Syndrome.TheVariants.{Rnr}
use Rattle.protocol.specs.State.{World, Link, Progress, NoMessage, InSend, InWrite}
use Rattle.protocol.specs.Wire.{Packet}
use Rattle.protocol.specs.EndWords as words
use Rattle.protocol.specs.EndWords.{is_paused}
use Rattle.protocol.specs.Responder.{acknowledge, expected_packet, granted_packet, is_invalid, is_not_ready, is_too_long, not_ready, packet_acts, executed, refuses, refuses_length, target}
use Rattle.protocol.specs.DeviceStep.{ended_step}
use Rattle.protocol.specs.WorldStep.{home, ran}
use Rattle.packetless_machine.specs.declared.steps.MachineStep.{MachineStep}
use Rattle.packetless_machine.specs.declared.steps.MachineStep.TheVariants as steps
use Rattle.packetless_machine.specs.Legal.{after}
use Rattle.packetless_machine.specs.Machine as machine
use Rattle.packetless_machine.specs.Machine.{Machine, End, has_end}
use Rattle.packetless_machine.specs.Numbers.{due}
use Rattle.packetless_machine.specs.Steps.{dried, dried_at, has_imm, has_unused, fills, is_current_granted, peer_of}
use Rattle.law_simulation.specs.Packets.{class_of, IsRequest}
use Rattle.law_simulation.specs.Joined.{IsProgress}
use Rattle.law_simulation.specs.Stands.{Stands}
use Rattle.law_simulation.specs.Views.{link_of, owned, owned_there, requests_of, side_of, receive_in}
use Rattle.law_simulation.proofs.relation.Linked.{context_with, end_changed}
use Rattle.law_simulation.proofs.relation.Machines.{MachineChanged}
use Rattle.law_simulation.proofs.relation.InUse.{owned_of}
use Rattle.law_simulation.specs.Delivered as delivered
use Rattle.law_simulation.specs.Delivered.{Arrives, Takes}
use Rattle.law_simulation.proofs.delivery.Lifted.{IsAnswer, side_now}
use Rattle.law_simulation.proofs.requests.Requests.{IsRequestAt, asking, request_at_end}
use Rattle.law_simulation.proofs.requests.Scenes.{scene}
use Rattle.law_simulation.proofs.requests.Replies.{dry_answer}
use Rattle.law_simulation.proofs.requests.Advancing.{got}
use Rattle.law_simulation.proofs.requests.Responding.{IsRespond, responds, takes_so, made_there}
use Rattle.law_simulation.proofs.requests.Counting.{counts, linked_again, q_sound, q_there, q_in}
use Rattle.law_simulation.proofs.requests.Expected.{step_now, carries_now, has_now, due_now, request_now}
use Rattle.law_simulation.proofs.requests.Checks.{expected_is, target_is, not_ready_is, needs_now, peer_is, in_use_here, progress_here}
use Rattle.law_simulation.proofs.refusals.Picked.{Picks, picks_dry_send, picks_dry_write}
use Rattle.law_simulation.proofs.refusals.Noted.{noted, dry_sound, dry_advance, progress_noted}

or_cases : (a b : Bool) → (a || b) ≡ true → (a ≡ true) ⊎ (b ≡ true)
or_cases true b h = inl refl
or_cases false b h = inr h

pub and_parts : (a b : Bool) → (a && b) ≡ true → (a ≡ true) × (b ≡ true)
and_parts true b h = (refl, h)
and_parts false b h = absurd (cc)

not_true : (b : Bool) → not b ≡ true → b ≡ false
not_true true h = absurd (cc)
not_true false h = refl

-- what is granted is some region
pub granted_some : (z : Option Region) → is_some z ≡ true → (r : Region) × (z ≡ Some r)
granted_some None h = absurd (cc)
granted_some (Some r) h = (r, refl)

pub one : {A : Type 0} (P : A → Type 0) (x : A) → P x → All P (x ∷ [])
one P x h = All-cons P x [] h (All-nil P)

module _ (w : World) (m : Machine) (o : ObjName) (l : Link) (number : Option ℕ) (bytes : List ℕ) (d : Packet) (a : Arrives w m o l number bytes d) (is : class_of d ≡ IsRequest) (paused : is_paused l.moving.phase ≡ false) (now : (request_at_end w m o l number bytes d a is).0 ≡ l.receiver.expected) where
  open scene w m o l number bytes d a is use {n, q, g, r, x, c, e}

  abbrev it : IsRequestAt w m o l n d
  it = (request_at_end w m o l number bytes d a is).2

  abbrev g' : End
  g' = noted g g.answers (g.dry ++ g.acted ∷ [])

  -- ---- the steps

  -- a step is due, and is made
  pub takes_step : (s : MachineStep) (z : words.EndStep) → Picks m q (length d.payload) s → delivered.AreInner (s ∷ []) → expected_packet c e l d n ≡ z → Stands (ran w (ended_step (home w o.context) z)).world (after m (s ∷ [])) → Takes w m o l number d
  takes_step s z p inner same stands =
      takes_so w m o l number d n (s ∷ []) z (request_at_end w m o l number bytes d a is).1 it.link is inner (p.enabled, tt)
      (sym (carries_now w m o l number bytes d a is paused now ∙ p.only)) (step_now w m o l number bytes d a is paused now ∙ same) stands

  none_in_use : g.into ≡ 0 → (peer_of m q).in_use ≡ None
  unfolding receive_in
  none_in_use z = ap (λ u. u.in_use) (peer_is w m o l number bytes d a is paused now) ∙ (sym (in_use_here w m o l number bytes d a is paused now) ∙ by l.receiver.progress (progress_here w m o l number bytes d a is paused now))
    where
      by : (p : Progress) → IsProgress (asking m o) x.domain (machine.regions_of m o.context) p → receive_in p ≡ None
      by NoMessage h = refl
      by (InSend done v) h = absurd (omega (arith, h.0, h.1, z))
      by (InWrite f s t u) h = refl

  -- ---- it finds no receive

  module _ (valid : is_invalid l d ≡ false) (granted : is_some (target c e d) ≡ true) (dry : is_not_ready e d ≡ true) where
    rows : (needs_now w m o l number bytes d a is paused now ≡ true) × (not (has_unused (peer_of m q)) ≡ true)
    rows = and_parts _ _ (sym (not_ready_is w m o l number bytes d a is paused now) ∙ dry)

    picks_dry : Picks m q (length d.payload) (steps.Dry q)
    picks_dry = by (or_cases _ _ rows.0)
      where
        is_none : (k : ℕ) → (k == 0) ≡ true → k ≡ 0
        is_none k h = grind (arith, nat_tests, eqb_tells k 0, h)

        no_send : (k : Kind) → kinds.is_write k ≡ true → kinds.is_send k ≡ false
        no_send kinds'.Write h = refl
        no_send kinds'.Send h = absurd (cc)
        no_send kinds'.Read h = absurd (cc)
        no_send kinds'.CompareSwap h = absurd (cc)
        no_send kinds'.FetchAdd h = absurd (cc)

        by : ((kinds.is_send (kind_of r) && (g.into == 0)) ≡ true) ⊎ ((kinds.is_write (kind_of r) && (fills g (length d.payload) && has_imm r)) ≡ true) → Picks m q (length d.payload) (steps.Dry q)
        by (inl s) =
            let u = and_parts (kinds.is_send (kind_of r)) (g.into == 0) s in
            picks_dry_send m q (length d.payload) (has_now w m o l number bytes d a is paused now) u.0 u.1 (not_true _ rows.1) (none_in_use (is_none g.into u.1))
        by (inr s) =
            let u = and_parts (kinds.is_write (kind_of r)) _ s in
            let there : is_current_granted m q ≡ true = sym (ap (λ b. b || is_current_granted m q) (no_send (kind_of r) u.0)) ∙ (sym (target_is w m o l number bytes d a is paused now) ∙ granted) in
            picks_dry_write m q (length d.payload) (has_now w m o l number bytes d a is paused now) u.0 there u.1 (not_true _ rows.1)

    is_dry : expected_packet c e l d n ≡ not_ready c l n
    is_dry =
        let t = granted_some (target c e d) granted in
        expected_is w m o l number bytes d a is paused now
        ∙ (ap (λ b. if b then refuses c e l n refused.Invalid else granted_packet c e l d n (target c e d)) valid
        ∙ (ap (granted_packet c e l d n) t.1
        ∙ ap (λ b. if b then not_ready c l n else if is_too_long e l d then refuses_length c e l n else packet_acts c e (executed l d) d t.0 n) dry))

    q_made : has_end m q ≡ true
    q_made = q_there w m o l n d a.stands a.live a.linked it

    changed : MachineChanged m (dried m q) q.context (context_with m q g')
    unfolding dried dried_at
    changed = end_changed m q g' (made_there m q q_made) (q_in w m o l n d a.stands a.live a.linked it)

    numbers_same : (dried m q).numbers ≡ m.numbers
    unfolding dried machine.with_end machine.with_context
    numbers_same = refl

    keys_same : (dried m q).keys ≡ m.keys
    unfolding dried machine.with_end machine.with_context
    keys_same = refl

    q_connected : g.connected ≡ true
    unfolding owned owned_there
    q_connected = ap (λ z. z.connected) (sym (owned_of w m a.stands q q_made)) ∙ it.joined.connected

    responding : IsRespond w m (dried m q) o l l.receiver (words.linked c e l) (machine.context_of m o.context) x g.acted g.into g.answers g.offers (g.dry ++ g.acted ∷ [])
    responding =
        counts w m o l n d a.stands a.live a.linked it (dried m q) l.receiver g.acted g.into g.answers g.offers (g.dry ++ g.acted ∷ []) changed numbers_same keys_same refl
        (dry_sound _ _ g (g.dry ++ g.acted ∷ []) q_connected (q_sound w m o l n d a.stands a.live a.linked it))
        (dry_advance (asking m o) g.acted (link_of w q).sender.top l.receiver it.back.ordered.due_top it.back.in_pieces it.receives)
        (progress_noted (asking m o) g.answers (g.dry ++ g.acted ∷ []) x.domain (machine.regions_of m o.context) l.receiver.progress (progress_here w m o l number bytes d a is paused now))

    answer : IsAnswer (side_of w q) (side_now (side_of w o) (got l l.receiver)) (requests_of g') (requests_of x) (acknowledge l n Rnr)
    unfolding due
    answer =
        dry_answer l (side_of w q) (side_now (side_of w o) (got l l.receiver)) (requests_of g') (requests_of x) n
        (record { connected = it.towards.connected; number = it.towards.number; said = it.towards.said; start = it.towards.start })
        (record {
          due = omega (arith, due_now w m o l number bytes d a is paused now);
          dry = subst (Contains (g.dry ++ g.acted ∷ [])) (sym (request_now w m o l number bytes d a is paused now)) (Contains-push g.dry g.acted);
        })

    dry_stands : Stands (ran w (ended_step (home w o.context) (not_ready c l n))).world (dried m q)
    unfolding not_ready
    dry_stands =
        subst (λ z. Stands (ran w (ended_step (home w o.context) (record { context = z; took = took.NotReady; sent = acknowledge l n Rnr ∷ [] }))).world (dried m q)) (linked_again w m o l n d a.stands a.live a.linked it)
        (responds w m (dried m q) o l n d l.receiver (words.linked c e l) (machine.context_of m o.context) x g.acted g.into g.answers g.offers (g.dry ++ g.acted ∷ []) a.stands a.live a.alive it responding took.NotReady (acknowledge l n Rnr ∷ [])
        (one (IsAnswer (side_of w q) (side_now (side_of w o) (got l l.receiver)) (requests_of g') (requests_of x)) (acknowledge l n Rnr) answer))

    pub dry_taken : Takes w m o l number d
    dry_taken = takes_step (steps.Dry q) (not_ready c l n) picks_dry tt is_dry dry_stands
