-- The expected request is refused: invalid, not granted, or too long.
use Rattle.std.proofs.Common.{◌≡◌, ◌+◌, ℕ, List, [], ◌∷◌, length, true, false, Bool, refl, sym, ap, ◌∙◌, subst}
use Rattle.std.specs.Prelude.{Option, Some, None, if◌then◌else◌, is_some, ◌||◌}
use Rattle.rdma_types.specs.declared.names.ObjName.{ObjName}
use Rattle.rdma_types.specs.declared.answers.ArrivalEffect.TheVariants as took
use Rattle.rdma_types.specs.declared.answers.RefusalReason.TheVariants as whys
use Rattle.rdma_types.specs.declared.requests.Receive.{Receive}
use Rattle.rdma_types.specs.Kinds as kinds
use Rattle.rdma_types.specs.Kinds.{kind_of}
use Rattle.rdma_types.specs.Objects.{Region}
use Rattle.protocol.specs.declared.wire.Syndrome.TheVariants.{Nak}
use Rattle.protocol.specs.State.{World, Link}
use Rattle.protocol.specs.Wire.{Packet}
use Rattle.protocol.specs.EndWords as words
use Rattle.protocol.specs.EndWords.{is_paused}
use Rattle.protocol.specs.Responder.{acknowledge, expected_packet, granted_packet, is_invalid, is_not_ready, is_too_long, not_ready, packet_acts, executed, refuses, refuses_length, target}
use Rattle.protocol.specs.DeviceStep.{ended_step}
use Rattle.protocol.specs.WorldStep.{home, ran}
use Rattle.packetless_machine.specs.declared.steps.MachineStep.TheVariants as steps
use Rattle.packetless_machine.specs.Machine as machine
use Rattle.packetless_machine.specs.Machine.{Machine}
use Rattle.packetless_machine.specs.Steps.{is_current_granted, overflows, peer_of, receive_for, refuse, refused_entries, refused_receives}
use Rattle.law_simulation.specs.Packets.{class_of, IsRequest}
use Rattle.law_simulation.specs.Facts.{is_access_denied}
use Rattle.law_simulation.specs.Stands.{Stands}
use Rattle.law_simulation.specs.Delivered.{Arrives, Takes}
use Rattle.law_simulation.proofs.requests.Requests.{IsRequestAt, request_at_end}
use Rattle.law_simulation.proofs.requests.Scenes.{scene}
use Rattle.law_simulation.proofs.requests.Replies.{access_answer, refusal_answer}
use Rattle.law_simulation.proofs.requests.Counting.{o_in, o_sound, owned_here, same_here}
use Rattle.law_simulation.proofs.requests.Expected.{has_now}
use Rattle.law_simulation.proofs.requests.Checks.{expected_is, invalid_is, target_is, too_long_is, peer_is, message_within}
use Rattle.law_simulation.proofs.relation.Linked.{domain_there}
use Rattle.law_simulation.proofs.refusals.Picked.{Picks, picks_invalid, picks_access, picks_length}
use Rattle.law_simulation.proofs.refusals.Dried.{and_parts, granted_some, takes_step}
use Rattle.law_simulation.proofs.refusals.Shutting.{ended_there, short_there}
use Rattle.law_simulation.proofs.refusals.Refusing.{IsNak, e_name, refused_now, refused_stands, towards, x_connected}

neither : (a b : Bool) → (a || b) ≡ false → (a ≡ false) × (b ≡ false)
neither true b h = absurd (cc)
neither false b h = (refl, h)

-- what is not granted is none
granted_none : (z : Option Region) → is_some z ≡ false → z ≡ None
granted_none None h = refl
granted_none (Some r) h = absurd (cc)

-- what overflows a receive, finds it
overflown : (v : Option Receive) (k : ℕ) → overflows v k ≡ true → (u : Receive) × (v ≡ Some u)
unfolding overflows
overflown None k h = absurd (cc)
overflown (Some u) k h = (u, refl)

module _ (w : World) (m : Machine) (o : ObjName) (l : Link) (number : Option ℕ) (bytes : List ℕ) (d : Packet) (a : Arrives w m o l number bytes d) (is : class_of d ≡ IsRequest) (paused : is_paused l.moving.phase ≡ false) (now : (request_at_end w m o l number bytes d a is).0 ≡ l.receiver.expected) where
  open scene w m o l number bytes d a is use {n, q, g, r, x, c, e}

  abbrev it : IsRequestAt w m o l n d
  it = (request_at_end w m o l number bytes d a is).2

  -- ---- an invalid request

  module _ (invalid : is_invalid l d ≡ true) where
    is_refused_invalid : expected_packet c e l d n ≡ refuses c e l n whys.Invalid
    is_refused_invalid = expected_is w m o l number bytes d a is paused now ∙ ap (λ b. if b then refuses c e l n whys.Invalid else granted_packet c e l d n (target c e d)) invalid

    picks_it : Picks m q (length d.payload) (steps.Refuse q whys.Invalid)
    picks_it = picks_invalid m q (length d.payload) (has_now w m o l number bytes d a is paused now) (sym (invalid_is w m o l number bytes d a is paused now) ∙ invalid)

    nak_invalid : IsNak w m o l number bytes d a is paused now whys.Invalid
    unfolding is_access_denied
    nak_invalid = refusal_answer l _ _ _ _ n (towards w m o l number bytes d a is paused now whys.Invalid) (refused_now w m o l number bytes d a is paused now whys.Invalid false refl)

    invalid_stands : Stands (ran w (ended_step (home w o.context) (refuses c e l n whys.Invalid))).world (refuse m q whys.Invalid)
    unfolding refused_entries refused_receives
    invalid_stands =
        subst (λ z. Stands (ran w (ended_step (home w o.context) (record { context = z; took = took.Refused whys.Invalid; sent = acknowledge l n (Nak 1) ∷ [] }))).world (refuse m q whys.Invalid))
        (sym (ended_there m.keys c (machine.context_of m o.context) o.name e x l (same_here w m o l n d a.stands a.live a.linked it) (a.stands.sound o.context) (o_in w m o l n d a.stands a.live a.linked it) (e_name w m o l number bytes d a is paused now whys.Invalid) a.linked (owned_here w m o l n d a.stands a.live a.linked it) (x_connected w m o l number bytes d a is paused now whys.Invalid) (domain_there m o (o_in w m o l n d a.stands a.live a.linked it) (a.stands.sound o.context)) (o_sound w m o l n d a.stands a.live a.linked it)))
        (refused_stands w m o l number bytes d a is paused now whys.Invalid (took.Refused whys.Invalid) nak_invalid)

    pub invalid_taken : Takes w m o l number d
    invalid_taken = takes_step w m o l number bytes d a is paused now (steps.Refuse q whys.Invalid) (refuses c e l n whys.Invalid) picks_it tt is_refused_invalid invalid_stands

  -- ---- a place that is not granted

  module _ (valid : is_invalid l d ≡ false) (denied : is_some (target c e d) ≡ false) where
    is_refused_access : expected_packet c e l d n ≡ refuses c e l n whys.Access
    is_refused_access =
        expected_is w m o l number bytes d a is paused now
        ∙ (ap (λ b. if b then refuses c e l n whys.Invalid else granted_packet c e l d n (target c e d)) valid ∙ ap (granted_packet c e l d n) (granted_none (target c e d) denied))

    picks_that : Picks m q (length d.payload) (steps.Refuse q whys.Access)
    picks_that =
        let both = neither (kinds.is_send (kind_of r)) (is_current_granted m q) (sym (target_is w m o l number bytes d a is paused now) ∙ denied) in
        picks_access m q (length d.payload) (has_now w m o l number bytes d a is paused now) (sym (invalid_is w m o l number bytes d a is paused now) ∙ valid) both.0 both.1

    nak_access : IsNak w m o l number bytes d a is paused now whys.Access
    unfolding is_access_denied
    nak_access = access_answer l _ _ _ _ n (towards w m o l number bytes d a is paused now whys.Access) (refused_now w m o l number bytes d a is paused now whys.Access true refl)

    access_stands : Stands (ran w (ended_step (home w o.context) (refuses c e l n whys.Access))).world (refuse m q whys.Access)
    unfolding refused_entries refused_receives
    access_stands =
        subst (λ z. Stands (ran w (ended_step (home w o.context) (record { context = z; took = took.Refused whys.Access; sent = acknowledge l n (Nak 2) ∷ [] }))).world (refuse m q whys.Access))
        (sym (ended_there m.keys c (machine.context_of m o.context) o.name e x l (same_here w m o l n d a.stands a.live a.linked it) (a.stands.sound o.context) (o_in w m o l n d a.stands a.live a.linked it) (e_name w m o l number bytes d a is paused now whys.Access) a.linked (owned_here w m o l n d a.stands a.live a.linked it) (x_connected w m o l number bytes d a is paused now whys.Access) (domain_there m o (o_in w m o l n d a.stands a.live a.linked it) (a.stands.sound o.context)) (o_sound w m o l n d a.stands a.live a.linked it)))
        (refused_stands w m o l number bytes d a is paused now whys.Access (took.Refused whys.Access) nak_access)

    pub access_taken : Takes w m o l number d
    access_taken = takes_step w m o l number bytes d a is paused now (steps.Refuse q whys.Access) (refuses c e l n whys.Access) picks_that tt is_refused_access access_stands

  -- ---- a Send that is too long

  module _ (valid : is_invalid l d ≡ false) (granted : is_some (target c e d) ≡ true) (ready : is_not_ready e d ≡ false) (long : is_too_long e l d ≡ true) where
    rows : (kinds.is_send (kind_of r) ≡ true) × (overflows (receive_for (peer_of m q)) (g.into + length d.payload) ≡ true)
    rows = and_parts _ _ (sym (too_long_is w m o l number bytes d a is paused now ready) ∙ long)

    first : (u : Receive) × (receive_for x ≡ Some u)
    first = overflown (receive_for x) (g.into + length d.payload) (ap (λ z. overflows (receive_for z) (g.into + length d.payload)) (sym (peer_is w m o l number bytes d a is paused now)) ∙ rows.1)

    is_refused_length : expected_packet c e l d n ≡ refuses_length c e l n
    is_refused_length =
        let t = granted_some (target c e d) granted in
        expected_is w m o l number bytes d a is paused now
        ∙ (ap (λ b. if b then refuses c e l n whys.Invalid else granted_packet c e l d n (target c e d)) valid
        ∙ (ap (granted_packet c e l d n) t.1
        ∙ (ap (λ b. if b then not_ready c l n else if is_too_long e l d then refuses_length c e l n else packet_acts c e (executed l d) d t.0 n) ready
        ∙ ap (λ b. if b then refuses_length c e l n else packet_acts c e (executed l d) d t.0 n) long)))

    picks_long : Picks m q (length d.payload) (steps.Refuse q whys.Length)
    picks_long = picks_length m q (length d.payload) (has_now w m o l number bytes d a is paused now) rows.0 (message_within w m o l number bytes d a is paused now rows.0) rows.1

    nak_length : IsNak w m o l number bytes d a is paused now whys.Length
    unfolding is_access_denied
    nak_length = refusal_answer l _ _ _ _ n (towards w m o l number bytes d a is paused now whys.Length) (refused_now w m o l number bytes d a is paused now whys.Length false refl)

    length_stands : Stands (ran w (ended_step (home w o.context) (refuses_length c e l n))).world (refuse m q whys.Length)
    unfolding refused_entries refused_receives refuses_length words.with_receiver acknowledge
    length_stands =
        subst (λ z. Stands (ran w (ended_step (home w o.context) (record { context = z; took = took.Refused whys.Length; sent = acknowledge l n (Nak 1) ∷ [] }))).world (refuse m q whys.Length))
        (sym (short_there m.keys c (machine.context_of m o.context) o.name e x l (same_here w m o l n d a.stands a.live a.linked it) (a.stands.sound o.context) (o_in w m o l n d a.stands a.live a.linked it) (e_name w m o l number bytes d a is paused now whys.Length) a.linked (owned_here w m o l n d a.stands a.live a.linked it) (x_connected w m o l number bytes d a is paused now whys.Length) (domain_there m o (o_in w m o l n d a.stands a.live a.linked it) (a.stands.sound o.context)) (o_sound w m o l n d a.stands a.live a.linked it) first.0 first.1))
        (refused_stands w m o l number bytes d a is paused now whys.Length (took.Refused whys.Length) nak_length)

    pub length_taken : Takes w m o l number d
    length_taken = takes_step w m o l number bytes d a is paused now (steps.Refuse q whys.Length) (refuses_length c e l n) picks_long tt is_refused_length length_stands
