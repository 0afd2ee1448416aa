-- An end that resumes sends its RESUME, where nothing was pending: what the world is then, and what takes it.
use Rattle.std.proofs.Common.{arith, ◌≡◌, ◌≢◌, ◌<◌, ◌+◌, ◌^◌, ◌⊎◌, ℕ, [], ◌∷◌, ◌++◌, length, true, false, Bool, refl, sym, ap, ◌∙◌, subst, inl, inr}
use Rattle.std.specs.Prelude.{Some, None, not, nat_le, nat_lt, if◌then◌else◌, ◌==◌, ◌&&◌}
use Rattle.rdma_types.specs.declared.answers.Answer.TheVariants as answers
use Rattle.rdma_types.specs.declared.answers.Sent.{Sent}
use Rattle.rdma_types.specs.declared.answers.DropReason.TheVariants as why
use Rattle.rdma_types.specs.declared.answers.ArrivalEffect.TheVariants as took
use Rattle.rdma_types.specs.declared.names.ObjName.{ObjName}
use Rattle.rdma_types.specs.declared.requests.Address.{Address}
use Rattle.rdma_types.specs.Limits.{most_moves}
use Rattle.protocol.specs.declared.events.WorldEvent.{WorldEvent}
use Rattle.protocol.specs.declared.events.WorldEvent.TheVariants as world_events
use Rattle.protocol.specs.declared.wire.ResumeBody.{ResumeBody}
use Rattle.protocol.specs.DeviceStep as device
use Rattle.protocol.specs.DeviceStep.{gives}
use Rattle.protocol.specs.EndStep.{takes, takes_kind}
use Rattle.protocol.specs.EndWords.{EndStep, is_paused, is_resuming, linked, silent, to_partner}
use Rattle.protocol.specs.Fabric.{kept_flight, pending, pending_numbers}
use Rattle.protocol.specs.Moves.{Again, Resume, Resumed, Stale, control_of, move_row, moves_by, resume_ack, resume_of, resume_packet, resumed_link, takes_control}
use Rattle.protocol.specs.Requester.{SendsResume, transmission}
use Rattle.protocol.specs.State.{World, Context, Device, End, Flight, Link, context_at, end_at, no_end}
use Rattle.rdma_types.specs.Lists.{named}
use Rattle.protocol.specs.Wire.{FitsResume, Packet, is_nak_stopped, packet_of, wire_of}
use Rattle.protocol.specs.WorldStep.{home, ran, world_step}
use Rattle.protocol.specs.Settle.{Settling, delivering, pass, settle_step, stepped_to, transmit}
use Rattle.packetless_machine.specs.Machine as machine
use Rattle.packetless_machine.specs.Machine.{Machine}
use Rattle.law_simulation.specs.Law.{AlwaysFollows}
use Rattle.law_simulation.specs.Stands.{Stands}
use Rattle.law_simulation.specs.Views.{name_of}
use Rattle.law_simulation.proofs.relation.Grown.{are_made}
use Rattle.law_simulation.proofs.relation.Tables.{same_name}
use Rattle.law_simulation.proofs.relation.Worlds.{holds_it, home_found, shapes_of}
use Rattle.law_simulation.proofs.sending.GoLive.{LiveEnd, connected, joined_here, link_is}
use Rattle.law_simulation.proofs.sending.GoSent.{home_address, peer_said}
use Rattle.law_simulation.proofs.sending.GoWritten.{fits_resume, reads_back}
use Rattle.law_settling.proofs.draining.Arrivals.{ran_sent}
use Rattle.law_settling.specs.Weights.{TakingLightens}
use Rattle.law_settling.proofs.bound.Lives.{lives, at_end, context_in}
use Rattle.law_settling.proofs.bound.Delivering.{ran_still}
use Rattle.law_settling.proofs.bound.Turns.{live_end}
use Rattle.law_settling.proofs.sending_stops.Arrivals.{ran_shapes}
use Rattle.law_settling.proofs.sending_stops.Sending.{last_there, one_pending}
use Rattle.law_settling.proofs.sending_stops.Transmitting.{transmit_is}
use Rattle.law_settling.proofs.completes.Still.{Followed, step_followed}

-- ---- a partner is in another context

pub partner_apart : (w : World) (m : Machine) (o : ObjName) (l : Link) → Stands w m → (at_end w o).link ≡ Some l → (name_of m l.peer).context ≢ o.context
partner_apart w m o l s at h =
    let hh : LiveEnd w m o l = live_end w m o l s at in
    let j = joined_here w m o l s hh in
    let number : l.peer ≡ (machine.end_of m (machine.end_of m o).peer).number = ap (λ z. z.peer) (sym (link_is w m o l s hh)) ∙ j.number in
    let is : name_of m l.peer ≡ (machine.end_of m o).peer = ap (name_of m) number ∙ s.numbered.named (machine.end_of m o).peer (are_made w m s (machine.end_of m o).peer j.connected) in
    absurd (cc (j.apart, is, h, same_name o.context))

-- the number of a partner can be said
pub partner_said : (w : World) (m : Machine) (o : ObjName) (l : Link) → Stands w m → (at_end w o).link ≡ Some l → l.peer < 2 ^ 24
partner_said w m o l s at =
    let hh : LiveEnd w m o l = live_end w m o l s at in
    subst (λ (z : Link). z.peer < 2 ^ 24) (link_is w m o l s hh) (peer_said w m o s (connected w m o l s hh))

-- ---- what a RESUME does at the end that takes it

pub resume_control : (l : Link) (a : Address) → control_of (resume_of l a) ≡ Some (Resume (record { count = l.moving.own; address = a }))
unfolding control_of is_nak_stopped
resume_control l a = refl

-- the answer of an end with the link l
abbrev pub ack_of : Link → ResumeBody → Sent
ack_of l body = to_partner l None (resume_packet 0x1F l.peer body)

-- nothing, but that it may be answered
pub record IsHeard (c : Context) (l : Link) (body : ResumeBody) (t : EndStep) : Type 0 where
  pub context : t.context ≡ c
  pub sent : (t.sent ≡ []) ⊎ (t.sent ≡ ack_of l body ∷ [])

-- .. or it is news, and the end begins anew
abbrev pub BeginsAnew : Context → End → Link → ResumeBody → EndStep
BeginsAnew c e l body = resume_ack (linked c e (resumed_link l body)) (resumed_link l body) body took.Resumed

module _ (c : Context) (e : End) (l : Link) (body : ResumeBody) where
  abbrev Either : EndStep → Type 0
  Either t = IsHeard c l body t ⊎ (t ≡ BeginsAnew c e l body)

  by_row : (a b : Bool) → Either (moves_by c e l (Resume body) (if a then Resumed else if b then Again else Stale))
  unfolding moves_by
  by_row true b = inr refl
  by_row false true = inl (record { context = refl; sent = inr refl })
  by_row false false = inl (record { context = refl; sent = inl refl })

  by_ended : (b : Bool) → Either (if b then silent c why.Ended else takes_control c e l (Resume body))
  unfolding takes_control move_row
  by_ended true = inl (record { context = refl; sent = inl refl })
  by_ended false = by_row (nat_lt l.moving.recorded body.count && nat_le body.count most_moves) (body.count == l.moving.recorded && not (is_paused l.moving.phase))

  pub takes_resume : (p : Packet) → control_of p ≡ Some (Resume body) → Either (takes c e l p)
  unfolding takes
  takes_resume p h = subst (λ z. Either (if l.ended then silent c why.Ended else takes_kind c e l p z)) (sym h) (by_ended l.ended)

-- ---- the transmission

module _ (lightens : TakingLightens) (follows : (e : WorldEvent) → AlwaysFollows e) (s0 : Settling) (m : Machine) (o : ObjName) (l : Link) (s : Stands s0.world m) (at : (at_end s0.world o).link ≡ Some l) (alive : l.ended ≡ false) (resuming : is_resuming l.moving.phase ≡ true) (calm : pending s0.world.sent ≡ None) where
  abbrev pub w : World
  w = s0.world

  pub here : LiveEnd w m o l
  here = live_end w m o l s at

  abbrev pub d : Device
  d = home w o.context

  abbrev c : Context
  c = context_at d o.context

  abbrev e : End
  e = end_at c o.name

  -- what it says: how often it moved, and where it is
  abbrev pub body : ResumeBody
  body = record { count = l.moving.own; address = d.address }

  abbrev pub packet : Packet
  packet = resume_of l d.address

  abbrev pub flight : Flight
  flight = record { from = d.address; to = l.moving.partner; number = None; bytes = wire_of packet; lost = false; taken = false }

  -- the settling after the transmission, and its world
  abbrev pub t1 : Settling
  t1 = settle_step s0 (transmit o)

  abbrev pub v1 : World
  v1 = (world_step w (transmit o)).world

  row : transmission l ≡ SendsResume
  unfolding transmission
  row = rw (alive, resuming) refl

  step_is : v1 ≡ (ran w (gives d (answers.Sent 0) (to_partner l None packet ∷ []))).world
  step_is = ap (λ z. z.world) (transmit_is w m o l here) ∙ ap (λ t. (ran w (device.sends_by d c e l t)).world) row

  pub lives_then : lives v1 ≡ lives w
  lives_then = ap lives step_is ∙ ran_still w m (holds_it o.context) d (answers.Sent 0) (to_partner l None packet ∷ []) s (home_found w o.context here.live)

  pub shapes_then : shapes_of v1 ≡ shapes_of w
  shapes_then = ap shapes_of step_is ∙ ran_shapes w m (holds_it o.context) d d (answers.Sent 0) (to_partner l None packet ∷ []) s (home_found w o.context here.live) refl

  sent_then : v1.sent ≡ w.sent ++ flight ∷ []
  sent_then = ap (λ z. z.sent) step_is ∙ ran_sent w (gives d (answers.Sent 0) (to_partner l None packet ∷ []))

  pub followed_then : Followed v1
  followed_then = step_followed lightens follows w (transmit o) tt (m, s)

  pub link_then : (at_end v1 o).link ≡ Some l
  link_then = ap (λ cs. (named (λ y. y.name) no_end o.name (context_in cs o.context).ends).link) lives_then ∙ at

  abbrev pub k1 : ℕ
  k1 = length w.sent + 1

  pub listed_then : pending_numbers v1.sent ≡ k1 ∷ []
  listed_then = ap pending_numbers sent_then ∙ one_pending w.sent flight calm refl refl

  pub kept_then : kept_flight v1.sent k1 ≡ Some flight
  kept_then = subst (λ fs. kept_flight fs k1 ≡ Some flight) (sym sent_then) (last_there w.sent flight)

  pub first_pass : pass t1 ≡ settle_step t1 (world_events.Deliver k1)
  unfolding settle_step stepped_to delivering
  first_pass = ap (delivering t1) listed_then

  -- ---- what it says can be said

  own_small : l.moving.own < 2 ^ 24
  own_small = omega (arith, (joined_here w m o l s here).heard_of.limit, ap (λ z. z.moving.own) (link_is w m o l s here))

  address_small : (d.address.ip < 2 ^ 32) × (d.address.port < 2 ^ 16)
  address_small = home_address (λ a. (a.ip < 2 ^ 32) × (a.port < 2 ^ 16)) w o.context here.live s.placed.addresses_said

  pub body_fits : FitsResume body
  body_fits = record { count = omega (arith, own_small); ip = address_small.0; port = address_small.1 }

  pub read_then : packet_of flight.bytes ≡ Some packet
  read_then = reads_back packet (fits_resume l.peer body (partner_said w m o l s at) (omega (arith, own_small)) address_small.0 address_small.1)
