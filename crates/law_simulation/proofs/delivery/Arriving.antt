-- The frame of a delivery: a datagram that is gone, lost or aged brings nothing; one that comes is taken, and reaches the
-- end that it names, or no end.
use Rattle.std.proofs.Common.{arith, ◌≡◌, ◌-◌, ℕ, zero, suc, List, [], ◌∷◌, length, true, false, Bool, refl, sym, ap, ◌∙◌, subst}
use Rattle.std.specs.Prelude.{Option, Some, None, is_some, not, ◌&&◌, if◌then◌else◌, slice_get}
use Rattle.rdma_types.specs.declared.names.Name.{Name}
use Rattle.rdma_types.specs.declared.names.ObjName.{ObjName}
use Rattle.rdma_types.specs.declared.requests.Address.{Address}
use Rattle.rdma_types.specs.declared.answers.Answer.{Answer}
use Rattle.rdma_types.specs.declared.answers.Answer.TheVariants as answers
use Rattle.rdma_types.specs.declared.answers.DropReason.TheVariants as why
use Rattle.rdma_types.specs.declared.answers.ArrivalEffect.{ArrivalEffect}
use Rattle.rdma_types.specs.declared.answers.ArrivalEffect.TheVariants as took
use Rattle.std.proofs.lemmas.List.{append-nil, map-id}
use Rattle.rdma_types.specs.Lists.{named, has_name, store, store_named, first_that}
use Rattle.rdma_types.specs.Causes.{first_cause}
use Rattle.protocol.specs.declared.events.Event.TheVariants as events
use Rattle.protocol.specs.declared.events.WorldEvent.TheVariants as world_events
use Rattle.protocol.specs.State as state
use Rattle.protocol.specs.State.{World, Device, Flight, HuskEntry, Link, no_context, context_at, end_at}
use Rattle.protocol.specs.Fabric as fabric
use Rattle.protocol.specs.Fabric.{Look, Here, IsGone, IsLost, IsAged, kept_flight, is_kept, is_late, look, look_at, changed_at, marked_taken}
use Rattle.protocol.specs.Moves.{nak_stopped}
use Rattle.protocol.specs.Wire.{Packet, wire_of, packet_of, is_request, is_control, fields_of, read_by, layout_of, offence_of}
use Rattle.protocol.specs.Bytes.{number_at, byte_at}
use Rattle.protocol.specs.EndWords as words
use Rattle.protocol.specs.EndStep.{takes}
use Rattle.protocol.specs.Refusals as refusing
use Rattle.protocol.specs.DeviceStep as device
use Rattle.protocol.specs.DeviceStep.{Found, found_in, husk_entries, at_husk, at_found, ended_step}
use Rattle.protocol.specs.WorldStep as step
use Rattle.protocol.specs.WorldStep.{world_step, is_live, home, ran, runs, with_taken, reaches, delivers, delivers_by, device_with, mark_of, now_at, now_of, same_address}
use Rattle.packetless_machine.specs.declared.steps.MachineStep.{MachineStep}
use Rattle.packetless_machine.specs.declared.steps.MachineStep.TheVariants as steps
use Rattle.packetless_machine.specs.Machine as machine
use Rattle.packetless_machine.specs.Machine.{Machine, has_end}
use Rattle.packetless_machine.specs.Legal.{IsRun, after, seen, effect}
use Rattle.law_simulation.specs.Packets.{Class, class_of, IsRequest, IsReadResponse, IsAtomicResponse, IsAck, IsSequenceNak, IsRefusal, IsReceiverNotReady, IsStopped, IsResume, IsResumeAck, IsNothing}
use Rattle.law_simulation.specs.Views as views
use Rattle.law_simulation.specs.Views.{Net, Side, net_of, name_of, peer, place_of, end_of, in_rts, link_or_none, owned, owned_there}
use Rattle.law_simulation.specs.Kept as kept
use Rattle.law_simulation.specs.Facts.{Fact, BytesFact, PacketFact}
use Rattle.law_simulation.specs.Carries.{Either, Carries, CarriesPacket, CarriesNumbered, finds_end, is_at, is_taken}
use Rattle.law_simulation.specs.Stands.{Stands, IsPlaced, AreSent}
use Rattle.law_simulation.specs.Named.{FollowsByName, ReachesByName, delivery_steps, flight_steps, numbered_steps, packet_steps}
use Rattle.law_simulation.proofs.relation.Tables.{name_tells, name-named_there, map-store_found}
use Rattle.law_simulation.proofs.relation.EventNetwork.{sent_changed}
use Rattle.law_simulation.proofs.relation.Connecting.{live_place}
use Rattle.law_simulation.proofs.relation.Grown.{are_made}
use Rattle.law_simulation.proofs.relation.InUse.{owned_of}
use Rattle.law_simulation.proofs.relation.Verbs.{ran_same}
use Rattle.law_simulation.proofs.relation.Worlds.{home_holds, ids_once}
use Rattle.law_simulation.specs.Delivered.{Arrives, Takes, AreInner, IsAway, HusksAnswer, context_there, end_there, mark_at, taken_for}
use Rattle.law_simulation.proofs.delivery.First.{first_passes}
use Rattle.law_simulation.proofs.delivery.Found.{IsAt, found_at, lives_found, linked_there}

-- ---- the datagram is marked

taken_fact : (n : Net) (flights : List Flight) (i : ℕ) → AreSent n flights → AreSent n (changed_at marked_taken i flights)
unfolding changed_at
taken_fact n [] i facts k f h = facts k f h
taken_fact n (x ∷ xs) zero facts zero f h = subst (λ o. elim o as (λ z. Type 0) [ None ↦ ⊥ | Some z ↦ Fact n z ]) h (facts zero x refl)
taken_fact n (x ∷ xs) zero facts (suc k) f h = facts (suc k) f h
taken_fact n (x ∷ xs) (suc i) facts zero f h = facts zero f h
taken_fact n (x ∷ xs) (suc i) facts (suc k) f h = taken_fact n xs i (λ j g. facts (suc j) g) k f h

taken_facts : (n : Net) (flights : List Flight) (kept : Bool) (k : ℕ) → AreSent n flights → AreSent n (if kept then changed_at marked_taken (k - 1) flights else flights)
taken_facts n flights true k facts = taken_fact n flights (k - 1) facts
taken_facts n flights false k facts = facts

pub taken_stands : (w : World) (m : Machine) (k : ℕ) → Stands w m → Stands (with_taken w k) m
unfolding fabric.took
taken_stands w m k s = sent_changed w m (fabric.took w.sent k) s (taken_facts (net_of w m) w.sent (is_kept (length w.sent) k) k s.sent)

-- ---- what the store has no part in

fact_same : (w : World) (m : Machine) (t : List Flight) (f : Flight) → Fact (net_of w m) f → Fact (net_of (record w { sent = t }) m) f
unfolding views.contexts_of views.context_of views.end_of views.in_rts views.place_of
fact_same w m t f h = h

packet_fact_same : (w : World) (m : Machine) (t : List Flight) (o : ObjName) (number : Option ℕ) (bytes : List ℕ) (d : Packet) → PacketFact ((net_of w m).side o) ((net_of w m).side (peer (net_of w m) o)) ((net_of w m).end o) ((net_of w m).end (peer (net_of w m) o)) number bytes d →
    PacketFact ((net_of (record w { sent = t }) m).side o) ((net_of (record w { sent = t }) m).side (peer (net_of (record w { sent = t }) m) o)) ((net_of (record w { sent = t }) m).end o) ((net_of (record w { sent = t }) m).end (peer (net_of (record w { sent = t }) m) o)) number bytes d
unfolding views.contexts_of views.context_of views.end_of views.in_rts views.place_of
packet_fact_same w m t o number bytes d h = h

finds_same : (w : World) (m : Machine) (t : List Flight) (f : Flight) (d : Packet) → finds_end w m f d ≡ finds_end (record w { sent = t }) m f d
unfolding views.contexts_of views.context_of views.end_of views.in_rts views.place_of
finds_same w m t f d = refl

carried_same : (w : World) (m : Machine) (t : List Flight) (o : ObjName) (number : Option ℕ) (bytes : List ℕ) (c : Class) (ss : List MachineStep) → CarriesNumbered (record w { sent = t }) m o number bytes c ss → CarriesNumbered w m o number bytes c ss
unfolding views.contexts_of views.context_of views.end_of
carried_same w m t o None bytes c ss h = h
carried_same w m t o (Some n) bytes IsRequest ss h = h
carried_same w m t o (Some n) bytes IsReadResponse ss h = h
carried_same w m t o (Some n) bytes IsAtomicResponse ss h = h
carried_same w m t o (Some n) bytes IsAck ss h = h
carried_same w m t o (Some n) bytes IsSequenceNak ss h = h
carried_same w m t o (Some n) bytes (IsRefusal is_access) ss h = h
carried_same w m t o (Some n) bytes IsReceiverNotReady ss h = h
carried_same w m t o (Some n) bytes (IsStopped count) ss h = h
carried_same w m t o (Some n) bytes (IsResume body) ss h = h
carried_same w m t o (Some n) bytes (IsResumeAck body) ss h = h
carried_same w m t o (Some n) bytes IsNothing ss h = h

named_same : (w : World) (m : Machine) (t : List Flight) (o : ObjName) (number : Option ℕ) (bytes : List ℕ) (c : Class) (took : ArrivalEffect) → numbered_steps w m o number bytes c took ≡ numbered_steps (record w { sent = t }) m o number bytes c took
unfolding views.contexts_of views.context_of views.end_of
named_same w m t o None bytes c took = refl
named_same w m t o (Some n) bytes IsRequest took = refl
named_same w m t o (Some n) bytes IsReadResponse took = refl
named_same w m t o (Some n) bytes IsAtomicResponse took = refl
named_same w m t o (Some n) bytes IsAck took = refl
named_same w m t o (Some n) bytes IsSequenceNak took = refl
named_same w m t o (Some n) bytes (IsRefusal is_access) took = refl
named_same w m t o (Some n) bytes IsReceiverNotReady took = refl
named_same w m t o (Some n) bytes (IsStopped count) took = refl
named_same w m t o (Some n) bytes (IsResume body) took = refl
named_same w m t o (Some n) bytes (IsResumeAck body) took = refl
named_same w m t o (Some n) bytes IsNothing took = refl

-- ---- how a delivery is followed

unseen : (m : Machine) (ss : List MachineStep) → AreInner ss → seen m ss ≡ []
unseen m [] h = refl
unseen m (steps.Verb verb given ∷ ss) h = absurd h
unseen m (steps.Run q n ∷ ss) h = unseen (effect m (steps.Run q n)) ss h
unseen m (steps.Atom q ∷ ss) h = unseen (effect m (steps.Atom q)) ss h
unseen m (steps.ReadTurn q ∷ ss) h = unseen (effect m (steps.ReadTurn q)) ss h
unseen m (steps.Refuse q why ∷ ss) h = unseen (effect m (steps.Refuse q why)) ss h
unseen m (steps.Dry q ∷ ss) h = unseen (effect m (steps.Dry q)) ss h
unseen m (steps.Offer q i off n ∷ ss) h = unseen (effect m (steps.Offer q i off n)) ss h
unseen m (steps.Land q o ∷ ss) h = unseen (effect m (steps.Land q o)) ss h
unseen m (steps.Known q bytes ∷ ss) h = unseen (effect m (steps.Known q bytes)) ss h
unseen m (steps.Tell q ∷ ss) h = unseen (effect m (steps.Tell q)) ss h
unseen m (steps.Expire q ∷ ss) h = unseen (effect m (steps.Expire q)) ss h
unseen m (steps.Wait q ∷ ss) h = unseen (effect m (steps.Wait q)) ss h
unseen m (steps.Bounce q ∷ ss) h = unseen (effect m (steps.Bounce q)) ss h

-- the steps of a delivery that took the datagram f, which says d, for t
named_so : (w : World) (m : Machine) (k : ℕ) (f : Flight) (d : Packet) (a : Answer) (t : ArrivalEffect) → slice_get w.sent (k - 1) ≡ Some f → packet_of f.bytes ≡ Some d → delivery_steps w m k a ≡ flight_steps w m (slice_get w.sent (k - 1)) t → delivery_steps w m k a ≡ packet_steps w m f (Some d) t
named_so w m k f d a t sent read took = took ∙ (ap (λ z. flight_steps w m z t) sent ∙ ap (λ z. packet_steps w m f z t) read)

-- .. by which it is followed
taken_reached : (w : World) (m : Machine) (k : ℕ) (f : Flight) (d : Packet) (w' : World) (a : Answer) (ss : List MachineStep) → slice_get w.sent (k - 1) ≡ Some f → packet_of f.bytes ≡ Some d → is_taken a ≡ true → AreInner ss → IsRun m ss → CarriesPacket w m f (Some d) ss → delivery_steps w m k a ≡ ss → Stands w' (after m ss) → ReachesByName w m (world_events.Deliver k) w' a
unfolding kept.verb_of kept.kept_verb
taken_reached w m k f d w' a ss sent read took inner run carried named stands = record {
  is_run = subst (IsRun m) (sym named) run;
  heard = subst (λ z. seen m z ≡ []) (sym named) (unseen m ss inner);
  allowed =
      subst (λ b. Either b (Carries w m (slice_get w.sent (k - 1)) (delivery_steps w m k a)) (delivery_steps w m k a ≡ [])) (sym took)
      (subst (λ z. Carries w m z (delivery_steps w m k a)) (sym sent)
      (subst (λ z. CarriesPacket w m f z (delivery_steps w m k a)) (sym read)
      (subst (λ z. CarriesPacket w m f (Some d) z) (sym named) carried)));
  stands = subst (λ z. Stands w' (after m z)) (sym named) stands;
}

-- ---- the end that it names

-- the fact of bytes that were sent says that they are a datagram
pub read_of : (n : Net) (number : Option ℕ) (bytes : List ℕ) (r : Option Packet) → packet_of bytes ≡ r → BytesFact n number bytes r → (d : Packet) × (packet_of bytes ≡ Some d) × PacketFact (n.side (n.name d.dest)) (n.side (peer n (n.name d.dest))) (n.end (n.name d.dest)) (n.end (peer n (n.name d.dest))) number bytes d
read_of n number bytes None h f = absurd f
read_of n number bytes (Some d) h f = (d, h, f)

rts_parts : (a b : Bool) → (a && not b) ≡ true → (a ≡ true) × (b ≡ false)
rts_parts true false h = (refl, refl)
rts_parts true true h = absurd (cc)
rts_parts false b h = absurd (cc)

pub and_parts : (a b : Bool) → (a && b) ≡ true → (a ≡ true) × (b ≡ true)
and_parts true true h = (refl, refl)
and_parts true false h = absurd (cc)
and_parts false b h = absurd (cc)

placed_at : (r : Option Address) (b : Address) → is_at r b ≡ true → (a : Address) × (r ≡ Some a) × (same_address a b ≡ true)
unfolding is_at
placed_at None b h = absurd (cc)
placed_at (Some a) b h = (a, refl, h)

-- where the device at the address finds no end, the end is not there in Rts
unfound : (w : World) (m : Machine) (f : Flight) (d : Packet) → Stands w m → views.is_connected w (name_of m d.dest) ≡ true → (machine.end_of m (name_of m d.dest)).number ≡ d.dest →
    ((v : Device) → device_with w f.to ≡ Some v → found_in d.dest v.contexts ≡ []) → finds_end w m f d ≡ false
unfolding in_rts owned owned_there
unfound w m f d s connected number none = by_test (finds_end w m f d) refl
  where
    by_test : (b : Bool) → finds_end w m f d ≡ b → finds_end w m f d ≡ false
    by_test false t = t
    by_test true t =
        let o : ObjName = name_of m d.dest in
        let parts = and_parts (in_rts w o) (is_at (place_of w o.context) f.to) t in
        let at = placed_at (place_of w o.context) f.to parts.1 in
        let there : has_end m o ≡ true = are_made w m s o connected in
        let number' : (end_of w o).number ≡ d.dest = ap (λ z. z.number) (owned_of w m s o there) ∙ number in
        let found = lives_found w m o at.0 f.to d.dest s.placed connected number' at.1 at.2 (device_with w f.to) refl in
        absurd (omega (arith, found.2, ap length (none found.0 found.1)))

-- ---- the device's answer

-- a context that is stored again
pub stored_again : {A : Type 0} (name : A → Name) (none : A) (n : Name) (xs : List A) → has_name name n xs ≡ true → store_named name n (named name none n xs) xs ≡ xs
unfolding has_name store_named named
stored_again name none n [] there = absurd (cc)
stored_again name none n (x ∷ xs) there = grind (arith, name_tells (name x) n, stored_again name none n xs)

pub same_device : (d : Device) (c : Name) → has_name (λ x. x.name) c d.contexts ≡ true → device.with_context d (context_at d c) ≡ d
unfolding device.with_context
same_device d c there = ap (λ cs. record d { contexts = cs }) (ap (λ n. store_named (λ x. x.name) n (context_at d c) d.contexts) (name-named_there (λ x. x.name) no_context c d.contexts there) ∙ stored_again (λ x. x.name) no_context c d.contexts there)

-- a step of an end that changes and sends nothing
pub unchanged : (w : World) (m : Machine) (c : Name) (t : ArrivalEffect) → Stands w m → is_live w c ≡ true → (ran w (ended_step (home w c) (words.stays (context_at (home w c) c) t))).world ≡ w
unchanged w m c t s live = ap (λ d. (ran w (device.answers d (answers.Took t 0 0))).world) (same_device (home w c) c (home_holds w c live)) ∙ ran_same w m c (answers.Took t 0 0) s.placed live

-- the machine makes no step where nothing changes
pub unchanged_stands : (w : World) (m : Machine) (c : Name) (t : ArrivalEffect) → Stands w m → is_live w c ≡ true → Stands (ran w (ended_step (home w c) (words.stays (context_at (home w c) c) t))).world m
unchanged_stands w m c t s live = subst (λ z. Stands z m) (sym (unchanged w m c t s live)) s

answered : (w : World) (d : Device) (t : ArrivalEffect) (first count : ℕ) (sent : List _) → is_taken (ran w (device.gives d (answers.Took t first count) sent)).answer ≡ true
unfolding ran step.numbered is_taken
answered w d t first count sent = refl

steps_answered : (w v : World) (m : Machine) (k : ℕ) (d : Device) (t : ArrivalEffect) (first count : ℕ) (sent : List _) → delivery_steps w m k (ran v (device.gives d (answers.Took t first count) sent)).answer ≡ flight_steps w m (slice_get w.sent (k - 1)) t
unfolding ran step.numbered
steps_answered w v m k d t first count sent = refl

-- a device of the world that answers without a change
still : (w : World) (m : Machine) (test : Device → Bool) (d : Device) (a : Answer) → IsPlaced w m → first_that test w.devices ≡ Some d → (ran w (device.answers d a)).world ≡ w
unfolding ran step.with_device fabric.sending
still w m test d a placed found =
    let devices : store (λ e. e.id) d.id d w.devices ≡ w.devices = sym (map-id (store (λ e. e.id) d.id d w.devices)) ∙ (map-store_found (λ e. e) (λ e. e.id) test d d w.devices (ids_once w m placed) found refl ∙ map-id w.devices) in
    rw (append-nil w.sent, devices) refl

-- no event of a packet is refused
pub arrives_is : (d : Device) (from : Address) (bytes : List ℕ) (p : Packet) → packet_of bytes ≡ Some p → device.device_step d (events.Arrive from bytes) ≡ at_found d from p (found_in p.dest d.contexts)
unfolding device.device_step device.arrives refusing.refusal_of first_cause
arrives_is d from bytes p read = ap (device.arrives_packet d from) read

-- the parts of bytes that are looked at before they are read
read_opcode : (bytes : List ℕ) (p : Packet) → packet_of bytes ≡ Some p → (p.opcode ≡ byte_at 0 bytes) × (p.dest ≡ number_at 5 3 bytes)
unfolding packet_of fields_of
read_opcode bytes p h = by_offence (is_some (offence_of bytes)) (layout_of (byte_at 0 bytes)) h
  where
    by_offence : (b : Bool) (l : Option _) → (if b then None else read_by l bytes) ≡ Some p → (p.opcode ≡ byte_at 0 bytes) × (p.dest ≡ number_at 5 3 bytes)
    by_offence true l e = absurd (cc)
    by_offence false None e = absurd (cc)
    by_offence false (Some l) e = let is : fields_of l.headers bytes ≡ p = cc in (ap (λ z. z.opcode) (sym is), ap (λ z. z.dest) (sym is))

abbrev no_steps : List MachineStep
no_steps = []

took_it : (w : World) (d : Device) (s : words.EndStep) → is_taken (ran w (ended_step d s)).answer ≡ true
unfolding ran step.numbered is_taken
took_it w d s = refl

steps_taken : (w v : World) (m : Machine) (k : ℕ) (d : Device) (s : words.EndStep) → delivery_steps w m k (ran v (ended_step d s)).answer ≡ flight_steps w m (slice_get w.sent (k - 1)) s.took
unfolding ran step.numbered
steps_taken w v m k d s = refl

ended_takes : (c : state.Context) (e : state.End) (l : Link) (p : Packet) → l.ended ≡ true → takes c e l p ≡ words.silent c why.Ended
unfolding takes
ended_takes c e l p h = rw h refl

-- ---- a datagram that comes

-- what the arrival of f is answered: ReachesByName, in the world where it is marked
abbrev pub Reached : World → Machine → ℕ → Flight → Option Device → Type 0
Reached w m k f d = ReachesByName w m (world_events.Deliver k) (reaches (with_taken w k) f d).world (reaches (with_taken w k) f d).answer

module _ (w : World) (m : Machine) (k : ℕ) (f : Flight) (p : Packet) (s : Stands w m) (sent : slice_get w.sent (k - 1) ≡ Some f) (read : packet_of f.bytes ≡ Some p)
    (fact : PacketFact ((net_of w m).side (name_of m p.dest)) ((net_of w m).side (peer (net_of w m) (name_of m p.dest))) ((net_of w m).end (name_of m p.dest)) ((net_of w m).end (peer (net_of w m) (name_of m p.dest))) f.number f.bytes p) where
  abbrev o : ObjName
  o = name_of m p.dest

  abbrev v : World
  v = with_taken w k

  s' : Stands v m
  s' = taken_stands w m k s

  -- where nothing is found, nothing happens
  lost_on : (w' : World) (a : Answer) (t : ArrivalEffect) → finds_end w m f p ≡ false → is_taken a ≡ true → delivery_steps w m k a ≡ flight_steps w m (slice_get w.sent (k - 1)) t → Stands w' m → ReachesByName w m (world_events.Deliver k) w' a
  lost_on w' a t none took by stands =
      taken_reached w m k f p w' a no_steps sent read took tt tt (subst (λ b. Either b (CarriesNumbered w m o f.number p.payload (class_of p) no_steps) (no_steps ≡ [])) (sym none) refl)
      (named_so w m k f p a t sent read by ∙ ap (λ b. if b then numbered_steps w m o f.number p.payload (class_of p) t else []) none) stands

  none_there : ((d : Device) → device_with w f.to ≡ Some d → found_in p.dest d.contexts ≡ []) → finds_end w m f p ≡ false
  none_there none = unfound w m f p s fact.connected fact.dest none

  unknown : is_taken (answers.Took (took.Silent why.Unknown) 0 0) ≡ true
  unfolding is_taken
  unknown = refl

  pub no_device_there : device_with w f.to ≡ None → Reached w m k f None
  no_device_there none = lost_on v (answers.Took (took.Silent why.Unknown) 0 0) (took.Silent why.Unknown) (none_there (λ d h. absurd (cc))) unknown refl s'

  abbrev pub AtHusk : Device → List HuskEntry → Type 0
  AtHusk d hs = ReachesByName w m (world_events.Deliver k) (ran v (at_husk d f.from p hs)).world (ran v (at_husk d f.from p hs)).answer

  -- a device that knows no end with the number answers nothing
  not_known : (d : Device) → device_with w f.to ≡ Some d → found_in p.dest d.contexts ≡ [] → ReachesByName w m (world_events.Deliver k) (ran v (device.answers d (answers.Took (took.Silent why.Unknown) 0 0))).world (ran v (device.answers d (answers.Took (took.Silent why.Unknown) 0 0))).answer
  not_known d is none =
      lost_on _ _ (took.Silent why.Unknown) (none_there (λ e h. subst (λ z. found_in p.dest z.contexts ≡ []) (some_device d e (sym is ∙ h)) none)) (answered v d (took.Silent why.Unknown) 0 0 []) (steps_answered w v m k d (took.Silent why.Unknown) 0 0 [])
      (subst (λ z. Stands z m) (sym (still v m (λ z. same_address z.address f.to) d (answers.Took (took.Silent why.Unknown) 0 0) s'.placed is)) s')
    where
      some_device : (a b : Device) → Some a ≡ Some b → a ≡ b
      some_device a b h = cc

  husk_by : (d : Device) → device_with w f.to ≡ Some d → found_in p.dest d.contexts ≡ [] → HusksAnswer → (h : HuskEntry) (hs : List HuskEntry) → husk_entries p.dest d.husks ≡ h ∷ hs → (b : Bool) → is_control p ≡ b →
      ReachesByName w m (world_events.Deliver k) (ran v (if b then device.answers d (device.took_answer (took.Silent why.Unknown) []) else device.gives d (answers.Took took.Stopped 0 1) (record { to = f.from; number = None; bytes = wire_of (nak_stopped h p.psn) } ∷ []))).world
      (ran v (if b then device.answers d (device.took_answer (took.Silent why.Unknown) []) else device.gives d (answers.Took took.Stopped 0 1) (record { to = f.from; number = None; bytes = wire_of (nak_stopped h p.psn) } ∷ []))).answer
  husk_by d is none husks h hs entries true t = not_known d is none
  husk_by d is none husks h hs entries false t =
      lost_on _ _ took.Stopped (none_there (λ e g. subst (λ z. found_in p.dest z.contexts ≡ []) (some_device d e (sym is ∙ g)) none)) (answered v d took.Stopped 0 1 _) (steps_answered w v m k d took.Stopped 0 1 _)
      (husks v m f d p h hs s' is read (fact_same w m v.sent f (s.sent (k - 1) f sent)) none entries t)
    where
      some_device : (a b : Device) → Some a ≡ Some b → a ≡ b
      some_device a b h = cc

  pub at_husks : (d : Device) → device_with w f.to ≡ Some d → found_in p.dest d.contexts ≡ [] → HusksAnswer → (hs : List HuskEntry) → husk_entries p.dest d.husks ≡ hs → AtHusk d hs
  at_husks d is none husks [] entries = not_known d is none
  at_husks d is none husks (h ∷ hs) entries = husk_by d is none husks h hs entries (is_control p) refl

  module _ (d : Device) (is : device_with w f.to ≡ Some d) (x : Found) (xs : List Found) (found : found_in p.dest d.contexts ≡ x ∷ xs) where
    at : IsAt v m d x o
    at = found_at v m (λ z. same_address z.address f.to) d p.dest x xs s' is found

    home_context : context_there v o ≡ x.context
    home_context = ap (λ z. context_at z o.context) at.home ∙ at.context

    home_end : end_there v o ≡ x.end
    home_end = ap (λ z. end_at z o.name) home_context ∙ at.end

    connected : views.is_connected v o ≡ true
    unfolding views.contexts_of views.context_of views.end_of
    connected = fact.connected

    link_now : (end_of v o).link ≡ Some x.link
    link_now = ap (λ e. e.link) (sym (linked_there v o at.live connected).1 ∙ home_end) ∙ at.linked

    rts_now : in_rts v o ≡ not x.link.ended
    unfolding in_rts link_or_none
    rts_now = ap (λ z. is_some z && not (link_or_none z).ended) link_now

    placed_now : is_at (place_of v o.context) f.to ≡ true
    unfolding is_at
    placed_now = ap (λ z. is_at z f.to) (live_place v o.context at.live) ∙ (ap (λ z. same_address z.address f.to) at.home ∙ first_passes (λ z. same_address z.address f.to) d w.devices is)

    finds : finds_end w m f p ≡ not x.link.ended
    finds = finds_same w m v.sent f p ∙ (ap (λ b. b && is_at (place_of v o.context) f.to) rts_now ∙ (ap (λ b. not x.link.ended && b) placed_now ∙ and_true (not x.link.ended)))
      where
        and_true : (b : Bool) → (b && true) ≡ b
        and_true true = refl
        and_true false = refl

    step_is : ended_step (home v o.context) (takes (context_there v o) (end_there v o) x.link p) ≡ ended_step d (takes x.context x.end x.link p)
    step_is = λ i. ended_step (at.home i) (takes (home_context i) (home_end i) x.link p)

    took_is : (takes x.context x.end x.link p).took ≡ taken_for v o x.link p
    took_is = sym (λ i. (takes (home_context i) (home_end i) x.link p).took)

    fresh_now : is_late f.number (now_of w (Some f)) ≡ false → is_late f.number (mark_at x.link p) ≡ false
    fresh_now h =
        let parts = read_opcode f.bytes p read in
        ap (is_late f.number) (sym (
        ap (λ z. now_at z f.bytes) is
        ∙ (ap (λ n. mark_of (found_in n d.contexts) (byte_at 0 f.bytes)) (sym parts.1)
        ∙ (ap (λ z. mark_of z (byte_at 0 f.bytes)) found
        ∙ ap (λ z. if is_request z then x.link.receiver.expected else x.link.sender.top) (sym parts.0))))) ∙ h

    reached_by : (b : Bool) → x.link.ended ≡ b → is_late f.number (now_of w (Some f)) ≡ false → ((l : Link) → Arrives v m o l f.number f.bytes p → Takes v m o l f.number p) →
        ReachesByName w m (world_events.Deliver k) (ran v (ended_step d (takes x.context x.end x.link p))).world (ran v (ended_step d (takes x.context x.end x.link p))).answer
    reached_by true t fresh owed =
        let silent : ended_step (home v o.context) (words.stays (context_there v o) (took.Silent why.Ended)) ≡ ended_step d (takes x.context x.end x.link p) =
        ap (ended_step (home v o.context)) (sym (ended_takes (context_there v o) (end_there v o) x.link p t)) ∙ step_is in
        lost_on _ _ (takes x.context x.end x.link p).took (finds ∙ ap not t) (took_it v d (takes x.context x.end x.link p)) (steps_taken w v m k d (takes x.context x.end x.link p))
        (subst (λ z. Stands (ran v z).world m) silent (unchanged_stands v m o.context (took.Silent why.Ended) s' at.live))
    reached_by false t fresh owed =
        let taken : Takes v m o x.link f.number p = owed x.link (record { stands = s'; live = at.live; there = at.there; linked = ap (λ e. e.link) home_end ∙ at.linked; alive = t; named = refl; read = read; fact = packet_fact_same w m v.sent o f.number f.bytes p fact; fresh = fresh_now fresh }) in
        taken_reached w m k f p _ _ taken.steps sent read (took_it v d (takes x.context x.end x.link p)) taken.inner taken.is_run
        (subst (λ b. Either b (CarriesNumbered w m o f.number p.payload (class_of p) taken.steps) (taken.steps ≡ [])) (sym (finds ∙ ap not t)) (carried_same w m v.sent o f.number p.payload (class_of p) taken.steps taken.allowed))
        (named_so w m k f p _ (takes x.context x.end x.link p).took sent read (steps_taken w v m k d (takes x.context x.end x.link p))
        ∙ (ap (λ b. if b then numbered_steps w m o f.number p.payload (class_of p) (takes x.context x.end x.link p).took else []) (finds ∙ ap not t)
        ∙ (ap (numbered_steps w m o f.number p.payload (class_of p)) took_is ∙ (named_same w m v.sent o f.number p.payload (class_of p) (taken_for v o x.link p) ∙ sym taken.named))))
        (subst (λ z. Stands (ran v z).world (after m taken.steps)) step_is taken.stands)

  at_device : (d : Device) → device_with w f.to ≡ Some d → HusksAnswer → is_late f.number (now_of w (Some f)) ≡ false → ((l : Link) → Arrives v m o l f.number f.bytes p → Takes v m o l f.number p) → (xs : List Found) → found_in p.dest d.contexts ≡ xs →
      ReachesByName w m (world_events.Deliver k) (ran v (at_found d f.from p xs)).world (ran v (at_found d f.from p xs)).answer
  at_device d is husks fresh owed [] found = at_husks d is found husks (husk_entries p.dest d.husks) refl
  at_device d is husks fresh owed (x ∷ xs) found = reached_by d is x xs found x.link.ended refl fresh owed

  pub comes : HusksAnswer → is_late f.number (now_of w (Some f)) ≡ false → ((l : Link) → Arrives v m o l f.number f.bytes p → Takes v m o l f.number p) → (d : Option Device) → device_with w f.to ≡ d → Reached w m k f d
  comes husks fresh owed None is = no_device_there is
  comes husks fresh owed (Some d) is =
      subst (λ z. ReachesByName w m (world_events.Deliver k) (ran v z).world (ran v z).answer) (sym (arrives_is d f.from f.bytes p read))
      (at_device d is husks fresh owed (found_in p.dest d.contexts) refl)

-- ---- a delivery

-- what comes of datagram k, if it is here
abbrev pub ComesOf : World → Machine → ℕ → Type 0
ComesOf w m k = (f : Flight) → slice_get w.sent (k - 1) ≡ Some f → look w.sent k (now_of w (kept_flight w.sent k)) ≡ Here f → is_late f.number (now_of w (Some f)) ≡ false → ReachesByName w m (world_events.Deliver k) (reaches (with_taken w k) f (device_with w f.to)).world (reaches (with_taken w k) f (device_with w f.to)).answer

away : (w : World) (m : Machine) (k : ℕ) (w' : World) (a : Answer) → is_taken a ≡ false → delivery_steps w m k a ≡ [] → Stands w' m → ReachesByName w m (world_events.Deliver k) w' a
unfolding kept.verb_of kept.kept_verb
away w m k w' a none named stands = record {
  is_run = subst (IsRun m) (sym named) tt;
  heard = subst (λ z. seen m z ≡ []) (sym named) refl;
  allowed = subst (λ b. Either b (Carries w m (slice_get w.sent (k - 1)) (delivery_steps w m k a)) (delivery_steps w m k a ≡ [])) (sym none) named;
  stands = subst (λ z. Stands w' (after m z)) (sym named) stands;
}

delivered_by : (w : World) (m : Machine) (k : ℕ) (f : Flight) (b c : Bool) → Stands w m → (b ≡ false → c ≡ false → ReachesByName w m (world_events.Deliver k) (reaches (with_taken w k) f (device_with w f.to)).world (reaches (with_taken w k) f (device_with w f.to)).answer) →
    ReachesByName w m (world_events.Deliver k) (delivers_by w k (if b then IsLost else if c then IsAged else Here f)).world (delivers_by w k (if b then IsLost else if c then IsAged else Here f)).answer
unfolding is_taken
delivered_by w m k f true c s comes = away w m k w answers.Lost refl refl s
delivered_by w m k f false true s comes = away w m k (with_taken w k) answers.Aged refl refl (taken_stands w m k s)
delivered_by w m k f false false s comes = comes refl refl

kept_if : (b : Bool) (r : Option Flight) (f : Flight) → (if b then r else None) ≡ Some f → r ≡ Some f
kept_if true r f h = h
kept_if false r f h = absurd (cc)

by_kept : (w : World) (m : Machine) (k : ℕ) → Stands w m → (r : Option Flight) → kept_flight w.sent k ≡ r → ((f : Flight) → slice_get w.sent (k - 1) ≡ Some f → look_at r (now_of w r) ≡ Here f → is_late f.number (now_of w (Some f)) ≡ false → ReachesByName w m (world_events.Deliver k) (reaches (with_taken w k) f (device_with w f.to)).world (reaches (with_taken w k) f (device_with w f.to)).answer) →
    ReachesByName w m (world_events.Deliver k) (delivers_by w k (look_at r (now_of w r))).world (delivers_by w k (look_at r (now_of w r))).answer
unfolding kept_flight is_taken
by_kept w m k s None h comes = away w m k w answers.Gone refl refl s
by_kept w m k s (Some f) h comes = delivered_by w m k f f.lost (is_late f.number (now_of w (Some f))) s (λ a b. comes f (kept_if (is_kept (length w.sent) k) (slice_get w.sent (k - 1)) f h) (rw (a, b) refl) b)

pub delivered : (w : World) (m : Machine) (k : ℕ) → Stands w m → ComesOf w m k → FollowsByName w m (world_events.Deliver k)
unfolding world_step delivers look
delivered w m k s comes = by_kept w m k s (kept_flight w.sent k) refl comes

-- where it is gone, lost or aged
pub away_follows : (w : World) (m : Machine) (k : ℕ) → Stands w m → IsAway (look w.sent k (now_of w (kept_flight w.sent k))) → FollowsByName w m (world_events.Deliver k)
away_follows w m k s h = delivered w m k s (λ f sent is fresh. absurd (subst IsAway is h))

-- where it is here, and what is owed of it is known
pub delivered_follows : (w : World) (m : Machine) (k : ℕ) → Stands w m → HusksAnswer → ((f : Flight) (d : Packet) (l : Link) → slice_get w.sent (k - 1) ≡ Some f → packet_of f.bytes ≡ Some d → Arrives (with_taken w k) m (name_of m d.dest) l f.number f.bytes d → Takes (with_taken w k) m (name_of m d.dest) l f.number d) → FollowsByName w m (world_events.Deliver k)
delivered_follows w m k s husks owed = delivered w m k s (λ f sent is fresh.
    let r = read_of (net_of w m) f.number f.bytes (packet_of f.bytes) refl (s.sent (k - 1) f sent) in
    comes w m k f r.0 s sent r.1 r.2 husks fresh (λ l. owed f r.0 l sent r.1) (device_with w f.to) refl)
