-- What a delivery does in a world that stands: nothing, or one end takes the packet.
use Rattle.std.proofs.Common.{arith, ◌≡◌, ◌≤◌, ◌-◌, ℕ, List, [], ◌∷◌, ◌++◌, length, map, true, false, Bool, refl, sym, ap, ◌∙◌, subst, inl, inr}
use Rattle.std.specs.Prelude.{All, Contains, Option, Some, None, slice_get, if◌then◌else◌, ◌==◌, ◌&&◌, ◌||◌, ◌⊎◌}
use Rattle.std.proofs.lemmas.Bool.Decides.{nat_tests, eqb_tells}
use Rattle.std.proofs.lemmas.Option.{slice_get_within}
use Rattle.std.proofs.lemmas.List.Elements.{All-nil, All-cons, All-contains, All-contains_itself, All-map, All-weaker}
use Rattle.rdma_types.specs.declared.names.Name.{Name}
use Rattle.rdma_types.specs.declared.names.ObjName.{ObjName}
use Rattle.rdma_types.specs.declared.answers.Answer.{Answer}
use Rattle.rdma_types.specs.declared.answers.Answer.TheVariants as answers
use Rattle.rdma_types.specs.declared.answers.DropReason.TheVariants as why
use Rattle.rdma_types.specs.declared.answers.ArrivalEffect.TheVariants as took_word
use Rattle.rdma_types.specs.declared.answers.Sent.{Sent}
use Rattle.rdma_types.specs.declared.requests.Address.{Address}
use Rattle.rdma_types.specs.Causes.{first_cause}
use Rattle.rdma_types.specs.Lists.{first_that, has_name, named, store, store_named}
use Rattle.protocol.specs.Refusals as refusing
use Rattle.protocol.specs.declared.events.Event.TheVariants as events
use Rattle.protocol.specs.declared.events.WorldEvent.TheVariants as world_events
use Rattle.protocol.specs.Fabric.{Here, IsLost, IsAged, changed_at, flight_of, is_kept, is_late, kept_flight, look, look_at, marked_taken, took}
use Rattle.protocol.specs.State.{World, Device, Context, End, Link, Flight, HuskEntry, no_context, no_end, context_at}
use Rattle.protocol.specs.Bytes.{big_bytes, byte_at}
use Rattle.protocol.specs.Wire.{Packet, packet_of, wire_of, is_control, is_request}
use Rattle.protocol.specs.Moves.{control_of, nak_stopped}
use Rattle.protocol.specs.EndWords as words
use Rattle.protocol.specs.EndStep.{takes}
use Rattle.protocol.specs.DeviceStep as device
use Rattle.protocol.specs.DeviceStep.{Found, found_in, ended_step, gives, husk_entries, at_husk, at_found}
use Rattle.protocol.specs.WorldStep as step
use Rattle.protocol.specs.WorldStep.{world_step, is_live, home, live_context, ran, with_taken, delivers, delivers_by, device_with, now_of, reaches, same_address}
use Rattle.packetless_machine.specs.Machine.{Machine}
use Rattle.law_simulation.specs.Views.{name_of, place_of}
use Rattle.law_simulation.specs.Stands.{Stands}
use Rattle.law_simulation.proofs.relation.Connecting.{live_place}
use Rattle.law_simulation.proofs.relation.Tables.{map-store, map-store_found, name-named_there}
use Rattle.law_simulation.proofs.relation.Worlds.{has_name-flat, holds_it, home_found, home_holds, ids_once, is_there, shape_of, shapes_of}
use Rattle.law_simulation.proofs.delivery.Arriving.{arrives_is, taken_stands}
use Rattle.law_simulation.proofs.delivery.Found.{IsAt, found_at}
use Rattle.law_simulation.proofs.sending.GoLive.{LiveEnd}
use Rattle.law_settling.proofs.sending_stops.Reading.{heads}
use Rattle.law_settling.proofs.draining.Arrivals.{kept_there, ran_sent}
use Rattle.law_settling.proofs.draining.Pending.{changed_length, get_append_cases}
use Rattle.law_settling.proofs.draining.Replies.{IsStop}
use Rattle.law_settling.specs.Weights.{BringsNews, EndGoesOn, TakingLightens}
use Rattle.law_settling.proofs.bound.Lives.{lives, live_context_is, IsThere, context_name, self_stored}
use Rattle.law_settling.proofs.bound.Delivering.{found_number, ran_devices, ran_still, ran_stored, tame}

-- the bytes of a datagram that is sent
abbrev pub IsOneOf : List Sent → List ℕ → Type 0
IsOneOf sent bs = (z : Sent) × Contains sent z × (z.bytes ≡ bs)

-- nothing changes but that datagrams are on their way
pub record IsQuietStep (w w' : World) : Type 0 where
  pub lives : lives w' ≡ lives w
  pub shapes : shapes_of w' ≡ shapes_of w
  pub fresh : (j : ℕ) (f : Flight) → length w.sent ≤ j → slice_get w'.sent j ≡ Some f → IsStop f.bytes

-- the end that the packet of datagram k names takes it
pub record Lands (w : World) (m : Machine) (k : ℕ) (w' : World) : Type 0 where
  pub flight : Flight
  pub at : slice_get w.sent (k - 1) ≡ Some flight
  pub packet : Packet
  pub read : packet_of flight.bytes ≡ Some packet
  pub context : Context
  pub end : End
  pub link : Link
  pub number : end.number ≡ packet.dest
  pub live : LiveEnd (with_taken w k) m (name_of m packet.dest) link
  pub there : IsThere w (name_of m packet.dest) context end link
  pub lives : lives w' ≡ store_named (λ y. y.name) (name_of m packet.dest).context (takes context end link packet).context (lives w)
  pub shapes : shapes_of w' ≡ shapes_of w
  pub after_end : End
  pub ends : (takes context end link packet).context.ends ≡ store_named (λ z. z.name) end.name after_end context.ends
  pub after_name : after_end.name ≡ end.name
  pub called : (takes context end link packet).context.name ≡ (name_of m packet.dest).context
  pub reach : place_of w (name_of m packet.dest).context ≡ Some flight.to
  pub from : Address
  pub sent : w'.sent ≡ took w.sent k ++ map (flight_of from) (takes context end link packet).sent
  pub fresh : (j : ℕ) (f : Flight) → length w.sent ≤ j → slice_get w'.sent j ≡ Some f → IsOneOf (takes context end link packet).sent f.bytes

-- .. where that is f, and its packet is p
abbrev pub LandsAs : World → Machine → ℕ → Flight → Packet → World → Type 0
LandsAs w m k f p w' = (y : Lands w m k w') × (y.flight ≡ f) × (y.packet ≡ p)

-- no end with the number lives where datagram f goes
abbrev pub Missed : World → Flight → Packet → Type 0
Missed w f p = (d : Device) → device_with w f.to ≡ Some d → found_in p.dest d.contexts ≡ []

-- the end that the request names lives there, and expects a number that is past by far
pub record IsPast (w : World) (m : Machine) (k : ℕ) (f : Flight) (p : Packet) : Type 0 where
  pub context : Context
  pub end : End
  pub link : Link
  pub number : end.number ≡ p.dest
  pub live : LiveEnd (with_taken w k) m (name_of m p.dest) link
  pub there : IsThere w (name_of m p.dest) context end link
  pub late : is_late f.number (if is_request p.opcode then link.receiver.expected else link.sender.top) ≡ true

-- what stands past the datagrams of before is new
new_are : (P : List ℕ → Type 0) (base : List Flight) (a : Address) (sent : List Sent) → All (λ z. P z.bytes) sent → (j : ℕ) (f : Flight) → length base ≤ j → slice_get (base ++ map (flight_of a) sent) j ≡ Some f → P f.bytes
new_are P base a sent all j f past at = elim (get_append_cases base (map (flight_of a) sent) j f at) [
  | inl b ↦ absurd (omega (arith, past, slice_get_within base j f b))
  | inr c ↦ All-contains (λ (z : Flight). P z.bytes) (map (flight_of a) sent) f (All-map (λ (z : Flight). P z.bytes) (flight_of a) sent all) c.1
]

took_length : (sent : List Flight) (k : ℕ) → length (took sent k) ≡ length sent
unfolding took
took_length sent k = by_test (is_kept (length sent) k)
  where
    by_test : (b : Bool) → length (if b then changed_at marked_taken (k - 1) sent else sent) ≡ length sent
    by_test true = changed_length marked_taken (k - 1) sent
    by_test false = refl

none_new : (w : World) (sent : List Flight) → length sent ≡ length w.sent → (j : ℕ) (f : Flight) → length w.sent ≤ j → slice_get sent j ≡ Some f → IsStop f.bytes
none_new w sent same j f past at = absurd (omega (arith, past, same, slice_get_within sent j f at))

same_again : (w : World) → IsQuietStep w w
same_again w = record { lives = refl; shapes = refl; fresh = none_new w w.sent refl }

taken_again : (w : World) (k : ℕ) → IsQuietStep w (with_taken w k)
taken_again w k = record { lives = refl; shapes = refl; fresh = none_new w (took w.sent k) (took_length w.sent k) }

stop_written : (h : HuskEntry) (psn : ℕ) → IsStop (wire_of (nak_stopped h psn))
unfolding wire_of big_bytes
stop_written h psn = record { opcode = refl; syndrome = refl }

-- equal addresses
address_is : (a b : Address) → same_address a b ≡ true → a ≡ b
address_is a b h = let p = both (a.ip == b.ip) (a.port == b.port) h in λ i. record { ip = number_is a.ip b.ip p.0 i; port = number_is a.port b.port p.1 i }
  where
    both : (x y : Bool) → (x && y) ≡ true → (x ≡ true) × (y ≡ true)
    both true true t = (refl, refl)
    both true false t = absurd (cc)
    both false y t = absurd (cc)

    number_is : (x y : ℕ) → (x == y) ≡ true → x ≡ y
    number_is x y t = grind (arith, nat_tests, eqb_tells x y, t)

first_passes : (test : Device → Bool) (d : Device) (ds : List Device) → first_that test ds ≡ Some d → test d ≡ true
unfolding first_that
first_passes test d [] h = absurd (cc)
first_passes test d (x ∷ ds) h = grind (arith, first_passes test d ds)

-- a device with another context in the place of the one with its name has the same shape
pub shape_kept : (d : Device) (c : Name) (x : Context) → x.name ≡ c → has_name (λ y. y.name) c d.contexts ≡ true → shape_of (device.with_context d x) ≡ shape_of d
unfolding device.with_context
shape_kept d c x named' there =
    let names : map (λ y. y.name) (store_named (λ y. y.name) x.name x d.contexts) ≡ map (λ y. y.name) d.contexts =
    ap (λ k. map (λ y. y.name) (store_named (λ y. y.name) k x d.contexts)) named'
    ∙ map-store (λ y. y.name) (λ y. y.name) no_context c x d.contexts there (named' ∙ sym (name-named_there (λ y. y.name) no_context c d.contexts there)) in
    λ i. record { id = d.id; address = d.address; names = names i; husks = d.husks }

unread : (d : Device) (from : Address) (bytes : List ℕ) → packet_of bytes ≡ None → device.device_step d (events.Arrive from bytes) ≡ device.answers d (device.took_answer (took_word.Silent why.Malformed) [])
unfolding device.device_step device.arrives refusing.refusal_of first_cause
unread d from bytes read = ap (device.arrives_packet d from) read

-- a device that is found steps to one of the same shape
pub ran_shapes : (w : World) (m : Machine) (test : Device → Bool) (d d' : Device) (a : Answer) (sent : List Sent) → Stands w m → first_that test w.devices ≡ Some d → shape_of d' ≡ shape_of d → shapes_of (ran w (gives d' a sent)).world ≡ shapes_of w
ran_shapes w m test d d' a sent s found shape =
    ap (map shape_of) (ran_devices w (gives d' a sent))
    ∙ (ap (λ k. map shape_of (store (λ e. e.id) k d' w.devices)) (ap (λ z. z.id) shape)
    ∙ map-store_found shape_of (λ e. e.id) test d d' w.devices (ids_once w m s.placed) found shape)

live_has : (w : World) (c : Name) → is_live w c ≡ true → has_name (λ y. y.name) c (lives w) ≡ true
live_has w c h = has_name-flat c w.devices ∙ h

module _ (lightens : TakingLightens) (w : World) (m : Machine) (k : ℕ) (s : Stands w m) where
  abbrev v : World
  v = with_taken w k

  s' : Stands v m
  s' = taken_stands w m k s

  module _ (f : Flight) (at : slice_get w.sent (k - 1) ≡ Some f) (d : Device) (is : device_with w f.to ≡ Some d) where
    still : (a : Answer) (sent : List Sent) → All (λ z. IsStop z.bytes) sent → IsQuietStep w (ran v (gives d a sent)).world
    still a sent stops = record {
      lives = ran_still v m (λ z. same_address z.address f.to) d a sent s' is;
      shapes = ran_shapes v m (λ z. same_address z.address f.to) d d a sent s' is refl;
      fresh = λ j g past there. new_are IsStop (took w.sent k) d.address sent stops j g (omega (arith, past, took_length w.sent k)) (subst (λ fs. slice_get fs j ≡ Some g) (ran_sent v (gives d a sent)) there);
    }

    module _ (p : Packet) (read : packet_of f.bytes ≡ Some p) where
      husk_by : (h : HuskEntry) (b : Bool) → IsQuietStep w (ran v (if b then device.answers d (device.took_answer (took_word.Silent why.Unknown) []) else gives d (answers.Took took_word.Stopped 0 1) (record { to = f.from; number = None; bytes = wire_of (nak_stopped h p.psn) } ∷ []))).world
      husk_by h true = still _ _ (All-nil _)
      husk_by h false = still _ _ (All-cons (λ z. IsStop z.bytes) _ [] (stop_written h p.psn) (All-nil _))

      husk_quiet : (hs : List HuskEntry) → IsQuietStep w (ran v (at_husk d f.from p hs)).world
      husk_quiet [] = still _ _ (All-nil _)
      husk_quiet (h ∷ hs) = husk_by h (is_control p)

      module _ (x : Found) (xs : List Found) (found : found_in p.dest d.contexts ≡ x ∷ xs) where
        abbrev o : ObjName
        o = name_of m p.dest

        here : IsAt v m d x o
        here = found_at v m (λ z. same_address z.address f.to) d p.dest x xs s' is found

        context_is : live_context v o.context ≡ x.context
        unfolding live_context
        context_is = ap (λ z. context_at z o.context) here.home ∙ here.context

        end_is : named (λ z. z.name) no_end o.name (live_context v o.context).ends ≡ x.end
        end_is = ap (λ c. named (λ z. z.name) no_end o.name c.ends) context_is ∙ here.end

        live_end : LiveEnd v m o x.link
        unfolding live_context
        live_end = record {
          live = here.live;
          there = is_there v m o.context s'.placed ∙ ap (λ b. b || step.is_carried v o.context) here.live;
          found = here.there;
          linked = ap (λ z. z.link) end_is ∙ here.linked;
        }

        end_there : IsThere w o x.context x.end x.link
        end_there = record { live = live_has v o.context here.live; context = sym (live_context_is v o.context) ∙ context_is; end = here.end; linked = here.linked }

        goes : EndGoesOn 0 (BringsNews 0 (control_of p)) x.context x.end x.link (takes x.context x.end x.link p).context
        goes = lightens 0 x.context x.end x.link p (self_stored w o x.context x.end x.link end_there) here.linked (λ alive. tame v m o x.link s' live_end alive)

        named_is : (takes x.context x.end x.link p).context.name ≡ o.context
        named_is = goes.named ∙ context_name w o x.context x.end x.link end_there

        place_is : place_of w o.context ≡ Some f.to
        unfolding place_of
        place_is = live_place v o.context here.live ∙ ap Some (ap (λ z. z.address) here.home ∙ address_is d.address f.to (first_passes (λ z. same_address z.address f.to) d w.devices is))

        lands_at : Lands w m k (ran v (ended_step d (takes x.context x.end x.link p))).world
        lands_at =
            let t : words.EndStep = takes x.context x.end x.link p in
            let home_now : ran v (ended_step (home v o.context) t) ≡ ran v (ended_step d t) = ap (λ z. ran v (ended_step z t)) here.home in
            record {
              flight = f;
              at = at;
              packet = p;
              read = read;
              context = x.context;
              end = x.end;
              link = x.link;
              number = found_number p.dest d.contexts x xs found;
              live = live_end;
              there = end_there;
              lives = ap (λ z. lives z.world) (sym home_now) ∙ ran_stored v m o.context t.context (device.took_answer t.took t.sent) t.sent s' here.live named_is;
              shapes =
                  ap (λ z. shapes_of z.world) (sym home_now)
                  ∙ ran_shapes v m (holds_it o.context) (home v o.context) (device.with_context (home v o.context) t.context) (device.took_answer t.took t.sent) t.sent s' (home_found v o.context here.live)
                  (shape_kept (home v o.context) o.context t.context named_is (home_holds v o.context here.live));
              after_end = goes.end;
              ends = goes.ends;
              after_name = goes.name;
              called = named_is;
              reach = place_is;
              from = (device.with_context d t.context).address;
              sent = ran_sent v (ended_step d t);
              fresh = λ j g past there'. new_are (IsOneOf t.sent) (took w.sent k) (device.with_context d t.context).address t.sent (All-weaker (Contains t.sent) (λ z. IsOneOf t.sent z.bytes) (λ z c. (z, c, refl)) t.sent (All-contains_itself t.sent)) j g (omega (arith, past, took_length w.sent k)) (subst (λ fs. slice_get fs j ≡ Some g) (ran_sent v (ended_step d t)) there');
            }

        past_at : is_late f.number (now_of w (Some f)) ≡ true → IsPast w m k f p
        past_at late =
            let parts = heads f.bytes p read in
            record {
              context = x.context;
              end = x.end;
              link = x.link;
              number = found_number p.dest d.contexts x xs found;
              live = live_end;
              there = end_there;
              late =
                  ap (is_late f.number) (sym (
                  ap (λ z. step.now_at z f.bytes) is
                  ∙ (ap (λ n. step.mark_of (found_in n d.contexts) (byte_at 0 f.bytes)) (sym parts.1)
                  ∙ (ap (λ z. step.mark_of z (byte_at 0 f.bytes)) found
                  ∙ ap (λ z. if is_request z then x.link.receiver.expected else x.link.sender.top) (sym parts.0)))))
                  ∙ late;
            }

      found_either : (fs : List Found) → found_in p.dest d.contexts ≡ fs → (IsQuietStep w (ran v (at_found d f.from p fs)).world × (found_in p.dest d.contexts ≡ [])) ⊎ LandsAs w m k f p (ran v (at_found d f.from p fs)).world
      unfolding lands_at
      found_either [] found = inl (husk_quiet (husk_entries p.dest d.husks), found)
      found_either (x ∷ xs) found = inr (lands_at x xs found, refl, refl)

    packet_either : (p : Option Packet) → packet_of f.bytes ≡ p → IsQuietStep w (ran v (device.device_step d (events.Arrive f.from f.bytes))).world ⊎ Lands w m k (ran v (device.device_step d (events.Arrive f.from f.bytes))).world
    packet_either None read = inl (subst (λ z. IsQuietStep w (ran v z).world) (sym (unread d f.from f.bytes read)) (still _ _ (All-nil _)))
    packet_either (Some p) read =
        subst (λ z. IsQuietStep w (ran v z).world ⊎ Lands w m k (ran v z).world) (sym (arrives_is d f.from f.bytes p read))
        (elim (found_either p read (found_in p.dest d.contexts) refl) [ inl a ↦ inl a.0 | inr b ↦ inr b.0 ])

  -- ---- any datagram

  reached : (f : Flight) → slice_get w.sent (k - 1) ≡ Some f → (d : Option Device) → device_with w f.to ≡ d → IsQuietStep w (reaches v f d).world ⊎ Lands w m k (reaches v f d).world
  reached f at None is = inl (taken_again w k)
  reached f at (Some d) is = packet_either f at d is (packet_of f.bytes) refl

  by_kept : (r : Option Flight) → kept_flight w.sent k ≡ r → IsQuietStep w (delivers_by w k (look_at r (now_of w r))).world ⊎ Lands w m k (delivers_by w k (look_at r (now_of w r))).world
  by_kept None h = inl (same_again w)
  by_kept (Some f) h = by_flags f.lost (is_late f.number (now_of w (Some f)))
    where
      by_flags : (b c : Bool) → IsQuietStep w (delivers_by w k (if b then IsLost else if c then IsAged else Here f)).world ⊎ Lands w m k (delivers_by w k (if b then IsLost else if c then IsAged else Here f)).world
      by_flags true c = inl (same_again w)
      by_flags false true = inl (taken_again w k)
      by_flags false false = reached f (kept_there w.sent k f h).1 (device_with w f.to) refl

  pub delivers_either : IsQuietStep w (world_step w (world_events.Deliver k)).world ⊎ Lands w m k (world_step w (world_events.Deliver k)).world
  unfolding world_step delivers look
  delivers_either = by_kept (kept_flight w.sent k) refl

  -- ---- a datagram that is kept and not lost

  module _ (f : Flight) (kept : kept_flight w.sent k ≡ Some f) (there : f.lost ≡ false) (p : Packet) (read : packet_of f.bytes ≡ Some p) where
    abbrev pub Either : World → Type 0
    Either w' = (IsQuietStep w w' × (Missed w f p ⊎ IsPast w m k f p)) ⊎ LandsAs w m k f p w'

    at : slice_get w.sent (k - 1) ≡ Some f
    at = (kept_there w.sent k f kept).1

    same_device : (a b : Device) → Some a ≡ Some b → a ≡ b
    same_device a b h = cc

    aged_by : (d : Device) → device_with w f.to ≡ Some d → is_late f.number (now_of w (Some f)) ≡ true → (fs : List Found) → found_in p.dest d.contexts ≡ fs → Missed w f p ⊎ IsPast w m k f p
    aged_by d is late [] found = inl (λ e h. subst (λ z. found_in p.dest z.contexts ≡ []) (same_device d e (sym is ∙ h)) found)
    aged_by d is late (x ∷ xs) found = inr (past_at f at d is p read x xs found late)

    aged : is_late f.number (now_of w (Some f)) ≡ true → (d : Option Device) → device_with w f.to ≡ d → Missed w f p ⊎ IsPast w m k f p
    aged late None is = inl (λ e h. absurd (cc (is, h)))
    aged late (Some d) is = aged_by d is late (found_in p.dest d.contexts) refl

    comes : (d : Option Device) → device_with w f.to ≡ d → Either (reaches v f d).world
    comes None is = inl (taken_again w k, inl (λ e h. absurd (cc (is, h))))
    comes (Some d) is =
        subst (λ z. Either (ran v z).world) (sym (arrives_is d f.from f.bytes p read))
        (elim (found_either f at d is p read (found_in p.dest d.contexts) refl) [
          | inl a ↦ inl (a.0, inl (λ e h. subst (λ z. found_in p.dest z.contexts ≡ []) (same_device d e (sym is ∙ h)) a.1))
          | inr b ↦ inr b
        ])

    by_flags : (b c : Bool) → b ≡ false → is_late f.number (now_of w (Some f)) ≡ c → Either (delivers_by w k (if b then IsLost else if c then IsAged else Here f)).world
    by_flags true c t h = absurd (cc)
    by_flags false true t h = inl (taken_again w k, aged h (device_with w f.to) refl)
    by_flags false false t h = comes (device_with w f.to) refl

    pub first_either : Either (world_step w (world_events.Deliver k)).world
    unfolding world_step delivers look
    first_either = subst (λ r. Either (delivers_by w k (look_at r (now_of w r))).world) (sym kept) (by_flags f.lost (is_late f.number (now_of w (Some f))) there refl)
