-- A delivery: nothing changes, or the connected end with the datagram's number has another link.
use Rattle.std.proofs.Common.{arith, ◌≡◌, ◌⊎◌, ℕ, zero, suc, List, [], ◌∷◌, true, false, Bool, refl, sym, ap, ◌∙◌, subst, inl, inr}
use Rattle.std.specs.Prelude.{All, Option, Some, None, slice_get, ◌==◌, if◌then◌else◌}
use Rattle.std.proofs.Math.ListN.{set}
use Rattle.std.proofs.lemmas.Bool.Decides.{nat_tests, eqb_tells}
use Rattle.std.proofs.lemmas.List.Elements.{All-append, All-cons, All-head, All-nil}
use Rattle.rdma_types.specs.Causes.{first_cause}
use Rattle.rdma_types.specs.declared.names.Name.{Name}
use Rattle.rdma_types.specs.declared.requests.Address.{Address}
use Rattle.rdma_types.specs.Lists.{store, store_named}
use Rattle.rdma_types.specs.Objects.{Region}
use Rattle.protocol.specs.Bytes.{number_at}
use Rattle.protocol.specs.declared.events.Event.TheVariants as events
use Rattle.protocol.specs.declared.events.WorldEvent.TheVariants as world_events
use Rattle.protocol.specs.DeviceStep as device
use Rattle.protocol.specs.DeviceStep.{Found, device_step, ends_with, found_in, found_link, husk_entries, with_context}
use Rattle.protocol.specs.EndStep.{takes}
use Rattle.protocol.specs.EndWords.{EndStep}
use Rattle.protocol.specs.Fabric.{Here, IsAged, IsLost, is_late, kept_flight, look, look_at}
use Rattle.protocol.specs.Moves.{control_of}
use Rattle.protocol.specs.Refusals.{refusal_of}
use Rattle.protocol.specs.Requester.{end_of_queue}
use Rattle.protocol.specs.State.{World, Device, Context, End, Flight, HuskEntry, Link, no_context, no_end}
use Rattle.protocol.specs.Wire.{Packet, is_control, packet_of}
use Rattle.protocol.specs.WorldStep.{world_step, delivers, delivers_by, device_with, now_of, reaches, same_address, with_taken}
use Rattle.law_devices.specs.Sound.{IsSoundLink}
use Rattle.law_devices.proofs.Founds.{IsFoundThere, founds-there}
use Rattle.law_devices.proofs.Working.{linked-sound}
use Rattle.law_settling.specs.Places.{HaveOwnIds, IsOrderly, device_outline}
use Rattle.law_settling.specs.Weights.{BringsNews, EndGoesOn, IsTame}
use Rattle.law_settling.proofs.bound.Delivering.{ran_devices}
use Rattle.law_settling.proofs.places.Changes.{EndChanges, device_same}
use Rattle.law_settling.proofs.places.Lists.{IsNamedAt, first_place, named_there, same_place, store_place}
use Rattle.law_settling.proofs.sending_stops.Reading.{heads}
use Rattle.law_settling.proofs.weights.Taking.{taken}

-- ---- where found ends are

-- a connected end with the number, at places of these contexts
pub record IsFoundIn (cs : List Context) (n : ℕ) (f : Found) : Type 0 where
  pub j : ℕ
  pub k : ℕ
  pub owner : slice_get cs j ≡ Some f.context
  pub there : slice_get f.context.ends k ≡ Some f.end
  pub numbered : f.end.number ≡ n
  pub linked : f.end.link ≡ Some f.link

ends_found : (cs : List Context) (n j : ℕ) (c : Context) → slice_get cs j ≡ Some c → (es : List End) → ((k : ℕ) (e : End) → slice_get es k ≡ Some e → (m : ℕ) × (slice_get c.ends m ≡ Some e)) → All (IsFoundIn cs n) (ends_with n c es)
unfolding ends_with
ends_found cs n j c owner [] at = All-nil (IsFoundIn cs n)
ends_found cs n j c owner (e ∷ es) at = by_test (e.number == n) refl (ends_found cs n j c owner es (λ k x h. at (suc k) x h))
  where
    by_link : e.number ≡ n → (o : Option Link) → e.link ≡ o → All (IsFoundIn cs n) (ends_with n c es) → All (IsFoundIn cs n) (found_link c e o (ends_with n c es))
    by_link is None t later = later
    by_link is (Some l) t later =
        let p = at zero e refl in
        All-cons (IsFoundIn cs n) (record { context = c; end = e; link = l }) (ends_with n c es) (record { j = j; k = p.0; owner = owner; there = p.1; numbered = is; linked = t }) later

    by_test : (b : Bool) → (e.number == n) ≡ b → All (IsFoundIn cs n) (ends_with n c es) → All (IsFoundIn cs n) (if b then found_link c e e.link (ends_with n c es) else ends_with n c es)
    by_test true t later = by_link (grind (arith, nat_tests, eqb_tells e.number n, t)) e.link refl later
    by_test false t later = later

all_found : (cs : List Context) (n : ℕ) (xs : List Context) → ((j : ℕ) (c : Context) → slice_get xs j ≡ Some c → (m : ℕ) × (slice_get cs m ≡ Some c)) → All (IsFoundIn cs n) (found_in n xs)
unfolding found_in
all_found cs n [] at = All-nil (IsFoundIn cs n)
all_found cs n (c ∷ xs) at =
    let p = at zero c refl in
    All-append (IsFoundIn cs n) (ends_with n c c.ends) (found_in n xs) (ends_found cs n p.0 c p.1 c.ends (λ k e h. (k, h))) (all_found cs n xs (λ j x h. at (suc j) x h))

pub first_found : (d : Device) (n : ℕ) (x : Found) (xs : List Found) → found_in n d.contexts ≡ x ∷ xs → IsFoundIn d.contexts n x
first_found d n x xs h = All-head (IsFoundIn d.contexts n) x xs (subst (All (IsFoundIn d.contexts n)) h (all_found d.contexts n d.contexts (λ j c at. (j, at))))

-- ---- on a device

-- a sound link in Rts
tame_sound : (regions : List Region) (domain : Name) (depth : ℕ) (l : Link) → IsSoundLink regions domain depth l → IsTame l
unfolding end_of_queue
tame_sound regions domain depth l own = record {
  top = own.sender.numbers.top_end;
  rnr = own.terms.rnr;
  waits = λ ne. elim own.sender.waits [ inl h ↦ h | inr h ↦ absurd (ne h) ];
}

-- the end with this number has another link
pub record Reached (d d' : Device) (n : ℕ) : Type 0 where
  pub j : ℕ
  pub k : ℕ
  pub l : Link
  pub l' : Link
  pub changes : EndChanges d d' j k l l'
  pub numbered : changes.end.number ≡ n

-- the first that is found takes a packet
module _ (d : Device) (orderly : IsOrderly d) (p : Packet) (x : Found) (xs : List Found) (found : found_in p.dest d.contexts ≡ x ∷ xs) where
  f : IsFoundIn d.contexts p.dest x
  f = first_found d p.dest x xs found

  sound : IsFoundThere d x
  sound = All-head (IsFoundThere d) x xs (subst (All (IsFoundThere d)) found (founds-there d p.dest d.contexts orderly.sound.contexts orderly.sound.counted))

  context_there : IsNamedAt (λ c. c.name) no_context x.context.name d.contexts f.j x.context
  context_there = named_there (λ c. c.name) no_context d.contexts f.j x.context orderly.contexts f.owner

  end_there : IsNamedAt (λ e. e.name) no_end x.end.name x.context.ends f.k x.end
  end_there = named_there (λ e. e.name) no_end x.context.ends f.k x.end sound.sound.parts.end_names.distinct f.there

  self : x.context.ends ≡ store_named (λ e. e.name) x.end.name x.end x.context.ends
  self = sym (end_there.stored x.end ∙ same_place x.context.ends f.k x.end f.there)

  goes : EndGoesOn 0 (BringsNews 0 (control_of p)) x.context x.end x.link (takes x.context x.end x.link p).context
  goes = taken 0 x.context x.end x.link p self f.linked (λ alive. tame_sound _ _ _ x.link (linked-sound x.context x.end x.link sound.sound sound.here f.linked))

  pub reached : Reached d (device.ended_step d (takes x.context x.end x.link p)).device p.dest
  unfolding with_context
  reached =
      let t : EndStep = takes x.context x.end x.link p in
      record {
        j = f.j;
        k = f.k;
        l = x.link;
        l' = goes.link;
        changes = record {
          context = x.context;
          context' = t.context;
          end = x.end;
          end' = goes.end;
          id = refl;
          owner = f.owner;
          contexts = ap (λ n. store_named (λ c. c.name) n t.context d.contexts) goes.named ∙ context_there.stored t.context;
          owned = goes.named;
          there = f.there;
          ends = goes.ends ∙ end_there.stored goes.end;
          named = goes.name;
          numbered = goes.number;
          linked = f.linked;
          linked' = goes.linked;
        };
        numbered = f.numbered;
      }

-- nothing changes, or this end
abbrev pub ReachesOne : Device → Device → ℕ → Type 0
ReachesOne d d' n = (d' ≡ d) ⊎ Reached d d' n

either_device : (d : Device) (b : Bool) (s t : device.Step) → s.device ≡ d → t.device ≡ d → (if b then s else t).device ≡ d
either_device d true s t h k = h
either_device d false s t h k = k

husk_same : (d : Device) (from : Address) (p : Packet) (hs : List HuskEntry) → (device.at_husk d from p hs).device ≡ d
husk_same d from p [] = refl
husk_same d from p (h ∷ hs) = either_device d (is_control p) _ _ refl refl

module _ (d : Device) (from : Address) (bytes : List ℕ) where
  abbrev n : ℕ
  n = number_at 5 3 bytes

  pub arrives_one : IsOrderly d → ReachesOne d (device_step d (events.Arrive from bytes)).device n
  unfolding device_step refusal_of first_cause device.arrives
  arrives_one orderly = by_packet (packet_of bytes) refl
    where
      by_found : (p : Packet) → p.dest ≡ n → (fs : List Found) → found_in p.dest d.contexts ≡ fs → ReachesOne d (device.at_found d from p fs).device n
      by_found p dest [] h = inl (husk_same d from p (husk_entries p.dest d.husks))
      by_found p dest (x ∷ xs) h = inr (subst (Reached d (device.at_found d from p (x ∷ xs)).device) dest (reached d orderly p x xs h))

      by_packet : (o : Option Packet) → packet_of bytes ≡ o → ReachesOne d (device.arrives_packet d from o).device n
      by_packet None read = inl refl
      by_packet (Some p) read = by_found p (heads bytes p read).1 (found_in p.dest d.contexts) refl

  -- no connected end here has the number
  pub arrives_none : found_in n d.contexts ≡ [] → (device_step d (events.Arrive from bytes)).device ≡ d
  unfolding device_step refusal_of first_cause device.arrives
  arrives_none none = by_packet (packet_of bytes) refl
    where
      by_found : (p : Packet) (fs : List Found) → fs ≡ [] → (device.at_found d from p fs).device ≡ d
      by_found p [] h = husk_same d from p (husk_entries p.dest d.husks)
      by_found p (x ∷ xs) h = absurd (cc)

      by_packet : (o : Option Packet) → packet_of bytes ≡ o → (device.arrives_packet d from o).device ≡ d
      by_packet None read = refl
      by_packet (Some p) read = by_found p (found_in p.dest d.contexts) (ap (λ m. found_in m d.contexts) (heads bytes p read).1 ∙ none)

  arrives_id : (device_step d (events.Arrive from bytes)).device.id ≡ d.id
  unfolding device_step refusal_of first_cause device.arrives with_context
  arrives_id = by_packet (packet_of bytes)
    where
      by_found : (p : Packet) (fs : List Found) → (device.at_found d from p fs).device.id ≡ d.id
      by_found p [] = ap (λ z. z.id) (husk_same d from p (husk_entries p.dest d.husks))
      by_found p (x ∷ xs) = refl

      by_packet : (o : Option Packet) → (device.arrives_packet d from o).device.id ≡ d.id
      by_packet None = refl
      by_packet (Some p) = by_found p (found_in p.dest d.contexts)

pub reached_same : (d d' : Device) (n : ℕ) → ReachesOne d d' n → device_outline d' ≡ device_outline d
reached_same d d' n (inl h) = ap device_outline h
reached_same d d' n (inr r) = device_same d d' r.j r.k r.l r.l' r.changes

-- ---- in a world

-- datagram k reaches the device at place i, which is the first with its address, and this device becomes d'
pub record Reaches (w w' : World) (k : ℕ) (f : Flight) (d : Device) (i : ℕ) : Type 0 where
  pub kept : kept_flight w.sent k ≡ Some f
  pub seen : look w.sent k (now_of w (kept_flight w.sent k)) ≡ Here f
  pub is : device_with w f.to ≡ Some d
  pub here : slice_get w.devices i ≡ Some d
  pub devices : w'.devices ≡ set w.devices i (device_step d (events.Arrive f.from f.bytes)).device

-- a delivery leaves the devices as they are, or one of them takes the bytes
module _ (w : World) (k : ℕ) (ids : HaveOwnIds w) (Q : World → Type 0) (stays : (w' : World) → w'.devices ≡ w.devices → Q w') (changes : (w' : World) (f : Flight) (d : Device) (i : ℕ) → Reaches w w' k f d i → Q w') where
  abbrev IsSeen : Flight → Type 0
  IsSeen f = look w.sent k (now_of w (kept_flight w.sent k)) ≡ Here f

  reached_world : (f : Flight) → kept_flight w.sent k ≡ Some f → IsSeen f → (r : Option Device) → device_with w f.to ≡ r → Q (reaches (with_taken w k) f r).world
  reached_world f kept seen None is = stays (with_taken w k) refl
  reached_world f kept seen (Some d) is =
      let at = first_place (λ z. same_address z.address f.to) w.devices d is in
      let s : device.Step = device_step d (events.Arrive f.from f.bytes) in
      changes (reaches (with_taken w k) f (Some d)).world f d at.0 (record {
        kept = kept;
        seen = seen;
        is = is;
        here = at.1.here;
        devices =
            ran_devices (with_taken w k) s
            ∙ (ap (λ m. store (λ x. x.id) m s.device w.devices) (arrives_id d f.from f.bytes)
            ∙ store_place (λ x. x.id) w.devices at.0 d s.device ids at.1.here);
      })

  by_kept : (r : Option Flight) → kept_flight w.sent k ≡ r → Q (delivers_by w k (look_at r (now_of w r))).world
  unfolding look
  by_kept None h = stays w refl
  by_kept (Some f) h = by_flags f.lost (is_late f.number (now_of w (Some f))) refl refl
    where
      seen_by : (b c : Bool) → f.lost ≡ b → is_late f.number (now_of w (Some f)) ≡ c → look w.sent k (now_of w (kept_flight w.sent k)) ≡ (if b then IsLost else if c then IsAged else Here f)
      seen_by b c lost late = ap (λ r. look_at r (now_of w r)) h ∙ (λ i. if lost i then IsLost else if late i then IsAged else Here f)

      by_flags : (b c : Bool) → f.lost ≡ b → is_late f.number (now_of w (Some f)) ≡ c → Q (delivers_by w k (if b then IsLost else if c then IsAged else Here f)).world
      by_flags true c lost late = stays w refl
      by_flags false true lost late = stays (with_taken w k) refl
      by_flags false false lost late = reached_world f h (seen_by false false lost late) (device_with w f.to) refl

  pub delivered_world : Q (world_step w (world_events.Deliver k)).world
  unfolding world_step delivers look
  delivered_world = by_kept (kept_flight w.sent k) refl
