-- All ends go on where a datagram is delivered.
use Rattle.std.proofs.Common.{arith, ◌≡◌, ◌-◌, ℕ, List, [], ◌∷◌, true, false, Bool, refl, sym, ap, ◌∙◌, subst}
use Rattle.std.specs.Prelude.{All, Option, Some, None, slice_get, flat_map, if◌then◌else◌, ◌==◌, ◌||◌}
use Rattle.std.proofs.lemmas.Bool.Decides.{nat_tests, eqb_tells}
use Rattle.std.proofs.lemmas.List.Elements.{All-nil, All-cons, All-head, All-append}
use Rattle.rdma_types.specs.declared.names.Name.{Name}
use Rattle.rdma_types.specs.declared.names.ObjName.{ObjName}
use Rattle.rdma_types.specs.declared.answers.Answer.{Answer}
use Rattle.rdma_types.specs.declared.answers.Answer.TheVariants as answers
use Rattle.rdma_types.specs.declared.answers.DropReason.TheVariants as why
use Rattle.rdma_types.specs.declared.answers.ArrivalEffect.TheVariants as took
use Rattle.rdma_types.specs.declared.answers.Sent.{Sent}
use Rattle.rdma_types.specs.declared.requests.Address.{Address}
use Rattle.rdma_types.specs.Causes.{first_cause}
use Rattle.protocol.specs.Refusals as refusing
use Rattle.law_settling.proofs.draining.Arrivals.{kept_there}
use Rattle.rdma_types.specs.Limits.{AreTerms}
use Rattle.rdma_types.specs.Lists.{first_that, has_name, named, store, store_named}
use Rattle.protocol.specs.declared.events.Event.TheVariants as events
use Rattle.protocol.specs.declared.events.WorldEvent.TheVariants as world_events
use Rattle.protocol.specs.declared.images.ContextImage.{ContextImage}
use Rattle.protocol.specs.Fabric.{Here, IsLost, IsAged, is_late, kept_flight, look, look_at}
use Rattle.protocol.specs.State.{World, Device, Context, End, Link, Flight, HuskEntry, no_end, context_at}
use Rattle.protocol.specs.Wire.{Packet, packet_of, wire_of, is_control}
use Rattle.protocol.specs.Moves.{control_of, nak_stopped}
use Rattle.protocol.specs.EndWords as words
use Rattle.protocol.specs.EndStep.{takes}
use Rattle.protocol.specs.DeviceStep as device
use Rattle.protocol.specs.DeviceStep.{Found, found_link, found_in, ends_with, ended_step, gives, husk_entries, at_husk, at_found}
use Rattle.protocol.specs.WorldStep as step
use Rattle.protocol.specs.WorldStep.{world_step, is_live, home, live_context, ran, with_image, with_taken, delivers, delivers_by, device_with, now_of, reaches, same_address}
use Rattle.packetless_machine.specs.Machine as machine
use Rattle.packetless_machine.specs.Machine.{Machine, End as MachineEnd}
use Rattle.law_simulation.specs.Views.{name_of}
use Rattle.law_simulation.specs.Stands.{Stands}
use Rattle.law_simulation.proofs.relation.Worlds.{has_name-flat, is_there}
use Rattle.law_simulation.proofs.delivery.Arriving.{arrives_is, taken_stands}
use Rattle.law_simulation.proofs.delivery.Found.{IsAt, found_at}
use Rattle.law_simulation.proofs.sending.GoEnding.{queue_ends}
use Rattle.law_simulation.proofs.sending.GoLive.{LiveEnd, joined_here, link_is, mtu_is, ordered_here, sends_here, sound_here, untold_here}
use Rattle.law_settling.specs.Weights.{BringsNews, EndGoesOn, IsTame, TakingLightens}
use Rattle.law_settling.proofs.bound.Lives.{lives, live_context_is, lives_same, lives_stored, AllGoOn, unmoved, IsThere, context_name, self_stored, all_go_on}

-- ---- what the relation says of a link in Rts

pub tame : (w : World) (m : Machine) (o : ObjName) (l : Link) → Stands w m → LiveEnd w m o l → l.ended ≡ false → IsTame l
tame w m o l s h alive =
    let j = joined_here w m o l s h in
    let q : MachineEnd = machine.end_of m o in
    let t = sends_here w m o l s h alive in
    let terms : AreTerms l.terms = subst (λ z. AreTerms z.terms) (link_is w m o l s h) j.terms in
    let rnr : l.terms.rnr ≡ q.rnr = ap (λ z. z.terms.rnr) (sym (link_is w m o l s h)) ∙ j.rnr in
    record {
      top = omega (arith, (ordered_here w m o l s h).top_end, queue_ends l l.sender q (mtu_is w m o l s h) (untold_here w m o l s h) t.first (sound_here w m o l s h).sound.told_posted);
      rnr = terms.rnr;
      waits = λ ne. let p = t.waits (λ e. ne (rnr ∙ e)) in omega (arith, p.0, p.1, rnr);
    }

-- ---- the devices after a step

pub ran_devices : (w : World) (s : device.Step) → (ran w s).world.devices ≡ store (λ x. x.id) s.device.id s.device w.devices
unfolding ran step.with_device
ran_devices w s = by_image s.outcome.image _
  where
    by_image : (i : Option ContextImage) (v : World) → (with_image i v).devices ≡ v.devices
    by_image None v = refl
    by_image (Some i) v = refl

-- a device that is found and does not change
pub ran_still : (w : World) (m : Machine) (test : Device → Bool) (d : Device) (a : Answer) (sent : List Sent) → Stands w m → first_that test w.devices ≡ Some d → lives (ran w (gives d a sent)).world ≡ lives w
ran_still w m test d a sent s found = ap (flat_map (λ e. e.contexts)) (ran_devices w (gives d a sent)) ∙ lives_same w m test d s.placed found

-- the home of a context, which becomes x
pub ran_stored : (w : World) (m : Machine) (c : Name) (x : Context) (a : Answer) (sent : List Sent) → Stands w m → is_live w c ≡ true → x.name ≡ c → lives (ran w (gives (device.with_context (home w c) x) a sent)).world ≡ store_named (λ y. y.name) c x (lives w)
unfolding device.with_context
ran_stored w m c x a sent s live named' = ap (flat_map (λ e. e.contexts)) (ran_devices w (gives (device.with_context (home w c) x) a sent)) ∙ lives_stored w m c x s.placed live named'

-- ---- the end that is found has the number

ends_numbered : (n : ℕ) (c : Context) (es : List End) → All (λ x. x.end.number ≡ n) (ends_with n c es)
unfolding ends_with
ends_numbered n c [] = All-nil _
ends_numbered n c (e ∷ es) = by_test (e.number == n) e.link refl (ends_numbered n c es)
  where
    by_test : (b : Bool) (l : Option Link) → (e.number == n) ≡ b → All (λ x. x.end.number ≡ n) (ends_with n c es) → All (λ x. x.end.number ≡ n) (if b then found_link c e l (ends_with n c es) else ends_with n c es)
    by_test true None h rest = rest
    by_test true (Some l) h rest = All-cons (λ x. x.end.number ≡ n) _ _ (grind (arith, nat_tests, eqb_tells e.number n, h)) rest
    by_test false l h rest = rest

all_numbered : (n : ℕ) (cs : List Context) → All (λ x. x.end.number ≡ n) (found_in n cs)
unfolding found_in
all_numbered n [] = All-nil _
all_numbered n (c ∷ cs) = All-append (λ x. x.end.number ≡ n) (ends_with n c c.ends) (found_in n cs) (ends_numbered n c c.ends) (all_numbered n cs)

pub found_number : (n : ℕ) (cs : List Context) (x : Found) (xs : List Found) → found_in n cs ≡ x ∷ xs → x.end.number ≡ n
found_number n cs x xs h = All-head (λ y. y.end.number ≡ n) x xs (subst (All (λ y. y.end.number ≡ n)) h (all_numbered n cs))

-- ---- a live end

live_has : (w : World) (c : Name) → is_live w c ≡ true → has_name (λ y. y.name) c (lives w) ≡ true
live_has w c h = has_name-flat c w.devices ∙ h

pub live_end_there : (w : World) (m : Machine) (o : ObjName) (l : Link) → LiveEnd w m o l → IsThere w o (live_context w o.context) (named (λ z. z.name) no_end o.name (live_context w o.context).ends) l
unfolding live_context
live_end_there w m o l h = record { live = live_has w o.context h.live; context = sym (live_context_is w o.context); end = refl; linked = h.linked }

-- ---- a delivery

unread : (d : Device) (from : Address) (bytes : List ℕ) → packet_of bytes ≡ None → device.device_step d (events.Arrive from bytes) ≡ device.answers d (device.took_answer (took.Silent why.Malformed) [])
unfolding device.device_step device.arrives refusing.refusal_of first_cause
unread d from bytes read = ap (device.arrives_packet d from) read

-- the news that bytes bring
abbrev pub Fresh : (ℕ → ℕ) → List ℕ → Type 0
Fresh K bs = (p : Packet) → packet_of bs ≡ Some p → BringsNews (K p.dest) (control_of p)

module _ (lightens : TakingLightens) (K : ℕ → ℕ) (w : World) (m : Machine) (k : ℕ) (s : Stands w m) where
  -- datagram k brings news
  abbrev pub News : Type 0
  News = (f : Flight) → slice_get w.sent (k - 1) ≡ Some f → Fresh K f.bytes

  v : World
  v = with_taken w k

  s' : Stands v m
  unfolding v
  s' = taken_stands w m k s

  abbrev AllGo : World → Type 0
  AllGo w' = AllGoOn K News w w'

  module _ (f : Flight) (there : slice_get w.sent (k - 1) ≡ Some f) (d : Device) (is : device_with w f.to ≡ Some d) where
    still : (a : Answer) (sent : List Sent) → AllGo (ran v (gives d a sent)).world
    unfolding v
    still a sent = unmoved K News w (ran v (gives d a sent)).world (ran_still v m (λ z. same_address z.address f.to) d a sent s' is)

    module _ (p : Packet) (read : packet_of f.bytes ≡ Some p) where
      husk_by : (h : HuskEntry) (b : Bool) → AllGo (ran v (if b then device.answers d (device.took_answer (took.Silent why.Unknown) []) else gives d (answers.Took took.Stopped 0 1) (record { to = f.from; number = None; bytes = wire_of (nak_stopped h p.psn) } ∷ []))).world
      husk_by h true = still _ _
      husk_by h false = still _ _

      husk_go : (hs : List HuskEntry) → AllGo (ran v (at_husk d f.from p hs)).world
      husk_go [] = still _ _
      husk_go (h ∷ hs) = husk_by h (is_control p)

      module _ (x : Found) (xs : List Found) (found : found_in p.dest d.contexts ≡ x ∷ xs) where
        abbrev o : ObjName
        o = name_of m p.dest

        at : IsAt v m d x o
        unfolding v
        at = found_at v m (λ z. same_address z.address f.to) d p.dest x xs s' is found

        context_is : live_context v o.context ≡ x.context
        unfolding live_context
        context_is = ap (λ z. context_at z o.context) at.home ∙ at.context

        end_is : named (λ z. z.name) no_end o.name (live_context v o.context).ends ≡ x.end
        end_is = ap (λ c. named (λ z. z.name) no_end o.name c.ends) context_is ∙ at.end

        live_end : LiveEnd v m o x.link
        unfolding live_context
        live_end = record {
          live = at.live;
          there = is_there v m o.context s'.placed ∙ ap (λ b. b || step.is_carried v o.context) at.live;
          found = at.there;
          linked = ap (λ z. z.link) end_is ∙ at.linked;
        }

        end_there : IsThere w o x.context x.end x.link
        unfolding v
        end_there = record { live = live_has v o.context at.live; context = sym (live_context_is v o.context) ∙ context_is; end = at.end; linked = at.linked }

        number : x.end.number ≡ p.dest
        number = found_number p.dest d.contexts x xs found

        -- the end goes on
        goes : EndGoesOn (K x.end.number) (BringsNews (K x.end.number) (control_of p)) x.context x.end x.link (takes x.context x.end x.link p).context
        goes = lightens (K x.end.number) x.context x.end x.link p (self_stored w o x.context x.end x.link end_there) at.linked (λ alive. tame v m o x.link s' live_end alive)

        goes_on : EndGoesOn (K x.end.number) News x.context x.end x.link (takes x.context x.end x.link p).context
        goes_on = record {
          named = goes.named;
          end = goes.end;
          ends = goes.ends;
          name = goes.name;
          number = goes.number;
          link = goes.link;
          linked = goes.linked;
          goes = record {
            peer = goes.goes.peer;
            terms = goes.goes.terms;
            own = goes.goes.own;
            fewer = goes.goes.fewer;
            few = goes.goes.few;
            lightens = λ n. goes.goes.lightens (subst (λ z. BringsNews (K z) (control_of p)) (sym number) (n f there p read));
          };
        }

        -- .. in the world too
        taken : AllGo (ran v (ended_step d (takes x.context x.end x.link p))).world
        unfolding v
        taken =
            let t : words.EndStep = takes x.context x.end x.link p in
            let home_now : ran v (ended_step (home v o.context) t) ≡ ran v (ended_step d t) = ap (λ z. ran v (ended_step z t)) at.home in
            let stored : lives (ran v (ended_step d t)).world ≡ store_named (λ y. y.name) o.context t.context (lives w) =
            ap (λ z. lives z.world) (sym home_now) ∙ ran_stored v m o.context t.context (device.took_answer t.took t.sent) t.sent s' at.live (goes.named ∙ context_name w o x.context x.end x.link end_there) in
            all_go_on w o x.context x.end x.link end_there (ran v (ended_step d t)).world t.context stored K News goes_on

      found_go : (fs : List Found) → found_in p.dest d.contexts ≡ fs → AllGo (ran v (at_found d f.from p fs)).world
      found_go [] none = husk_go (husk_entries p.dest d.husks)
      found_go (x ∷ xs) found = taken x xs found

    -- bytes that are no datagram, and those that are one
    packet_go : (p : Option Packet) → packet_of f.bytes ≡ p → AllGo (ran v (device.device_step d (events.Arrive f.from f.bytes))).world
    packet_go None read = subst (λ z. AllGo (ran v z).world) (sym (unread d f.from f.bytes read)) (still _ _)
    packet_go (Some p) read = subst (λ z. AllGo (ran v z).world) (sym (arrives_is d f.from f.bytes p read)) (found_go p read (found_in p.dest d.contexts) refl)

  reached : (f : Flight) → slice_get w.sent (k - 1) ≡ Some f → (d : Option Device) → device_with w f.to ≡ d → AllGo (reaches v f d).world
  unfolding v
  reached f there None is = unmoved K News w v refl
  reached f there (Some d) is = packet_go f there d is (packet_of f.bytes) refl

  by_kept : (r : Option Flight) → kept_flight w.sent k ≡ r → AllGo (delivers_by w k (look_at r (now_of w r))).world
  unfolding v
  by_kept None h = unmoved K News w w refl
  by_kept (Some f) h = by_flags f.lost (is_late f.number (now_of w (Some f)))
    where
      by_flags : (b c : Bool) → AllGo (delivers_by w k (if b then IsLost else if c then IsAged else Here f)).world
      by_flags true c = unmoved K News w w refl
      by_flags false true = unmoved K News w (with_taken w k) refl
      by_flags false false = reached f (kept_there w.sent k f h).1 (device_with w f.to) refl

  pub delivered_go : AllGo (world_step w (world_events.Deliver k)).world
  unfolding world_step delivers look
  delivered_go = by_kept (kept_flight w.sent k) refl
