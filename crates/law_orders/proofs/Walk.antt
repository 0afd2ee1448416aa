-- A fair order leads to a world that stands for a state of the machine, line by line.
use Rattle.std.proofs.Common.{arith, ◌≡◌, ℕ, suc, ◌+◌, ◌-◌, List, [], ◌∷◌, ◌++◌, length, take, slice_get, get_or, Bool, true, false, Option, Some, None, refl, sym, ap, ◌∙◌, subst, if◌then◌else◌, length-append}
use Rattle.std.specs.Prelude.{◌&&◌}
use Rattle.std.proofs.lemmas.Bool.Decides.{nat_tests, leb_tells}
use Rattle.std.proofs.lemmas.List.{append-nil, append_assoc}
use Rattle.rdma_types.specs.declared.answers.Answer.{Answer}
use Rattle.rdma_types.specs.declared.answers.Answer.TheVariants as answer
use Rattle.rdma_types.specs.declared.answers.Refusal.{Refusal}
use Rattle.rdma_types.specs.declared.names.Name.{Name}
use Rattle.rdma_types.specs.declared.requests.Address.{Address}
use Rattle.rdma_types.specs.Limits.{most_flights}
use Rattle.rdma_types.specs.Lists.{at, has, has_name, store}
use Rattle.protocol.specs.declared.events.Event.{Event}
use Rattle.protocol.specs.declared.events.Event.TheVariants as event
use Rattle.protocol.specs.declared.events.WorldEvent.{WorldEvent}
use Rattle.protocol.specs.declared.images.ContextImage.{ContextImage}
use Rattle.protocol.specs.DeviceStep as device
use Rattle.protocol.specs.DeviceStep.{device_step}
use Rattle.protocol.specs.Fabric.{is_kept, is_late, kept_flight, sending}
use Rattle.protocol.specs.Images as images
use Rattle.protocol.specs.Refusals.{refusal_of}
use Rattle.protocol.specs.State.{Context, Device, Flight, World, context_at, device_at, no_context, no_device}
use Rattle.protocol.specs.WorldStep.{has_device, is_done, now_at, world_after}
use Rattle.packetless_machine.specs.declared.steps.MachineStep.{MachineStep}
use Rattle.packetless_machine.specs.Machine.{Machine}
use Rattle.packetless_machine.specs.Legal.{IsRun, after, seen}
use Rattle.law_simulation.specs.Kept.{kept_verb, verb_in}
use Rattle.law_simulation.specs.Law.{AlwaysFollows, FollowsRun, joined_steps}
use Rattle.law_simulation.specs.Runs.{RunsFollow}
use Rattle.law_simulation.specs.Stands.{Stands}
use Rattle.law_simulation.proofs.relation.Tables.{name-named_there, number-at}
use Rattle.law_simulation.proofs.runs.Runs.{after_on, runs_on, seen_on}
use Rattle.order_rules.specs.Bridge.{CopiesStand, IsAskedLine, IsFairOrder, is_at_home, world_events}
use Rattle.order_rules.specs.Hears.{heard, verb_heard}
use Rattle.order_rules.specs.Lines.{Line, device_after, flown, opening_of}
use Rattle.order_rules.specs.Order.{AreRestored, Each, IsLine, Takes, with_stopped}
use Rattle.order_rules.specs.Sides.{IsFreshLine, IsInTime, IsInTimeLine, IsOneSidedLine, carried_after, is_stopped, makes_a_second, stops_beside_a_mover, without_restored, world_of}
use Rattle.order_rules.proofs.Growing.{flown-push}
use Rattle.law_orders.proofs.Devices.{IsNoStop, step_itself, step_plain}
use Rattle.law_orders.proofs.Flights.{AreThere, get_last, there_before, there_sending, there_taken}
use Rattle.law_orders.proofs.Found.{home_is}
use Rattle.law_orders.proofs.Images.{AreUntaken, image_in, untaken_gone, untaken_less, untaken_more}
use Rattle.law_orders.proofs.Orders.{AreBegun, address_after, after_all, after_line, at_after, carried-push, has_after, heard-push}
use Rattle.law_orders.proofs.Playing.{AreStopped, Delivers, Plays, Restores, plays, still_stops, store_for}

-- ---- what the network has for an arrival

-- a world like w, whose store has what the event takes in
pub record IsReady (w : World) (m : Machine) (d : Device) (e : Event) (fs : List Flight) : Type 0 where
  pub world : World
  pub number : ℕ
  pub stands : Stands world m
  pub devices : world.devices ≡ w.devices
  pub carried : world.carried ≡ w.carried
  pub stopped : world.stopped ≡ w.stopped
  pub delivers : Delivers world d number e
  pub there : AreThere (store_for world number e) fs

abbrev with_copy : World → Flight → World
with_copy w g = record w { sent = w.sent ++ g ∷ [] }

last_is_kept : (n : ℕ) → is_kept (n + 1) (n + 1) ≡ true
last_is_kept n = grind (arith, nat_tests, leb_tells 1 (n + 1), leb_tells (n + 1) (n + 1), leb_tells (n + 2) (n + 1 + most_flights))

kept_last : (sent : List Flight) (g : Flight) → kept_flight (sent ++ g ∷ []) (length sent + 1) ≡ Some g
unfolding kept_flight
kept_last sent g =
    let count : length (sent ++ g ∷ []) ≡ length sent + 1 = length-append sent (g ∷ []) in
    let place : length sent + 1 - 1 ≡ length sent = omega arith in
    ap (λ n. if is_kept n (length sent + 1) then slice_get (sent ++ g ∷ []) (length sent + 1 - 1) else None) count
    ∙ (ap (λ b. if b then slice_get (sent ++ g ∷ []) (length sent + 1 - 1) else None) (last_is_kept (length sent))
    ∙ (ap (slice_get (sent ++ g ∷ [])) place ∙ get_last sent g))

-- a world as it is
as_it_is : (w : World) (m : Machine) (d : Device) (e : Event) (fs : List Flight) → Stands w m → Delivers w d 0 e → store_for w 0 e ≡ w.sent → AreThere w.sent fs → IsReady w m d e fs
as_it_is w m d e fs s delivers store there = record {
  world = w;
  number = 0;
  stands = s;
  devices = refl;
  carried = refl;
  stopped = refl;
  delivers = delivers;
  there = subst (λ gs. AreThere gs fs) (sym store) there;
}

-- a datagram that was sent is sent again, so that it is the last
copied : (w : World) (m : Machine) (d : Device) (fs : List Flight) (from : Address) (bytes : List ℕ) → CopiesStand → Stands w m → AreThere w.sent fs → IsInTime fs d.address d (event.Arrive from bytes) → IsReady w m d (event.Arrive from bytes) fs
copied w m d fs from bytes copies s there arrives =
    let t = there arrives.0 arrives.1 arrives.2.there in
    record {
      world = with_copy w t.flight;
      number = length w.sent + 1;
      stands = copies w m t.place t.flight s t.there;
      devices = refl;
      carried = refl;
      stopped = refl;
      delivers = record {
        flight = t.flight;
        kept = kept_last w.sent t.flight;
        sender = sym t.same.from ∙ arrives.2.sender;
        receiver = sym t.same.to ∙ arrives.2.receiver;
        says = sym t.same.says ∙ arrives.2.says;
        whole = t.kept;
        early = ap (λ n. is_late n (now_at (Some d) bytes)) (sym t.same.number) ∙ arrives.3;
      };
      there = λ k f h. there_taken (w.sent ++ t.flight ∷ []) (length w.sent + 1) f (there_before w.sent (t.flight ∷ []) f (there k f h));
    }

pub ready : (w : World) (m : Machine) (d : Device) (e : Event) (fs : List Flight) → CopiesStand → Stands w m → AreThere w.sent fs → IsInTime fs d.address d e → IsReady w m d e fs
ready w m d (event.Arrive from bytes) fs copies s there arrives = copied w m d fs from bytes copies s there arrives
ready w m d other fs copies s there arrives = as_it_is w m d other fs s tt refl there

-- ---- the images

-- what a restore takes is carried
restores_are : (carried images rest : List ContextImage) (e : Event) → AreUntaken carried images → Takes images e rest → (w : World) → w.carried ≡ carried → Restores w e
restores_are carried images rest (event.Restore image) all takes w same =
    ap (image_in image.name) same ∙ (untaken_less carried takes.before takes.after image (subst (AreUntaken carried) takes.there all)).found
restores_are carried images rest other all takes w same = tt

restored_less : (carried rest : List ContextImage) (image : ContextImage) (a : Answer) → has_name (λ c. c.name) image.name rest ≡ false → AreUntaken carried rest → AreUntaken (without_restored (event.Restore image) a carried) rest
restored_less carried rest image answer.Done apart all = untaken_gone carried rest image.name apart all
restored_less carried rest image other apart all = all

taken_less : (carried images rest : List ContextImage) (e : Event) (a : Answer) → AreUntaken carried images → Takes images e rest → AreUntaken (without_restored e a carried) rest
taken_less carried images rest (event.Restore image) a all takes =
    let among = untaken_less carried takes.before takes.after image (subst (AreUntaken carried) takes.there all) in
    restored_less carried rest image a (ap (has_name (λ c. c.name) image.name) takes.rest ∙ among.apart) (subst (AreUntaken carried) (sym takes.rest) among.others)
taken_less carried images rest other a all takes = subst (AreUntaken carried) (sym takes) all

handed_out : (o : Option ContextImage) (carried rest : List ContextImage) → ((i : ContextImage) → o ≡ Some i → has_name (λ c. c.name) i.name carried ≡ false) → AreUntaken carried rest → AreUntaken (with_stopped o carried) (with_stopped o rest)
handed_out None carried rest fresh all = all
handed_out (Some i) carried rest fresh all = untaken_more carried rest i (fresh i refl) all

image_name : (c : Context) → (images.image_of c).name ≡ c.name
unfolding images.image_of
image_name c = refl

module _ (w : World) (m : Machine) (s : Stands w m) (k : ℕ) (made : has_device w k ≡ true) where
  abbrev site : Device
  site = device_at w k

  none_out : (e : Event) (i : ContextImage) → IsNoStop e → (device_step site e).outcome.image ≡ Some i → ⊥
  none_out e i plain out = let none = (step_plain site e plain).image in cc (none, out)

  stop_fresh : (n : Name) (alone : Bool) (r : Option Refusal) (i : ContextImage) → refusal_of site (event.Stop n alone) ≡ r → (device.by_refusal site (event.Stop n alone) r).outcome.image ≡ Some i → has_name (λ c. c.name) i.name w.carried ≡ false
  unfolding device.stops
  stop_fresh n alone (Some r) i h out = absurd (cc)
  stop_fresh n alone None i h out =
      let there = (still_stops site n alone h).0 in
      let is : images.image_of (context_at site n) ≡ i = cc in
      ap (λ x. has_name (λ c. c.name) x w.carried) (sym (ap (λ x. x.name) is) ∙ (image_name (context_at site n) ∙ name-named_there (λ x. x.name) no_context n site.contexts there))
      ∙ (home_is w m k n s.placed made there).uncarried

  -- an image that is handed out is of a context that lived
  fresh : (e : Event) (i : ContextImage) → (device_step site e).outcome.image ≡ Some i → has_name (λ c. c.name) i.name (without_restored e (device_step site e).outcome.answer w.carried) ≡ false
  unfolding device_step
  fresh (event.Stop n alone) i out = stop_fresh n alone (refusal_of site (event.Stop n alone)) i refl out
  fresh other i out = absurd (none_out other i tt out)

  pub images_next : (e : Event) (untaken rest : List ContextImage) → AreUntaken w.carried untaken → Takes untaken e rest →
      AreUntaken (with_stopped (device_step site e).outcome.image (without_restored e (device_step site e).outcome.answer w.carried)) (with_stopped (device_step site e).outcome.image rest)
  images_next e untaken rest all takes = handed_out (device_step site e).outcome.image (without_restored e (device_step site e).outcome.answer w.carried) rest (fresh e) (taken_less w.carried untaken rest e (device_step site e).outcome.answer all takes)

-- ---- what is reached

-- after some lines: a world that stands for a state of the machine, and the steps that led the machine there from where it
-- started
pub record Reached (os : List Device) (start : Machine) (ls : List Line) (images : List ContextImage) : Type 0 where
  pub world : World
  pub steps : List MachineStep
  pub is_run : IsRun start steps
  pub heard_all : seen start steps ≡ heard ls
  pub stands : Stands world (after start steps)
  pub devices : world.devices ≡ after_all os ls
  pub carried : world.carried ≡ carried_after [] ls
  pub sent : AreThere world.sent (flown os ls)
  pub stopped : AreStopped world
  pub untaken : AreUntaken world.carried images

-- a line that is fair
pub record IsFairLine (os : List Device) (ls : List Line) (l : Line) : Type 0 where
  pub is_line : IsLine os ls l
  pub one_sided : IsOneSidedLine os ls l
  pub in_time : IsInTimeLine os ls l
  pub asked : IsAskedLine os ls l
  pub fresh : IsFreshLine os ls l

-- the lines of a fair order
pub fair_lines : (os : List Device) (ls : List Line) → IsFairOrder os ls → Each (IsFairLine os) ls
fair_lines os ls fair k l at = record {
  is_line = fair.order.each k l at;
  one_sided = fair.one_sided k l at;
  in_time = fair.in_time k l at;
  asked = fair.asked k l at;
  fresh = fair.fresh k l at;
}

-- the tests for a mover read devices and carried images alone
movers_same : (w v : World) (k : ℕ) (e : Event) → w.devices ≡ v.devices → w.carried ≡ v.carried → stops_beside_a_mover w k e ≡ stops_beside_a_mover v k e
unfolding stops_beside_a_mover
movers_same w v k e devices carried = ap (λ ds. of ds w.carried) devices ∙ ap (of v.devices) carried
  where
    of : List Device → List ContextImage → Bool
    of ds cs = stops_beside_a_mover (record { devices = ds; sent = w.sent; carried = cs; stopped = w.stopped }) k e

-- .. and so does the test for a second context of a name
seconds_same : (w v : World) (e : Event) → w.devices ≡ v.devices → w.carried ≡ v.carried → makes_a_second w e ≡ makes_a_second v e
unfolding makes_a_second
seconds_same w v e devices carried = ap (λ ds. of ds w.carried) devices ∙ ap (of v.devices) carried
  where
    of : List Device → List ContextImage → Bool
    of ds cs = makes_a_second (record { devices = ds; sent = w.sent; carried = cs; stopped = w.stopped }) e

module _ (always : (e : WorldEvent) → AlwaysFollows e) (runs : RunsFollow) (copies : CopiesStand) (os : List Device) (start : Machine) (begun : AreBegun os) where
  module _ (ls : List Line) (l : Line) (untaken rest : List ContextImage) (r : Reached os start ls untaken) (f : IsFairLine os ls l) (takes : Takes untaken l.receipt.event rest)
      (network : IsReady r.world (after start r.steps) (device_after os ls l.receipt.device) l.receipt.event (flown os ls)) where
    abbrev k : ℕ
    k = l.receipt.device

    abbrev e : Event
    e = l.receipt.event

    abbrev m : Machine
    m = after start r.steps

    abbrev w : World
    w = r.world

    abbrev d : Device
    d = device_after os ls k

    abbrev out : device.Step
    out = device_step d e

    made_in : (v : World) → v.devices ≡ w.devices → has_device v k ≡ true
    made_in v same = ap (has (λ x. x.id) k) (same ∙ r.devices) ∙ has_after os ls k begun f.is_line.known

    here_in : (v : World) → v.devices ≡ w.devices → device_at v k ≡ d
    here_in v same = ap (at (λ x. x.id) no_device k) (same ∙ r.devices) ∙ at_after os ls k begun f.is_line.known

    abbrev u : World
    u = network.world

    u_stopped : AreStopped u
    u_stopped n there = ap (has_name (λ x. x) n) network.stopped ∙ r.stopped n (sym (ap (has_name (λ c. c.name) n) network.carried) ∙ there)

    one_sided_there : (is_stopped out.outcome.answer && stops_beside_a_mover u k e) ≡ false
    unfolding world_of
    one_sided_there =
        ap (λ b. is_stopped out.outcome.answer && b) (movers_same u (world_of os ls) k e (network.devices ∙ r.devices) (network.carried ∙ r.carried))
        ∙ (ap (λ o. is_stopped o.answer && stops_beside_a_mover (world_of os ls) k e) (sym f.is_line.outcome) ∙ f.one_sided)

    fresh_there : (is_done out.outcome.answer && makes_a_second u e) ≡ false
    unfolding world_of
    fresh_there =
        ap (λ b. is_done out.outcome.answer && b) (seconds_same u (world_of os ls) e (network.devices ∙ r.devices) (network.carried ∙ r.carried))
        ∙ (ap (λ o. is_done o.answer && makes_a_second (world_of os ls) e) (sym f.is_line.outcome) ∙ f.fresh)

    abbrev es : List WorldEvent
    es = world_events d network.number e out.outcome.answer

    pub played : Plays u network.number e out es
    played =
        subst (λ x. Plays u network.number e (device_step x e) (world_events x network.number e (device_step x e).outcome.answer)) (here_in u network.devices)
        (plays u m network.stands k (made_in u network.devices) u_stopped network.number e f.asked.askable
        (ap (λ x. is_at_home x e (verb_in e)) (here_in u network.devices) ∙ f.asked.at_home)
        (ap (λ x. is_stopped (device_step x e).outcome.answer && stops_beside_a_mover u k e) (here_in u network.devices) ∙ one_sided_there)
        (ap (λ x. is_done (device_step x e).outcome.answer && makes_a_second u e) (here_in u network.devices) ∙ fresh_there)
        (subst (λ x. Delivers u x network.number e) (sym (here_in u network.devices)) network.delivers)
        (restores_are w.carried untaken rest e r.untaken takes u network.carried))

    followed : FollowsRun u m es
    followed = runs u m es (λ i x b. always (get_or es i x)) played.ranges network.stands

    abbrev steps : List MachineStep
    steps = joined_steps followed.steps

    abbrev v : World
    v = world_after u es

    heard_then : seen start (r.steps ++ steps) ≡ heard (ls ++ l ∷ [])
    heard_then =
        seen_on start r.steps steps
        ∙ (ap (λ x. x ++ seen m steps) r.heard_all
        ∙ (ap (λ x. heard ls ++ x) (followed.heard ∙ (played.heard ∙ ap (λ o. kept_verb (verb_heard e) o.answer) (sym f.is_line.outcome)))
        ∙ sym (heard-push ls l)))

    id_then : out.device.id ≡ k
    id_then = (step_itself d e).id ∙ number_is_k
      where
        number_is_k : d.id ≡ k
        number_is_k = ap (λ x. x.id) (sym (here_in w refl)) ∙ number-at (λ x. x.id) no_device k w.devices (made_in w refl)

    devices_then : v.devices ≡ after_all os (ls ++ l ∷ [])
    devices_then =
        played.leads.devices
        ∙ (ap (λ j. store (λ x. x.id) j out.device u.devices) id_then
        ∙ (ap (store (λ x. x.id) k out.device) (network.devices ∙ r.devices)
        ∙ after_line os ls l begun f.is_line.known))

    carried_then : v.carried ≡ carried_after [] (ls ++ l ∷ [])
    carried_then =
        played.leads.carried
        ∙ (ap (λ x. with_stopped out.outcome.image (without_restored e out.outcome.answer x)) (network.carried ∙ r.carried)
        ∙ (ap (λ o. with_stopped o.image (without_restored e o.answer (carried_after [] ls))) (sym f.is_line.outcome)
        ∙ sym (carried-push [] ls l)))

    pub address_then : out.device.address ≡ (opening_of os k).address
    address_then = (step_itself d e).address ∙ address_after os ls k

    sent_then : AreThere v.sent (flown os (ls ++ l ∷ []))
    sent_then =
        subst (AreThere v.sent) (sym (flown-push os ls l ∙ ap (λ a. sending (flown os ls) a l.receipt.outcome.sent) (sym address_then)))
        (subst (λ o. AreThere v.sent (sending (flown os ls) out.device.address o.sent)) (sym f.is_line.outcome)
        (subst (λ gs. AreThere gs (sending (flown os ls) out.device.address out.outcome.sent)) (sym played.leads.sent)
        (there_sending (store_for u network.number e) (flown os ls) out.device.address out.outcome.sent network.there)))

    untaken_then : AreUntaken v.carried (with_stopped l.receipt.outcome.image rest)
    untaken_then =
        subst (λ cs. AreUntaken cs (with_stopped l.receipt.outcome.image rest)) (sym (played.leads.carried ∙ ap (λ x. with_stopped out.outcome.image (without_restored e out.outcome.answer x)) network.carried))
        (subst (λ o. AreUntaken (with_stopped out.outcome.image (without_restored e out.outcome.answer w.carried)) (with_stopped o.image rest)) (sym f.is_line.outcome)
        (subst (λ x. AreUntaken (with_stopped (device_step x e).outcome.image (without_restored e (device_step x e).outcome.answer w.carried)) (with_stopped (device_step x e).outcome.image rest)) (here_in w refl)
        (images_next w m r.stands k (made_in w refl) e untaken rest r.untaken takes)))

    pub next_from : Reached os start (ls ++ l ∷ []) (with_stopped l.receipt.outcome.image rest)
    next_from = record {
      world = v;
      steps = r.steps ++ steps;
      is_run = runs_on start r.steps steps r.is_run followed.is_run;
      heard_all = heard_then;
      stands = subst (Stands v) (sym (after_on start r.steps steps)) followed.stands;
      devices = devices_then;
      carried = carried_then;
      sent = sent_then;
      stopped = played.leads.stopped;
      untaken = untaken_then;
    }

    -- its world is where the events of the step lead
    pub next_world : next_from.world ≡ world_after network.world (world_events d network.number e out.outcome.answer)
    unfolding next_from
    next_world = refl

  -- .. where a datagram that arrives is sent again first
  pub next : (ls : List Line) (l : Line) (untaken rest : List ContextImage) → Reached os start ls untaken → IsFairLine os ls l → Takes untaken l.receipt.event rest → Reached os start (ls ++ l ∷ []) (with_stopped l.receipt.outcome.image rest)
  next ls l untaken rest r f takes =
      next_from ls l untaken rest r f takes
      (ready r.world (after start r.steps) (device_after os ls l.receipt.device) l.receipt.event (flown os ls) copies r.stands r.sent
      (subst (λ a. IsInTime (flown os ls) a (device_after os ls l.receipt.device) l.receipt.event) (sym (address_after os ls l.receipt.device)) f.in_time))

  -- ---- all lines

  pub walks : (ls more : List Line) (untaken left : List ContextImage) → Each (λ xs l. IsFairLine os (ls ++ xs) l) more → AreRestored untaken more left → Reached os start ls untaken → Reached os start (ls ++ more) left
  walks ls [] untaken left each restored r = subst (λ xs. Reached os start xs left) (sym (append-nil ls)) (subst (Reached os start ls) (sym restored) r)
  walks ls (l ∷ more) untaken left each restored r =
      let fair : IsFairLine os ls l = subst (λ xs. IsFairLine os xs l) (append-nil ls) (each 0 l refl) in
      subst (λ xs. Reached os start xs left) (append_assoc ls (l ∷ []) more)
      (walks (ls ++ l ∷ []) more (with_stopped l.receipt.outcome.image restored.0) left
      (λ j x at. subst (λ xs. IsFairLine os xs x) (sym (append_assoc ls (l ∷ []) (take j more))) (each (suc j) x at))
      restored.2
      (next ls l untaken restored.0 r fair restored.1))
