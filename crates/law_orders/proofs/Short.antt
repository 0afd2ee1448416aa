-- A fair order is a run of world events, as long as the network's store keeps every datagram.
use Rattle.std.proofs.Common.{arith, ◌≡◌, ◌≤◌, ◌<◌, ℕ, zero, suc, ◌+◌, ◌-◌, List, [], ◌∷◌, ◌++◌, length, map, take, slice_get, Bool, true, false, Option, Some, None, refl, sym, ap, ◌∙◌, subst, if◌then◌else◌, length-append}
use Rattle.std.proofs.lemmas.Bool.Decides.{nat_tests, leb_tells}
use Rattle.std.proofs.lemmas.List.{append-nil, append_assoc}
use Rattle.rdma_types.specs.declared.answers.Sent.{Sent}
use Rattle.rdma_types.specs.declared.requests.Address.{Address}
use Rattle.rdma_types.specs.Limits.{most_flights}
use Rattle.protocol.specs.declared.events.Event.{Event}
use Rattle.protocol.specs.declared.events.Event.TheVariants as event
use Rattle.protocol.specs.declared.events.WorldEvent.{WorldEvent}
use Rattle.protocol.specs.declared.images.ContextImage.{ContextImage}
use Rattle.protocol.specs.DeviceStep.{device_step}
use Rattle.protocol.specs.Fabric.{changed_at, flight_of, is_kept, is_late, kept_flight, marked_taken, sending, took}
use Rattle.protocol.specs.State.{Device, Flight, World}
use Rattle.protocol.specs.WorldStep.{now_at, world_after, world_step}
use Rattle.packetless_machine.specs.Machine.{Machine}
use Rattle.packetless_machine.specs.Legal.{after}
use Rattle.law_simulation.specs.Kept.{kept_of, kept_verb}
use Rattle.law_simulation.specs.Law.{AlwaysFollows, kept}
use Rattle.law_simulation.specs.Runs.{RunsFollow}
use Rattle.law_simulation.specs.Stands.{Stands}
use Rattle.order_rules.specs.Bridge.{CopiesStand, IsSameFlight, IsWorldAfter, events_of, world_events}
use Rattle.order_rules.specs.Hears.{heard, verb_heard}
use Rattle.order_rules.specs.Lines.{Line, device_after, flown, flown_after, opening_of}
use Rattle.order_rules.specs.Order.{AreRestored, Each, IsDatagram, Takes, with_stopped}
use Rattle.order_rules.specs.Sides.{IsInTime, world_of}
use Rattle.order_rules.proofs.Growing.{flown-push}
use Rattle.law_orders.proofs.Flights.{AreThere, same_flight, there_taken}
use Rattle.law_orders.proofs.Orders.{AreBegun, address_after}
use Rattle.law_orders.proofs.Playing.{store_for}
use Rattle.law_orders.proofs.Walk.{IsFairLine, IsReady, Reached, address_then, next_from, next_world, played}

-- ---- the store has each datagram at its place

-- the same datagrams at the same places, and none is lost
abbrev pub AreAlike : List Flight → List Flight → Type 0
AreAlike [] [] = Unit {0}
AreAlike [] (g ∷ gs) = ⊥
AreAlike (f ∷ fs) [] = ⊥
AreAlike (f ∷ fs) (g ∷ gs) = IsSameFlight f g × (g.lost ≡ false) × AreAlike fs gs

alike_sent : (from : Address) (more : List Sent) → AreAlike (map (flight_of from) more) (map (flight_of from) more)
alike_sent from [] = tt
alike_sent from (s ∷ more) = (same_flight (flight_of from s), refl, alike_sent from more)

alike_both : (fs gs hs is : List Flight) → AreAlike fs gs → AreAlike hs is → AreAlike (fs ++ hs) (gs ++ is)
alike_both [] [] hs is a b = b
alike_both [] (g ∷ gs) hs is a b = absurd a
alike_both (f ∷ fs) [] hs is a b = absurd a
alike_both (f ∷ fs) (g ∷ gs) hs is a b = (a.0, a.1, alike_both fs gs hs is a.2 b)

alike_sending : (fs gs : List Flight) (from : Address) (more : List Sent) → AreAlike fs gs → AreAlike (sending fs from more) (sending gs from more)
unfolding sending
alike_sending fs gs from more a = alike_both fs gs _ _ a (alike_sent from more)

alike_marked : (fs gs : List Flight) (k : ℕ) → AreAlike fs gs → AreAlike fs (changed_at marked_taken k gs)
unfolding changed_at
alike_marked [] [] k a = tt
alike_marked [] (g ∷ gs) k a = absurd a
alike_marked (f ∷ fs) [] k a = absurd a
alike_marked (f ∷ fs) (g ∷ gs) zero a = (record { from = a.0.from; to = a.0.to; number = a.0.number; says = a.0.says }, a.1, a.2)
alike_marked (f ∷ fs) (g ∷ gs) (suc k) a = (a.0, a.1, alike_marked fs gs k a.2)

alike_taken : (fs gs : List Flight) (k : ℕ) → AreAlike fs gs → AreAlike fs (took gs k)
unfolding took
alike_taken fs gs k a = by (is_kept (length gs) k)
  where
    by : (b : Bool) → AreAlike fs (if b then changed_at marked_taken (k - 1) gs else gs)
    by true = alike_marked fs gs (k - 1) a
    by false = a

alike_store : (fs : List Flight) (w : World) (number : ℕ) (e : Event) → AreAlike fs w.sent → AreAlike fs (store_for w number e)
alike_store fs w number (event.Arrive from bytes) a = alike_taken fs w.sent number a
alike_store fs w number other a = a

alike_length : (fs gs : List Flight) → AreAlike fs gs → length gs ≡ length fs
alike_length [] [] a = refl
alike_length [] (g ∷ gs) a = absurd a
alike_length (f ∷ fs) [] a = absurd a
alike_length (f ∷ fs) (g ∷ gs) a = ap suc (alike_length fs gs a.2)

-- the datagram at a place
pub record IsAlikeAt (gs : List Flight) (k : ℕ) (f : Flight) : Type 0 where
  pub flight : Flight
  pub there : slice_get gs k ≡ Some flight
  pub same : IsSameFlight f flight
  pub whole : flight.lost ≡ false
  pub within : k < length gs

some_is : (f g : Flight) → Some f ≡ Some g → f ≡ g
some_is f g h = cc

alike_at : (fs gs : List Flight) (k : ℕ) (f : Flight) → AreAlike fs gs → slice_get fs k ≡ Some f → IsAlikeAt gs k f
alike_at [] gs k f a h = absurd (cc)
alike_at (x ∷ fs) [] k f a h = absurd a
alike_at (x ∷ fs) (g ∷ gs) zero f a h = record { flight = g; there = refl; same = subst (λ z. IsSameFlight z g) (some_is x f h) a.0; whole = a.1; within = omega arith }
alike_at (x ∷ fs) (g ∷ gs) (suc k) f a h = let later = alike_at fs gs k f a.2 h in record { flight = later.flight; there = later.there; same = later.same; whole = later.whole; within = omega (arith, later.within) }

-- ---- the number that arrives

-- this is the number of a datagram that the event may take in
pub record IsNumbered (fs : List Flight) (d : Device) (from : Address) (bytes : List ℕ) (number : ℕ) : Type 0 where
  pub place : ℕ
  pub flight : Flight
  pub is : IsDatagram fs from d.address bytes place flight
  pub is_it : number ≡ place + 1
  pub early : is_late flight.number (now_at (Some d) bytes) ≡ false

abbrev pub IsRight : List Flight → Device → Event → ℕ → Type 0
IsRight fs d (event.Arrive from bytes) number = IsNumbered fs d from bytes number
IsRight fs d other number = Unit {0}

chosen : (fs : List Flight) (d : Device) (e : Event) → IsInTime fs d.address d e → (number : ℕ) × IsRight fs d e number
chosen fs d (event.Arrive from bytes) t = (t.0 + 1, record { place = t.0; flight = t.1; is = t.2; is_it = refl; early = t.3 })
chosen fs d other t = (0, tt)

place_kept : (count place : ℕ) → place < count → count ≤ most_flights → is_kept count (place + 1) ≡ true
place_kept count place within few = grind (arith, nat_tests, leb_tells 1 (place + 1), leb_tells (place + 1) count, leb_tells (count + 1) (place + 1 + most_flights), within, few)

kept_at : (gs : List Flight) (place : ℕ) (g : Flight) → slice_get gs place ≡ Some g → place < length gs → length gs ≤ most_flights → kept_flight gs (place + 1) ≡ Some g
unfolding kept_flight
kept_at gs place g h within few =
    let back : place + 1 - 1 ≡ place = omega arith in
    ap (λ b. if b then slice_get gs (place + 1 - 1) else None) (place_kept (length gs) place within few) ∙ (ap (slice_get gs) back ∙ h)

ready_for : (w : World) (m : Machine) (d : Device) (e : Event) (fs : List Flight) (number : ℕ) → Stands w m → AreThere w.sent fs → AreAlike fs w.sent → length fs ≤ most_flights → IsRight fs d e number → IsReady w m d e fs
ready_for w m d (event.Arrive from bytes) fs number s there alike few right =
    let at = alike_at fs w.sent right.place right.flight alike right.is.there in
    record {
      world = w;
      number = number;
      stands = s;
      devices = refl;
      carried = refl;
      stopped = refl;
      delivers = record {
        flight = at.flight;
        kept = ap (kept_flight w.sent) right.is_it ∙ kept_at w.sent right.place at.flight at.there at.within (omega (arith, alike_length fs w.sent alike, few));
        sender = sym at.same.from ∙ right.is.sender;
        receiver = sym at.same.to ∙ right.is.receiver;
        says = sym at.same.says ∙ right.is.says;
        whole = at.whole;
        early = ap (λ n. is_late n (now_at (Some d) bytes)) (sym at.same.number) ∙ right.early;
      };
      there = λ k f h. there_taken w.sent number f (there k f h);
    }
ready_for w m d other fs number s there alike few right = record {
  world = w;
  number = number;
  stands = s;
  devices = refl;
  carried = refl;
  stopped = refl;
  delivers = tt;
  there = there;
}

ready_world : (w : World) (m : Machine) (d : Device) (e : Event) (fs : List Flight) (number : ℕ) (s : Stands w m) (there : AreThere w.sent fs) (alike : AreAlike fs w.sent) (few : length fs ≤ most_flights) (right : IsRight fs d e number) →
    ((ready_for w m d e fs number s there alike few right).world ≡ w) × ((ready_for w m d e fs number s there alike few right).number ≡ number)
unfolding ready_for
ready_world w m d (event.Arrive from bytes) fs number s there alike few right = (refl, refl)
ready_world w m d other fs number s there alike few right = (refl, refl)

-- ---- lists of events

after_both : (w : World) (xs ys : List WorldEvent) → world_after w (xs ++ ys) ≡ world_after (world_after w xs) ys
unfolding world_after
after_both w [] ys = refl
after_both w (x ∷ xs) ys = after_both (world_step w x).world xs ys

kept_both : (w : World) (xs ys : List WorldEvent) → kept w (xs ++ ys) ≡ kept w xs ++ kept (world_after w xs) ys
unfolding world_after
kept_both w [] ys = refl
kept_both w (x ∷ xs) ys =
    ap (λ vs. kept_of w x (world_step w x).answer ++ vs) (kept_both (world_step w x).world xs ys)
    ∙ sym (append_assoc (kept_of w x (world_step w x).answer) (kept (world_step w x).world xs) (kept (world_after (world_step w x).world xs) ys))

flown_both : (os : List Device) (fs : List Flight) (xs ys : List Line) → flown_after os fs (xs ++ ys) ≡ flown_after os (flown_after os fs xs) ys
unfolding flown_after
flown_both os fs [] ys = refl
flown_both os fs (x ∷ xs) ys = flown_both os (sending fs (opening_of os x.receipt.device).address x.receipt.outcome.sent) xs ys

flown_more : (os : List Device) (fs : List Flight) (ls : List Line) → length fs ≤ length (flown_after os fs ls)
unfolding flown_after sending
flown_more os fs [] = omega arith
flown_more os fs (l ∷ ls) =
    omega (
      arith,
      flown_more os (fs ++ map (flight_of (opening_of os l.receipt.device).address) l.receipt.outcome.sent) ls,
      length-append fs (map (flight_of (opening_of os l.receipt.device).address) l.receipt.outcome.sent),
    )

flown_less : (os : List Device) (ls more : List Line) → length (flown os ls) ≤ length (flown os (ls ++ more))
flown_less os ls more = omega (arith, ap length (flown_both os [] ls more), flown_more os (flown os ls) more)

-- ---- all lines

-- the events of the lines to come lead the world to where all lines lead, and as much is heard
pub record IsShort (os : List Device) (number : ℕ → ℕ) (ls more : List Line) (w : World) : Type 0 where
  pub reached : IsWorldAfter os (ls ++ more) (world_after w (events_of os number ls more))
  pub heard : kept w (events_of os number ls more) ≡ heard more

-- the number of a line is right
abbrev pub IsRightAt : List Device → (ℕ → ℕ) → List Line → Line → Type 0
IsRightAt os number ls l = IsRight (flown os ls) (device_after os ls l.receipt.device) l.receipt.event (number (length ls))

module _ (always : (e : WorldEvent) → AlwaysFollows e) (runs : RunsFollow) (copies : CopiesStand) (os : List Device) (start : Machine) (begun : AreBegun os) (number : ℕ → ℕ) where
  ends : (ls : List Line) (untaken : List ContextImage) (r : Reached os start ls untaken) → AreAlike (flown os ls) r.world.sent → IsShort os number ls [] r.world
  unfolding events_of world_after heard world_of
  ends ls untaken r alike = record {
    reached = subst (λ xs. IsWorldAfter os xs r.world) (sym (append-nil ls)) (record {
      devices = r.devices;
      carried = r.carried;
      count = alike_length (flown os ls) r.world.sent alike;
      sent = λ k f g h j. let at = alike_at (flown os ls) r.world.sent k f alike h in subst (IsSameFlight f) (some_is at.flight g (sym at.there ∙ j)) at.same;
    });
    heard = refl;
  }

  module _ (ls more : List Line) (l : Line) (untaken rest : List ContextImage) (r : Reached os start ls untaken) (f : IsFairLine os ls l) (takes : Takes untaken l.receipt.event rest) (alike : AreAlike (flown os ls) r.world.sent)
      (few : length (flown os ls) ≤ most_flights) (right : IsRightAt os number ls l) where
    abbrev d : Device
    d = device_after os ls l.receipt.device

    network : IsReady r.world (after start r.steps) d l.receipt.event (flown os ls)
    network = ready_for r.world (after start r.steps) d l.receipt.event (flown os ls) (number (length ls)) r.stands r.sent alike few right

    is_network : (network.world ≡ r.world) × (network.number ≡ number (length ls))
    unfolding network
    is_network = ready_world r.world (after start r.steps) d l.receipt.event (flown os ls) (number (length ls)) r.stands r.sent alike few right

    abbrev after_it : Reached os start (ls ++ l ∷ []) (with_stopped l.receipt.outcome.image rest)
    after_it = next_from always runs copies os start begun ls l untaken rest r f takes network

    abbrev es : List WorldEvent
    es = world_events d (number (length ls)) l.receipt.event l.receipt.outcome.answer

    es_are : world_events d network.number l.receipt.event (device_step d l.receipt.event).outcome.answer ≡ es
    es_are = ap (λ k. world_events d k l.receipt.event (device_step d l.receipt.event).outcome.answer) is_network.1 ∙ ap (λ o. world_events d (number (length ls)) l.receipt.event o.answer) (sym f.is_line.outcome)

    world_is : after_it.world ≡ world_after r.world es
    world_is =
        next_world always runs copies os start begun ls l untaken rest r f takes network
        ∙ (ap (λ w. world_after w (world_events d network.number l.receipt.event (device_step d l.receipt.event).outcome.answer)) is_network.0 ∙ ap (world_after r.world) es_are)

    alike_then : AreAlike (flown os (ls ++ l ∷ [])) after_it.world.sent
    alike_then =
        let plays = played always runs copies os start begun ls l untaken rest r f takes network in
        let store : AreAlike (flown os ls) (store_for network.world network.number l.receipt.event) = alike_store (flown os ls) network.world network.number l.receipt.event (subst (λ w. AreAlike (flown os ls) w.sent) (sym is_network.0) alike) in
        subst (λ w. AreAlike (flown os (ls ++ l ∷ [])) w.sent) (sym (next_world always runs copies os start begun ls l untaken rest r f takes network))
        (subst (AreAlike (flown os (ls ++ l ∷ []))) (sym plays.leads.sent)
        (subst (λ fs. AreAlike fs (sending (store_for network.world network.number l.receipt.event) (device_step d l.receipt.event).device.address (device_step d l.receipt.event).outcome.sent))
        (ap (λ a. sending (flown os ls) a (device_step d l.receipt.event).outcome.sent) (address_then always runs copies os start begun ls l untaken rest r f takes network)
        ∙ (ap (λ o. sending (flown os ls) (opening_of os l.receipt.device).address o.sent) (sym f.is_line.outcome) ∙ sym (flown-push os ls l)))
        (alike_sending (flown os ls) (store_for network.world network.number l.receipt.event) (device_step d l.receipt.event).device.address (device_step d l.receipt.event).outcome.sent store)))

    heard_here : kept r.world es ≡ kept_verb (verb_heard l.receipt.event) l.receipt.outcome.answer
    heard_here =
        let plays = played always runs copies os start begun ls l untaken rest r f takes network in
        ap (kept r.world) (sym es_are)
        ∙ (ap (λ w. kept w (world_events d network.number l.receipt.event (device_step d l.receipt.event).outcome.answer)) (sym is_network.0)
        ∙ (plays.heard ∙ ap (λ o. kept_verb (verb_heard l.receipt.event) o.answer) (sym f.is_line.outcome)))

    one_more : IsShort os number (ls ++ l ∷ []) more after_it.world → IsShort os number ls (l ∷ more) r.world
    unfolding events_of heard
    one_more later =
        let later_there : IsShort os number (ls ++ l ∷ []) more (world_after r.world es) = subst (IsShort os number (ls ++ l ∷ []) more) world_is later in
        record {
          reached = subst (λ w. IsWorldAfter os (ls ++ l ∷ more) w) (sym (after_both r.world es (events_of os number (ls ++ l ∷ []) more)))
              (subst (λ xs. IsWorldAfter os xs (world_after (world_after r.world es) (events_of os number (ls ++ l ∷ []) more))) (append_assoc ls (l ∷ []) more) later_there.reached);
          heard = kept_both r.world es (events_of os number (ls ++ l ∷ []) more) ∙ (ap (λ vs. vs ++ kept (world_after r.world es) (events_of os number (ls ++ l ∷ []) more)) heard_here ∙ ap (λ vs. kept_verb (verb_heard l.receipt.event) l.receipt.outcome.answer ++ vs) later_there.heard);
        }

  pub shorts : (ls more : List Line) (untaken left : List ContextImage) → Each (λ xs l. IsFairLine os (ls ++ xs) l) more → Each (λ xs l. IsRightAt os number (ls ++ xs) l) more → length (flown os (ls ++ more)) ≤ most_flights → AreRestored untaken more left →
      (r : Reached os start ls untaken) → AreAlike (flown os ls) r.world.sent → IsShort os number ls more r.world
  shorts ls [] untaken left each right few restored r alike = ends ls untaken r alike
  shorts ls (l ∷ more) untaken left each right few restored r alike =
      let fair : IsFairLine os ls l = subst (λ xs. IsFairLine os xs l) (append-nil ls) (each 0 l refl) in
      let good : IsRightAt os number ls l = subst (λ xs. IsRightAt os number xs l) (append-nil ls) (right 0 l refl) in
      let low : length (flown os ls) ≤ most_flights = omega (arith, flown_less os ls (l ∷ more), few) in
      one_more ls more l untaken restored.0 r fair restored.1 alike low good
      (shorts (ls ++ l ∷ []) more (with_stopped l.receipt.outcome.image restored.0) left
      (λ j x at. subst (λ xs. IsFairLine os xs x) (sym (append_assoc ls (l ∷ []) (take j more))) (each (suc j) x at))
      (λ j x at. subst (λ xs. IsRightAt os number xs x) (sym (append_assoc ls (l ∷ []) (take j more))) (right (suc j) x at))
      (subst (λ xs. length (flown os xs) ≤ most_flights) (sym (append_assoc ls (l ∷ []) more)) few) restored.2
      (after_it ls more l untaken restored.0 r fair restored.1 alike low good)
      (alike_then ls more l untaken restored.0 r fair restored.1 alike low good))

-- ---- the numbers of an order

-- a number for each line that is there
record Picks (os : List Device) (ls : List Line) (k : ℕ) : Type 0 where
  pick : ℕ
  right : (l : Line) → slice_get ls k ≡ Some l → IsRight (flown os (take k ls)) (device_after os (take k ls) l.receipt.device) l.receipt.event pick

line_is : (x y : Line) → Some x ≡ Some y → x ≡ y
line_is x y h = cc

picked : (os : List Device) (ls : List Line) (k : ℕ) (o : Option Line) → slice_get ls k ≡ o → ((l : Line) → slice_get ls k ≡ Some l → IsFairLine os (take k ls) l) → Picks os ls k
picked os ls k None h fair = record { pick = 0; right = λ l at. absurd (cc) }
picked os ls k (Some l) h fair =
    let c = chosen (flown os (take k ls)) (device_after os (take k ls) l.receipt.device) l.receipt.event (subst (λ a. IsInTime (flown os (take k ls)) a (device_after os (take k ls) l.receipt.device) l.receipt.event) (sym (address_after os (take k ls) l.receipt.device)) (fair l h).in_time) in
    record { pick = c.0; right = λ x at. subst (λ y. IsRight (flown os (take k ls)) (device_after os (take k ls) y.receipt.device) y.receipt.event c.0) (line_is l x (sym h ∙ at)) c.1 }

pub numbers : (os : List Device) (ls : List Line) → Each (IsFairLine os) ls → ℕ → ℕ
numbers os ls fair k = (picked os ls k (slice_get ls k) refl (fair k)).pick

pub numbers_right : (os : List Device) (ls : List Line) (fair : Each (IsFairLine os) ls) → Each (IsRightAt os (numbers os ls fair)) ls
unfolding numbers
numbers_right os ls fair k l at =
    subst (λ n. IsRight (flown os (take k ls)) (device_after os (take k ls) l.receipt.device) l.receipt.event (picked os ls n (slice_get ls n) refl (fair n)).pick) (sym (place_is ls k l at)) ((picked os ls k (slice_get ls k) refl (fair k)).right l at)
  where
    place_is : (xs : List Line) (j : ℕ) (x : Line) → slice_get xs j ≡ Some x → length (take j xs) ≡ j
    place_is [] j x h = cc
    place_is (y ∷ xs) zero x h = refl
    place_is (y ∷ xs) (suc j) x h = ap suc (place_is xs j x h)
