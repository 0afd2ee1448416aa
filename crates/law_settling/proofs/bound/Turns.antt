-- All ends go on where an end transmits, expires, or its RNR timer is over.
use Rattle.std.proofs.Common.{arith, ◌≡◌, ◌≢◌, ◌≤◌, ◌<◌, ◌+◌, ◌^◌, ℕ, List, [], ◌∷◌, ◌++◌, map, true, false, Bool, refl, sym, ap, ◌∙◌, subst, inl}
use Rattle.std.specs.Prelude.{All, Option, Some, None, if◌then◌else◌, ◌==◌, ◌&&◌, ◌||◌, not}
use Rattle.std.proofs.lemmas.Bool.Decides.{nat_tests, eqb_tells}
use Rattle.std.proofs.lemmas.List.{append-nil}
use Rattle.std.proofs.lemmas.List.Elements.{All-nil, All-cons}
use Rattle.rdma_types.specs.declared.names.Name.{Name}
use Rattle.rdma_types.specs.declared.names.ObjName.{ObjName}
use Rattle.rdma_types.specs.declared.answers.Answer.{Answer}
use Rattle.rdma_types.specs.declared.answers.Answer.TheVariants as answers
use Rattle.rdma_types.specs.declared.answers.Refusal.{Refusal}
use Rattle.rdma_types.specs.declared.answers.Refusal.TheVariants as refusals
use Rattle.rdma_types.specs.declared.answers.Sent.{Sent}
use Rattle.rdma_types.specs.declared.requests.Address.{Address}
use Rattle.rdma_types.specs.declared.requests.WcStatus.TheVariants as status
use Rattle.rdma_types.specs.Causes.{cause, first_cause}
use Rattle.rdma_types.specs.Lists.{has_name, named, store_named}
use Rattle.rdma_types.specs.Spans.{Piece}
use Rattle.protocol.specs.declared.events.Event.{Event}
use Rattle.protocol.specs.declared.events.Event.TheVariants as events
use Rattle.protocol.specs.declared.events.WorldEvent.TheVariants as world_events
use Rattle.protocol.specs.declared.wire.Aeth.{Aeth}
use Rattle.protocol.specs.declared.wire.ResumeBody.{ResumeBody}
use Rattle.protocol.specs.Bytes.{byte_at}
use Rattle.protocol.specs.State.{World, Device, Context, End, Link, Flight, no_context, no_end, context_at, end_at}
use Rattle.protocol.specs.Fabric.{flight_of}
use Rattle.protocol.specs.Wire.{Packet, packet_of, wire_of, is_nak_stopped, is_request}
use Rattle.protocol.specs.Moves.{Resume, ResumeAck, control_of, stopped_of, resuming_of, resume_of}
use Rattle.protocol.specs.Numbers.{wire_number}
use Rattle.protocol.specs.Segments.{packet_of_piece}
use Rattle.protocol.specs.EndWords as words
use Rattle.protocol.specs.EndWords.{linked, to_partner, with_sender}
use Rattle.protocol.specs.Refusals as refusing
use Rattle.protocol.specs.Requester.{Transmission, SendsResume, Waits, IsIdle, WindowIsFull, ReadsAreFull, IsFenced, Sends, transmission, transmitted, end_of_queue, not_counted, counted, ended_with, ended_link, waited_out}
use Rattle.protocol.specs.DeviceStep as device
use Rattle.protocol.specs.DeviceStep.{gives}
use Rattle.protocol.specs.WorldStep as step
use Rattle.protocol.specs.WorldStep.{world_step, is_live, home, live_context, ran, runs, context_of_event, context_causes}
use Rattle.protocol.specs.Settle.{Waited, may_step, partner_ended}
use Rattle.packetless_machine.specs.Machine as machine
use Rattle.packetless_machine.specs.Machine.{Machine}
use Rattle.law_simulation.specs.Packets as packets
use Rattle.law_simulation.specs.Packets.{class_of, IsRequest}
use Rattle.law_simulation.specs.Views.{side_of}
use Rattle.law_simulation.specs.Stands.{Stands}
use Rattle.law_simulation.proofs.relation.Ends.{end_there}
use Rattle.law_simulation.proofs.relation.Linked.{no_cause, no_causes}
use Rattle.law_simulation.proofs.relation.Live.{live_same}
use Rattle.law_simulation.proofs.relation.Tables.{named-absent}
use Rattle.law_simulation.proofs.relation.Verbs.{ran_same}
use Rattle.law_simulation.proofs.relation.Worlds.{has_name-flat, holds_it, home_found, home_holds, is_there}
use Rattle.law_simulation.proofs.sending.GoFound.{found_linked}
use Rattle.law_simulation.proofs.sending.GoLive.{LiveEnd, connected, joined_here, link_is}
use Rattle.law_simulation.proofs.sending.GoSent.{home_address, peer_said}
use Rattle.law_simulation.proofs.sending.GoTransmit.{sends_is}
use Rattle.law_simulation.proofs.sending.GoWritten.{reads_back, class_piece, fits_resume}
use Rattle.law_settling.proofs.draining.Replies.{opcode_first}
use Rattle.law_settling.proofs.draining.Arrivals.{read_opcode, ran_sent}
use Rattle.law_settling.specs.Weights.{BringsNews, EndGoesOn, GoesOn, weight}
use Rattle.law_settling.proofs.weights.Links.{IsAlive, rests, over, counts, counts_lighter, ends_lighter, over_goes, over_lighter}
use Rattle.law_settling.proofs.weights.Taking.{shape}
use Rattle.law_settling.proofs.bound.Lives.{lives, at_end, live_context_is, AllGoOn, unmoved, IsThere, self_stored, context_name, all_go_on, link_after}
use Rattle.law_settling.proofs.bound.Delivering.{Fresh, ran_still, ran_stored, live_end_there}

-- ---- what is no RESUME brings no news

pub fresh_other : (K : ℕ → ℕ) (bs : List ℕ) → (byte_at 0 bs == 0x1E) ≡ false → Fresh K bs
unfolding control_of
fresh_other K bs h p read = by_test (is_nak_stopped p.aeth) p.aeth p.resume (ap (λ n. n == 0x1E) (read_opcode bs p read) ∙ h)
  where
    by_test : (b : Bool) (a : Option Aeth) (r : Option ResumeBody) → (p.opcode == 0x1E) ≡ false → BringsNews (K p.dest) (if b then stopped_of a else resuming_of p.opcode r)
    by_test true None r g = tt
    by_test true (Some a) r g = tt
    by_test false a None g = tt
    by_test false a (Some body) g = by_opcode (p.opcode == 0x1E) g
      where
        by_opcode : (b : Bool) → b ≡ false → BringsNews (K p.dest) (Some (if b then Resume body else ResumeAck body.count))
        by_opcode true f = absurd (cc)
        by_opcode false f = tt

class_resume_at : (d : Packet) → d.opcode ≡ 0x1E → class_of d ≡ packets.resume_class 0x1E d.resume
unfolding class_of is_request
class_resume_at d h = rw h refl

no_request : (r : Option ResumeBody) → packets.resume_class 0x1E r ≡ IsRequest → ⊥
unfolding packets.resume_class
no_request None h = absurd (cc)
no_request (Some body) h = absurd (cc)

request_is_other : (d : Packet) → class_of d ≡ IsRequest → (d.opcode == 0x1E) ≡ false
request_is_other d h = by_test (d.opcode == 0x1E) refl
  where
    by_test : (b : Bool) → (d.opcode == 0x1E) ≡ b → b ≡ false
    by_test false t = refl
    by_test true t = absurd (no_request d.resume (sym (class_resume_at d (grind (arith, nat_tests, eqb_tells d.opcode 0x1E, t))) ∙ h))

fresh_resume : (K : ℕ → ℕ) (l : Link) (a : Address) (p : Packet) → packet_of (wire_of (resume_of l a)) ≡ Some (resume_of l a) → l.moving.own ≡ K l.peer → packet_of (wire_of (resume_of l a)) ≡ Some p → BringsNews (K p.dest) (control_of p)
unfolding control_of is_nak_stopped
fresh_resume K l a p reads own read = let is : resume_of l a ≡ p = cc in subst (λ z. BringsNews (K z.dest) (control_of z)) is own

-- ---- a live end

in_by : (b : Bool) (w : World) (o : ObjName) (l : Link) → has_name (λ y. y.name) o.context (lives w) ≡ b → (at_end w o).link ≡ Some l → b ≡ true
unfolding named
in_by true w o l h linked' = refl
in_by false w o l h linked' = absurd (cc (ap (λ c. (named (λ e. e.name) no_end o.name c.ends).link) (named-absent (λ c. c.name) no_context o.context (lives w) h), linked'))

pub has_by : (b : Bool) (n : Name) (es : List End) (l : Link) → has_name (λ y. y.name) n es ≡ b → (named (λ e. e.name) no_end n es).link ≡ Some l → b ≡ true
has_by true n es l h linked' = refl
has_by false n es l h linked' = absurd (cc (ap (λ e. e.link) (named-absent (λ e. e.name) no_end n es h), linked'))

pub live_end : (w : World) (m : Machine) (o : ObjName) (l : Link) → Stands w m → (at_end w o).link ≡ Some l → LiveEnd w m o l
unfolding live_context machine.has_end
live_end w m o l s linked' =
    let live : is_live w o.context ≡ true = sym (has_name-flat o.context w.devices) ∙ in_by _ w o l refl linked' in
    let here : (end_at (context_at (home w o.context) o.context) o.name).link ≡ Some l = ap (λ c. (named (λ e. e.name) no_end o.name c.ends).link) (live_context_is w o.context) ∙ linked' in
    record {
      live = live;
      there = is_there w m o.context s.placed ∙ ap (λ b. b || step.is_carried w o.context) live;
      found = sym (end_there o.name (context_at (home w o.context) o.context).ends (machine.context_of m o.context).ends (live_same w m o.context s live).ends) ∙ has_by _ o.name (context_at (home w o.context) o.context).ends l refl here;
      linked = here;
    }

-- a connected end may transmit, expire and wait out
pub connected_none : (w : World) (m : Machine) (o : ObjName) (l : Link) → LiveEnd w m o l → first_cause (refusing.within (home w o.context) o.context (λ c. refusing.connected_causes c o.name)) ≡ None
connected_none w m o l h =
    let holds : has_name (λ x. x.name) o.context (home w o.context).contexts ≡ true = home_holds w o.context h.live in
    no_cause refusals.NoSuch _ _ (ap (λ b. not b && not (refusing.has_husk (home w o.context) o.context)) holds)
    (no_cause refusals.Stopped _ _ (ap not holds)
    (no_cause refusals.NoSuch _ _ (ap not (has_by _ o.name (context_at (home w o.context) o.context).ends l refl h.linked))
    (no_cause refusals.BadState _ _ (ap refusing.is_init h.linked) no_causes)))

-- ---- the device where the context lives takes the event

causes_live : (w : World) (c : Name) → is_live w c ≡ true → first_cause (context_causes w c []) ≡ None
causes_live w c h = no_cause refusals.NoSuch _ _ (ap (λ b. not b && not (step.is_carried w c)) h) (no_cause refusals.Stopped _ _ (ap not h) no_causes)

pub stepped_done : (w : World) (e : Event) → is_live w (context_of_event e) ≡ true → refusing.refusal_of (home w (context_of_event e)) e ≡ None → world_step w (world_events.At e) ≡ ran w (device.done_by (home w (context_of_event e)) e)
unfolding world_step step.steps_at device.device_step
stepped_done w e live none =
    ap (λ r. step.by_refusal w r (runs w (home w (context_of_event e)) e)) (causes_live w (context_of_event e) live)
    ∙ ap (λ r. ran w (device.by_refusal (home w (context_of_event e)) e r)) none

pub dead_cause : (live carried : Bool) → live ≡ false → first_cause (cause refusals.NoSuch (not live && not carried) ∷ cause refusals.Stopped (not live) ∷ []) ≡ None → ⊥
unfolding first_cause
dead_cause true carried h t = absurd (cc)
dead_cause false true h t = absurd (cc)
dead_cause false false h t = absurd (cc)

-- an event that is refused leaves the world as it was
module _ (w : World) (m : Machine) (s : Stands w m) (e : Event) (Q : World → Type 0) (stays : Q w) (done : is_live w (context_of_event e) ≡ true → refusing.refusal_of (home w (context_of_event e)) e ≡ None → Q (ran w (device.done_by (home w (context_of_event e)) e)).world) where
  by_device : is_live w (context_of_event e) ≡ true → (r : Option Refusal) → refusing.refusal_of (home w (context_of_event e)) e ≡ r → Q (ran w (device.by_refusal (home w (context_of_event e)) e r)).world
  by_device live None h = done live h
  by_device live (Some r) h = subst Q (sym (ran_same w m (context_of_event e) (answers.Refused r) s.placed live)) stays

  live_or : (b : Bool) → is_live w (context_of_event e) ≡ b → (r : Option Refusal) → first_cause (context_causes w (context_of_event e) []) ≡ r → Q (step.by_refusal w r (runs w (home w (context_of_event e)) e)).world
  unfolding device.device_step
  live_or b h (Some r) t = stays
  live_or true h None t = by_device h _ refl
  live_or false h None t = absurd (dead_cause (is_live w (context_of_event e)) (step.is_carried w (context_of_event e)) h t)

  turned : Q (world_step w (world_events.At e)).world
  unfolding world_step step.steps_at
  turned = live_or _ refl _ refl

-- ---- what a turn gives

-- all ends go on, and what is sent brings news
pub record Turns (K : ℕ → ℕ) (w w' : World) : Type 0 where
  pub goes : AllGoOn K (Unit {0}) w w'
  pub more : List Flight
  pub sent : w'.sent ≡ w.sent ++ more
  pub fresh : All (λ f. Fresh K f.bytes) more

-- what a step of the home gives
module _ (K : ℕ → ℕ) (w : World) (m : Machine) (o : ObjName) (s : Stands w m) (l : Link) (h : LiveEnd w m o l) where
  abbrev d : Device
  d = home w o.context

  abbrev c : Context
  c = context_at d o.context

  abbrev e : End
  e = end_at c o.name

  there : IsThere w o c e l
  unfolding live_context
  there = live_end_there w m o l h

  still_turns : (a : Answer) (sent : List Sent) → All (λ f. Fresh K f.bytes) (map (flight_of d.address) sent) → Turns K w (ran w (gives d a sent)).world
  still_turns a sent fresh = record {
    goes = unmoved K _ w (ran w (gives d a sent)).world (ran_still w m (holds_it o.context) d a sent s (home_found w o.context h.live));
    more = map (flight_of d.address) sent;
    sent = ran_sent w (gives d a sent);
    fresh = fresh;
  }

  stored : (x : Context) (a : Answer) (sent : List Sent) → EndGoesOn (K e.number) (Unit {0}) c e l x → lives (ran w (gives (device.with_context d x) a sent)).world ≡ store_named (λ y. y.name) o.context x (lives w)
  stored x a sent g = ran_stored w m o.context x a sent s h.live (g.named ∙ context_name w o c e l there)

  goes_turns : (x : Context) (a : Answer) (sent : List Sent) → EndGoesOn (K e.number) (Unit {0}) c e l x → All (λ f. Fresh K f.bytes) (map (flight_of d.address) sent) → Turns K w (ran w (gives (device.with_context d x) a sent)).world
  unfolding device.with_context
  goes_turns x a sent g fresh = record {
    goes = all_go_on w o c e l there (ran w (gives (device.with_context d x) a sent)).world x (stored x a sent g) K _ g;
    more = map (flight_of d.address) sent;
    sent = ran_sent w (gives (device.with_context d x) a sent);
    fresh = fresh;
  }

  -- the end with another link
  linked_goes : (l' : Link) → GoesOn (K e.number) (Unit {0}) l l' → EndGoesOn (K e.number) (Unit {0}) c e l (linked c e l')
  unfolding words.with_end
  linked_goes l' g = shape (K e.number) _ c e l (self_stored w o c e l there) h.linked (linked c e l') c e l' refl refl refl refl refl refl g

  none_fresh : All (λ (f : Flight). Fresh K f.bytes) []
  none_fresh = All-nil _

  one_fresh : (f : Flight) → Fresh K f.bytes → All (λ g. Fresh K g.bytes) (f ∷ [])
  one_fresh f g = All-cons (λ z. Fresh K z.bytes) f [] g (All-nil _)

  -- ---- transmitting

  resume_fresh : l.moving.own ≡ K l.peer → Fresh K (wire_of (resume_of l d.address))
  resume_fresh own p read =
      let body : ResumeBody = record { count = l.moving.own; address = d.address } in
      let own' : (side_of w o).link.moving.own ≡ l.moving.own = ap (λ z. z.moving.own) (link_is w m o l s h) in
      let peer : l.peer ≡ (side_of w o).link.peer = ap (λ z. z.peer) (sym (link_is w m o l s h)) in
      let said = home_address (λ a. (a.ip < 2 ^ 32) × (a.port < 2 ^ 16)) w o.context h.live s.placed.addresses_said in
      fresh_resume K l d.address p
      (reads_back (resume_of l d.address) (fits_resume l.peer body (subst (λ k. k < 2 ^ 24) (sym peer) (peer_said w m o s (connected w m o l s h))) (omega (arith, own', (joined_here w m o l s h).heard_of.limit)) said.0 said.1))
      own read

  piece_fresh : (x : Piece) → Fresh K (wire_of (packet_of_piece x.posted l.terms.mtu x.k l.peer (wire_number l.terms.own_start l.sender.next)))
  piece_fresh x =
      let p : Packet = packet_of_piece x.posted l.terms.mtu x.k l.peer (wire_number l.terms.own_start l.sender.next) in
      fresh_other K (wire_of p) (ap (λ n. n == 0x1E) (opcode_first p) ∙ request_is_other p (class_piece x.posted l.terms.mtu x.k l.peer (wire_number l.terms.own_start l.sender.next)))

  sent_on : (x : Piece) → l.ended ≡ false → GoesOn (K e.number) (Unit {0}) l (transmitted l x)
  unfolding transmitted with_sender end_of_queue
  sent_on x alive = rests (K e.number) _ l (transmitted l x) (record { alive = alive; alive' = alive; peer = refl; terms = refl; own = refl; ends = refl }) refl (record { una = refl; spent = refl; waits = refl; wait = inl refl })

  row_turns : l.moving.own ≡ K l.peer → (t : Transmission) → transmission l ≡ t → Turns K w (ran w (device.sends_by d c e l t)).world
  unfolding device.sends_piece
  row_turns own SendsResume t = still_turns _ _ (one_fresh _ (resume_fresh own))
  row_turns own Waits t = still_turns _ _ none_fresh
  row_turns own IsIdle t = still_turns _ _ none_fresh
  row_turns own WindowIsFull t = still_turns _ _ none_fresh
  row_turns own ReadsAreFull t = still_turns _ _ none_fresh
  row_turns own IsFenced t = still_turns _ _ none_fresh
  row_turns own (Sends x) t = goes_turns (linked c e (transmitted l x)) _ _ (linked_goes (transmitted l x) (sent_on x (sends_is l x t).alive)) (one_fresh _ (piece_fresh x))

  transmits_turns : l.moving.own ≡ K l.peer → Turns K w (ran w (device.transmits d c e)).world
  unfolding device.transmits
  transmits_turns own = subst (λ z. Turns K w (ran w (device.at_link d z (λ k. device.sends_by d c e k (transmission k)))).world) (sym h.linked) (row_turns own (transmission l) refl)

  -- ---- timers

  -- the end is lighter after the step, by whatever it noted
  pub record Fell (w' : World) : Type 0 where
    pub turns : Turns K w w'
    pub after : Link
    pub linked : (at_end w' o).link ≡ Some after
    pub lighter : (x : Option Waited) → weight (K e.number) x after < weight (K e.number) x l

  -- the end with another link, whatever else changes in it
  abbrev made_on : (x : Context) (e' : End) (l' : Link) → x.name ≡ c.name → x.ends ≡ store_named (λ z. z.name) e.name e' c.ends → e'.name ≡ e.name → e'.number ≡ e.number → e'.link ≡ Some l' → GoesOn (K e.number) (Unit {0}) l l' → EndGoesOn (K e.number) (Unit {0}) c e l x
  made_on x e' l' named' ends name number linked' goes = record { named = named'; end = e'; ends = ends; name = name; number = number; link = l'; linked = linked'; goes = goes }

  fell : (x : Context) (a : Answer) (g : EndGoesOn (K e.number) (Unit {0}) c e l x) → ((y : Option Waited) → weight (K e.number) y g.link < weight (K e.number) y l) → Fell (ran w (device.answers (device.with_context d x) a)).world
  fell x a g lighter = record {
    turns = goes_turns x a [] g none_fresh;
    after = g.link;
    linked = link_after w o c e l there (ran w (device.answers (device.with_context d x) a)).world x (stored x a [] g) K _ g;
    lighter = lighter;
  }

  module _ (alive : l.ended ≡ false) (few : l.sender.spent ≤ l.terms.retry) where
    retry_small : l.terms.retry ≤ 7
    retry_small = subst (λ z. z.terms.retry ≤ 7) (link_is w m o l s h) (joined_here w m o l s h).terms.retry

    spent_fell : Fell (ran w (device.answers (device.with_context d (ended_with c e l status.RetryExceeded)) answers.Spent)).world
    unfolding ended_with ended_link words.with_unused words.completing words.with_queue words.with_end words.with_link
    spent_fell =
        fell (ended_with c e l status.RetryExceeded) answers.Spent
        (made_on (ended_with c e l status.RetryExceeded) (words.with_link (words.with_unused e []) (ended_link l)) (ended_link l) refl refl refl refl refl (over (K e.number) _ l (ended_link l) alive refl refl refl refl refl))
        (λ y. ends_lighter (K e.number) y l (ended_link l) alive refl refl)

    counted_fell : l.sender.spent ≢ l.terms.retry → Fell (ran w (device.answers (device.with_context d (linked c e (with_sender l (counted l.sender)))) (answers.Expired (l.sender.spent + 1)))).world
    unfolding with_sender words.with_end words.with_link end_of_queue
    counted_fell more =
        let l' : Link = with_sender l (counted l.sender) in
        let a : IsAlive l l' = record { alive = alive; alive' = alive; peer = refl; terms = refl; own = refl; ends = refl } in
        fell (linked c e l') (answers.Expired (l.sender.spent + 1))
        (made_on (linked c e l') (words.with_link e l') l' refl refl refl refl refl (counts (K e.number) _ l l' a refl refl refl refl refl more))
        (λ y. counts_lighter (K e.number) l l' a refl refl refl refl refl (omega (arith, few, retry_small)) y)

    counts_fell : (b : Bool) → (l.sender.spent == l.terms.retry) ≡ b → Fell (ran w (if b then device.answers (device.with_context d (ended_with c e l status.RetryExceeded)) answers.Spent else device.answers (device.with_context d (linked c e (with_sender l (counted l.sender)))) (answers.Expired (l.sender.spent + 1)))).world
    counts_fell true t = spent_fell
    counts_fell false t = counted_fell (λ g. grind (arith, nat_tests, eqb_tells l.sender.spent l.terms.retry, t, g))

    expires_fell : not_counted l ≡ None → Fell (ran w (device.expires d c e)).world
    unfolding device.expires device.counts
    expires_fell none =
        subst (λ z. Fell (ran w (device.at_link d z (λ k. device.expires_by d c e k (not_counted k)))).world) (sym h.linked)
        (subst (λ z. Fell (ran w (device.expires_by d c e l z)).world) (sym none) (counts_fell (l.sender.spent == l.terms.retry) refl))

    pub expire_fell : not_counted l ≡ None → Fell (world_step w (world_events.At (events.Expire o))).world
    unfolding refusing.refusal_of
    expire_fell none = subst (λ z. Fell z.world) (sym (stepped_done w (events.Expire o) h.live (connected_none w m o l h))) (expires_fell none)

  -- the RNR timer is over: the end is lighter with the note of that step
  pub record WaitedOut (w' : World) : Type 0 where
    pub turns : Turns K w w'
    pub after : Link
    pub linked : (at_end w' o).link ≡ Some after
    pub una : after.sender.una ≡ l.sender.una
    pub lighter : (v : World) (k : ObjName) (x : Option Waited) → may_step v l x ≡ true → weight (K e.number) (Some (record { end = k; una = l.sender.una; partner_ended = partner_ended v l })) after < weight (K e.number) x l

  module _ (wait : l.sender.rnr_wait ≡ true) where
    over_now : WaitedOut (ran w (device.answers (device.with_context d (linked c e (with_sender l (waited_out l.sender)))) answers.Over)).world
    unfolding with_sender words.with_end words.with_link end_of_queue
    over_now =
        let l' : Link = with_sender l (waited_out l.sender) in
        let x : Context = linked c e l' in
        let g : EndGoesOn (K e.number) (Unit {0}) c e l x = made_on x (words.with_link e l') l' refl refl refl refl refl (over_goes (K e.number) _ l l' refl refl refl refl refl refl refl refl refl) in
        record {
          turns = goes_turns x answers.Over [] g none_fresh;
          after = l';
          linked = link_after w o c e l there (ran w (device.answers (device.with_context d x) answers.Over)).world x (stored x answers.Over [] g) K _ g;
          una = refl;
          lighter = λ v k y may. over_lighter (K e.number) v k y l l' refl refl refl refl refl refl refl refl wait may;
        }

    waits_by : (b : Bool) → b ≡ true → WaitedOut (ran w (if b then device.answers (device.with_context d (linked c e (with_sender l (waited_out l.sender)))) answers.Over else device.answers d answers.NotWaiting)).world
    waits_by true t = over_now
    waits_by false t = absurd (cc)

    waits_over : WaitedOut (ran w (device.rnr_over d c e)).world
    unfolding device.rnr_over
    waits_over = subst (λ z. WaitedOut (ran w (device.at_link d z (λ k. device.waits_out d c e k))).world) (sym h.linked) (waits_by l.sender.rnr_wait wait)

    pub rnr_over_falls : WaitedOut (world_step w (world_events.At (events.RnrOver o))).world
    unfolding refusing.refusal_of
    rnr_over_falls = subst (λ z. WaitedOut z.world) (sym (stepped_done w (events.RnrOver o) h.live (connected_none w m o l h))) waits_over

-- an end transmits, or is refused
module _ (K : ℕ → ℕ) (w : World) (m : Machine) (o : ObjName) (s : Stands w m) (own : (l : Link) → (at_end w o).link ≡ Some l → l.moving.own ≡ K l.peer) where
  unturned : Turns K w w
  unturned = record { goes = unmoved K _ w w refl; more = []; sent = sym (append-nil w.sent); fresh = All-nil _ }

  transmit_done : is_live w o.context ≡ true → refusing.refusal_of (home w o.context) (events.Transmit o) ≡ None → Turns K w (ran w (device.done_by (home w o.context) (events.Transmit o))).world
  unfolding refusing.refusal_of live_context
  transmit_done live none =
      let there : machine.has_context m o.context ≡ true = is_there w m o.context s.placed ∙ ap (λ b. b || step.is_carried w o.context) live in
      let found = found_linked w m o s live there none in
      transmits_turns K w m o s found.0 found.1 (own found.0 (ap (λ c. (named (λ e. e.name) no_end o.name c.ends).link) (sym (live_context_is w o.context)) ∙ found.1.linked))

  pub transmit_turns : Turns K w (world_step w (world_events.At (events.Transmit o))).world
  transmit_turns = turned w m s (events.Transmit o) (Turns K w) unturned transmit_done
