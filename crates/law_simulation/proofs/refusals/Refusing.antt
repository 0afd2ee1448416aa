-- The end refuses the expected request: the next world stands for the machine that refused it.
use Rattle.std.proofs.Common.{arith, ◌≡◌, ◌≤◌, ◌+◌, ◌^◌, ℕ, List, [], ◌∷◌, ◌++◌, length, map, true, false, Bool, refl, sym, ap, ◌∙◌, subst}
use Rattle.std.specs.Prelude.{Option, is_some, slice_get, drop}
use Rattle.rdma_types.specs.declared.names.Name.{Name}
use Rattle.rdma_types.specs.declared.names.ObjName.{ObjName}
use Rattle.rdma_types.specs.declared.answers.Sent.{Sent}
use Rattle.rdma_types.specs.declared.answers.ArrivalEffect.{ArrivalEffect}
use Rattle.rdma_types.specs.declared.answers.RefusalReason.{RefusalReason}
use Rattle.rdma_types.specs.declared.requests.Completion.{Completion}
use Rattle.rdma_types.specs.declared.requests.Receive.{Receive}
use Rattle.rdma_types.specs.declared.requests.WcStatus.TheVariants as statuses
use Rattle.rdma_types.specs.Limits.{is_mtu}
use Rattle.rdma_types.specs.Lists.{has_name, has_word, named, store_named}
use Rattle.rdma_types.specs.Objects.{CompletionQueue, Region}
use Rattle.rdma_types.specs.Spans.{end_number, first_number}
use Rattle.protocol.specs.declared.wire.Syndrome.TheVariants.{Nak}
use Rattle.protocol.specs.State as state
use Rattle.protocol.specs.State.{World, Link, Sender, Progress, NoMessage, InSend, InWrite}
use Rattle.protocol.specs.Wire.{Packet}
use Rattle.protocol.specs.EndWords.{is_paused}
use Rattle.protocol.specs.Requester.{end_of_queue, ended_link}
use Rattle.protocol.specs.Responder.{acknowledge, nak_code}
use Rattle.protocol.specs.DeviceStep as device
use Rattle.protocol.specs.DeviceStep.{ended_step}
use Rattle.protocol.specs.WorldStep.{home, ran}
use Rattle.packetless_machine.specs.declared.reply.Reply.TheVariants.{Denied}
use Rattle.packetless_machine.specs.Machine as machine
use Rattle.packetless_machine.specs.Machine.{Machine, End, has_context, has_end, nobody, regions_of}
use Rattle.packetless_machine.specs.Numbers.{due}
use Rattle.packetless_machine.specs.Steps.{closed, denied, failed_receives, failed_requests, refuse, refuse_at, refused_entries, refused_queues, refused_receives, untold}
use Rattle.law_simulation.specs.Packets.{class_of, IsRequest}
use Rattle.law_simulation.specs.Facts.{IsRefused, is_access_denied}
use Rattle.law_simulation.specs.Joined.{IsProgress}
use Rattle.law_simulation.specs.Stands.{Stands, AreSame, IsContextSound, IsEndSound}
use Rattle.law_simulation.specs.Views.{link_or_none, in_rts, owned, owned_there, requests_of, side_of}
use Rattle.law_simulation.proofs.relation.Connecting.{live_not_carried}
use Rattle.law_simulation.proofs.relation.Ends.{with_more}
use Rattle.law_simulation.proofs.relation.Live.{live_name}
use Rattle.law_simulation.proofs.relation.Linked.{context_with, domain_there, end_changed}
use Rattle.law_simulation.proofs.relation.Machines as machines
use Rattle.law_simulation.proofs.relation.Machines.{MachineChanged, context_name, with_context_changed}
use Rattle.law_simulation.proofs.relation.Numbers.{first-rest}
use Rattle.law_simulation.proofs.relation.Tables.{name-named_there}
use Rattle.law_simulation.specs.Delivered as delivered
use Rattle.law_simulation.specs.Delivered.{Arrives}
use Rattle.law_simulation.proofs.delivery.Lifted.{IsAnswer, IsPairStep, side_now, sent_stands}
use Rattle.law_simulation.proofs.delivery.Pairs.{IsKept}
use Rattle.law_simulation.proofs.requests.Requests.{IsRequestAt, asker, asking, request_at_end}
use Rattle.law_simulation.proofs.requests.Replies.{IsTowards}
use Rattle.law_simulation.proofs.requests.Responding.{made_there}
use Rattle.law_simulation.proofs.requests.Counting.{apart, name_there, o_in, o_sound, owned_here, q_in, q_sound, q_there, same_here}
use Rattle.law_simulation.proofs.requests.Early.{same_due}
use Rattle.law_simulation.proofs.requests.Expected.{due_now, not_ended}
use Rattle.law_simulation.proofs.requests.Running.{changed_twice, there_after}
use Rattle.law_simulation.proofs.requests.Acted.{got_last}
use Rattle.law_simulation.proofs.refusals.Noted.{denied_sound}
use Rattle.law_simulation.proofs.refusals.Ending.{denying, end_near, over_back, over_here, over_link}
use Rattle.law_simulation.proofs.refusals.Shutting.{machine_queues, over_end, same_after, sound_after}
use Rattle.law_simulation.proofs.refusals.Dried.{one}
use Rattle.law_simulation.proofs.relation.InUse.{owned_of}

-- ---- the context of the machine

-- an end and the queues of a context change
end_and_queues : (m : Machine) (o : ObjName) (y : machine.Context) (f : End) (qs : List CompletionQueue) → machine.context_of m o.context ≡ y → has_name (λ z. z.name) o.name y.ends ≡ true →
    MachineChanged m (machine.with_queues (machine.with_end m o f) o.context qs) o.context (record y { ends = store_named (λ z. z.name) o.name f y.ends; queues = qs })
unfolding machine.with_queues has_end
end_and_queues m o y f qs here found =
    let m2 : Machine = machine.with_end m o f in
    let in_m : has_name (λ z. z.name) o.name (machine.context_of m o.context).ends ≡ true = ap (λ z. has_name (λ u. u.name) o.name z.ends) here ∙ found in
    let one : MachineChanged m m2 o.context (context_with m o f) = end_changed m o f (made_there m o in_m) in_m in
    let now : machine.context_of m2 o.context ≡ context_with m o f = machines.context_here m m2 o.context (context_with m o f) one in
    let two : MachineChanged m2 (machine.with_context m2 o.context (record (machine.context_of m2 o.context) { queues = qs })) o.context (record (machine.context_of m2 o.context) { queues = qs }) =
    with_context_changed m2 o.context (record (machine.context_of m2 o.context) { queues = qs }) (context_name m2 o.context) (there_after m m2 o.context (context_with m o f) one) in
    let is : record (machine.context_of m2 o.context) { queues = qs } ≡ record y { ends = store_named (λ z. z.name) o.name f y.ends; queues = qs } =
    (λ i. record (now i) { queues = qs }) ∙ (λ i. record (here i) { ends = store_named (λ u. u.name) o.name f (here i).ends; queues = qs }) in
    subst (MachineChanged m (machine.with_context m2 o.context (record (machine.context_of m2 o.context) { queues = qs })) o.context) is
    (changed_twice m m2 _ o.context (context_with m o f) (record (machine.context_of m2 o.context) { queues = qs }) one two)

-- ---- the numbers of an end

-- they end where those of the machine's end do
queue_ends : (l : Link) (s : Sender) (f : End) → l.terms.mtu ≡ f.mtu → s.untold ≡ drop f.told f.posted → s.first ≡ first_number f.posted f.mtu f.told → f.told ≤ length f.posted → end_of_queue l.terms s ≡ end_number f.posted f.mtu
unfolding end_of_queue
queue_ends l s f mtu rest first told =
    ap (λ k. k + end_number s.untold l.terms.mtu) first
    ∙ (ap (λ us. first_number f.posted f.mtu f.told + end_number us l.terms.mtu) rest
    ∙ (ap (λ k. first_number f.posted f.mtu f.told + end_number (drop f.told f.posted) k) mtu
    ∙ first-rest f.posted f.mtu f.told told))

-- the message of an end that failed is the same at its peer
progress_closed : (f : End) (domain : Name) (regions : List Region) (p : Progress) → IsProgress f domain regions p → IsProgress (closed f) domain regions p
unfolding closed
progress_closed f domain regions NoMessage h = h
progress_closed f domain regions (InSend done v) h = h
progress_closed f domain regions (InWrite region off count done) h = h

-- ---- the step

module _ (w : World) (m : Machine) (o : ObjName) (l : Link) (number : Option ℕ) (bytes : List ℕ) (d : Packet) (a : Arrives w m o l number bytes d) (is : class_of d ≡ IsRequest) (paused : is_paused l.moving.phase ≡ false) (now : (request_at_end w m o l number bytes d a is).0 ≡ l.receiver.expected) (why : RefusalReason) where
  abbrev n : ℕ
  n = (request_at_end w m o l number bytes d a is).0

  abbrev it : IsRequestAt w m o l n d
  it = (request_at_end w m o l number bytes d a is).2

  abbrev q : ObjName
  q = asker m o

  abbrev g : End
  g = machine.end_of m q

  abbrev x : End
  x = machine.end_of m o

  abbrev c : state.Context
  c = delivered.context_there w o

  abbrev e : state.End
  e = delivered.end_there w o

  abbrev y : machine.Context
  y = machine.context_of m o.context

  -- the requests, then
  abbrev g' : End
  g' = denying g why

  abbrev m1 : Machine
  m1 = machine.with_end m q g'

  abbrev es : List Completion
  es = refused_entries x why

  abbrev rs : List Receive
  rs = refused_receives x why

  abbrev queues : List CompletionQueue
  queues = with_more (with_more (with_more y.queues x.receive_queue es) x.send_queue (failed_requests x.number statuses.Flush (untold x))) x.receive_queue (failed_receives x.number rs)

  -- the two contexts, then
  abbrev pub there : state.Context
  there = record c { ends = store_named (λ z. z.name) o.name (over_end e l) c.ends; queues = queues }

  abbrev pub here : machine.Context
  here = record y { ends = store_named (λ z. z.name) o.name (closed x) y.ends; queues = queues }

  found : has_name (λ z. z.name) o.name y.ends ≡ true
  found = o_in w m o l n d a.stands a.live a.linked it

  pub e_name : e.name ≡ o.name
  e_name = name_there w m o l n d a.stands a.live a.linked it

  both : owned_there e ≡ owned x
  both = owned_here w m o l n d a.stands a.live a.linked it

  pub x_connected : x.connected ≡ true
  unfolding owned owned_there
  x_connected = ap (λ z. z.connected) (sym both) ∙ ap is_some a.linked

  sound_now : IsEndSound (regions_of m o.context) (map (λ z. z.name) y.queues) x
  sound_now = o_sound w m o l n d a.stands a.live a.linked it

  domain_now : has_word x.domain y.domains ≡ true
  domain_now = domain_there m o found (a.stands.sound o.context)

  same_now : AreSame c y
  same_now = same_here w m o l n d a.stands a.live a.linked it

  same_then : AreSame there here
  same_then = same_after m.keys c y o.name e x l same_now (a.stands.sound o.context) found e_name a.linked both x_connected domain_now sound_now es rs

  sound_then : IsContextSound m.keys here
  sound_then = sound_after m.keys c y o.name e x l same_now (a.stands.sound o.context) found e_name a.linked both x_connected domain_now sound_now es rs

  queues_then : refused_queues x why y.queues ≡ queues
  unfolding refused_queues
  queues_then = machine_queues m.keys c y o.name e x l same_now (a.stands.sound o.context) found e_name a.linked both x_connected domain_now sound_now es rs

  -- ---- the machine

  q_made : has_end m q ≡ true
  q_made = q_there w m o l n d a.stands a.live a.linked it

  first_change : MachineChanged m m1 q.context (context_with m q g')
  first_change = end_changed m q g' (made_there m q q_made) (q_in w m o l n d a.stands a.live a.linked it)

  other_context : machine.context_of m1 o.context ≡ y
  other_context = machines.context_other m m1 q.context (context_with m q g') first_change o.context (λ h. apart w m o l n d a.stands a.live a.linked it (sym h))

  other_end : machine.end_of m1 o ≡ x
  unfolding machine.end_of
  other_end = ap (λ z. named (λ u. u.name) (nobody o) o.name z.ends) other_context

  refuse_is : refuse m q why ≡ machine.with_queues (machine.with_end m1 o (closed x)) o.context queues
  unfolding refuse refuse_at denied
  refuse_is =
      ap (λ (j : ObjName). machine.with_queues (machine.in_end m1 j closed) j.context (refused_queues (machine.end_of m j) why (machine.context_of m j.context).queues)) it.joined.back
      ∙ (λ i. machine.with_queues (machine.with_end m1 o (closed (other_end i))) o.context (queues_then i))

  second_change : MachineChanged m1 (refuse m q why) o.context here
  second_change = subst (λ z. MachineChanged m1 z o.context here) (sym refuse_is) (end_and_queues m1 o y (closed x) queues other_context found)

  numbers_same : (refuse m q why).numbers ≡ m.numbers
  unfolding refuse refuse_at machine.with_queues machine.with_end machine.with_context
  numbers_same = refl

  keys_same : (refuse m q why).keys ≡ m.keys
  unfolding refuse refuse_at machine.with_queues machine.with_end machine.with_context
  keys_same = refl

  -- ---- the connection

  abbrev last : ℕ
  last = end_of_queue l.terms l.sender

  x_mtu : l.terms.mtu ≡ x.mtu
  x_mtu = ap (λ (z : Link). z.terms.mtu) (sym it.link) ∙ it.joined.mtu

  untold_now : l.sender.untold ≡ drop x.told x.posted
  unfolding owned owned_there link_or_none untold
  untold_now = ap (λ z. (link_or_none z).sender.untold) (sym a.linked) ∙ ap (λ z. z.untold) both

  first_now : l.sender.first ≡ first_number x.posted x.mtu x.told
  first_now = ap (λ (z : Link). z.sender.first) (sym it.link) ∙ (it.joined.sends it.rts).first

  last_is : last ≡ end_number x.posted x.mtu
  last_is = queue_ends l l.sender x x_mtu untold_now first_now sound_now.sound.told_posted

  x_is_mtu : is_mtu x.mtu ≡ true
  x_is_mtu = subst (λ k. is_mtu k ≡ true) it.joined.mtu it.joined.terms.mtu

  near_now : end_number x.posted x.mtu ≤ due (requests_of x) + 2 ^ 20
  near_now = omega (arith, same_due x, end_near x sound_now.sound x_is_mtu (not_ended w m o l number bytes d a is paused now) sound_now.depth)

  not_carried : (side_of w o).carried ≡ false
  not_carried = live_not_carried w m o.context a.stands.placed a.live

  kept_here : IsKept o (side_of w o) (side_now (side_of w o) (ended_link l)) (side_of w q) (side_of w q) (requests_of x) (requests_of (closed x)) (requests_of g) (requests_of g')
  unfolding ended_link closed
  kept_here =
      subst (λ z. IsKept o (side_of w o) (side_now (side_of w o) (over_link z last)) (side_of w q) (side_of w q) (requests_of x) (requests_of (closed x)) (requests_of g) (requests_of g')) it.link
      (over_here o q (side_of w o) (side_of w q) (requests_of x) (asking m o) last why it.rts not_carried it.joined it.back last_is near_now)

  kept_back : IsKept q (side_of w q) (side_of w q) (side_of w o) (side_now (side_of w o) (ended_link l)) (requests_of g) (requests_of g') (requests_of x) (requests_of (closed x))
  unfolding ended_link closed
  kept_back =
      subst (λ z. IsKept q (side_of w q) (side_of w q) (side_of w o) (side_now (side_of w o) (over_link z last)) (requests_of g) (requests_of g') (requests_of x) (requests_of (closed x))) it.link
      (over_back o q (side_of w o) (side_of w q) (requests_of x) (asking m o) last why it.rts not_carried it.joined it.back last_is near_now)

  q_connected : g.connected ≡ true
  unfolding owned owned_there
  q_connected = ap (λ z. z.connected) (sym (owned_of w m a.stands q q_made)) ∙ it.joined.connected

  o_name : x.name ≡ o.name
  unfolding machine.end_of
  o_name = name-named_there (λ z. z.name) (nobody o) o.name y.ends found

  progress_now : in_rts w q ≡ true → IsProgress (requests_of (closed x)) g'.domain (regions_of m q.context) (side_of w q).link.receiver.progress
  unfolding closed
  progress_now rts = progress_closed (requests_of x) g.domain (regions_of m q.context) (side_of w q).link.receiver.progress (a.stands.progress o it.live rts)

  peer_same : owned g' ≡ owned g
  unfolding owned untold
  peer_same = refl

  pair_step : IsPairStep w m (refuse m q why) o (ended_link l) there here (closed x) g'
  unfolding closed ended_link
  pair_step = record {
    end = over_end e l;
    named = live_name w o.context a.live;
    ends = refl;
    end_name = e_name;
    link = refl;
    between = m1;
    first = first_change;
    second = second_change;
    numbers = numbers_same;
    keys = keys_same;
    machine_ends = refl;
    machine_name = o_name;
    machine_number = refl;
    machine_peer = refl;
    peer_owned = peer_same;
    peer_peer = refl;
    same = same_then;
    sound = sound_then;
    peer_sound = denied_sound _ _ g why q_connected it.receives.answered (q_sound w m o l n d a.stands a.live a.linked it);
    here = kept_here;
    back = kept_back;
    progress_there = progress_now;
    progress_here = λ h. absurd (cc);
    progress_others = λ z domain p h. h;
  }

  -- ---- the NAK

  pub towards : IsTowards l (side_of w q) (requests_of g')
  towards = record { connected = it.towards.connected; number = it.towards.number; said = it.towards.said; start = it.towards.start }

  pub refused_now : (b : Bool) → is_access_denied why ≡ b → IsRefused (requests_of g') n b
  unfolding due
  refused_now b h = record {
    due = due_now w m o l number bytes d a is paused now;
    why = why;
    answer = ap (slice_get (g.answers ++ Denied why ∷ [])) (sym it.receives.answered) ∙ got_last g.answers (Denied why);
    matches = h;
  }

  abbrev nak : Sent
  nak = acknowledge l n (Nak (nak_code why))

  abbrev pub IsNak : Type 0
  IsNak = IsAnswer (side_of w q) (side_now (side_of w o) (ended_link l)) (requests_of g') (requests_of (closed x)) nak

  -- the next world stands for the next machine, once the NAK is on its way
  pub refused_stands : (t : ArrivalEffect) → IsNak → Stands (ran w (ended_step (home w o.context) (record { context = there; took = t; sent = nak ∷ [] }))).world (refuse m q why)
  refused_stands t answer =
      sent_stands w m (refuse m q why) o (ended_link l) there here (closed x) g' (device.took_answer t (nak ∷ [])) a.stands a.live it.live pair_step (nak ∷ [])
      (one (IsAnswer (side_of w q) (side_now (side_of w o) (ended_link l)) (requests_of g') (requests_of (closed x))) nak answer)
