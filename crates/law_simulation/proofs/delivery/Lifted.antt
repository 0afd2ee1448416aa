-- A step of an end that lives in Rts, and of the machine at the two ends of its connection: what is to be shown of these
-- two alone, so that the next world stands for the next machine.
use Rattle.std.proofs.Common.{◌≡◌, ◌≢◌, zero, suc, List, [], ◌∷◌, ◌++◌, map, true, false, Bool, refl, sym, ap, ◌∙◌, subst, inl, inr}
use Rattle.std.specs.Prelude.{Some, is_some, not, ◌&&◌, flat_map, Contains, All, bytes_eq}
use Rattle.std.proofs.lemmas.List.Elements.{All-head, All-tail, All-weaker}
use Rattle.rdma_types.specs.declared.names.Name.{Name}
use Rattle.rdma_types.specs.declared.names.ObjName.{ObjName}
use Rattle.rdma_types.specs.declared.requests.Address.{Address}
use Rattle.rdma_types.specs.declared.answers.Answer.{Answer}
use Rattle.rdma_types.specs.declared.answers.Sent.{Sent}
use Rattle.rdma_types.specs.declared.answers.ArrivalEffect.{ArrivalEffect}
use Rattle.rdma_types.specs.Lists.{named, has_name, has_word, store_named}
use Rattle.protocol.specs.State as state
use Rattle.protocol.specs.State.{World, Flight, Link, Progress, no_end, end_at}
use Rattle.protocol.specs.Fabric.{sending, flight_of}
use Rattle.protocol.specs.Wire.{Packet, packet_of}
use Rattle.protocol.specs.DeviceStep as device
use Rattle.protocol.specs.DeviceStep.{ended_step}
use Rattle.protocol.specs.WorldStep as step
use Rattle.protocol.specs.WorldStep.{is_live, home, ran}
use Rattle.packetless_machine.specs.Machine as machine
use Rattle.packetless_machine.specs.Machine.{Machine, End, has_end, has_context, regions_of, nobody}
use Rattle.law_simulation.specs.Views.{Side, Net, net_of, peer, context_of, end_of, in_rts, is_connected, link_or_none, owned, name_at, numbered, numbered_ends, requests_of, side_of}
use Rattle.law_simulation.specs.Joined.{IsProgress}
use Rattle.law_simulation.specs.Facts.{Fact, BytesFact, PacketFact}
use Rattle.law_simulation.specs.Stands.{Stands, AreCounted, AreNumbered, AreSame, AreSent, AreLeft, IsContextSound, IsEndSound}
use Rattle.law_simulation.proofs.relation.Tables.{map-store, has_name-store, named-store_same, named-store_other, name-named_there, name_or_not, same_name}
use Rattle.law_simulation.proofs.relation.Worlds as worlds
use Rattle.law_simulation.proofs.relation.Worlds.{WorldChanged, home_context, home_holds}
use Rattle.law_simulation.proofs.relation.Verbs.{ran_same}
use Rattle.law_simulation.proofs.relation.Machines as machines
use Rattle.law_simulation.proofs.relation.Machines.{MachineChanged, context_name}
use Rattle.law_simulation.proofs.relation.Kept.{placed_like, counted_kept, same_kept}
use Rattle.law_simulation.proofs.relation.EventNetwork.{sent_changed}
use Rattle.law_simulation.proofs.relation.Grown.{are_made}
use Rattle.law_simulation.proofs.relation.Grows as grows
use Rattle.law_simulation.proofs.relation.Grows.{IsConnected}
use Rattle.law_simulation.proofs.relation.Linked.{connected_sound, context_with, domain_there}
use Rattle.law_simulation.proofs.relation.Connecting.{end_stored_here, end_stored_other, side_like}
use Rattle.law_simulation.proofs.relation.Live.{home_changed, home_counts}
use Rattle.law_simulation.specs.Delivered as delivered
use Rattle.law_simulation.proofs.delivery.Arriving.{same_device}
use Rattle.law_simulation.proofs.delivery.Pairs.{IsKept, PairChanges, joined_pair, left_pair, sent_pair, progressing_pair}

-- the side of an end whose link becomes another
abbrev pub side_now : Side → Link → Side
side_now x l = record x { link = l; rts = not l.ended }

-- the end o, which lives in Rts, comes to the link l', in the context x'; the machine comes to have it as f', in the
-- context y, and its peer as g'
pub record IsPairStep (w : World) (m m' : Machine) (o : ObjName) (l' : Link) (x' : state.Context) (y : machine.Context) (f' g' : End) : Type 0 where
  -- the world's context
  pub end : state.End
  pub named : x'.name ≡ o.context
  pub ends : x'.ends ≡ store_named (λ z. z.name) o.name end (delivered.context_there w o).ends
  pub end_name : end.name ≡ o.name
  pub link : end.link ≡ Some l'
  -- the machine's contexts: that of the peer, and then that of o
  pub between : Machine
  pub first : MachineChanged m between (machine.end_of m o).peer.context (context_with m (machine.end_of m o).peer g')
  pub second : MachineChanged between m' o.context y
  pub numbers : m'.numbers ≡ m.numbers
  pub keys : m'.keys ≡ m.keys
  pub machine_ends : y.ends ≡ store_named (λ z. z.name) o.name f' (machine.context_of m o.context).ends
  pub machine_name : f'.name ≡ o.name
  pub machine_number : f'.number ≡ (machine.end_of m o).number
  pub machine_peer : f'.peer ≡ (machine.end_of m o).peer
  pub peer_owned : owned g' ≡ owned (machine.end_of m (machine.end_of m o).peer)
  pub peer_peer : g'.peer ≡ (machine.end_of m (machine.end_of m o).peer).peer
  -- both sides of both contexts
  pub same : AreSame x' y
  pub sound : IsContextSound m.keys y
  pub peer_sound : IsEndSound (regions_of m (machine.end_of m o).peer.context) (map (λ q. q.name) (machine.context_of m (machine.end_of m o).peer.context).queues) g'
  -- the two ends of the connection
  pub here : IsKept o (side_of w o) (side_now (side_of w o) l') (side_of w (machine.end_of m o).peer) (side_of w (machine.end_of m o).peer) (requests_of (machine.end_of m o)) (requests_of f') (requests_of (machine.end_of m (machine.end_of m o).peer)) (requests_of g')
  pub back : IsKept (machine.end_of m o).peer (side_of w (machine.end_of m o).peer) (side_of w (machine.end_of m o).peer) (side_of w o) (side_now (side_of w o) l') (requests_of (machine.end_of m (machine.end_of m o).peer)) (requests_of g') (requests_of (machine.end_of m o)) (requests_of f')
  -- messages in progress: of this connection, and of the others
  pub progress_there : in_rts w (machine.end_of m o).peer ≡ true → IsProgress (requests_of f') g'.domain (regions_of m (machine.end_of m o).peer.context) (side_of w (machine.end_of m o).peer).link.receiver.progress
  pub progress_here : l'.ended ≡ false → IsProgress (requests_of g') f'.domain y.regions l'.receiver.progress
  pub progress_others : (q : End) (domain : Name) (p : Progress) → IsProgress q domain (regions_of m o.context) p → IsProgress q domain y.regions p

-- ---- datagrams that are sent

-- a datagram that the end x sends to its peer p, which the machine has as g and e
pub record IsAnswer (p x : Side) (e g : End) (z : Sent) : Type 0 where
  pub packet : Packet
  pub read : packet_of z.bytes ≡ Some packet
  pub fact : PacketFact p x e g z.number z.bytes packet

pub both_sent : (n : Net) (xs ys : List Flight) → AreSent n xs → AreSent n ys → AreSent n (xs ++ ys)
both_sent n [] ys a b k f h = b k f h
both_sent n (x ∷ xs) ys a b zero f h = a zero f h
both_sent n (x ∷ xs) ys a b (suc k) f h = both_sent n xs ys (λ j g. a (suc j) g) b k f h

pub answers_sent : (n : Net) (from : Address) (sent : List Sent) → All (λ z. Fact n (flight_of from z)) sent → AreSent n (map (flight_of from) sent)
answers_sent n from [] facts k f h = absurd (cc)
answers_sent n from (z ∷ sent) facts zero f h = let is : flight_of from z ≡ f = cc in subst (Fact n) is (All-head (λ u. Fact n (flight_of from u)) z sent facts)
answers_sent n from (z ∷ sent) facts (suc k) f h = answers_sent n from sent (All-tail (λ u. Fact n (flight_of from u)) z sent facts) k f h

-- what is sent goes into the store
pub sent_world : (w : World) (d : state.Device) (a : Answer) (sent : List Sent) → (ran w (device.gives d a sent)).world ≡ record ((ran w (device.answers d a)).world) { sent = sending w.sent d.address sent }
unfolding ran step.with_device
sent_world w d a sent = refl

-- an end that changes nothing, where the machine makes no step, and sends datagrams whose facts hold
pub unchanged_sent : (w : World) (m : Machine) (o : ObjName) (t : ArrivalEffect) (sent : List Sent) → Stands w m → is_live w o.context ≡ true → All (λ z. Fact (net_of w m) (flight_of (home w o.context).address z)) sent →
    Stands (ran w (ended_step (home w o.context) (record { context = delivered.context_there w o; took = t; sent = sent }))).world m
unfolding sending
unchanged_sent w m o t sent s live facts =
    let same : device.with_context (home w o.context) (delivered.context_there w o) ≡ home w o.context = same_device (home w o.context) o.context (home_holds w o.context live) in
    subst (λ d. Stands (ran w (device.gives d (device.took_answer t sent) sent)).world m) (sym same)
    (subst (λ z. Stands z m) (sym (sent_world w (home w o.context) (device.took_answer t sent) sent ∙ ap (λ (z : World). record z { sent = sending w.sent (home w o.context).address sent }) (ran_same w m o.context (device.took_answer t sent) s.placed live)))
    (sent_changed w m (sending w.sent (home w o.context).address sent) s (both_sent (net_of w m) w.sent _ s.sent (answers_sent (net_of w m) (home w o.context).address sent facts))))

-- a datagram of the end o for its peer has its fact
pub answer_fact : (w : World) (m : Machine) (o : ObjName) (from : Address) (z : Sent) → Stands w m → is_connected w o ≡ true → IsAnswer (side_of w (machine.end_of m o).peer) (side_of w o) (requests_of (machine.end_of m (machine.end_of m o).peer)) (requests_of (machine.end_of m o)) z → Fact (net_of w m) (flight_of from z)
answer_fact w m o from z s connected h =
    let n : Net = net_of w m in
    let q : ObjName = (machine.end_of m o).peer in
    let name : n.name h.packet.dest ≡ q = ap n.name (sym h.fact.dest) ∙ s.numbered.named q (are_made w m s q (s.joined o connected).connected) in
    let back : peer n q ≡ o = (s.joined o connected).back in
    subst (λ r. BytesFact n z.number z.bytes r) (sym h.read)
    (subst (λ j. PacketFact (n.side j) (n.side (peer n j)) (n.end j) (n.end (peer n j)) z.number z.bytes h.packet) (sym name)
    (subst (λ j. PacketFact (n.side q) (n.side j) (n.end q) (n.end j) z.number z.bytes h.packet) (sym back) h.fact))

-- ---- the lift

module _ (w : World) (m m' : Machine) (o : ObjName) (l' : Link) (x' : state.Context) (y : machine.Context) (f' g' : End) (a : Answer) (s : Stands w m) (live : is_live w o.context ≡ true) (connected : is_connected w o ≡ true) (p : IsPairStep w m m' o l' x' y f' g') where
  abbrev q : ObjName
  q = (machine.end_of m o).peer

  abbrev w' : World
  w' = (ran w (device.answers (device.with_context (home w o.context) x') a)).world

  abbrev n : Net
  n = net_of w m

  abbrev n' : Net
  n' = net_of w' m'

  apart : q.context ≢ o.context
  apart e = absurd (cc ((s.joined o connected).apart, ap (λ z. bytes_eq z o.context) e, same_name o.context))

  apart' : o.context ≢ q.context
  apart' e = apart (sym e)

  q_connected : is_connected w q ≡ true
  q_connected = (s.joined o connected).connected

  o_there : has_end m o ≡ true
  o_there = are_made w m s o connected

  q_there : has_end m q ≡ true
  q_there = are_made w m s q q_connected

  o_in : has_name (λ z. z.name) o.name (machine.context_of m o.context).ends ≡ true
  unfolding has_end
  o_in = o_there

  q_in : has_name (λ z. z.name) q.name (machine.context_of m q.context).ends ≡ true
  unfolding has_end
  q_in = q_there

  cw : WorldChanged w w' o.context x'
  cw = home_changed w m o.context x' (home w o.context) a s.placed live p.named refl refl

  -- ---- the world

  ends_now : x'.ends ≡ store_named (λ z. z.name) o.name p.end (context_of w o.context).ends
  ends_now = p.ends ∙ ap (λ c. store_named (λ z. z.name) o.name p.end c.ends) (home_context w o.context live)

  link_after : (end_of w' o).link ≡ Some l'
  link_after = ap (λ e. e.link) (end_stored_here w w' o x' p.end cw ends_now p.end_name) ∙ p.link

  side_after : side_of w' o ≡ side_now (side_of w o) l'
  unfolding in_rts link_or_none
  side_after =
      let place = worlds.place_same w w' o.context cw.shapes in
      λ i. record {
        link = link_or_none (link_after i);
        connected = (ap is_some link_after ∙ sym connected) i;
        rts = is_some (link_after i) && not (link_or_none (link_after i)).ended;
        carried = has_name (λ z. z.name) o.context (cw.carried i);
        place = place i;
      }

  side_other : (k : ObjName) → (k ≢ o) → side_of w' k ≡ side_of w k
  side_other k ne = side_like w w' o.context x' k cw (ap (λ e. e.link) (end_stored_other w w' o k x' p.end cw ends_now p.end_name ne))

  -- ---- the machine

  context_between : machine.context_of p.between o.context ≡ machine.context_of m o.context
  context_between = machines.context_other m p.between q.context _ p.first o.context apart'

  q_name : g'.name ≡ q.name
  unfolding owned machine.end_of
  q_name = ap (λ z. z.name) p.peer_owned ∙ name-named_there (λ z. z.name) (nobody q) q.name (machine.context_of m q.context).ends q_in

  end_here : machine.end_of m' o ≡ f'
  unfolding machine.end_of
  end_here =
      ap (λ c. named (λ z. z.name) (nobody o) o.name c.ends) (machines.context_here p.between m' o.context y p.second)
      ∙ (ap (named (λ z. z.name) (nobody o) o.name) p.machine_ends ∙ named-store_same (λ z. z.name) (nobody o) o.name f' (machine.context_of m o.context).ends p.machine_name)

  end_peer : machine.end_of m' q ≡ g'
  unfolding machine.end_of
  end_peer =
      ap (λ c. named (λ z. z.name) (nobody q) q.name c.ends) (machines.context_other p.between m' o.context y p.second q.context apart ∙ machines.context_here m p.between q.context _ p.first)
      ∙ named-store_same (λ z. z.name) (nobody q) q.name g' (machine.context_of m q.context).ends q_name

  end_other : (k : ObjName) → (k ≢ o) → (k ≢ q) → machine.end_of m' k ≡ machine.end_of m k
  end_other k ne nf =
      machines.end_part_same p.between m' o.context y p.second (λ z. z) k
      (λ c.
      ap (named (λ z. z.name) (nobody k) k.name) p.machine_ends
      ∙ (named-store_other (λ z. z.name) (nobody k) o.name k.name f' (machine.context_of m o.context).ends p.machine_name (λ h. ne (λ i. record { context = c i; name = h i }))
      ∙ ap (λ z. named (λ u. u.name) (nobody k) k.name z.ends) (sym context_between)))
      ∙ machines.end_part_same m p.between q.context _ p.first (λ z. z) k
      (λ c. named-store_other (λ z. z.name) (nobody k) q.name k.name g' (machine.context_of m q.context).ends q_name (λ h. nf (λ i. record { context = c i; name = h i })))

  there_same : (k : ObjName) → has_end m' k ≡ has_end m k
  there_same k =
      machines.there_same p.between m' o.context y p.second k
      (λ j. ap (has_name (λ z. z.name) j) p.machine_ends ∙ (has_name-store (λ z. z.name) o.name j f' (machine.context_of m o.context).ends o_in p.machine_name ∙ ap (λ c. has_name (λ z. z.name) j c.ends) (sym context_between)))
      ∙ machines.there_same m p.between q.context _ p.first k (λ j. has_name-store (λ z. z.name) q.name j g' (machine.context_of m q.context).ends q_in q_name)

  name_there : (machine.end_of m o).name ≡ o.name
  unfolding machine.end_of
  name_there = name-named_there (λ z. z.name) (nobody o) o.name (machine.context_of m o.context).ends o_in

  numbered_second : numbered y ≡ numbered (machine.context_of p.between o.context)
  unfolding machine.end_of
  numbered_second =
      let named' : y.name ≡ (machine.context_of m o.context).name = p.second.named ∙ sym (context_name m o.context) in
      (λ i. map (λ z. (z.number, record { context = named' i; name = z.name })) (p.machine_ends i))
      ∙ (map-store (λ z. (z.number, record { context = (machine.context_of m o.context).name; name = z.name })) (λ z. z.name) (nobody o) o.name f' (machine.context_of m o.context).ends o_in
      (λ i. (p.machine_number i, record { context = (machine.context_of m o.context).name; name = (p.machine_name ∙ sym name_there) i }))
      ∙ ap numbered (sym context_between))

  numbered_first : numbered (context_with m q g') ≡ numbered (machine.context_of m q.context)
  unfolding machine.end_of owned
  numbered_first =
      map-store (λ z. (z.number, record { context = (machine.context_of m q.context).name; name = z.name })) (λ z. z.name) (nobody q) q.name g' (machine.context_of m q.context).ends q_in
      (λ i. ((p.peer_owned i).number, record { context = (machine.context_of m q.context).name; name = (p.peer_owned i).name }))

  listed : numbered_ends m' ≡ numbered_ends m
  listed = machines.listed_same p.between m' o.context y p.second numbered_second ∙ machines.listed_same m p.between q.context _ p.first numbered_first

  number_same : (k : ObjName) → (machine.end_of m' k).number ≡ (machine.end_of m k).number
  unfolding owned
  number_same k = elim (grows.object_or_not k o) [
    | inl e ↦ ap (λ j. (machine.end_of m' j).number) e ∙ (ap (λ z. z.number) end_here ∙ (p.machine_number ∙ ap (λ j. (machine.end_of m j).number) (sym e)))
    | inr ne ↦ elim (grows.object_or_not k q) [
      | inl e ↦ ap (λ j. (machine.end_of m' j).number) e ∙ (ap (λ z. z.number) end_peer ∙ (ap (λ z. z.number) p.peer_owned ∙ ap (λ j. (machine.end_of m j).number) (sym e)))
      | inr nf ↦ ap (λ z. z.number) (end_other k ne nf)
    ]
  ]

  peer_same : (k : ObjName) → (machine.end_of m' k).peer ≡ (machine.end_of m k).peer
  peer_same k = elim (grows.object_or_not k o) [
    | inl e ↦ ap (λ j. (machine.end_of m' j).peer) e ∙ (ap (λ z. z.peer) end_here ∙ (p.machine_peer ∙ ap (λ j. (machine.end_of m j).peer) (sym e)))
    | inr ne ↦ elim (grows.object_or_not k q) [
      | inl e ↦ ap (λ j. (machine.end_of m' j).peer) e ∙ (ap (λ z. z.peer) end_peer ∙ (p.peer_peer ∙ ap (λ j. (machine.end_of m j).peer) (sym e)))
      | inr nf ↦ ap (λ z. z.peer) (end_other k ne nf)
    ]
  ]

  q_not_o : q ≢ o
  q_not_o e = apart (ap (λ k. k.context) e)

  connected_same : (k : ObjName) → (side_of w' k).connected ≡ (side_of w k).connected
  connected_same k = elim (grows.object_or_not k o) [
    | inl e ↦ ap (λ j. (side_of w' j).connected) e ∙ (ap (λ z. z.connected) side_after ∙ ap (λ j. (side_of w j).connected) (sym e))
    | inr ne ↦ ap (λ z. z.connected) (side_other k ne)
  ]

  -- ---- the net of all ends

  kept_as : {k : ObjName} {x x1 x2 z z1 z2 : Side} {e e1 e2 g g1 g2 : End} → x2 ≡ x1 → z2 ≡ z1 → e2 ≡ e1 → g2 ≡ g1 → IsKept k x x1 z z1 e e1 g g1 → IsKept k x x2 z z2 e e2 g g2
  kept_as {k} {x} {x1} {x2} {z} {z1} {z2} {e} {e1} {e2} {g} {g1} {g2} b c d h i =
      subst (λ u. IsKept k x u z z2 e e2 g g2) (sym b) (subst (λ u. IsKept k x x1 z u e e2 g g2) (sym c) (subst (λ u. IsKept k x x1 z z1 e u g g2) (sym d) (subst (λ u. IsKept k x x1 z z1 e e1 g u) (sym h) i)))

  pub changes : PairChanges n n' o
  changes = record {
    peers = peer_same;
    connected = connected_same;
    sides = λ k ne nf. side_other k ne;
    ends = λ k ne nf. ap requests_of (end_other k ne nf);
    names = λ k. ap (λ xs. name_at xs k) listed;
    here = kept_as side_after (side_other q q_not_o) (ap requests_of end_here) (ap requests_of end_peer) p.here;
    back = kept_as (side_other q q_not_o) side_after (ap requests_of end_peer) (ap requests_of end_here) p.back;
  }

  -- ---- the relation

  made_same : map (λ c. c.name) m'.contexts ≡ map (λ c. c.name) m.contexts
  made_same = machines.names_same p.between m' o.context y p.second ∙ machines.names_same m p.between q.context _ p.first

  same_first : (k : Name) → AreSame (context_of w k) (machine.context_of p.between k)
  unfolding machine.end_of
  same_first k = elim (name_or_not k q.context) [
    | inl e ↦
        let before = s.same q.context in
        let is : AreSame (context_of w q.context) (context_with m q g') = record {
          domains = before.domains;
          regions = before.regions;
          queues = before.queues;
          ends = before.ends ∙ sym (map-store owned (λ z. z.name) (nobody q) q.name g' (machine.context_of m q.context).ends q_in p.peer_owned);
        } in
        subst (λ j. AreSame (context_of w j) (machine.context_of p.between j)) (sym e) (subst (AreSame (context_of w q.context)) (sym (machines.context_here m p.between q.context _ p.first)) is)
    | inr ne ↦ subst (AreSame (context_of w k)) (sym (machines.context_other m p.between q.context _ p.first k ne)) (s.same k)
  ]

  same_all : (k : Name) → AreSame (context_of w' k) (machine.context_of m' k)
  same_all = same_kept w w' p.between m' o.context x' y cw p.second p.same same_first

  q_domain : has_word g'.domain (machine.context_of m q.context).domains ≡ true
  unfolding owned
  q_domain = ap (λ z. has_word z.domain (machine.context_of m q.context).domains) p.peer_owned ∙ domain_there m q q_in (s.sound q.context)

  sound_first : (k : Name) → IsContextSound m.keys (machine.context_of p.between k)
  sound_first k = elim (name_or_not k q.context) [
    | inl e ↦ subst (λ j. IsContextSound m.keys (machine.context_of p.between j)) (sym e)
        (subst (IsContextSound m.keys) (sym (machines.context_here m p.between q.context _ p.first))
        (connected_sound m.keys (machine.context_of m q.context) q.name (nobody q) g' q_in q_name q_domain p.peer_sound (s.sound q.context)))
    | inr ne ↦ subst (IsContextSound m.keys) (sym (machines.context_other m p.between q.context _ p.first k ne)) (s.sound k)
  ]

  sound_all : (k : Name) → IsContextSound m'.keys (machine.context_of m' k)
  sound_all k = subst (λ ks. IsContextSound ks (machine.context_of m' k)) (sym p.keys) (elim (name_or_not k o.context) [
    | inl e ↦ subst (λ j. IsContextSound m.keys (machine.context_of m' j)) (sym e) (subst (IsContextSound m.keys) (sym (machines.context_here p.between m' o.context y p.second)) p.sound)
    | inr ne ↦ subst (IsContextSound m.keys) (sym (machines.context_other p.between m' o.context y p.second k ne)) (sound_first k)
  ])

  numbering : AreNumbered n' (numbered_ends m') m'.numbers
  numbering = subst (AreNumbered n' (numbered_ends m')) (sym p.numbers) (record {
    given = subst (All (λ z. Contains m.numbers z.0)) (sym listed) s.numbered.given;
    named = λ k h. ap (λ xs. name_at xs (machine.end_of m' k).number) listed ∙ (ap (name_at (numbered_ends m)) (number_same k) ∙ s.numbered.named k (sym (there_same k) ∙ h));
  })

  regions_here : regions_of m' o.context ≡ y.regions
  regions_here = ap (λ c. c.regions) (machines.context_here p.between m' o.context y p.second)

  regions_first : (k : Name) → regions_of p.between k ≡ regions_of m k
  regions_first k = machines.part_same m p.between q.context _ p.first (λ c. c.regions) k refl

  regions_other : (k : Name) → k ≢ o.context → regions_of m' k ≡ regions_of m k
  regions_other k ne = ap (λ c. c.regions) (machines.context_other p.between m' o.context y p.second k ne) ∙ regions_first k

  others : (e : End) (domain : Name) (k : Name) (z : Progress) → IsProgress e domain (regions_of m k) z → IsProgress e domain (regions_of m' k) z
  others e domain k z h = elim (name_or_not k o.context) [
    | inl b ↦ subst (λ j. IsProgress e domain (regions_of m' j) z) (sym b) (subst (λ rs. IsProgress e domain rs z) (sym regions_here) (p.progress_others e domain z (subst (λ j. IsProgress e domain (regions_of m j) z) b h)))
    | inr ne ↦ subst (λ rs. IsProgress e domain rs z) (sym (regions_other k ne)) h
  ]

  not_ended : (b : Bool) → not b ≡ true → b ≡ false
  not_ended true h = absurd (cc)
  not_ended false h = refl

  progress_peer : (n'.side q).rts ≡ true → IsProgress (n'.end o) (n'.end q).domain (regions_of m' q.context) (n'.side q).link.receiver.progress
  progress_peer rts =
      subst (λ z. IsProgress z (n'.end q).domain (regions_of m' q.context) (n'.side q).link.receiver.progress) (sym (ap requests_of end_here))
      (subst (λ z. IsProgress (requests_of f') z.domain (regions_of m' q.context) (n'.side q).link.receiver.progress) (sym (ap requests_of end_peer))
      (subst (λ rs. IsProgress (requests_of f') g'.domain rs (n'.side q).link.receiver.progress) (sym (regions_other q.context apart))
      (subst (λ z. IsProgress (requests_of f') g'.domain (regions_of m q.context) z.link.receiver.progress) (sym (side_other q q_not_o))
      (p.progress_there (sym (ap (λ z. z.rts) (side_other q q_not_o)) ∙ rts)))))

  progress_own : (n'.side o).rts ≡ true → IsProgress (n'.end q) (n'.end o).domain (regions_of m' o.context) (n'.side o).link.receiver.progress
  progress_own rts =
      subst (λ z. IsProgress z (n'.end o).domain (regions_of m' o.context) (n'.side o).link.receiver.progress) (sym (ap requests_of end_peer))
      (subst (λ z. IsProgress (requests_of g') z.domain (regions_of m' o.context) (n'.side o).link.receiver.progress) (sym (ap requests_of end_here))
      (subst (λ rs. IsProgress (requests_of g') f'.domain rs (n'.side o).link.receiver.progress) (sym regions_here)
      (subst (λ z. IsProgress (requests_of g') f'.domain y.regions z.link.receiver.progress) (sym side_after)
      (p.progress_here (not_ended l'.ended (sym (ap (λ z. z.rts) side_after) ∙ rts))))))

  pub stands : Stands w' m'
  stands = record {
    placed = placed_like (worlds.names_same w w' o.context x' cw) made_same (worlds.ids_same w w' cw.shapes) (worlds.addresses_same w w' cw.shapes) (ap (map (λ h. h.name)) (worlds.husks_same w w' cw.shapes)) s.placed;
    counted =
        subst (λ ns. AreCounted (λ k. (state.device_at w' k).qp_count) (λ k. (state.device_at w' k).key_count) ns m'.keys) (sym p.numbers)
        (subst (λ ks. AreCounted (λ k. (state.device_at w' k).qp_count) (λ k. (state.device_at w' k).key_count) m.numbers ks) (sym p.keys)
        (counted_kept w w' m (λ k. home_counts w m o.context x' a k s.placed live) s.counted));
    same = same_all;
    sound = sound_all;
    numbered = numbering;
    joined = joined_pair n n' o s.joined connected changes;
    progress = progressing_pair n n' o s.joined connected changes (regions_of m) (regions_of m') s.progress others progress_peer progress_own;
    husks = left_pair n n' o s.joined connected changes _ (subst (λ hs. AreLeft n (flat_map (λ h. h.entries) hs)) (sym (worlds.husks_same w w' cw.shapes)) s.husks);
    sent = sent_pair n n' o s.joined connected changes w'.sent (subst (AreSent n) (sym cw.sent) s.sent);
  }

  -- the datagrams that are sent are for the peer, and their facts hold
  pub sent_stands : (sent : List Sent) → All (IsAnswer (side_of w q) (side_now (side_of w o) l') (requests_of g') (requests_of f')) sent → Stands (ran w (device.gives (device.with_context (home w o.context) x') a sent)).world m'
  unfolding sending
  sent_stands sent facts =
      subst (λ z. Stands z m') (sym (sent_world w (device.with_context (home w o.context) x') a sent))
      (sent_changed w' m' (sending w.sent (device.with_context (home w o.context) x').address sent) stands
      (both_sent n' w.sent _ (subst (AreSent n') cw.sent stands.sent) (answers_sent n' (device.with_context (home w o.context) x').address sent
      (All-weaker (IsAnswer (side_of w q) (side_now (side_of w o) l') (requests_of g') (requests_of f')) (λ z. Fact n' (flight_of (device.with_context (home w o.context) x').address z)) (λ z h. answer_fact z h) sent facts))))
    where
      answer_fact : (z : Sent) → IsAnswer (side_of w q) (side_now (side_of w o) l') (requests_of g') (requests_of f') z → Fact n' (flight_of (device.with_context (home w o.context) x').address z)
      answer_fact z h =
          let number : (machine.end_of m' q).number ≡ h.packet.dest = ap (λ e. e.number) end_peer ∙ h.fact.dest in
          let name : n'.name h.packet.dest ≡ q = ap n'.name (sym number) ∙ numbering.named q (there_same q ∙ q_there) in
          let back : peer n' q ≡ o = peer_same q ∙ (s.joined o connected).back in
          subst (λ r. BytesFact n' z.number z.bytes r) (sym h.read)
          (subst (λ j. PacketFact (n'.side j) (n'.side (peer n' j)) (n'.end j) (n'.end (peer n' j)) z.number z.bytes h.packet) (sym name)
          (subst (λ j. PacketFact (n'.side q) (n'.side j) (n'.end q) (n'.end j) z.number z.bytes h.packet) (sym back)
          (subst (λ u. PacketFact u (n'.side o) (n'.end q) (n'.end o) z.number z.bytes h.packet) (sym (side_other q q_not_o))
          (subst (λ u. PacketFact (side_of w q) u (n'.end q) (n'.end o) z.number z.bytes h.packet) (sym side_after)
          (subst (λ u. PacketFact (side_of w q) (side_now (side_of w o) l') u (n'.end o) z.number z.bytes h.packet) (sym (ap requests_of end_peer))
          (subst (λ u. PacketFact (side_of w q) (side_now (side_of w o) l') (requests_of g') u z.number z.bytes h.packet) (sym (ap requests_of end_here)) h.fact))))))
