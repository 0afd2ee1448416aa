-- The end that a datagram reaches, as a world tells of it and as the law names it.
use Rattle.std.proofs.Common.{arith, ◌≡◌, ◌<◌, ◌≤◌, ◌-◌, ◌^◌, ℕ, List, [], ◌∷◌, length, true, false, Bool, refl, sym, ap, ◌∙◌, subst}
use Rattle.std.specs.Prelude.{Option, Some, None, is_some, not, ◌&&◌, if◌then◌else◌, slice_get}
use Rattle.rdma_types.proofs.Numbers.{landing_before_end}
use Rattle.rdma_types.specs.Spans.{end_number}
use Rattle.rdma_types.specs.declared.answers.EndState.TheVariants as state
use Rattle.rdma_types.specs.declared.answers.EndView.{EndView}
use Rattle.rdma_types.specs.declared.answers.ArrivalEffect.{ArrivalEffect}
use Rattle.rdma_types.specs.declared.names.ObjName.{ObjName}
use Rattle.rdma_types.specs.declared.requests.Address.{Address}
use Rattle.protocol.specs.DeviceStep.{Found, found_in}
use Rattle.protocol.specs.EndWords.{is_paused, phase_state, state_of}
use Rattle.protocol.specs.Readers.{linked_view, view_by, view_of}
use Rattle.protocol.specs.State.{Device, Flight, Link, Paused, Phase, Resuming, Running, World, context_at, end_at, no_context, no_end}
use Rattle.protocol.specs.Wire.{Packet, packet_of}
use Rattle.protocol.specs.WorldStep.{device_with, home, same_address}
use Rattle.packetless_machine.specs.Machine as machine
use Rattle.packetless_machine.specs.Machine.{Machine, has_end}
use Rattle.packetless_machine.specs.Numbers.{barrier, due, oldest}
use Rattle.law_simulation.specs.Carries.{finds_end, is_at}
use Rattle.law_simulation.specs.Facts.{BytesFact, PacketFact}
use Rattle.law_simulation.specs.Named.{numbered_steps, packet_steps}
use Rattle.law_simulation.specs.Packets.{class_of}
use Rattle.law_simulation.specs.Stands.{Stands}
use Rattle.law_simulation.specs.Views as views
use Rattle.law_simulation.specs.Views.{end_of, in_rts, link_of, link_or_none, name_of, net_of, owned, owned_there, peer, place_of, requests_of}
use Rattle.law_simulation.proofs.delivery.Arriving.{and_parts}
use Rattle.law_simulation.proofs.delivery.First.{first_passes}
use Rattle.law_simulation.proofs.delivery.Found.{IsAt, found_at, lives_found, linked_there}
use Rattle.law_simulation.proofs.relation.Connecting.{live_place}
use Rattle.law_simulation.proofs.relation.Grown.{are_made}
use Rattle.law_simulation.proofs.relation.InUse.{owned_of}
use Rattle.law_simulation.proofs.relation.Tables.{name-named_there}
use Rattle.law_simulation.proofs.relation.Worlds.{home_holds}
use Rattle.law_simulation.proofs.sending.GoNumbers.{mtu_positive}
use Rattle.trace_record.specs.Steps.{HasDue, HasNumbers}
use Rattle.world_core.specs.Reached.{view_on, view_reached}
use Rattle.device_core.specs.Numbered.{first_view}
use Rattle.trace_record.specs.Arrivals.{is_live_state, is_paused_state, sort_of, sorted_steps}
use Rattle.trace_record.proofs.Sorts.{class_sorted}

-- ---- the state of a connected end

seen_live : (l : Link) → is_live_state (state_of (Some l)) ≡ not l.ended
seen_live l = by l.ended l.moving.phase
  where
    by : (b : Bool) (p : Phase) → is_live_state (if b then state.Error else phase_state p) ≡ not b
    by true p = refl
    by false Running = refl
    by false Paused = refl
    by false Resuming = refl

seen_paused : (l : Link) → is_live_state (state_of (Some l)) ≡ true → is_paused l.moving.phase ≡ is_paused_state (state_of (Some l))
seen_paused l = by l.ended l.moving.phase
  where
    by : (b : Bool) (p : Phase) → is_live_state (if b then state.Error else phase_state p) ≡ true → is_paused p ≡ is_paused_state (if b then state.Error else phase_state p)
    by true p h = absurd (cc)
    by false Running h = refl
    by false Paused h = refl
    by false Resuming h = refl

placed_at : (r : Option Address) (b : Address) → is_at r b ≡ true → (a : Address) × (r ≡ Some a) × (same_address a b ≡ true)
unfolding is_at
placed_at None b h = absurd (cc)
placed_at (Some a) b h = (a, refl, h)

-- ---- numbers of ends

due_same : (e : machine.End) → due (requests_of e) ≡ due e
unfolding due
due_same e = refl

oldest_same : (e : machine.End) → oldest (requests_of e) ≡ oldest e
unfolding oldest
oldest_same e = refl

barrier_within : (e : machine.End) → oldest e ≤ end_number e.posted e.mtu → barrier e ≤ end_number e.posted e.mtu
unfolding barrier
barrier_within e h = landing_before_end e.posted e.mtu (oldest e) h

connected_there : (w : World) (m : Machine) (p : ObjName) → Stands w m → views.is_connected w p ≡ true → (machine.end_of m p).connected ≡ true
unfolding owned owned_there
connected_there w m p s connected = sym (ap (λ z. z.connected) (owned_of w m s p (are_made w m s p connected))) ∙ connected

-- the numbers of a connected end
pub has_due : (w : World) (m : Machine) (p : ObjName) → Stands w m → views.is_connected w p ≡ true → HasDue (machine.end_of m p)
has_due w m p s connected =
    let j = s.joined p connected in
    record {
      connected = connected_there w m p s connected;
      mtu = subst (λ k. 0 < k) j.mtu (mtu_positive (link_of w p).terms.mtu j.terms.mtu);
      due = subst (λ k. k < 2 ^ 64) (due_same (machine.end_of m p)) (omega (arith, j.ordered.due_top, j.ordered.top_end, j.ordered.limit));
    }

-- .. of one in Rts
pub has_numbers : (w : World) (m : Machine) (p : ObjName) → Stands w m → views.is_connected w p ≡ true → in_rts w p ≡ true → HasNumbers (machine.end_of m p)
has_numbers w m p s connected rts =
    let j = s.joined p connected in
    let e : machine.End = machine.end_of m p in
    let una = (j.sends rts).una in
    let least : oldest (requests_of e) ≤ end_number e.posted e.mtu = omega (arith, una, j.ordered.una_next, j.ordered.next_top, j.ordered.top_end) in
    let least' : oldest e ≤ end_number e.posted e.mtu = subst (λ k. k ≤ end_number e.posted e.mtu) (oldest_same e) least in
    record {
      connected = connected_there w m p s connected;
      mtu = subst (λ k. 0 < k) j.mtu (mtu_positive (link_of w p).terms.mtu j.terms.mtu);
      oldest = omega (arith, least', j.ordered.limit);
      barrier = omega (arith, barrier_within e least', j.ordered.limit);
    }

-- ---- what is told of an end

-- the view is of the end that the law names, and says whether it is in Rts, and Paused
pub record IsView (w : World) (m : Machine) (f : Flight) (d : Packet) (v : EndView) : Type 0 where
  pub name : v.name ≡ name_of m d.dest
  pub live : finds_end w m f d ≡ is_live_state v.state
  pub paused : is_live_state v.state ≡ true → is_paused (link_of w (name_of m d.dest)).moving.phase ≡ is_paused_state v.state

-- ---- a datagram that was sent, to an end

module _ (w : World) (m : Machine) (s : Stands w m) (k : ℕ) (f : Flight) (d : Packet) (sent : slice_get w.sent (k - 1) ≡ Some f) (read : packet_of f.bytes ≡ Some d) where
  abbrev pub o : ObjName
  o = name_of m d.dest

  fact : PacketFact ((net_of w m).side o) ((net_of w m).side (peer (net_of w m) o)) ((net_of w m).end o) ((net_of w m).end (peer (net_of w m) o)) f.number f.bytes d
  fact = subst (BytesFact (net_of w m) f.number f.bytes) read (s.sent (k - 1) f sent)

  pub connected : views.is_connected w o ≡ true
  connected = fact.connected

  -- where the device at the address finds no end, the end is not there in Rts
  unfound : ((v : Device) → device_with w f.to ≡ Some v → found_in d.dest v.contexts ≡ []) → finds_end w m f d ≡ false
  unfolding in_rts owned owned_there
  unfound none = by_test (finds_end w m f d) refl
    where
      by_test : (b : Bool) → finds_end w m f d ≡ b → finds_end w m f d ≡ false
      by_test false t = t
      by_test true t =
          let parts = and_parts (in_rts w o) (is_at (place_of w o.context) f.to) t in
          let at = placed_at (place_of w o.context) f.to parts.1 in
          let there : has_end m o ≡ true = are_made w m s o connected in
          let number : (end_of w o).number ≡ d.dest = ap (λ z. z.number) (owned_of w m s o there) ∙ fact.dest in
          let found = lives_found w m o at.0 f.to d.dest s.placed connected number at.1 at.2 (device_with w f.to) refl in
          absurd (omega (arith, found.2, ap length (none found.0 found.1)))

  pub none_there : view_reached w f.to d.dest ≡ None → finds_end w m f d ≡ false
  none_there h = unfound (λ v is. lacks v is (found_in d.dest v.contexts) refl)
    where
      lacks : (v : Device) → device_with w f.to ≡ Some v → (xs : List Found) → found_in d.dest v.contexts ≡ xs → xs ≡ []
      lacks v is [] found = refl
      lacks v is (x ∷ xs) found = absurd (cc (ap (λ r. view_on r d.dest) is, ap first_view found, h))

  module _ (v : Device) (is : device_with w f.to ≡ Some v) (x : Found) (xs : List Found) (found : found_in d.dest v.contexts ≡ x ∷ xs) where
    at : IsAt w m v x o
    at = found_at w m (λ z. same_address z.address f.to) v d.dest x xs s is found

    home_context : context_at (home w o.context) o.context ≡ x.context
    home_context = ap (λ z. context_at z o.context) at.home ∙ at.context

    home_end : end_at (context_at (home w o.context) o.context) o.name ≡ x.end
    home_end = ap (λ z. end_at z o.name) home_context ∙ at.end

    link_now : (end_of w o).link ≡ Some x.link
    link_now = ap (λ e. e.link) (sym (linked_there w o at.live connected).1 ∙ home_end) ∙ at.linked

    rts_now : in_rts w o ≡ not x.link.ended
    unfolding in_rts link_or_none
    rts_now = ap (λ z. is_some z && not (link_or_none z).ended) link_now

    phase_now : is_paused (link_of w o).moving.phase ≡ is_paused x.link.moving.phase
    unfolding link_or_none
    phase_now = ap (λ z. is_paused (link_or_none z).moving.phase) link_now

    placed_now : is_at (place_of w o.context) f.to ≡ true
    unfolding is_at
    placed_now = ap (λ z. is_at z f.to) (live_place w o.context at.live) ∙ (ap (λ z. same_address z.address f.to) at.home ∙ first_passes (λ z. same_address z.address f.to) v w.devices is)

    finds : finds_end w m f d ≡ not x.link.ended
    finds = ap (λ b. b && is_at (place_of w o.context) f.to) rts_now ∙ (ap (λ b. not x.link.ended && b) placed_now ∙ and_true (not x.link.ended))
      where
        and_true : (b : Bool) → (b && true) ≡ b
        and_true true = refl
        and_true false = refl

    context_name : x.context.name ≡ o.context
    context_name = ap (λ c. c.name) (sym home_context) ∙ name-named_there (λ c. c.name) no_context o.context (home w o.context).contexts (home_holds w o.context at.live)

    end_name : x.end.name ≡ o.name
    end_name = ap (λ e. e.name) (sym home_end) ∙ name-named_there (λ e. e.name) no_end o.name (context_at (home w o.context) o.context).ends (linked_there w o at.live connected).0

    view_is : view_of x.context x.end ≡ linked_view o x.end x.link
    unfolding view_of
    view_is = ap (view_by (record { context = x.context.name; name = x.end.name }) x.end) at.linked ∙ (λ i. linked_view (record { context = context_name i; name = end_name i }) x.end x.link)

    found_view : IsView w m f d (view_of x.context x.end)
    found_view = subst (IsView w m f d) (sym view_is) (record {
      name = refl;
      live = finds ∙ sym (seen_live x.link);
      paused = λ h. phase_now ∙ seen_paused x.link h;
    })

  pub viewed : (v : EndView) → view_reached w f.to d.dest ≡ Some v → IsView w m f d v
  viewed v h = by_device (device_with w f.to) refl h
    where
      by_found : (e : Device) → device_with w f.to ≡ Some e → (xs : List Found) → found_in d.dest e.contexts ≡ xs → first_view xs ≡ Some v → IsView w m f d v
      by_found e is [] found g = absurd (cc)
      by_found e is (x ∷ xs) found g = subst (IsView w m f d) (let same : view_of x.context x.end ≡ v = cc in same) (found_view e is x xs found)

      by_device : (r : Option Device) → device_with w f.to ≡ r → view_on r d.dest ≡ Some v → IsView w m f d v
      by_device None is g = absurd (cc)
      by_device (Some e) is g = by_found e is (found_in d.dest e.contexts) refl g

  -- the numbers of the end and of its peer
  pub numbers_there : (v : EndView) → IsView w m f d v → is_live_state v.state ≡ true → HasNumbers (machine.end_of m v.name) × HasDue (machine.end_of m (machine.end_of m v.name).peer)
  numbers_there v is live =
      let rts = (and_parts (in_rts w o) (is_at (place_of w o.context) f.to) (is.live ∙ live)).0 in
      subst (λ q. HasNumbers (machine.end_of m q) × HasDue (machine.end_of m (machine.end_of m q).peer)) (sym is.name)
      (has_numbers w m o s connected rts, has_due w m (machine.end_of m o).peer s (s.joined o connected).connected)

  -- the steps that are named
  pub named_there : (v : EndView) (n : ℕ) (t : ArrivalEffect) → IsView w m f d v → f.number ≡ Some n → is_live_state v.state ≡ true → packet_steps w m f (Some d) t ≡ sorted_steps m (is_paused_state v.state) v.name n d.payload (sort_of (class_of d)) t
  named_there v n t is number live =
      ap (λ b. if b then numbered_steps w m o f.number d.payload (class_of d) t else []) (is.live ∙ live)
      ∙ (ap (λ z. numbered_steps w m o z d.payload (class_of d) t) number
      ∙ (class_sorted w m o n d.payload (class_of d) t
      ∙ λ i. sorted_steps m (is.paused live i) (sym is.name i) n d.payload (sort_of (class_of d)) t))

  -- .. where there is no such end in Rts
  pub none_named : (t : ArrivalEffect) → finds_end w m f d ≡ false → packet_steps w m f (Some d) t ≡ []
  none_named t none = ap (λ b. if b then numbered_steps w m o f.number d.payload (class_of d) t else []) none
