-- What draining leaves of the two ends of a connection, where answers alone are on their way.
use Rattle.std.proofs.Common.{arith, ◌≡◌, ◌≢◌, ◌≤◌, ◌<◌, ◌-◌, ◌⊎◌, ℕ, zero, suc, List, [], ◌∷◌, length, true, false, Bool, refl, sym, ap, ◌∙◌, subst, inl, inr}
use Rattle.std.specs.Prelude.{Contains, Some, None, slice_get, ◌==◌, nat_le}
use Rattle.std.proofs.lemmas.Bool.Decides.{nat_tests, leb_tells}
use Rattle.rdma_types.specs.declared.names.Name.{Name}
use Rattle.rdma_types.specs.declared.names.ObjName.{ObjName}
use Rattle.rdma_types.specs.Lists.{named, store_named}
use Rattle.protocol.specs.declared.events.WorldEvent.{WorldEvent}
use Rattle.protocol.specs.declared.events.WorldEvent.TheVariants as world_events
use Rattle.protocol.specs.Bytes.{byte_at, number_at}
use Rattle.protocol.specs.declared.wire.Aeth.{Aeth}
use Rattle.protocol.specs.declared.wire.Syndrome.TheVariants.{Nak}
use Rattle.protocol.specs.State.{World, Context, End, Link, Flight, Paused, no_context, no_end}
use Rattle.protocol.specs.Wire.{is_request}
use Rattle.protocol.specs.EndWords as words
use Rattle.protocol.specs.EndWords.{is_paused, linked, with_link, with_moving}
use Rattle.protocol.specs.EndStep.{takes}
use Rattle.protocol.specs.Moves.{control_of, in_phase}
use Rattle.protocol.specs.WorldStep.{with_taken, world_step}
use Rattle.protocol.specs.Fabric.{pending_numbers}
use Rattle.protocol.specs.Settle.{Settling, delivering, pass, settle_step, stepped_to}
use Rattle.packetless_machine.specs.Machine.{Machine}
use Rattle.packetless_machine.specs.Legal.{after}
use Rattle.law_simulation.specs.Law.{AlwaysFollows, Follows}
use Rattle.law_simulation.specs.Stands.{Stands}
use Rattle.law_simulation.specs.Views.{name_of}
use Rattle.law_simulation.proofs.relation.Grows.{object_or_not}
use Rattle.law_simulation.proofs.relation.Tables.{name_or_not}
use Rattle.law_simulation.proofs.relation.Worlds.{shapes_of}
use Rattle.law_simulation.proofs.delivery.Arriving.{stored_again, taken_stands}
use Rattle.law_settling.proofs.draining.Pending.{IsPending, contains_here, contains_later, numbers_pend}
use Rattle.law_devices.proofs.Silent.{reply_silent}
use Rattle.law_settling.proofs.draining.Replies.{IsReply, IsStop}
use Rattle.law_settling.proofs.draining.Arrivals.{IsDelivered, delivered, grows, bytes_kept, still_pending}
use Rattle.law_settling.specs.Weights.{BringsNews, EndGoesOn, TakingLightens}
use Rattle.law_settling.proofs.bound.Lives.{lives, at_end, context_in, context_name, name_is, self_stored}
use Rattle.law_settling.proofs.bound.Delivering.{delivered_go, tame}
use Rattle.law_settling.proofs.sending_stops.Turns.{IsHeld, IsFurther, IsTurned, IsAnswerTo, WentOn}
use Rattle.law_settling.proofs.sending_stops.Requesters.{Turned, answered}
use Rattle.law_settling.proofs.sending_stops.Reading.{answer_reply, heads, kind_says, stop_says}
use Rattle.law_settling.proofs.sending_stops.Arrivals.{Lands, delivers_either}
use Rattle.law_settling.proofs.sending_stops.Places.{IsAlike, alike_on, context_else, context_now, end_else, end_now, one_named, stop_takes}

-- ---- turns one after the other

next_on : (Back : Type 0) (a b c : Link) → b.sender.una ≤ c.sender.una → WentOn a.sender b.sender ⊎ (Back × (b.sender.next ≤ b.sender.una)) → WentOn b.sender c.sender ⊎ (Back × (c.sender.next ≤ c.sender.una)) → WentOn a.sender c.sender ⊎ (Back × (c.sender.next ≤ c.sender.una))
next_on Back a b c rose h (inr k) = inr k
next_on Back a b c rose (inr h) (inl (up, inl k)) = inr (h.0, omega (arith, h.1, k, rose))
next_on Back a b c rose (inr h) (inl (up, inr k)) = inr (h.0, k)
next_on Back a b c rose (inl (up, inl h)) (inl (up', inl k)) = inl (omega (arith, up, up'), inl (omega (arith, h, k)))
next_on Back a b c rose (inl (up, inr h)) (inl (up', inl k)) = inl (omega (arith, up, up'), inr (omega (arith, h, k, rose)))
next_on Back a b c rose (inl (up, h)) (inl (up', inr k)) = inl (omega (arith, up, up'), inr k)

further_on : (Back : Type 0) (a b c : Link) → IsFurther Back a b → IsFurther Back b c → IsFurther Back a c
further_on Back a b c h k = record {
  ended = k.ended ∙ h.ended;
  wait = k.wait ∙ h.wait;
  peer = k.peer ∙ h.peer;
  terms = k.terms ∙ h.terms;
  moving = k.moving ∙ h.moving;
  end = k.end ∙ h.end;
  una = omega (arith, h.una, k.una);
  pieces = λ n le. k.pieces n le ∙ h.pieces n (omega (arith, le, k.una));
  next = next_on Back a b c k.una h.next k.next;
}

held_on : (Back : Type 0) (b c : Link) → IsHeld b → IsFurther Back b c → IsHeld c
held_on Back b c (inl h) k = inl (k.ended ∙ h)
held_on Back b c (inr (inl h)) k = inr (inl (k.wait ∙ h))
held_on Back b c (inr (inr h)) k = inr (inr (ap (λ z. is_paused z.phase) k.moving ∙ h))

pub turned_on : (Back : Type 0) (a b c : Link) → IsTurned Back a b → IsTurned Back b c → IsTurned Back a c
turned_on Back a b c h (inl k) = inl k
turned_on Back a b c (inl h) (inr k) = inl (held_on Back b c h k)
turned_on Back a b c (inr h) (inr k) = inr (further_on Back a b c h k)

-- it is in Error, moves as before, or is Paused
abbrev pub IsSteady : Link → Link → Type 0
IsSteady a b = (b.ended ≡ true) ⊎ (b.moving ≡ a.moving) ⊎ (is_paused b.moving.phase ≡ true)

steady_on : (a b c : Link) → IsSteady a b → (c.ended ≡ true) ⊎ (c.moving ≡ b.moving) → (b.ended ≡ true → c.ended ≡ true) → IsSteady a c
steady_on a b c h (inl k) keeps = inl k
steady_on a b c (inl h) (inr k) keeps = inl (keeps h)
steady_on a b c (inr (inl h)) (inr k) keeps = inr (inl (k ∙ h))
steady_on a b c (inr (inr h)) (inr k) keeps = inr (inr (ap (λ z. is_paused z.phase) k ∙ h))

-- what is on its way since: answers to the end with that number, and NAK_STOPPED
abbrev pub IsSorted : ℕ → Type 0 → List ℕ → Type 0
IsSorted number Back bs = IsStop bs ⊎ IsAnswerTo number Back bs

stop_reply : (bs : List ℕ) → IsStop bs → IsReply bs
unfolding is_request
stop_reply bs s = record { no_request = rw s.opcode refl; no_resume = rw s.opcode refl }

sorted_reply : (number : ℕ) (Back : Type 0) (bs : List ℕ) → IsSorted number Back bs → IsReply bs
sorted_reply number Back bs (inl h) = stop_reply bs h
sorted_reply number Back bs (inr h) = answer_reply number Back bs h

pub get_within : {A : Type 0} (xs : List A) (j : ℕ) → j < length xs → (x : A) × (slice_get xs j ≡ Some x)
get_within [] j h = absurd (omega (arith, h))
get_within (x ∷ xs) zero h = (x, refl)
get_within (x ∷ xs) (suc j) h = get_within xs j (omega (arith, h))

the_same : (a b : Flight) → Some a ≡ Some b → a ≡ b
the_same a b h = cc

module _ (lightens : TakingLightens) (follows : (e : WorldEvent) → AlwaysFollows e) (w0 : World) (o p : ObjName) (apart : p.context ≢ o.context) (Back : Type 0) (l1 : Link) (w2 : World) (n1 : ℕ) where
  abbrev pub No : ℕ
  No = (at_end w0 o).number

  -- what the end p takes requests with
  pub record IsPeerSame (a b : World) : Type 0 where
    pub regions : (context_in (lives b) p.context).regions ≡ (context_in (lives a) p.context).regions
    pub domain : (at_end b p).domain ≡ (at_end a p).domain
    pub unused : (at_end b p).unused ≡ (at_end a p).unused
    pub link : ((at_end b p).link ≡ (at_end a p).link) ⊎ ((l : Link) × ((at_end b p).link ≡ Some l) × (is_paused l.moving.phase ≡ true))

  -- the end z has the link that it had, or is Paused
  abbrev pub IsSpared : ObjName → World → World → Type 0
  IsSpared z a b = ((at_end b z).link ≡ (at_end a z).link) ⊎ ((l : Link) × ((at_end b z).link ≡ Some l) × (is_paused l.moving.phase ≡ true))

  spared_on : (z : ObjName) (a b c : World) → at_end c z ≡ at_end b z → IsSpared z a b → IsSpared z a c
  spared_on z a b c is h = elim h [ inl k ↦ inl (ap (λ e. e.link) is ∙ k) | inr k ↦ inr (k.0, ap (λ e. e.link) is ∙ k.1, k.2) ]

  -- while answers are taken: o turned from l1, and p is as it was in w2, or Paused
  pub record During (w : World) : Type 0 where
    pub machine : Machine
    pub stands : Stands w machine
    pub alike : IsAlike w0 w
    pub link : Link
    pub linked : (at_end w o).link ≡ Some link
    pub turned : IsTurned Back l1 link
    pub steady : IsSteady l1 link
    pub peer : IsPeerSame w2 w
    pub others : (z : ObjName) → z ≢ o → IsSpared z w2 w
    pub most : n1 ≤ length w.sent
    pub sorted : (j : ℕ) (f : Flight) → n1 ≤ j → slice_get w.sent j ≡ Some f → IsSorted No Back f.bytes
    pub later : (j : ℕ) (f : Flight) → IsPending w.sent j f → n1 < j

  o_not_p : p ≢ o
  o_not_p h = apart (ap (λ z. z.context) h)

  peer_on : (a b c : World) → IsPeerSame a b → (context_in (lives c) p.context).regions ≡ (context_in (lives b) p.context).regions → at_end c p ≡ at_end b p → IsPeerSame a c
  peer_on a b c h regions end = record {
    regions = regions ∙ h.regions;
    domain = ap (λ z. z.domain) end ∙ h.domain;
    unused = ap (λ z. z.unused) end ∙ h.unused;
    link = elim h.link [ inl k ↦ inl (ap (λ z. z.link) end ∙ k) | inr k ↦ inr (k.0, ap (λ z. z.link) end ∙ k.1, k.2) ];
  }

  module _ (w : World) (k : ℕ) (above : n1 < k) (d : During w) where
    abbrev w' : World
    w' = (world_step w (world_events.Deliver k)).world

    flown : IsDelivered w w' k
    flown = delivered w k

    f : Follows w d.machine (world_events.Deliver k)
    f = follows (world_events.Deliver k) w d.machine tt d.stands

    -- what stands there, new or old
    sorted_all : ((j : ℕ) (g : Flight) → length w.sent ≤ j → slice_get w'.sent j ≡ Some g → IsSorted No Back g.bytes) → (j : ℕ) (g : Flight) → n1 ≤ j → slice_get w'.sent j ≡ Some g → IsSorted No Back g.bytes
    sorted_all fresh j g past there = by_order (nat_le (length w.sent) j) refl
      where
        by_order : (b : Bool) → nat_le (length w.sent) j ≡ b → IsSorted No Back g.bytes
        by_order true t = fresh j g (grind (arith, nat_tests, leb_tells (length w.sent) j, t)) there
        by_order false t =
            let within : j < length w.sent = grind (arith, nat_tests, leb_tells (length w.sent) j, t) in
            let old = get_within w.sent j within in
            let kept = bytes_kept w w' k flown j old.0 old.1 in
            let same : kept.0 ≡ g = the_same kept.0 g (sym kept.1 ∙ there) in
            subst (IsSorted No Back) (sym kept.2 ∙ ap (λ z. z.bytes) same) (d.sorted j old.0 past old.1)

    -- what does not depend on what the delivery does
    rest : shapes_of w' ≡ shapes_of w → ((j : ℕ) (g : Flight) → length w.sent ≤ j → slice_get w'.sent j ≡ Some g → IsSorted No Back g.bytes) → (link : Link) → (at_end w' o).link ≡ Some link → IsTurned Back l1 link → IsSteady l1 link → IsPeerSame w2 w' → ((z : ObjName) → z ≢ o → IsSpared z w2 w') → During w'
    unfolding f
    rest shapes fresh link linked' turned steady peer others = record {
      machine = after d.machine f.steps;
      stands = f.stands;
      alike = alike_on (λ n. 0) _ w0 w w' d.alike (delivered_go lightens (λ n. 0) w d.machine k d.stands) shapes;
      link = link;
      linked = linked';
      turned = turned;
      steady = steady;
      peer = peer;
      others = others;
      most = omega (arith, d.most, grows w w' k flown);
      sorted = sorted_all fresh;
      later = λ j g q. elim (still_pending w w' k flown j g q) [
        | inl a ↦ d.later j g a.0
        | inr b ↦ omega (arith, d.most, b.0)
      ];
    }

    -- nothing changes
    quiet_on : lives w' ≡ lives w → shapes_of w' ≡ shapes_of w → ((j : ℕ) (g : Flight) → length w.sent ≤ j → slice_get w'.sent j ≡ Some g → IsSorted No Back g.bytes) → During w'
    quiet_on lives' shapes fresh =
        let end : (q : ObjName) → at_end w' q ≡ at_end w q = λ q. ap (λ cs. named (λ e. e.name) no_end q.name (context_in cs q.context).ends) lives' in
        rest shapes fresh d.link (ap (λ e. e.link) (end o) ∙ d.linked) d.turned d.steady (peer_on w2 w w' d.peer (ap (λ cs. (context_in cs p.context).regions) lives') (end p)) (λ z ne. spared_on z w2 w w' (end z) (d.others z ne))

    module _ (l : Lands w d.machine k w') where
      abbrev q : ObjName
      q = name_of d.machine l.packet.dest

      bytes_sorted : IsSorted No Back l.flight.bytes
      bytes_sorted = d.sorted (k - 1) l.flight (omega (arith, above)) l.at

      reply : IsReply l.flight.bytes
      reply = sorted_reply No Back l.flight.bytes bytes_sorted

      opcode : l.packet.opcode ≡ byte_at 0 l.flight.bytes
      opcode = (heads l.flight.bytes l.packet l.read).0

      silent : (takes l.context l.end l.link l.packet).sent ≡ []
      silent = (reply_silent l.context l.end l.link l.packet (ap is_request opcode ∙ reply.no_request) (ap (λ n. n == 0x1E) opcode ∙ reply.no_resume)).none

      fresh : (j : ℕ) (g : Flight) → length w.sent ≤ j → slice_get w'.sent j ≡ Some g → IsSorted No Back g.bytes
      fresh j g past there = let z = l.fresh j g past there in absurd (omega (arith, (subst (λ zs. Contains zs z.0) silent z.1).1))

      q_end : at_end w q ≡ l.end
      q_end = ap (λ c. named (λ e. e.name) no_end q.name c.ends) l.there.context ∙ l.there.end

      e_name : l.end.name ≡ q.name
      e_name = name_is w q l.context l.end l.link l.there

      c_name : l.context.name ≡ q.context
      c_name = context_name w q l.context l.end l.link l.there

      x : Context
      x = (takes l.context l.end l.link l.packet).context

      goes : EndGoesOn 0 (BringsNews 0 (control_of l.packet)) l.context l.end l.link x
      unfolding x
      goes = lightens 0 l.context l.end l.link l.packet (self_stored w q l.context l.end l.link l.there) l.there.linked (λ alive. tame (with_taken w k) d.machine q l.link (taken_stands w d.machine k d.stands) l.live alive)

      x_name : x.name ≡ q.context
      x_name = goes.named ∙ c_name

      stored : lives w' ≡ store_named (λ y. y.name) q.context x (lives w)
      unfolding x
      stored = l.lives

      else_context : (n : Name) → n ≢ q.context → context_in (lives w') n ≡ context_in (lives w) n
      else_context n ne = context_else w w' q l.context l.there.context x stored x_name n ne

      now_context : context_in (lives w') q.context ≡ x
      now_context = context_now w w' q l.context l.there.context x stored x_name

      -- a NAK_STOPPED
      module _ (paused : x ≡ linked l.context l.end (with_moving l.link (in_phase l.link.moving Paused))) where
        e' : End
        e' = with_link l.end (with_moving l.link (in_phase l.link.moving Paused))

        ends : x.ends ≡ store_named (λ z. z.name) q.name e' l.context.ends
        unfolding words.with_end e' with_link
        ends = ap (λ z. z.ends) paused ∙ ap (λ n. store_named (λ z. z.name) n (with_link l.end (with_moving l.link (in_phase l.link.moving Paused))) l.context.ends) e_name

        e'_name : e'.name ≡ q.name
        unfolding e' with_link
        e'_name = e_name

        now_end : at_end w' q ≡ e'
        now_end = end_now w w' q l.context l.there.context x stored x_name e' ends e'_name

        else_end : (n : ObjName) → n ≢ q → at_end w' n ≡ at_end w n
        else_end n ne = end_else w w' q l.context l.there.context x stored x_name e' ends e'_name n ne

        regions_same : (context_in (lives w') p.context).regions ≡ (context_in (lives w) p.context).regions
        unfolding words.with_end
        regions_same = elim (name_or_not p.context q.context) [
          | inr ne ↦ ap (λ z. z.regions) (else_context p.context ne)
          | inl same ↦
              ap (λ n. (context_in (lives w') n).regions) same
              ∙ (ap (λ z. z.regions) now_context
              ∙ (ap (λ z. z.regions) paused
              ∙ (ap (λ z. z.regions) (sym l.there.context) ∙ ap (λ n. (context_in (lives w) n).regions) (sym same))))
        ]

        paused_peer : IsPeerSame w2 w'
        unfolding e' with_link with_moving
        paused_peer = elim (object_or_not p q) [
          | inr ne ↦ peer_on w2 w w' d.peer regions_same (else_end p ne)
          | inl same ↦
              let now : at_end w' p ≡ e' = ap (at_end w') same ∙ now_end in
              let old : at_end w p ≡ l.end = ap (at_end w) same ∙ q_end in
              record {
                regions = regions_same ∙ d.peer.regions;
                domain = ap (λ z. z.domain) now ∙ (ap (λ z. z.domain) (sym old) ∙ d.peer.domain);
                unused = ap (λ z. z.unused) now ∙ (ap (λ z. z.unused) (sym old) ∙ d.peer.unused);
                link = inr (with_moving l.link (in_phase l.link.moving Paused), ap (λ z. z.link) now, refl);
              }
        ]

        paused_others : (z : ObjName) → z ≢ o → IsSpared z w2 w'
        unfolding e' with_link with_moving
        paused_others z ne = elim (object_or_not z q) [
          | inr other ↦ spared_on z w2 w w' (else_end z other) (d.others z ne)
          | inl same ↦ inr (with_moving l.link (in_phase l.link.moving Paused), ap (λ e. e.link) (ap (at_end w') same ∙ now_end), refl)
        ]

        paused_on : During w'
        unfolding e' with_link with_moving
        paused_on = elim (object_or_not o q) [
          | inr ne ↦ rest l.shapes fresh d.link (ap (λ z. z.link) (else_end o ne) ∙ d.linked) d.turned d.steady paused_peer paused_others
          | inl same ↦ rest l.shapes fresh (with_moving l.link (in_phase l.link.moving Paused)) (ap (λ z. z.link) (ap (at_end w') same ∙ now_end)) (inl (inr (inr refl))) (inr (inr refl)) paused_peer paused_others
        ]

      stopped_same : x ≡ l.context → During w'
      stopped_same is =
          let lives' : lives w' ≡ lives w = stored ∙ (ap (λ z. store_named (λ y. y.name) q.context z (lives w)) (is ∙ sym l.there.context) ∙ stored_again (λ y. y.name) no_context q.context (lives w) l.there.live) in
          quiet_on lives' l.shapes fresh

      stopped_on : IsStop l.flight.bytes → During w'
      unfolding x
      stopped_on stop = elim (stop_takes l.context l.end l.link l.packet (number_at 13 3 l.flight.bytes) (stop_says l.flight.bytes l.packet l.read stop)) [ inl a ↦ stopped_same a | inr b ↦ paused_on b ]

      -- an answer to o
      module _ (a : IsAnswerTo No Back l.flight.bytes) where
        for_o : l.packet.dest ≡ No
        for_o = (heads l.flight.bytes l.packet l.read).1 ∙ a.dest

        is_o : q ≡ o
        is_o = ap (name_of d.machine) (for_o ∙ sym (d.alike.number o)) ∙ one_named w d.machine o d.link d.stands d.linked

        link_same : l.link ≡ d.link
        link_same = some_link l.link d.link (sym l.there.linked ∙ (ap (λ e. e.link) (sym q_end) ∙ (ap (λ n. (at_end w n).link) is_o ∙ d.linked)))
          where
            some_link : (y z : Link) → Some y ≡ Some z → y ≡ z
            some_link y z h = cc

        here : (named (λ z. z.name) no_end l.end.name l.context.ends).link ≡ Some l.link
        here = ap (λ n. (named (λ z. z.name) no_end n l.context.ends).link) e_name ∙ (ap (λ e. e.link) l.there.end ∙ l.there.linked)

        says : (control_of l.packet ≡ None) × ((y : Aeth) (code : ℕ) → l.packet.aeth ≡ Some y → y.syndrome ≡ Nak code → Back)
        says = kind_says l.flight.bytes l.packet l.read Back a.kind

        turned' : Turned Back l.context l.end l.link here (takes l.context l.end l.link l.packet)
        turned' = answered Back l.context l.end l.link here l.packet says.0 (ap is_request opcode ∙ reply.no_request) says.1

        linked_now : (at_end w' o).link ≡ Some turned'.link
        unfolding x
        linked_now =
            ap (λ n. (at_end w' n).link) (sym is_o)
            ∙ (ap (λ c. (named (λ e. e.name) no_end q.name c.ends).link) now_context
            ∙ (ap (λ n. (named (λ e. e.name) no_end n (takes l.context l.end l.link l.packet).context.ends).link) (sym e_name) ∙ turned'.linked))

        elsewhere : p.context ≢ q.context
        elsewhere h = apart (h ∙ ap (λ n. n.context) is_o)

        peer_same : IsPeerSame w2 w'
        peer_same = peer_on w2 w w' d.peer (ap (λ z. z.regions) (else_context p.context elsewhere)) (ap (λ z. named (λ e. e.name) no_end p.name z.ends) (else_context p.context elsewhere))

        others_same : (z : ObjName) → z ≢ o → IsSpared z w2 w'
        unfolding x
        others_same z ne =
            spared_on z w2 w w'
            (end_else w w' q l.context l.there.context (takes l.context l.end l.link l.packet).context stored x_name l.after_end (l.ends ∙ ap (λ n. store_named (λ y. y.name) n l.after_end l.context.ends) e_name) (l.after_name ∙ e_name) z (λ h. ne (h ∙ is_o)))
            (d.others z ne)

        answered_on : During w'
        answered_on =
            rest l.shapes fresh turned'.link linked_now
            (turned_on Back l1 d.link turned'.link d.turned (subst (λ z. IsTurned Back z turned'.link) link_same turned'.turned))
            (steady_on l1 d.link turned'.link d.steady (subst (λ (z : Link). (turned'.link.ended ≡ true) ⊎ (turned'.link.moving ≡ z.moving)) link_same turned'.steady) (λ h. turned'.over (ap (λ z. z.ended) link_same ∙ h)))
            peer_same others_same

      landed_on : During w'
      landed_on = elim bytes_sorted [ inl stop ↦ stopped_on stop | inr a ↦ answered_on a ]

    pub deliver_during : During w'
    deliver_during = elim (delivers_either lightens w d.machine k d.stands) [
      | inl quiet ↦ quiet_on quiet.lives quiet.shapes (λ j g past there. inl (quiet.fresh j g past there))
      | inr l ↦ landed_on l
    ]

  delivering_during : (ks : List ℕ) (s : Settling) → ((k : ℕ) → Contains ks k → n1 < k) → During s.world → During (delivering s ks).world
  unfolding delivering settle_step stepped_to
  delivering_during [] s all d = d
  delivering_during (k ∷ ks) s all d = delivering_during ks (settle_step s (world_events.Deliver k)) (λ i c. all i (contains_later i k ks c)) (deliver_during s.world k (all k (contains_here k ks)) d)

  pub pass_during : (s : Settling) → During s.world → During (pass s).world
  pass_during s d = delivering_during (pending_numbers s.world.sent) s (λ k c. let g = numbers_pend s.world.sent k c in d.later k g.0 g.1) d
