-- A live connected end: what a world that stands tells of it, and what it is to change it on both sides.
use Rattle.std.proofs.Common.{◌≡◌, ◌≤◌, ℕ, map, true, false, Bool, refl, sym, ap, ◌∙◌, subst}
use Rattle.std.specs.Prelude.{Some, not, ◌&&◌, is_some, drop}
use Rattle.rdma_types.specs.declared.names.Name.{Name}
use Rattle.rdma_types.specs.declared.names.ObjName.{ObjName}
use Rattle.rdma_types.specs.declared.answers.Answer.{Answer}
use Rattle.rdma_types.specs.Lists.{has_name, named, store_named}
use Rattle.protocol.specs.State as state
use Rattle.protocol.specs.State.{World, Link, Sender, Progress, no_end}
use Rattle.protocol.specs.EndWords as words
use Rattle.protocol.specs.DeviceStep as device
use Rattle.protocol.specs.WorldStep.{is_live, home, ran}
use Rattle.packetless_machine.specs.Machine as machine
use Rattle.packetless_machine.specs.Machine.{Machine, End, has_context, has_end, regions_of}
use Rattle.packetless_machine.specs.Steps.{untold}
use Rattle.law_simulation.specs.Views.{Owned, owned, owned_there, end_of, in_rts, link_or_none, receive_in, requests_of, side_of}
use Rattle.law_simulation.specs.Joined.{IsJoined, IsProgress, Sends, IsOrdered, IsFencedIn}
use Rattle.law_simulation.specs.Stands.{Stands, AreSame, IsContextSound, IsEndSound}
use Rattle.law_simulation.proofs.relation.Tables.{All-named, name-named_there, named-there}
use Rattle.law_simulation.proofs.relation.Worlds.{home_context}
use Rattle.law_simulation.proofs.relation.Machines.{MachineChanged}
use Rattle.law_simulation.proofs.relation.Kept.{counted_kept}
use Rattle.law_simulation.proofs.relation.Ends.{end_there, end_owned, ends_store}
use Rattle.law_simulation.proofs.relation.Live.{live_of, live_name, live_same, home_changed, home_counts}
use Rattle.law_simulation.proofs.relation.Linked.{end_there_of, linked_of, context_with, end_changed, connected_sound, domain_there}
use Rattle.law_simulation.proofs.sending.GoNet.{Goes}
use Rattle.law_simulation.proofs.sending.GoStands.{Steps, steps_stand, with_link}
use Rattle.law_simulation.proofs.sending.GoEnd.{Goes_on, gone_end, gone_link, goes_on, goes_waited}
use Rattle.law_simulation.proofs.sending.GoTables.{end_kept}

-- the end o lives, and has the link l
pub record LiveEnd (w : World) (m : Machine) (o : ObjName) (l : Link) : Type 0 where
  pub live : is_live w o.context ≡ true
  pub there : has_context m o.context ≡ true
  pub found : has_end m o ≡ true
  pub linked : (end_there_of w o).link ≡ Some l

-- what an owner has of an end in Rts whose owner learns more
pub owned_gone : (e : state.End) (f : End) (l : Link) (s' : Sender) (told known spent waits : ℕ) → owned_there e ≡ owned f → e.link ≡ Some l → s'.untold ≡ drop told f.posted → owned_there (record e { link = Some (record l { sender = s' }) }) ≡ owned (gone_end f told known spent waits f.ended)
unfolding owned_there owned untold link_or_none
owned_gone e f l s' told known spent waits same linked rest =
    let there : owned_there (record e { link = Some (record l { sender = s' }) }) ≡ record (owned_there e) { untold = drop told f.posted } = λ i. record {
      name = e.name;
      number = e.number;
      domain = e.domain;
      send_queue = e.send_cq;
      receive_queue = e.recv_cq;
      send_depth = e.send_depth;
      receive_depth = e.recv_depth;
      connected = ap is_some (sym linked) i;
      ended = ap (λ z. (link_or_none z).ended) (sym linked) i;
      untold = rest i;
      in_use = ap (λ z. receive_in (link_or_none z).receiver.progress) (sym linked) i;
      unused = e.unused;
    } in
    there ∙ ap (λ (z : Owned). record z { untold = drop told f.posted }) same

-- its context becomes x, where the end is e with the link l'; in the machine it becomes y, where the end is g
pub record ContextGoes (w : World) (m m' : Machine) (o : ObjName) (x : state.Context) (y : machine.Context) (e : state.End) (g : End) (l' : Link) : Type 0 where
  pub name : x.name ≡ o.context
  pub changed : MachineChanged m m' o.context y
  pub ends : x.ends ≡ store_named (λ z. z.name) o.name e (live_of w o.context).ends
  pub named_there : e.name ≡ o.name
  pub link : e.link ≡ Some l'
  pub ends_here : y.ends ≡ store_named (λ z. z.name) o.name g (machine.context_of m o.context).ends
  pub named_here : g.name ≡ o.name
  pub number : g.number ≡ (machine.end_of m o).number
  pub numbers : m'.numbers ≡ m.numbers
  pub keys : m'.keys ≡ m.keys
  pub same : AreSame x y
  pub sound : IsContextSound m.keys y
  pub regions : (q : End) (domain : Name) (p : Progress) → IsProgress q domain (regions_of m o.context) p → IsProgress q domain y.regions p

module _ (w : World) (m : Machine) (o : ObjName) (l : Link) (s : Stands w m) (h : LiveEnd w m o l) where
  abbrev f : End
  f = machine.end_of m o

  in_list : has_name (λ z. z.name) o.name (machine.context_of m o.context).ends ≡ true
  unfolding has_end
  in_list = h.found

  in_world : has_name (λ z. z.name) o.name (live_of w o.context).ends ≡ true
  in_world = end_there o.name (live_of w o.context).ends (machine.context_of m o.context).ends (live_same w m o.context s h.live).ends ∙ in_list

  pub name_there : (end_there_of w o).name ≡ o.name
  name_there = name-named_there (λ z. z.name) no_end o.name (live_of w o.context).ends in_world

  pub name_here : f.name ≡ o.name
  unfolding machine.end_of
  name_here = name-named_there (λ z. z.name) (machine.nobody o) o.name (machine.context_of m o.context).ends in_list

  pub both : owned_there (end_there_of w o) ≡ owned f
  unfolding machine.end_of
  both = end_owned o.name no_end (machine.nobody o) (live_of w o.context).ends (machine.context_of m o.context).ends (live_same w m o.context s h.live).ends in_list

  pub link_now : (end_of w o).link ≡ Some l
  unfolding end_of
  link_now =
      ap (λ c. (named (λ e. e.name) (record no_end { name = o.name }) o.name c.ends).link) (sym (home_context w o.context h.live))
      ∙ (ap (λ e. e.link) (named-there (λ e. e.name) (record no_end { name = o.name }) no_end o.name (live_of w o.context).ends in_world) ∙ h.linked)

  pub link_is : (side_of w o).link ≡ l
  unfolding link_or_none
  link_is = ap link_or_none link_now

  pub connected : (side_of w o).connected ≡ true
  connected = ap is_some link_now

  pub in_rts_is : (side_of w o).rts ≡ not l.ended
  unfolding in_rts link_or_none
  in_rts_is = ap (λ z. is_some z && not (link_or_none z).ended) link_now

  pub sound_here : IsEndSound (regions_of m o.context) (map (λ q. q.name) (machine.context_of m o.context).queues) f
  unfolding machine.end_of
  sound_here = All-named (IsEndSound (regions_of m o.context) (map (λ q. q.name) (machine.context_of m o.context).queues)) (λ z. z.name) (machine.nobody o) o.name (machine.context_of m o.context).ends (s.sound o.context).ends in_list

  pub connected_here : f.connected ≡ true
  unfolding owned_there owned
  connected_here = ap (λ z. z.connected) (sym both) ∙ ap is_some h.linked

  pub ended_here : f.ended ≡ l.ended
  unfolding owned_there owned link_or_none
  ended_here = ap (λ z. z.ended) (sym both) ∙ ap (λ z. (link_or_none z).ended) h.linked

  pub untold_here : l.sender.untold ≡ drop f.told f.posted
  unfolding owned_there owned link_or_none untold
  untold_here = ap (λ z. (link_or_none z).sender.untold) (sym h.linked) ∙ ap (λ z. z.untold) both

  pub joined_here : IsJoined o (side_of w o) (side_of w f.peer) (requests_of f) (requests_of (machine.end_of m f.peer))
  joined_here = s.joined o connected

  pub joined_other : IsJoined f.peer (side_of w f.peer) (side_of w o) (requests_of (machine.end_of m f.peer)) (requests_of f)
  joined_other = subst (λ k. IsJoined f.peer (side_of w f.peer) (side_of w k) (requests_of (machine.end_of m f.peer)) (requests_of (machine.end_of m k))) joined_here.back (s.joined f.peer joined_here.connected)

  pub mtu_is : l.terms.mtu ≡ f.mtu
  mtu_is = ap (λ z. z.terms.mtu) (sym link_is) ∙ joined_here.mtu

  pub sends_here : l.ended ≡ false → Sends l.sender (requests_of f)
  sends_here alive = subst (λ z. Sends z.sender (requests_of f)) link_is (joined_here.sends (in_rts_is ∙ ap not alive))

  pub ordered_here : IsOrdered l.sender (requests_of f)
  ordered_here = subst (λ z. IsOrdered z.sender (requests_of f)) link_is joined_here.ordered

  pub fenced_here : l.ended ≡ false → IsFencedIn l.sender (requests_of f)
  fenced_here alive = subst (λ z. IsFencedIn z.sender (requests_of f)) link_is (joined_here.fenced (in_rts_is ∙ ap not alive))

  -- the home's step
  pub home_steps : (m' : Machine) (x : state.Context) (y : machine.Context) (e : state.End) (g : End) (l' : Link) (a : Answer) → ContextGoes w m m' o x y e g l' →
      Steps w (ran w (device.answers (device.with_context (home w o.context) x) a)).world m m' o x y e g l'
  home_steps m' x y e g l' a c = record {
    changed_there = home_changed w m o.context x (home w o.context) a s.placed h.live c.name refl refl;
    changed_here = c.changed;
    there = h.found;
    connected = connected;
    ends = c.ends ∙ ap (λ z. store_named (λ u. u.name) o.name e z.ends) (home_context w o.context h.live);
    named_there = c.named_there;
    link = c.link;
    ends_here = c.ends_here;
    named_here = c.named_here;
    number = c.number;
    numbers = c.numbers;
    keys = c.keys;
    counted = counted_kept w (ran w (device.answers (device.with_context (home w o.context) x) a)).world m (λ k. home_counts w m o.context x a k s.placed h.live) s.counted;
    same = c.same;
    sound = c.sound;
    regions = c.regions;
  }

  -- .. where the end stays in Rts
  pub goes_on_here : (s' : Sender) (told known spent waits : ℕ) → l.ended ≡ false → f.told ≤ told → l.sender.top ≤ s'.top → Goes_on s' (requests_of (gone_end f told known spent waits f.ended)) →
      (m' : Machine) (x : state.Context) (y : machine.Context) (e : state.End) (a : Answer) → ContextGoes w m m' o x y e (gone_end f told known spent waits f.ended) (words.with_sender l s') →
      Stands (ran w (device.answers (device.with_context (home w o.context) x) a)).world m'
  unfolding words.with_sender
  goes_on_here s' told known spent waits alive more top g m' x y e a c =
      steps_stand w _ m m' o x y e (gone_end f told known spent waits f.ended) (words.with_sender l s') (home_steps m' x y e (gone_end f told known spent waits f.ended) (words.with_sender l s') a c) s
      (subst (λ z. Goes o (side_of w o) (with_link (side_of w o) (gone_link z s' z.ended z.moving.phase z.receiver.progress)) (side_of w f.peer) (requests_of f) (requests_of (gone_end f told known spent waits f.ended)) (requests_of (machine.end_of m f.peer))) link_is
      (goes_on o (side_of w o) (side_of w f.peer) (requests_of f) (requests_of (machine.end_of m f.peer)) s' told known spent waits connected (in_rts_is ∙ ap not alive) (ap (λ z. z.ended) link_is ∙ alive) joined_here joined_other more (subst (λ z. z.sender.top ≤ s'.top) (sym link_is) top) g))

  -- .. and neither its context's queues nor its memory change
  pub alone : (s' : Sender) (told known spent waits : ℕ) → s'.untold ≡ drop told f.posted → IsEndSound (regions_of m o.context) (map (λ q. q.name) (machine.context_of m o.context).queues) (gone_end f told known spent waits f.ended) →
      ContextGoes w m (machine.with_end m o (gone_end f told known spent waits f.ended)) o (linked_of w o (words.with_sender l s')) (context_with m o (gone_end f told known spent waits f.ended)) (record (end_there_of w o) { link = Some (words.with_sender l s') }) (gone_end f told known spent waits f.ended) (words.with_sender l s')
  unfolding words.with_end words.with_link words.with_sender machine.with_end machine.with_context
  alone s' told known spent waits rest sound =
      let g : End = gone_end f told known spent waits f.ended in
      let before = live_same w m o.context s h.live in
      record {
        name = live_name w o.context h.live;
        changed = end_changed m o g h.there in_list;
        ends = ap (λ k. store_named (λ z. z.name) k (record (end_there_of w o) { link = Some (words.with_sender l s') }) (live_of w o.context).ends) name_there;
        named_there = name_there;
        link = refl;
        ends_here = refl;
        named_here = name_here;
        number = refl;
        numbers = refl;
        keys = refl;
        same = record {
          domains = before.domains;
          regions = before.regions;
          queues = before.queues;
          ends =
              ap (λ k. map owned_there (store_named (λ z. z.name) k (record (end_there_of w o) { link = Some (words.with_sender l s') }) (live_of w o.context).ends)) name_there
              ∙ ends_store o.name (record (end_there_of w o) { link = Some (words.with_sender l s') }) g (live_of w o.context).ends (machine.context_of m o.context).ends before.ends (owned_gone (end_there_of w o) f l s' told known spent waits both h.linked rest);
        };
        sound = connected_sound m.keys (machine.context_of m o.context) o.name (machine.nobody o) g in_list name_here (domain_there m o in_list (s.sound o.context)) sound (s.sound o.context);
        regions = λ q domain p k. k;
      }

  pub alone_stands : (s' : Sender) (told known spent waits : ℕ) (a : Answer) → l.ended ≡ false → f.told ≤ told → l.sender.top ≤ s'.top → s'.untold ≡ drop told f.posted →
      IsEndSound (regions_of m o.context) (map (λ q. q.name) (machine.context_of m o.context).queues) (gone_end f told known spent waits f.ended) → Goes_on s' (requests_of (gone_end f told known spent waits f.ended)) →
      Stands (ran w (device.answers (device.with_context (home w o.context) (linked_of w o (words.with_sender l s'))) a)).world (machine.with_end m o (gone_end f told known spent waits f.ended))
  alone_stands s' told known spent waits a alive more top rest sound g =
      goes_on_here s' told known spent waits alive more top g _ _ _ _ a (alone s' told known spent waits rest sound)

  -- the end waits for its timer, or does so no longer
  pub waited_stands : (b : Bool) (a : Answer) → Stands (ran w (device.answers (device.with_context (home w o.context) (linked_of w o (words.with_sender l (record l.sender { rnr_wait = b })))) a)).world m
  unfolding words.with_sender
  waited_stands b a =
      let s' : Sender = record l.sender { rnr_wait = b } in
      subst (Stands (ran w (device.answers (device.with_context (home w o.context) (linked_of w o (words.with_sender l s'))) a)).world) (end_kept m o h.there in_list)
      (steps_stand w _ m _ o _ _ _ f (words.with_sender l s') (home_steps _ _ _ _ f (words.with_sender l s') a (alone s' f.told f.known f.spent f.waits untold_here sound_here)) s
      (subst (λ z. Goes o (side_of w o) (with_link (side_of w o) (record z { sender = record z.sender { rnr_wait = b } })) (side_of w f.peer) (requests_of f) (requests_of f) (requests_of (machine.end_of m f.peer))) link_is
      (goes_waited o (side_of w o) (side_of w f.peer) (requests_of f) (requests_of (machine.end_of m f.peer)) b (in_rts_is ∙ ap (λ z. not z.ended) (sym link_is)) joined_here joined_other)))
