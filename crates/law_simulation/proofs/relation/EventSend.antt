-- The machine follows the posting of a request.
use Rattle.std.proofs.Common.{arith, ◌≡◌, ◌≤◌, ◌<◌, ◌+◌, ℕ, List, [], ◌∷◌, ◌++◌, length, map, true, false, Bool, refl, sym, ap, ◌∙◌, subst, inl, inr}
use Rattle.std.specs.Prelude.{Option, Some, None, not, ◌&&◌, is_some, nat_le, nat_lt, if◌then◌else◌, All, Contains, drop, flat_map}
use Rattle.std.proofs.lemmas.Bool.Decides.{nat_tests, leb_tells}
use Rattle.std.proofs.lemmas.List.{length-drop, drop-append-le}
use Rattle.std.proofs.lemmas.List.Elements.{All-nil, All-push}
use Rattle.rdma_types.specs.declared.requests.Completion.{Completion}
use Rattle.rdma_types.specs.declared.requests.Request.{Request}
use Rattle.rdma_types.specs.declared.requests.WcStatus.TheVariants as status
use Rattle.rdma_types.specs.Kinds.{kind_of, lands, request_done, size_of}
use Rattle.rdma_types.specs.Limits.{most_bytes, number_limit}
use Rattle.rdma_types.specs.Memory.{is_granted, landing_right, local_key}
use Rattle.rdma_types.specs.Objects.{Posted}
use Rattle.rdma_types.specs.Spans.{end_number, first_number, span_of}
use Rattle.protocol.specs.State.{Link, no_end}
use Rattle.protocol.specs.Memory.{untold_of}
use Rattle.protocol.specs.Requester.{end_of_queue}
use Rattle.protocol.specs.EndWords as words
use Rattle.packetless_machine.specs.Machine.{End, bytes_at, has_end, regions_of, untold_count}
use Rattle.packetless_machine.specs.Steps.{untold}
use Rattle.law_simulation.specs.Views.{Owned, owned, owned_there, context_of, end_of, in_rts, link_or_none, net_of, numbered_ends, name_at, receive_in, requests_of, side_of}
use Rattle.law_simulation.specs.Joined.{IsSayable}
use Rattle.law_simulation.specs.Stands.{AreNumbered, AreProgressing, AreSame, AreLeft, AreSent, IsContextSound, IsEndSound}
use Rattle.law_simulation.specs.Law.{IsRequestInRange}
use Rattle.law_simulation.proofs.relation.Tables.{All-named, name-named_there, named-there}
use Rattle.law_simulation.proofs.relation.Worlds as worlds
use Rattle.law_simulation.proofs.relation.Worlds.{WorldChanged, home_context, husks_same}
use Rattle.law_simulation.proofs.relation.Machines as machines
use Rattle.law_simulation.proofs.relation.Machines.{MachineChanged, queue_stored}
use Rattle.law_simulation.proofs.relation.Kept.{placed_kept, counted_kept, same_kept, sound_kept}
use Rattle.law_simulation.proofs.relation.Ends.{end_there, end_owned, ends_store, queue_in, full_same, with_more, completing_there, with_more_names}
use Rattle.law_simulation.proofs.relation.Sounds.{queue_there, queues_like}
use Rattle.law_simulation.proofs.relation.Grows.{IsConnected}
use Rattle.law_simulation.proofs.relation.Numbers.{first-rest}
use Rattle.law_simulation.proofs.relation.Connecting.{end_stored_here, end_stored_other, side_like}
use Rattle.law_simulation.proofs.relation.Linked.{context_with, end_changed, end_there_of, linked_changed, linked_ends, linked_of, listed, machine_here, machine_other, there_kept, connected_sound, domain_there}
use Rattle.law_simulation.proofs.relation.OnePosted.{posted_end, posted_sender, posted_side, posted_sound}
use Rattle.law_simulation.proofs.relation.PostedNet.{NetPosts, requests_sound, joined_posted, progressing_posted, left_posted, sent_posted}
use Rattle.law_simulation.proofs.relation.Taken.{taken_same, taken_whole, taken_said}
use Rattle.law_simulation.proofs.relation.Live.{home_counts}
use Rattle.law_simulation.proofs.relation.Grows as grows
use Rattle.rdma_types.specs.declared.names.Name.{Name}
use Rattle.rdma_types.specs.declared.names.ObjName.{ObjName}
use Rattle.rdma_types.specs.declared.verbs.Verb.TheVariants as verbs
use Rattle.rdma_types.specs.declared.answers.Answer.TheVariants as answers
use Rattle.rdma_types.specs.declared.answers.Refusal.TheVariants as refusals
use Rattle.rdma_types.specs.Causes.{first_cause}
use Rattle.rdma_types.specs.Lists.{has_name, named, store_named}
use Rattle.rdma_types.specs.Objects.{Region}
use Rattle.protocol.specs.declared.events.Event.TheVariants as events
use Rattle.protocol.specs.declared.events.WorldEvent.TheVariants as world_events
use Rattle.protocol.specs.State as state
use Rattle.protocol.specs.State.{World}
use Rattle.protocol.specs.Refusals as refusing
use Rattle.protocol.specs.DeviceStep as device
use Rattle.protocol.specs.WorldStep as step
use Rattle.protocol.specs.WorldStep.{is_live, home, ran}
use Rattle.packetless_machine.specs.Machine as machine
use Rattle.packetless_machine.specs.Machine.{Machine, has_context}
use Rattle.packetless_machine.specs.Verbs as verbing
use Rattle.law_simulation.specs.Kept as kept
use Rattle.law_simulation.specs.Stands.{Stands}
use Rattle.law_simulation.specs.Law.{Follows}
use Rattle.law_simulation.proofs.relation.Machines.{context_name}
use Rattle.law_simulation.proofs.relation.Nets.{same_quiet}
use Rattle.law_simulation.proofs.relation.Refusing.{Matches, matches_cause, matches_unknown, matches_none, first_yes, first_no, later_no, not_lacking}
use Rattle.law_simulation.proofs.relation.Live.{live_of, live_name, live_same, within_matches, changed_stands}
use Rattle.law_simulation.proofs.relation.Verbs.{IsDone, verb_follows}

abbrev pub posted_link : Link → Posted → Link
posted_link l p = record l { sender = posted_sender l.sender p }

-- ---- tests

initial : (l : Option Link) → refusing.is_init l ≡ not (is_some l)
initial None = refl
initial (Some l) = refl

untold_is : (l : Option Link) → untold_of l ≡ (link_or_none l).sender.untold
unfolding link_or_none
untold_is None = refl
untold_is (Some l) = refl

within_bytes : (n : ℕ) → nat_lt most_bytes n ≡ false → n ≤ most_bytes
within_bytes n h = grind (arith, nat_tests, leb_tells 1048577 n)

below : (limit n : ℕ) → nat_le limit n ≡ false → n < limit
below limit n h = grind (arith, nat_tests, leb_tells limit n)

linked_by : (l : Option Link) → is_some l ≡ true → (x : Link) × (l ≡ Some x)
linked_by None h = absurd (cc)
linked_by (Some l) h = (l, refl)

-- a request in its ranges can be said, with its bytes
sayable : (r : Request) (payload : List ℕ) → IsRequestInRange r → (lands r.shape.kind ≡ false → length payload ≡ r.shape.length) → All (λ b. b < 256) payload → IsSayable (record { request = r; payload = payload })
sayable r payload range whole said = record { remote = range.remote; rkey = range.rkey; swap_add = range.swap_add; compare = range.compare; no_compare = range.no_compare; imm = range.imm; word = range.word; payload = whole; bytes = said }

-- what an owner has of an end that posts
owned_posted : (e : state.End) (f : End) (l : Link) (p : Posted) → owned_there e ≡ owned f → e.link ≡ Some l → f.told ≤ length f.posted → owned_there (record e { link = Some (posted_link l p) }) ≡ owned (posted_end f p)
unfolding owned_there owned untold link_or_none
owned_posted e f l p same linked told =
    let before : record (owned_there e) { untold = (owned_there e).untold ++ p ∷ [] } ≡ record (owned f) { untold = (owned f).untold ++ p ∷ [] } = ap (λ (z : Owned). record z { untold = z.untold ++ p ∷ [] }) same in
    let there : owned_there (record e { link = Some (posted_link l p) }) ≡ record (owned_there e) { untold = (owned_there e).untold ++ p ∷ [] } = λ i. record {
      name = e.name;
      number = e.number;
      domain = e.domain;
      send_queue = e.send_cq;
      receive_queue = e.recv_cq;
      send_depth = e.send_depth;
      receive_depth = e.recv_depth;
      connected = ap is_some (sym linked) i;
      ended = ap (λ z. (link_or_none z).ended) (sym linked) i;
      untold = ap (λ z. (link_or_none z).sender.untold ++ p ∷ []) (sym linked) i;
      in_use = ap (λ z. receive_in (link_or_none z).receiver.progress) (sym linked) i;
      unused = e.unused;
    } in
    let here : record (owned f) { untold = (owned f).untold ++ p ∷ [] } ≡ owned (posted_end f p) = ap (λ us. record (owned f) { untold = us }) (sym (drop-append-le f.told f.posted (p ∷ []) told)) in
    there ∙ (before ∙ here)

-- an end with one more request is sound in its context
end_posted_sound : (regions : List Region) (names : List Name) (f : End) (p : Posted) → f.connected ≡ true → f.ended ≡ false → length f.posted < f.send_depth + f.told → size_of p ≤ most_bytes → is_granted local_key regions f.domain p.request.lkey p.request.local (size_of p) (landing_right (kind_of p)) ≡ true → IsEndSound regions names f → IsEndSound regions names (posted_end f p)
unfolding untold
end_posted_sound regions names f p connected alive room short granted s = record {
  sound = posted_sound f p alive room short s.sound;
  made = λ h. absurd (cc (connected, h));
  depth = s.depth;
  send_queue = s.send_queue;
  receive_queue = s.receive_queue;
  requests = subst (All (λ r. is_granted local_key regions f.domain r.request.lkey r.request.local (size_of r) (landing_right (kind_of r)) ≡ true)) (sym (drop-append-le f.told f.posted (p ∷ []) s.sound.told_posted))
      (All-push (λ r. is_granted local_key regions f.domain r.request.lkey r.request.local (size_of r) (landing_right (kind_of r)) ≡ true) (untold f) p s.requests granted);
  receives = s.receives;
}

-- ---- an end in Rts posts

module _ (w : World) (m : Machine) (o : ObjName) (p : Posted) (l : Link) (s : Stands w m) (live : is_live w o.context ≡ true) (there : has_context m o.context ≡ true) (found : has_end m o ≡ true) (linked : (end_there_of w o).link ≡ Some l) (alive : l.ended ≡ false)
    (room : length (machine.end_of m o).posted < (machine.end_of m o).send_depth + (machine.end_of m o).told) (short : size_of p ≤ most_bytes) (granted : is_granted local_key (regions_of m o.context) (machine.end_of m o).domain p.request.lkey p.request.local (size_of p) (landing_right (kind_of p)) ≡ true)
    (said : IsSayable p) (limit : end_of_queue l.terms l.sender + span_of p l.terms.mtu < number_limit) where
  abbrev f : End
  f = machine.end_of m o

  abbrev l' : Link
  l' = posted_link l p

  abbrev w' : World
  w' = (ran w (device.answers (device.with_context (home w o.context) (linked_of w o l')) answers.Done)).world

  abbrev m' : Machine
  m' = machine.with_end m o (posted_end f p)

  in_list : has_name (λ z. z.name) o.name (machine.context_of m o.context).ends ≡ true
  unfolding has_end
  in_list = found

  in_world : has_name (λ z. z.name) o.name (live_of w o.context).ends ≡ true
  in_world = end_there o.name (live_of w o.context).ends (machine.context_of m o.context).ends (live_same w m o.context s live).ends ∙ in_list

  name_there : (end_there_of w o).name ≡ o.name
  name_there = name-named_there (λ z. z.name) no_end o.name (live_of w o.context).ends in_world

  name_here : f.name ≡ o.name
  unfolding machine.end_of
  name_here = name-named_there (λ z. z.name) (machine.nobody o) o.name (machine.context_of m o.context).ends in_list

  both : owned_there (end_there_of w o) ≡ owned f
  unfolding machine.end_of
  both = end_owned o.name no_end (machine.nobody o) (live_of w o.context).ends (machine.context_of m o.context).ends (live_same w m o.context s live).ends in_list

  link_now : (end_of w o).link ≡ Some l
  unfolding end_of
  link_now =
      ap (λ c. (named (λ e. e.name) (record no_end { name = o.name }) o.name c.ends).link) (sym (home_context w o.context live))
      ∙ (ap (λ e. e.link) (named-there (λ e. e.name) (record no_end { name = o.name }) no_end o.name (live_of w o.context).ends in_world) ∙ linked)

  sound_here : IsEndSound (regions_of m o.context) (map (λ q. q.name) (machine.context_of m o.context).queues) f
  unfolding machine.end_of
  sound_here = All-named (IsEndSound (regions_of m o.context) (map (λ q. q.name) (machine.context_of m o.context).queues)) (λ z. z.name) (machine.nobody o) o.name (machine.context_of m o.context).ends (s.sound o.context).ends in_list

  connected_here : f.connected ≡ true
  unfolding owned_there owned
  connected_here = ap (λ z. z.connected) (sym both) ∙ ap is_some linked

  alive_here : f.ended ≡ false
  unfolding owned_there owned link_or_none
  alive_here = ap (λ z. z.ended) (sym both) ∙ (ap (λ z. (link_or_none z).ended) linked ∙ alive)

  connected : IsConnected (net_of w m) o
  connected = ap is_some link_now

  cw : WorldChanged w w' o.context (linked_of w o l')
  cw = linked_changed w m o l' s.placed live

  cm : MachineChanged m m' o.context (context_with m o (posted_end f p))
  cm = end_changed m o (posted_end f p) there in_list

  link_after : (end_of w' o).link ≡ Some l'
  link_after = ap (λ e. e.link) (end_stored_here w w' o (linked_of w o l') (record (end_there_of w o) { link = Some l' }) cw (linked_ends w o l' live name_there) name_there)

  side_after : side_of w' o ≡ posted_side (side_of w o) p
  unfolding in_rts link_or_none
  side_after =
      let place = worlds.place_same w w' o.context cw.shapes in
      λ i. record {
        link = (ap link_or_none link_after ∙ ap (λ z. posted_link (link_or_none z) p) (sym link_now)) i;
        connected = (ap is_some link_after ∙ ap is_some (sym link_now)) i;
        rts = (ap (λ z. is_some z && not (link_or_none z).ended) link_after ∙ ap (λ z. is_some z && not (link_or_none z).ended) (sym link_now)) i;
        carried = has_name (λ z. z.name) o.context (cw.carried i);
        place = place i;
      }

  listed_same : numbered_ends m' ≡ numbered_ends m
  listed_same = listed m o (posted_end f p) there in_list name_here refl refl

  posts : NetPosts (net_of w m) (net_of w' m') o p
  posts = record {
    side = side_after;
    end = ap requests_of (machine_here m o (posted_end f p) there in_list name_here);
    sides = λ k ne. side_like w w' o.context (linked_of w o l') k cw (ap (λ e. e.link) (end_stored_other w w' o k (linked_of w o l') (record (end_there_of w o) { link = Some l' }) cw (linked_ends w o l' live name_there) name_there ne));
    ends = λ k ne. ap requests_of (machine_other m o k (posted_end f p) there in_list name_here ne);
    names = λ k. ap (λ xs. name_at xs k) listed_same;
  }

  -- the numbers stay below the limit
  below_limit : end_number f.posted f.mtu + span_of p f.mtu < number_limit
  unfolding end_of_queue owned_there owned untold link_or_none in_rts
  below_limit =
      let j = s.joined o connected in
      let link : (link_or_none (end_of w o).link) ≡ l = ap link_or_none link_now in
      let rts : (is_some (end_of w o).link && not (link_or_none (end_of w o).link).ended) ≡ true = ap (λ z. is_some z && not (link_or_none z).ended) link_now ∙ ap not alive in
      let first : l.sender.first ≡ first_number f.posted f.mtu f.told = ap (λ z. z.sender.first) (sym link) ∙ (j.sends rts).first in
      let mtu : l.terms.mtu ≡ f.mtu = ap (λ z. z.terms.mtu) (sym link) ∙ j.mtu in
      let untold' : l.sender.untold ≡ drop f.told f.posted = ap (λ z. (link_or_none z).sender.untold) (sym linked) ∙ ap (λ z. z.untold) both in
      omega (arith, limit, first, first-rest f.posted f.mtu f.told sound_here.sound.told_posted, ap (λ us. end_number us l.terms.mtu) untold', ap (end_number (drop f.told f.posted)) mtu, ap (span_of p) mtu)

  same : (k : Name) → AreSame (context_of w' k) (machine.context_of m' k)
  unfolding words.with_end words.with_link
  same =
      let before = live_same w m o.context s live in
      same_kept w w' m m' o.context (linked_of w o l') (context_with m o (posted_end f p)) cw cm (record {
        domains = before.domains;
        regions = before.regions;
        queues = before.queues;
        ends =
            ap (λ k. map owned_there (store_named (λ z. z.name) k (record (end_there_of w o) { link = Some l' }) (live_of w o.context).ends)) name_there
            ∙ ends_store o.name (record (end_there_of w o) { link = Some l' }) (posted_end f p) (live_of w o.context).ends (machine.context_of m o.context).ends before.ends (owned_posted (end_there_of w o) f l p both linked sound_here.sound.told_posted);
      }) s.same

  numbers_are : m'.numbers ≡ m.numbers
  unfolding machine.with_end machine.with_context
  numbers_are = refl

  keys_are : m'.keys ≡ m.keys
  unfolding machine.with_end machine.with_context
  keys_are = refl

  sound : (k : Name) → IsContextSound m'.keys (machine.context_of m' k)
  sound = sound_kept m m' o.context (context_with m o (posted_end f p)) cm (λ k h. subst (λ ks. Contains ks k) (sym keys_are) h)
      (subst (λ ks. IsContextSound ks (context_with m o (posted_end f p))) (sym keys_are)
      (connected_sound m.keys (machine.context_of m o.context) o.name (machine.nobody o) (posted_end f p) in_list name_here (domain_there m o in_list (s.sound o.context)) (end_posted_sound _ _ f p connected_here alive_here room short granted sound_here) (s.sound o.context))) s.sound

  number_same : (k : ObjName) → (machine.end_of m' k).number ≡ (machine.end_of m k).number
  number_same k = elim (grows.object_or_not k o) [
    | inl a ↦ ap (λ j. (machine.end_of m' j).number) a ∙ (ap (λ z. z.number) (machine_here m o (posted_end f p) there in_list name_here) ∙ ap (λ j. (machine.end_of m j).number) (sym a))
    | inr ne ↦ ap (λ z. z.number) (machine_other m o k (posted_end f p) there in_list name_here ne)
  ]

  numbering : AreNumbered (net_of w' m') (numbered_ends m') m'.numbers
  numbering = subst (AreNumbered (net_of w' m') (numbered_ends m')) (sym numbers_are) (record {
    given = subst (All (λ z. Contains m.numbers z.0)) (sym listed_same) s.numbered.given;
    named = λ k h. ap (λ xs. name_at xs (machine.end_of m' k).number) listed_same ∙ (ap (name_at (numbered_ends m)) (number_same k) ∙ s.numbered.named k (sym (there_kept m o k (posted_end f p) there in_list name_here) ∙ h));
  })

  regions_same : (k : Name) → regions_of m' k ≡ regions_of m k
  regions_same k = machines.part_same m m' o.context (context_with m o (posted_end f p)) cm (λ c. c.regions) k refl

  net_alive : ((net_of w m).side o).link.ended ≡ false
  unfolding link_or_none
  net_alive = ap (λ z. (link_or_none z).ended) link_now ∙ alive

  stands : Stands w' m'
  unfolding machine.with_end machine.with_context
  stands =
      let quiet = requests_sound f sound_here.sound in
      record {
        placed = placed_kept w w' m m' o.context (linked_of w o l') (context_with m o (posted_end f p)) cw cm s.placed;
        counted = counted_kept w w' m (λ k. home_counts w m o.context (linked_of w o l') answers.Done k s.placed live) s.counted;
        same = same;
        sound = sound;
        numbered = numbering;
        joined = joined_posted (net_of w m) (net_of w' m') o p posts s.joined connected net_alive quiet said below_limit;
        progress = subst (AreProgressing (net_of w' m')) (λ i k. sym (regions_same k) i) (progressing_posted (net_of w m) (net_of w' m') o p posts s.joined connected net_alive quiet said below_limit (regions_of m) s.progress);
        husks = left_posted (net_of w m) (net_of w' m') o p posts s.joined connected net_alive quiet said below_limit _ (subst (λ hs. AreLeft (net_of w m) (flat_map (λ h. h.entries) hs)) (sym (husks_same w w' cw.shapes)) s.husks);
        sent = sent_posted (net_of w m) (net_of w' m') o p posts s.joined connected net_alive quiet said below_limit w'.sent (subst (AreSent (net_of w m)) (sym cw.sent) s.sent);
      }

-- ---- the verb

module _ (w : World) (m : Machine) (o : ObjName) (r : Request) (range : IsRequestInRange r) (s : Stands w m) where
  abbrev x : state.Context
  x = live_of w o.context

  abbrev y : machine.Context
  y = machine.context_of m o.context

  abbrev e : state.End
  e = state.end_at x o.name

  abbrev g : End
  g = machine.end_of m o

  abbrev taken : Posted
  taken = verbing.taken m o r

  found_there : is_live w o.context ≡ true → has_name (λ z. z.name) o.name x.ends ≡ has_end m o
  unfolding has_end
  found_there live = end_there o.name x.ends y.ends (live_same w m o.context s live).ends

  same_owned : is_live w o.context ≡ true → has_end m o ≡ true → owned_there e ≡ owned g
  unfolding has_end machine.end_of
  same_owned live found = end_owned o.name no_end (machine.nobody o) x.ends y.ends (live_same w m o.context s live).ends found

  untold_same : is_live w o.context ≡ true → has_end m o ≡ true → length (untold_of e.link) ≡ untold_count g
  unfolding owned_there owned untold untold_count
  untold_same live found = ap length (untold_is e.link ∙ ap (λ z. z.untold) (same_owned live found)) ∙ length-drop g.told g.posted

  matches : is_live w o.context ≡ true → has_context m o.context ≡ true → Matches (refusing.refusal_of (home w o.context) (events.PostSend o r)) (verbing.refusal_of m (verbs.PostSend o r))
  unfolding refusing.refusal_of kept.is_unmade_by machine.queue_of verbing.is_local_granted verbing.is_full owned_there owned
  matches live there =
      within_matches w m o.context _ _ live there
      (matches_cause refusals.NoSuch _ _ _ _ (ap not (found_there live))
      (λ lacks.
      let found : has_end m o ≡ true = not_lacking _ lacks in
      let same : owned_there e ≡ owned g = same_owned live found in
      let regions : x.regions ≡ y.regions = (live_same w m o.context s live).regions in
      matches_unknown refusals.TooMany _ _ _ refl
      (λ h. matches_cause refusals.BadState _ _ _ _ (initial e.link ∙ ap (λ z. not z.connected) same)
      (λ h. matches_cause refusals.TooLong _ _ _ _ refl
      (λ h. matches_cause refusals.BadKey _ _ _ _ (ap (λ rs. not (is_granted local_key rs e.domain r.lkey r.local r.shape.length (landing_right r.shape.kind))) regions ∙ ap (λ z. not (is_granted local_key y.regions z.domain r.lkey r.local r.shape.length (landing_right r.shape.kind))) same)
      (λ h. matches_cause refusals.SqFull _ _ _ _ (ap (λ n. nat_le e.send_depth n) (untold_same live found) ∙ ap (λ z. nat_le z.send_depth (untold_count g)) same)
      (λ h. matches_cause refusals.CqFull _ _ _ _ (full_same x y e.send_cq (live_same w m o.context s live) ∙ ap (λ z. nat_le (queue_in y.queues z.send_queue).capacity (length (queue_in y.queues z.send_queue).entries + machine.reserved y z.send_queue)) same)
      (λ h. matches_unknown refusals.NoPage _ [] (first_cause []) refl
      (λ h. matches_none)))))))))

  sound_end : has_end m o ≡ true → IsEndSound y.regions (map (λ q. q.name) y.queues) g
  unfolding machine.end_of has_end
  sound_end found = All-named (IsEndSound y.regions (map (λ q. q.name) y.queues)) (λ z. z.name) (machine.nobody o) o.name y.ends (s.sound o.context).ends found

  -- what is posted is the same on both sides
  posted_same : is_live w o.context ≡ true → is_granted local_key y.regions g.domain r.lkey r.local r.shape.length (landing_right r.shape.kind) ≡ true → record { request = r; payload = device.taken_bytes x r } ≡ taken
  unfolding verbing.taken
  posted_same live granted = λ i. record { request = r; payload = taken_same x y.regions g.domain r (landing_right r.shape.kind) (s.sound o.context).keyed_once granted (live_same w m o.context s live).regions i }

  said : is_granted local_key y.regions g.domain r.lkey r.local r.shape.length (landing_right r.shape.kind) ≡ true → IsSayable taken
  unfolding verbing.taken
  said granted =
      let sound = s.sound o.context in
      sayable r _ range
      (λ h. by_kind (lands r.shape.kind) h (taken_whole g.domain r.lkey r.local r.shape.length (landing_right r.shape.kind) y.regions sound.keyed_once sound.whole granted))
      (all_by (lands r.shape.kind) (taken_said r.lkey r.local r.shape.length y.regions sound.bytes))
    where
      by_kind : (b : Bool) → b ≡ false → length (bytes_at local_key r.lkey r.local r.shape.length y.regions) ≡ r.shape.length → length (if b then [] else bytes_at local_key r.lkey r.local r.shape.length y.regions) ≡ r.shape.length
      by_kind true h k = absurd (cc)
      by_kind false h k = k

      all_by : (b : Bool) → All (λ n. n < 256) (bytes_at local_key r.lkey r.local r.shape.length y.regions) → All (λ n. n < 256) (if b then [] else bytes_at local_key r.lkey r.local r.shape.length y.regions)
      all_by true k = All-nil _
      all_by false k = k

  -- what the two sides become, by whether the end has ended
  abbrev there_now : Link → Bool → state.Context
  there_now l ended = if ended then words.completing x e.send_cq (words.failed_request e.number status.Flush taken ∷ []) else words.linked x e (words.with_sender l (device.posting l.sender taken))

  abbrev here_now : Bool → Machine
  here_now ended = if ended then machine.completing m o.context g.send_queue (request_done g.number taken status.Flush 0 ∷ []) else machine.with_end m o (posted_end g taken)

  abbrev StandsBy : Link → Bool → Bool → Type 0
  StandsBy l p q = Stands (ran w (device.answers (device.with_context (home w o.context) (there_now l p)) answers.Done)).world (here_now q)

  completes : (l : Link) → is_live w o.context ≡ true → has_context m o.context ≡ true → has_end m o ≡ true → StandsBy l true true
  unfolding machine.completing machine.queue_of owned_there owned
  completes l live there found =
      let same = live_same w m o.context s live in
      let sound = s.sound o.context in
      let ends : owned_there e ≡ owned g = same_owned live found in
      let done : List Completion = request_done g.number taken status.Flush 0 ∷ [] in
      let q : has_name (λ z. z.name) g.send_queue y.queues ≡ true = queue_there g.send_queue y.queues (sound_end found).send_queue in
      let is : words.completing x e.send_cq (words.failed_request e.number status.Flush taken ∷ []) ≡ record x { queues = with_more y.queues g.send_queue done } =
      ap (λ z. words.completing x z.send_queue (request_done z.number taken status.Flush 0 ∷ [])) ends
      ∙ completing_there x y.queues g.send_queue done same.queues q in
      subst (λ z. Stands (ran w (device.answers (device.with_context (home w o.context) z) answers.Done)).world (here_now true)) (sym is)
      (subst (Stands (ran w (device.answers (device.with_context (home w o.context) (record x { queues = with_more y.queues g.send_queue done })) answers.Done)).world) (sym (queue_stored m o.context g.send_queue _ q))
      (changed_stands w m o.context (record x { queues = with_more y.queues g.send_queue done }) (record y { queues = with_more y.queues g.send_queue done }) answers.Done s live there
      (live_name w o.context live) (context_name m o.context) (same_quiet _ _ _ _ refl refl)
      (record { domains = same.domains; regions = same.regions; queues = refl; ends = same.ends })
      (record {
        whole = sound.whole;
        bytes = sound.bytes;
        keyed = sound.keyed;
        keyed_once = sound.keyed_once;
        named_once = sound.named_once;
        ends = queues_like y.regions _ _ y.ends (with_more_names y.queues g.send_queue done q) sound.ends;
        regions_in = sound.regions_in;
        ends_in = sound.ends_in;
        regions_end = sound.regions_end;
      })
      (λ q domain p h. h)))

  by_ended : (l : Link) (b : Bool) → l.ended ≡ b → e.link ≡ Some l → is_live w o.context ≡ true → has_context m o.context ≡ true → has_end m o ≡ true → untold_count g < g.send_depth → r.shape.length ≤ most_bytes →
      is_granted local_key y.regions g.domain r.lkey r.local r.shape.length (landing_right r.shape.kind) ≡ true → (not l.ended && nat_le number_limit (end_of_queue l.terms l.sender + span_of taken l.terms.mtu)) ≡ false → StandsBy l b b
  unfolding words.with_sender verbing.taken untold_count
  by_ended l true h linked live there found room short granted limit = completes l live there found
  by_ended l false h linked live there found room short granted limit =
      stands w m o taken l s live there found linked h (omega (arith, room)) short granted (said granted)
      (below number_limit _ (sym (ap (λ b. not b && nat_le number_limit (end_of_queue l.terms l.sender + span_of taken l.terms.mtu)) h) ∙ limit))

  -- the device's step
  step_is : (l : Link) → is_live w o.context ≡ true → is_granted local_key y.regions g.domain r.lkey r.local r.shape.length (landing_right r.shape.kind) ≡ true → e.link ≡ Some l → device.posts (home w o.context) x e r ≡ device.answers (device.with_context (home w o.context) (there_now l l.ended)) answers.Done
  unfolding device.posts device.posted_at
  step_is l live granted linked =
      ap (λ z. device.posts_at (home w o.context) x e z r) linked
      ∙ ap (λ p. device.answers (device.with_context (home w o.context) (if l.ended then words.completing x e.send_cq (words.failed_request e.number status.Flush p ∷ []) else words.linked x e (words.with_sender l (device.posting l.sender p)))) answers.Done) (posted_same live granted)

  machine_is : verbing.posted m o r ≡ here_now g.ended
  unfolding verbing.posted
  machine_is = refl

  does : is_live w o.context ≡ true → has_context m o.context ≡ true → has_end m o ≡ true → g.connected ≡ true → untold_count g < g.send_depth → r.shape.length ≤ most_bytes →
      is_granted local_key y.regions g.domain r.lkey r.local r.shape.length (landing_right r.shape.kind) ≡ true → refusing.is_past_limit e.link r ≡ false → IsDone w m (events.PostSend o r) (verbs.PostSend o r)
  unfolding ran step.numbered kept.is_unmade owned_there owned link_or_none verbing.taken
  does live there found connected room short granted limit =
      let same : owned_there e ≡ owned g = same_owned live found in
      let by : (l : Link) × (e.link ≡ Some l) = linked_by e.link (ap (λ z. z.connected) same ∙ connected) in
      let l : Link = by.0 in
      let linked : e.link ≡ Some l = by.1 in
      let over : l.ended ≡ g.ended = ap (λ z. (link_or_none z).ended) (sym linked) ∙ ap (λ z. z.ended) same in
      let now : StandsBy l l.ended l.ended = by_ended l l.ended refl linked live there found room short granted (ap (λ z. refusing.is_past_limit z r) (sym linked) ∙ limit) in
      let both : StandsBy l l.ended g.ended = subst (λ b. StandsBy l l.ended b) over now in
      let is = step_is l live granted linked in
      record {
        given = 0;
        may = refl;
        answer = sym (ap (λ z. (ran w z).answer) is);
        made = ap (λ z. kept.is_unmade (ran w z).answer) is;
        stands = subst (λ z. Stands (ran w z).world (verbing.posted m o r)) (sym is) (subst (λ z. Stands (ran w (device.answers (device.with_context (home w o.context) (there_now l l.ended)) answers.Done)).world z) (sym machine_is) both);
      }

  pub send_follows : Follows w m (world_events.At (events.PostSend o r))
  unfolding kept.verb_in refusing.refusal_of verbing.is_local_granted
  send_follows = verb_follows w m (events.PostSend o r) (verbs.PostSend o r) s (record {
    verb = refl;
    allows = λ a. refl;
    nowhere = λ h. first_yes refusals.NoSuch _ _ (rw h refl);
    matches = matches;
    does = λ live there h h'.
        let ends = later_no refusals.NoSuch _ _ h' in
        let states = later_no refusals.NoSuch _ _ ends in
        let lengths = later_no refusals.BadState _ _ states in
        let keys = later_no refusals.TooLong _ _ lengths in
        let queues = later_no refusals.BadKey _ _ keys in
        let limits = later_no refusals.NoSuch _ _ (later_no refusals.Stopped _ _ (later_no refusals.NoSuch _ _ h)) in
        does live there (not_lacking _ (first_no refusals.NoSuch _ _ ends)) (not_lacking _ (first_no refusals.BadState _ _ states))
        (below _ _ (first_no refusals.SqFull _ _ queues)) (within_bytes _ (first_no refusals.TooLong _ _ lengths)) (not_lacking _ (first_no refusals.BadKey _ _ keys))
        (first_no refusals.TooMany _ _ limits);
  })
