-- The machine follows a connection.
use Rattle.std.proofs.Common.{◌≡◌, ◌≢◌, [], map, true, false, Bool, refl, sym, ap, ◌∙◌, subst, inl, inr}
use Rattle.std.specs.Prelude.{Option, Some, None, not, ◌&&◌, ◌||◌, is_some, bytes_eq, All, Contains}
use Rattle.rdma_types.specs.declared.names.Name.{Name}
use Rattle.rdma_types.specs.declared.names.ObjName.{ObjName}
use Rattle.rdma_types.specs.declared.requests.Address.{Address}
use Rattle.rdma_types.specs.declared.requests.Terms.{Terms}
use Rattle.rdma_types.specs.declared.verbs.Verb.TheVariants as verbs
use Rattle.rdma_types.specs.declared.answers.Answer.TheVariants as answers
use Rattle.rdma_types.specs.declared.answers.Refusal.{Refusal}
use Rattle.rdma_types.specs.declared.answers.Refusal.TheVariants as refusals
use Rattle.rdma_types.specs.Causes.{first_cause}
use Rattle.rdma_types.specs.Limits.{AreTerms}
use Rattle.rdma_types.specs.Lists.{named, has_name, has_word}
use Rattle.protocol.specs.declared.events.Event.TheVariants as events
use Rattle.protocol.specs.declared.events.WorldEvent.TheVariants as world_events
use Rattle.protocol.specs.State as state
use Rattle.protocol.specs.State.{World, Device, Link, fresh_link, no_end, device_at}
use Rattle.protocol.specs.Refusals as refusing
use Rattle.protocol.specs.WorldStep as step
use Rattle.protocol.specs.WorldStep.{world_step, is_live, is_carried, home, ran, exchanged}
use Rattle.packetless_machine.specs.Machine as machine
use Rattle.packetless_machine.specs.Machine.{Machine, End, has_context, has_end, nobody, regions_of}
use Rattle.packetless_machine.specs.Verbs as verbing
use Rattle.law_simulation.specs.Kept as kept
use Rattle.law_simulation.specs.Views.{Net, owned, owned_there, context_of, end_of, net_of, numbered_ends, name_at, peer, place_of, requests_of, side_of}
use Rattle.law_simulation.specs.Joined.{IsProgress}
use Rattle.law_simulation.specs.Stands.{Stands, IsPlaced, IsCounted, AreNumbered, AreSame, IsContextSound, IsEndSound}
use Rattle.law_simulation.specs.Law.{Reaches, Follows}
use Rattle.law_simulation.proofs.relation.Tables.{name-named_there, named-there, named-store_same, has_name-store, All-named, same_name}
use Rattle.law_simulation.proofs.relation.Worlds as worlds
use Rattle.law_simulation.proofs.relation.Worlds.{WorldChanged, shapes_of, home_holds, home_context, place_same, husks_same, has_context_is, has_name-names, is_there, ran_counts}
use Rattle.law_simulation.proofs.relation.Machines as machines
use Rattle.law_simulation.proofs.relation.Machines.{MachineChanged, context_name}
use Rattle.law_simulation.proofs.relation.Kept.{placed_kept, counted_kept, same_kept, sound_kept}
use Rattle.law_simulation.proofs.relation.Ends.{end_there, end_owned}
use Rattle.law_simulation.proofs.relation.Grows.{object_or_not, IsConnected, NetGrows, joined_like}
use Rattle.law_simulation.proofs.relation.InUse.{bytes_swap}
use Rattle.law_simulation.proofs.relation.Grown.{IsNew, grown_stands}
use Rattle.law_simulation.proofs.relation.Connecting.{live_place, live_not_carried, end_stored_here, end_stored_other, side_like, side_with, side_is, connected_end, fresh_joined, joined_sound}
use Rattle.law_simulation.proofs.relation.Live.{live_of, live_same, home_counts}
use Rattle.law_simulation.proofs.relation.Refusing.{Matches, is_known, matches_cause, matches_unknown, matches_none, first_no, later_no, not_lacking}
use Rattle.law_simulation.proofs.relation.Verbs.{done_reached, by_refusal_reached}
use Rattle.law_simulation.proofs.relation.Linked.{end_there_of, linked_of, connected_world, connects, placed_world, linked_changed, live_kept, home_kept, context_with, end_changed, machine_here, machine_other, listed, there_kept, side_connected, connected_sound, domain_there, linked_ends}

-- ---- both ends are connected

module _ (w : World) (m : Machine) (one two : ObjName) (terms : Terms) (range : AreTerms terms) (s : Stands w m)
    (live1 : is_live w one.context ≡ true) (live2 : is_live w two.context ≡ true) (there1 : has_context m one.context ≡ true) (there2 : has_context m two.context ≡ true)
    (found1 : has_end m one ≡ true) (found2 : has_end m two ≡ true) (lone1 : (end_there_of w one).link ≡ None) (lone2 : (end_there_of w two).link ≡ None) (apart : bytes_eq one.context two.context ≡ false) where
  abbrev f1 : End
  f1 = machine.end_of m one

  abbrev f2 : End
  f2 = machine.end_of m two

  abbrev a1 : Address
  a1 = (home w one.context).address

  abbrev a2 : Address
  a2 = (home w two.context).address

  abbrev l1 : Link
  l1 = fresh_link f2.number a2 terms

  abbrev l2 : Link
  l2 = fresh_link f1.number a1 (exchanged terms)

  abbrev w1 : World
  w1 = connected_world w one l1

  abbrev w2 : World
  w2 = connected_world w1 two l2

  abbrev g1 : End
  g1 = verbing.joined two terms f1

  abbrev g2 : End
  g2 = verbing.joined one terms f2

  abbrev m1 : Machine
  m1 = machine.with_end m one g1

  abbrev m2 : Machine
  m2 = machine.with_end m1 two g2

  contexts_differ : one.context ≢ two.context
  contexts_differ h = cc (subst (λ c. bytes_eq one.context c ≡ true) h (same_name one.context), apart)

  ends_differ : one ≢ two
  ends_differ h = contexts_differ (ap (λ o. o.context) h)

  in_list : (o : ObjName) → has_end m o ≡ true → has_name (λ z. z.name) o.name (machine.context_of m o.context).ends ≡ true
  unfolding has_end
  in_list o h = h

  in_world : (o : ObjName) → is_live w o.context ≡ true → has_end m o ≡ true → has_name (λ z. z.name) o.name (live_of w o.context).ends ≡ true
  in_world o live h = end_there o.name (live_of w o.context).ends (machine.context_of m o.context).ends (live_same w m o.context s live).ends ∙ in_list o h

  name_there : (o : ObjName) → is_live w o.context ≡ true → has_end m o ≡ true → (end_there_of w o).name ≡ o.name
  name_there o live h = name-named_there (λ z. z.name) no_end o.name (live_of w o.context).ends (in_world o live h)

  name_here : (o : ObjName) → has_end m o ≡ true → (machine.end_of m o).name ≡ o.name
  unfolding machine.end_of
  name_here o h = name-named_there (λ z. z.name) (nobody o) o.name (machine.context_of m o.context).ends (in_list o h)

  both : (o : ObjName) → is_live w o.context ≡ true → has_end m o ≡ true → owned_there (end_there_of w o) ≡ owned (machine.end_of m o)
  unfolding machine.end_of
  both o live h = end_owned o.name no_end (nobody o) (live_of w o.context).ends (machine.context_of m o.context).ends (live_same w m o.context s live).ends (in_list o h)

  -- the worlds
  cw1 : WorldChanged w w1 one.context (linked_of w one l1)
  cw1 = linked_changed w m one l1 s.placed live1

  placed1 : IsPlaced w1 m
  placed1 = placed_world w w1 m one.context (linked_of w one l1) cw1 s.placed

  live2' : is_live w1 two.context ≡ true
  live2' = live_kept w w1 m one.context (linked_of w one l1) two.context cw1 s.placed live2

  cw2 : WorldChanged w1 w2 two.context (linked_of w1 two l2)
  cw2 = linked_changed w1 m two l2 placed1 live2'

  same_two : live_of w1 two.context ≡ live_of w two.context
  same_two = home_context w1 two.context live2' ∙ (worlds.context_other w w1 one.context (linked_of w one l1) cw1 two.context (λ h. contexts_differ (sym h)) ∙ sym (home_context w two.context live2))

  end_two : end_there_of w1 two ≡ end_there_of w two
  end_two = ap (λ c. state.end_at c two.name) same_two

  name_two : (end_there_of w1 two).name ≡ two.name
  name_two = ap (λ e. e.name) end_two ∙ name_there two live2 found2

  world_one : (end_of w2 one).link ≡ Some l1
  world_one = ap (λ e. e.link) (end_stored_other w1 w2 two one (linked_of w1 two l2) (record (end_there_of w1 two) { link = Some l2 }) cw2 (linked_ends w1 two l2 live2' name_two) name_two ends_differ
      ∙ end_stored_here w w1 one (linked_of w one l1) (record (end_there_of w one) { link = Some l1 }) cw1 (linked_ends w one l1 live1 (name_there one live1 found1)) (name_there one live1 found1))

  world_two : (end_of w2 two).link ≡ Some l2
  world_two = ap (λ e. e.link) (end_stored_here w1 w2 two (linked_of w1 two l2) (record (end_there_of w1 two) { link = Some l2 }) cw2 (linked_ends w1 two l2 live2' name_two) name_two)

  world_other : (k : ObjName) → (k ≢ one) → (k ≢ two) → side_of w2 k ≡ side_of w k
  world_other k ne ne' =
      side_like w1 w2 two.context (linked_of w1 two l2) k cw2 (ap (λ e. e.link) (end_stored_other w1 w2 two k (linked_of w1 two l2) (record (end_there_of w1 two) { link = Some l2 }) cw2 (linked_ends w1 two l2 live2' name_two) name_two ne'))
      ∙ side_like w w1 one.context (linked_of w one l1) k cw1 (ap (λ e. e.link) (end_stored_other w w1 one k (linked_of w one l1) (record (end_there_of w one) { link = Some l1 }) cw1 (linked_ends w one l1 live1 (name_there one live1 found1)) (name_there one live1 found1) ne))

  carried_now : (c : Name) → is_live w c ≡ true → is_carried w2 c ≡ false
  carried_now c live = ap (has_name (λ z. z.name) c) (cw2.carried ∙ cw1.carried) ∙ live_not_carried w m c s.placed live

  place_now : (c : Name) → is_live w c ≡ true → place_of w2 c ≡ Some (home w c).address
  place_now c live = place_same w1 w2 c cw2.shapes ∙ (place_same w w1 c cw1.shapes ∙ live_place w c live)

  side_one : side_of w2 one ≡ side_with l1 a1
  side_one = side_is w2 one l1 a1 world_one (carried_now one.context live1) (place_now one.context live1)

  side_two : side_of w2 two ≡ side_with l2 a2
  side_two = side_is w2 two l2 a2 world_two (carried_now two.context live2) (place_now two.context live2)

  -- the machines
  named1 : g1.name ≡ one.name
  unfolding verbing.joined
  named1 = name_here one found1

  named2 : g2.name ≡ two.name
  unfolding verbing.joined
  named2 = name_here two found2

  cm1 : MachineChanged m m1 one.context (context_with m one g1)
  cm1 = end_changed m one g1 there1 (in_list one found1)

  there2' : has_context m1 two.context ≡ true
  unfolding has_context
  there2' = ap (has_name (λ z. z.name) two.context) cm1.contexts ∙ (has_name-store (λ z. z.name) one.context two.context (context_with m one g1) m.contexts there1 (context_name m one.context) ∙ there2)

  context_two : machine.context_of m1 two.context ≡ machine.context_of m two.context
  context_two = machines.context_other m m1 one.context (context_with m one g1) cm1 two.context (λ h. contexts_differ (sym h))

  found2' : has_name (λ z. z.name) two.name (machine.context_of m1 two.context).ends ≡ true
  found2' = ap (λ c. has_name (λ z. z.name) two.name c.ends) context_two ∙ in_list two found2

  cm2 : MachineChanged m1 m2 two.context (context_with m1 two g2)
  cm2 = end_changed m1 two g2 there2' found2'

  machine_one : machine.end_of m2 one ≡ g1
  machine_one = machine_other m1 two one g2 there2' found2' named2 ends_differ ∙ machine_here m one g1 there1 (in_list one found1) named1

  machine_two : machine.end_of m2 two ≡ g2
  machine_two = machine_here m1 two g2 there2' found2' named2

  machine_two_before : machine.end_of m1 two ≡ f2
  machine_two_before = machine_other m one two g1 there1 (in_list one found1) named1 (λ h. ends_differ (sym h))

  machine_else : (k : ObjName) → (k ≢ one) → (k ≢ two) → machine.end_of m2 k ≡ machine.end_of m k
  machine_else k ne ne' = machine_other m1 two k g2 there2' found2' named2 ne' ∙ machine_other m one k g1 there1 (in_list one found1) named1 ne

  numbered_same : numbered_ends m2 ≡ numbered_ends m
  unfolding verbing.joined
  numbered_same =
      listed m1 two g2 there2' found2' named2 (ap (λ z. z.number) (sym machine_two_before)) (ap (λ z. z.name) (sym machine_two_before))
      ∙ listed m one g1 there1 (in_list one found1) named1 refl refl

  there_same : (k : ObjName) → has_end m2 k ≡ has_end m k
  there_same k = there_kept m1 two k g2 there2' found2' named2 ∙ there_kept m one k g1 there1 (in_list one found1) named1

  numbers_are : m2.numbers ≡ m.numbers
  unfolding machine.with_end machine.with_context
  numbers_are = refl

  keys_are : m2.keys ≡ m.keys
  unfolding machine.with_end machine.with_context
  keys_are = refl

  keys_are1 : m1.keys ≡ m.keys
  unfolding machine.with_end machine.with_context
  keys_are1 = refl

  -- numbers stay
  number_same : (k : ObjName) → (machine.end_of m2 k).number ≡ (machine.end_of m k).number
  unfolding verbing.joined
  number_same k = elim (object_or_not k one) [
    | inl a ↦ ap (λ j. (machine.end_of m2 j).number) a ∙ (ap (λ z. z.number) machine_one ∙ ap (λ j. (machine.end_of m j).number) (sym a))
    | inr ne ↦ elim (object_or_not k two) [
      | inl b ↦ ap (λ j. (machine.end_of m2 j).number) b ∙ (ap (λ z. z.number) machine_two ∙ ap (λ j. (machine.end_of m j).number) (sym b))
      | inr ne' ↦ ap (λ z. z.number) (machine_else k ne ne')
    ]
  ]

  numbering : AreNumbered (net_of w2 m2) (numbered_ends m2) m2.numbers
  numbering = subst (AreNumbered (net_of w2 m2) (numbered_ends m2)) (sym numbers_are) (record {
    given = subst (All (λ z. Contains m.numbers z.0)) (sym numbered_same) s.numbered.given;
    named = λ k h. ap (λ l. name_at l (machine.end_of m2 k).number) numbered_same ∙ (ap (name_at (numbered_ends m)) (number_same k) ∙ s.numbered.named k (sym (there_same k) ∙ h));
  })

  -- before, both are as they were made
  unconnected : (o : ObjName) → is_live w o.context ≡ true → has_end m o ≡ true → (end_there_of w o).link ≡ None → (machine.end_of m o).connected ≡ false
  unfolding owned_there owned
  unconnected o live h lone = ap (λ z. z.connected) (sym (both o live h)) ∙ ap is_some lone

  sound_end : (o : ObjName) → has_end m o ≡ true → IsEndSound (regions_of m o.context) (map (λ q. q.name) (machine.context_of m o.context).queues) (machine.end_of m o)
  unfolding machine.end_of
  sound_end o h = All-named (IsEndSound (regions_of m o.context) (map (λ q. q.name) (machine.context_of m o.context).queues)) (λ z. z.name) (nobody o) o.name (machine.context_of m o.context).ends (s.sound o.context).ends (in_list o h)

  queue_one : requests_of (machine.end_of m2 one) ≡ connected_end f1 two terms
  unfolding verbing.joined
  queue_one = ap requests_of machine_one ∙ ap (λ (z : End). record z { connected = true; peer = two; mtu = terms.mtu; retry = terms.retry; rnr = terms.rnr; spent = 0; waits = 0 }) ((sound_end one found1).made (unconnected one live1 found1 lone1))

  queue_two : requests_of (machine.end_of m2 two) ≡ connected_end f2 one (exchanged terms)
  unfolding verbing.joined
  queue_two = ap requests_of machine_two ∙ ap (λ (z : End). record z { connected = true; peer = one; mtu = terms.mtu; retry = terms.retry; rnr = terms.rnr; spent = 0; waits = 0 }) ((sound_end two found2).made (unconnected two live2 found2 lone2))

  peer_one : peer (net_of w2 m2) one ≡ two
  peer_one = ap (λ z. z.peer) queue_one

  peer_two : peer (net_of w2 m2) two ≡ one
  peer_two = ap (λ z. z.peer) queue_two

  range' : AreTerms (exchanged terms)
  range' = record { mtu = range.mtu; own_start = range.peer_start; peer_start = range.own_start; retry = range.retry; rnr = range.rnr; some_reads = range.some_reads; few_reads = range.few_reads }

  -- the facts of the connection
  new_one : IsNew (net_of w2 m2) (regions_of m2) one
  new_one =
      let n : Net = net_of w2 m2 in
      let other : n.side (peer n one) ≡ side_with l2 a2 = ap n.side peer_one ∙ side_two in (
        joined_like side_one other queue_one (ap n.end peer_one ∙ queue_two) (fresh_joined one two f1 f2 terms a1 a2 range (bytes_swap one.context two.context apart)),
        λ rts. subst (λ y. IsProgress (n.end one) (n.end (peer n one)).domain (regions_of m2 (peer n one).context) y.link.receiver.progress) (sym other) (ap (λ z. z.into) queue_one),
      )

  new_two : IsNew (net_of w2 m2) (regions_of m2) two
  new_two =
      let n : Net = net_of w2 m2 in
      let other : n.side (peer n two) ≡ side_with l1 a1 = ap n.side peer_two ∙ side_one in (
        joined_like side_two other queue_two (ap n.end peer_two ∙ queue_one) (fresh_joined two one f2 f1 (exchanged terms) a2 a1 range' apart),
        λ rts. subst (λ y. IsProgress (n.end two) (n.end (peer n two)).domain (regions_of m2 (peer n two).context) y.link.receiver.progress) (sym other) (ap (λ z. z.into) queue_two),
      )

  -- the contexts
  same1 : (k : Name) → AreSame (context_of w1 k) (machine.context_of m1 k)
  same1 = same_kept w w1 m m1 one.context (linked_of w one l1) (context_with m one g1) cw1 cm1
      (side_connected (live_of w one.context) (machine.context_of m one.context) one.name (end_there_of w one) f1 l1 two terms (live_same w m one.context s live1) (name_there one live1 found1) (both one live1 found1) lone1 refl refl refl) s.same

  same2 : (k : Name) → AreSame (context_of w2 k) (machine.context_of m2 k)
  same2 = same_kept w1 w2 m1 m2 two.context (linked_of w1 two l2) (context_with m1 two g2) cw2 cm2
      (side_connected (live_of w1 two.context) (machine.context_of m1 two.context) two.name (end_there_of w1 two) f2 l2 one terms
      (subst (λ c. AreSame c (machine.context_of m1 two.context)) (sym (home_context w1 two.context live2')) (same1 two.context))
      name_two (ap owned_there end_two ∙ both two live2 found2) (ap (λ e. e.link) end_two ∙ lone2) refl refl refl) same1

  sound1 : (k : Name) → IsContextSound m1.keys (machine.context_of m1 k)
  unfolding verbing.joined
  sound1 = sound_kept m m1 one.context (context_with m one g1) cm1 (λ k h. subst (λ ks. Contains ks k) (sym keys_are1) h)
      (subst (λ ks. IsContextSound ks (context_with m one g1)) (sym keys_are1)
      (connected_sound m.keys (machine.context_of m one.context) one.name (nobody one) g1 (in_list one found1) named1 (domain_there m one (in_list one found1) (s.sound one.context)) (joined_sound _ _ f1 two terms (sound_end one found1)) (s.sound one.context))) s.sound

  sound2 : (k : Name) → IsContextSound m2.keys (machine.context_of m2 k)
  unfolding verbing.joined
  sound2 =
      let ends : IsEndSound (regions_of m1 two.context) (map (λ q. q.name) (machine.context_of m1 two.context).queues) f2 = subst (λ c. IsEndSound c.regions (map (λ q. q.name) c.queues) f2) (sym context_two) (sound_end two found2) in
      sound_kept m1 m2 two.context (context_with m1 two g2) cm2 (λ k h. subst (λ ks. Contains ks k) (keys_are1 ∙ sym keys_are) h)
      (subst (λ ks. IsContextSound ks (context_with m1 two g2)) (keys_are1 ∙ sym keys_are)
      (connected_sound m1.keys (machine.context_of m1 two.context) two.name (nobody two) g2 found2' named2 (subst (λ c. has_word f2.domain c.domains ≡ true) (sym context_two) (domain_there m two (in_list two found2) (s.sound two.context))) (joined_sound _ _ f2 one terms ends) (sound1 two.context))) sound1

  regions_same : (k : Name) → regions_of m2 k ≡ regions_of m k
  regions_same k = machines.part_same m1 m2 two.context (context_with m1 two g2) cm2 (λ c. c.regions) k refl ∙ machines.part_same m m1 one.context (context_with m one g1) cm1 (λ c. c.regions) k refl

  counted : IsCounted w2 m2
  unfolding machine.with_end machine.with_context
  counted = counted_kept w1 w2 m (λ k. home_counts w1 m two.context (linked_of w1 two l2) answers.Done k placed1 live2') (counted_kept w w1 m (λ k. home_counts w m one.context (linked_of w one l1) answers.Done k s.placed live1) s.counted)

  -- an end that was connected is another
  other_than : (o k : ObjName) → is_live w o.context ≡ true → has_end m o ≡ true → (end_there_of w o).link ≡ None → IsConnected (net_of w m) k → k ≢ o
  unfolding end_of
  other_than o k live h lone c a =
      let lone' : (named (λ e. e.name) (record no_end { name = o.name }) o.name (context_of w o.context).ends).link ≡ None =
      ap (λ z. (named (λ e. e.name) (record no_end { name = o.name }) o.name z.ends).link) (sym (home_context w o.context live))
      ∙ (ap (λ e. e.link) (named-there (λ e. e.name) (record no_end { name = o.name }) no_end o.name (live_of w o.context).ends (in_world o live h)) ∙ lone) in
      cc (ap (λ j. is_some (end_of w j).link) a, lone', c)

  grows : NetGrows (net_of w m) (net_of w2 m2) m.numbers
  grows = record {
    sides = λ k c. world_other k (other_than one k live1 found1 lone1 c) (other_than two k live2 found2 lone2 c);
    ends = λ k c. ap requests_of (machine_else k (other_than one k live1 found1 lone1 c) (other_than two k live2 found2 lone2 c));
    names = λ j c. ap (λ l. name_at l j) numbered_same;
  }

  stands : Stands w2 m2
  stands = grown_stands w w2 m m2 s (record {
    placed = placed_kept w1 w2 m1 m2 two.context (linked_of w1 two l2) (context_with m1 two g2) cw2 cm2 (placed_kept w w1 m m1 one.context (linked_of w one l1) (context_with m one g1) cw1 cm1 s.placed);
    counted = counted;
    same = same2;
    sound = sound2;
    numbered = numbering;
    grows = grows;
    regions = λ o c. regions_same o.context;
    new = λ k c. elim (object_or_not k one) [
      | inl a ↦ inr (subst (IsNew (net_of w2 m2) (regions_of m2)) (sym a) new_one)
      | inr ne ↦ elim (object_or_not k two) [
        | inl b ↦ inr (subst (IsNew (net_of w2 m2) (regions_of m2)) (sym b) new_two)
        | inr ne' ↦ inl (subst (λ z. z.connected ≡ true) (world_other k ne ne') c)
      ]
    ];
    husks = husks_same w1 w2 cw2.shapes ∙ husks_same w w1 cw1.shapes;
    sent = cw2.sent ∙ cw1.sent;
  })

  -- the world's own step
  number_one : (step.end_of w1 one).number ≡ f1.number
  unfolding step.live_context owned_there owned
  number_one =
      ap (λ c. (state.end_at c one.name).number) (home_context w1 one.context live1' ∙ worlds.context_here w w1 one.context (linked_of w one l1) cw1)
      ∙ (ap (λ es. (named (λ e. e.name) no_end one.name es).number) (linked_ends w one l1 live1 (name_there one live1 found1))
      ∙ (ap (λ e. e.number) (named-store_same (λ e. e.name) no_end one.name (record (end_there_of w one) { link = Some l1 }) (context_of w one.context).ends (name_there one live1 found1))
      ∙ ap (λ z. z.number) (both one live1 found1)))
    where
      live1' : is_live w1 one.context ≡ true
      live1' = live_kept w w1 m one.context (linked_of w one l1) one.context cw1 s.placed live1

  number_two : (step.end_of w two).number ≡ f2.number
  unfolding step.live_context owned_there owned
  number_two = ap (λ z. z.number) (both two live2 found2)

  init_of : (l : Option Link) → l ≡ None → refusing.is_init l ≡ true
  init_of l h = ap refusing.is_init h

  first_is : step.connects_one w one two terms ≡ w1
  unfolding step.connects_one
  first_is = ap (λ k. (step.runs w (home w one.context) (events.Connect one k a2 terms)).world) number_two ∙ connects w one f2.number a2 terms live1 (in_world one live1 found1) (init_of _ lone1)

  second_is : step.connects_one w1 two one (exchanged terms) ≡ w2
  unfolding step.connects_one
  second_is =
      ap (λ k. (step.runs w1 (home w1 two.context) (events.Connect two k (home w1 one.context).address (exchanged terms))).world) number_one
      ∙ (ap (λ a. (step.runs w1 (home w1 two.context) (events.Connect two f1.number a (exchanged terms))).world) (home_kept w w1 m one.context (linked_of w one l1) one.context cw1 s.placed live1)
      ∙ connects w1 two f1.number a1 (exchanged terms) live2' (ap (λ c. has_name (λ e. e.name) two.name c.ends) same_two ∙ in_world two live2 found2) (init_of _ (ap (λ e. e.link) end_two ∙ lone2)))

  pub world_stands : Stands (step.connects_one (step.connects_one w one two terms) two one (exchanged terms)) (verbing.connected_pair m one two terms)
  unfolding verbing.connected_pair
  world_stands = subst (λ e. Stands (step.connects_one (step.connects_one w one two terms) two one (exchanged terms)) (machine.with_end m1 two (verbing.joined one terms e))) (sym machine_two_before)
      (subst (λ z. Stands z m2) (sym (ap (λ v. step.connects_one v two one (exchanged terms)) first_is ∙ second_is)) stands)

-- ---- by the refusals

neither : (a b c : Bool) → c ≡ (a || b) → (not a && not b) ≡ not c
neither a b c h = rw h (by_tests a b)
  where
    by_tests : (x y : Bool) → (not x && not y) ≡ not (x || y)
    by_tests true y = refl
    by_tests false y = refl

initial : (l : Option Link) → not (refusing.is_init l) ≡ is_some l
initial None = refl
initial (Some l) = refl

unlinked : (l : Option Link) → is_some l ≡ false → l ≡ None
unlinked None h = refl
unlinked (Some l) h = absurd (cc)

or_no : (a b : Bool) → (a || b) ≡ false → (a ≡ false) × (b ≡ false)
or_no true b h = absurd (cc)
or_no false b h = (refl, h)

both_lack : (a b c d : Bool) → a ≡ c → b ≡ d → (a || b) ≡ (c || d)
both_lack a b c d h k = rw (h, k) refl

module _ (w : World) (m : Machine) (one two : ObjName) (terms : Terms) (range : AreTerms terms) (s : Stands w m) where
  lacks : (c : Name) → (not (is_live w c) && not (is_carried w c)) ≡ not (has_context m c)
  lacks c = neither (is_live w c) (is_carried w c) (has_context m c) (is_there w m c s.placed)

  end_lacks : (o : ObjName) → is_live w o.context ≡ true → step.has_live_end w o ≡ has_end m o
  unfolding step.live_context has_end
  end_lacks o live = end_there o.name (live_of w o.context).ends (machine.context_of m o.context).ends (live_same w m o.context s live).ends

  is_linked : (o : ObjName) → is_live w o.context ≡ true → has_end m o ≡ true → is_some (step.end_of w o).link ≡ (machine.end_of m o).connected
  unfolding step.live_context machine.end_of has_end owned_there owned
  is_linked o live h = ap (λ z. z.connected) (end_owned o.name no_end (nobody o) (live_of w o.context).ends (machine.context_of m o.context).ends (live_same w m o.context s live).ends h)

  matches : Matches (first_cause (step.connect_causes w one two)) (verbing.refusal_of m (verbs.Connect one two terms))
  unfolding kept.is_unmade_by
  matches =
      matches_cause refusals.NoSuch _ _ _ _ (both_lack _ _ _ _ (lacks one.context) (lacks two.context))
      (λ h. matches_unknown refusals.Stopped _ _ _ refl
      (λ dead.
      let lives = or_no _ _ dead in
      let live1 : is_live w one.context ≡ true = not_lacking _ lives.0 in
      let live2 : is_live w two.context ≡ true = not_lacking _ lives.1 in
      matches_cause refusals.NoSuch _ _ _ _ (both_lack _ _ _ _ (ap not (end_lacks one live1)) (ap not (end_lacks two live2)))
      (λ missing.
      let found = or_no _ _ missing in
      let link1 = initial (step.end_of w one).link ∙ is_linked one live1 (not_lacking _ found.0) in
      let link2 = initial (step.end_of w two).link ∙ is_linked two live2 (not_lacking _ found.1) in
      matches_cause refusals.BadState _ _ _ _ (both_lack _ _ _ _ link1 (both_lack _ _ _ _ link2 refl)) (λ g. matches_none))))

  is_verb : kept.verb_of w (world_events.Connect one two terms) ≡ Some (verbs.Connect one two terms)
  unfolding kept.verb_of
  is_verb = refl

  by_refusal : (r : Option Refusal) → first_cause (step.connect_causes w one two) ≡ r →
      Reaches w m (world_events.Connect one two terms) (step.by_refusal w r (step.answers (step.connects_one (step.connects_one w one two terms) two one (exchanged terms)) answers.Done)).world (step.by_refusal w r (step.answers (step.connects_one (step.connects_one w one two terms) two one (exchanged terms)) answers.Done)).answer
  unfolding kept.is_unmade is_known step.live_context
  by_refusal (Some r) h = by_refusal_reached w m (world_events.Connect one two terms) (verbs.Connect one two terms) r is_verb refl (λ known. sym h ∙ matches (ap is_known h ∙ known)) s
  by_refusal None h =
      let none : verbing.refusal_of m (verbs.Connect one two terms) ≡ None = sym (matches (ap is_known h)) ∙ h in
      let here = or_no _ _ (first_no refusals.NoSuch _ _ none) in
      let ends = later_no refusals.NoSuch _ _ none in
      let found = or_no _ _ (first_no refusals.NoSuch _ _ ends) in
      let states = later_no refusals.NoSuch _ _ h in
      let lives = or_no _ _ (first_no refusals.Stopped _ _ states) in
      let live1 : is_live w one.context ≡ true = not_lacking _ lives.0 in
      let live2 : is_live w two.context ≡ true = not_lacking _ lives.1 in
      let found1 : has_end m one ≡ true = not_lacking _ found.0 in
      let found2 : has_end m two ≡ true = not_lacking _ found.1 in
      let open' = or_no _ _ (first_no refusals.BadState _ [] (later_no refusals.NoSuch _ _ ends)) in
      let other = or_no _ _ open'.1 in
      done_reached w m (world_events.Connect one two terms) (verbs.Connect one two terms) 0 _ _ is_verb refl none refl refl refl
      (world_stands w m one two terms range s live1 live2 (not_lacking _ here.0) (not_lacking _ here.1) found1 found2
      (unlinked _ (is_linked one live1 found1 ∙ open'.0)) (unlinked _ (is_linked two live2 found2 ∙ other.0)) other.1)

  pub connect_follows : Follows w m (world_events.Connect one two terms)
  unfolding world_step step.connects
  connect_follows = by_refusal _ refl
