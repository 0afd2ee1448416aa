-- The machine follows the posting of a receive.
use Rattle.std.proofs.Common.{arith, ◌≡◌, ◌<◌, ◌+◌, ℕ, List, [], ◌∷◌, ◌++◌, length, map, true, false, Bool, refl, sym, ap, ◌∙◌, subst}
use Rattle.std.specs.Prelude.{Option, Some, None, not, nat_le, if◌then◌else◌}
use Rattle.std.proofs.lemmas.Bool.Decides.{nat_tests, leb_tells}
use Rattle.rdma_types.specs.declared.requests.Completion.{Completion}
use Rattle.rdma_types.specs.declared.requests.Receive.{Receive}
use Rattle.rdma_types.specs.declared.requests.WcKind.TheVariants as wc
use Rattle.rdma_types.specs.declared.requests.WcStatus.TheVariants as status
use Rattle.rdma_types.specs.Kinds.{receive_done}
use Rattle.rdma_types.specs.Memory.{LocalWrite, is_granted, local_key}
use Rattle.protocol.specs.State.{Link, no_end}
use Rattle.protocol.specs.EndWords as words
use Rattle.law_simulation.specs.Views.{Owned, owned, owned_there, link_or_none}
use Rattle.packetless_machine.specs.Steps.{untold}
use Rattle.law_simulation.specs.Stands.{IsEndSound}
use Rattle.law_simulation.proofs.relation.Tables.{All-store, All-named, once_store, name-named_there}
use Rattle.law_simulation.proofs.relation.Ends.{end_there, end_owned, ends_store, stored_quiet, queue_in, full_same, with_more, completing_there, with_more_names}
use Rattle.law_simulation.proofs.relation.Sounds.{receiving_sound, queue_there, queues_like}
use Rattle.rdma_types.specs.declared.names.ObjName.{ObjName}
use Rattle.rdma_types.specs.declared.verbs.Verb.TheVariants as verbs
use Rattle.rdma_types.specs.declared.answers.Answer.TheVariants as answers
use Rattle.rdma_types.specs.declared.answers.Refusal.TheVariants as refusals
use Rattle.rdma_types.specs.Lists.{has_name, has_word, named, store_named}
use Rattle.protocol.specs.declared.events.Event.TheVariants as events
use Rattle.protocol.specs.declared.events.WorldEvent.TheVariants as world_events
use Rattle.protocol.specs.State as state
use Rattle.protocol.specs.State.{World}
use Rattle.protocol.specs.Refusals as refusing
use Rattle.protocol.specs.DeviceStep as device
use Rattle.protocol.specs.WorldStep as step
use Rattle.protocol.specs.WorldStep.{is_live, home, ran}
use Rattle.packetless_machine.specs.Machine as machine
use Rattle.packetless_machine.specs.Machine.{Machine, has_context}
use Rattle.packetless_machine.specs.Verbs as verbing
use Rattle.law_simulation.specs.Kept as kept
use Rattle.law_simulation.specs.Stands.{Stands}
use Rattle.law_simulation.specs.Law.{Follows}
use Rattle.law_simulation.proofs.relation.Machines.{context_name, end_stored, queue_stored}
use Rattle.law_simulation.proofs.relation.Nets.{same_quiet}
use Rattle.law_simulation.proofs.relation.Refusing.{Matches, matches_cause, matches_none, first_yes, first_no, later_no, not_lacking}
use Rattle.law_simulation.proofs.relation.Live.{live_of, live_name, live_same, within_matches, changed_stands}
use Rattle.law_simulation.proofs.relation.Verbs.{IsDone, verb_follows}

error_there : (l : Option Link) → device.is_in_error l ≡ (link_or_none l).ended
unfolding link_or_none
error_there None = refl
error_there (Some l) = refl

has_room : (depth count : ℕ) → nat_le depth count ≡ false → count < depth
has_room depth count h = grind (arith, nat_tests, leb_tells depth count)

module _ (w : World) (m : Machine) (o : ObjName) (v : Receive) (s : Stands w m) where
  -- the context and the end, on both sides
  abbrev x : state.Context
  x = live_of w o.context

  abbrev y : machine.Context
  y = machine.context_of m o.context

  abbrev e : state.End
  e = state.end_at x o.name

  abbrev f : machine.End
  f = named (λ z. z.name) (machine.nobody o) o.name y.ends

  found_there : is_live w o.context ≡ true → has_name (λ z. z.name) o.name x.ends ≡ has_name (λ z. z.name) o.name y.ends
  found_there live = end_there o.name x.ends y.ends (live_same w m o.context s live).ends

  owned_same : is_live w o.context ≡ true → has_name (λ z. z.name) o.name y.ends ≡ true → owned_there e ≡ owned f
  owned_same live found = end_owned o.name no_end (machine.nobody o) x.ends y.ends (live_same w m o.context s live).ends found

  matches : is_live w o.context ≡ true → has_context m o.context ≡ true → Matches (refusing.refusal_of (home w o.context) (events.PostRecv o v)) (verbing.refusal_of m (verbs.PostRecv o v))
  unfolding refusing.refusal_of machine.has_end machine.end_of machine.queue_of verbing.is_local_granted verbing.is_full owned_there owned
  matches live there =
      within_matches w m o.context _ _ live there
      (matches_cause refusals.NoSuch _ _ _ _ (ap not (found_there live))
      (λ lacks.
      let found : has_name (λ z. z.name) o.name y.ends ≡ true = not_lacking _ lacks in
      let same : owned_there e ≡ owned f = owned_same live found in
      let regions : x.regions ≡ y.regions = (live_same w m o.context s live).regions in
      matches_cause refusals.TooLong _ _ _ _ refl
      (λ h. matches_cause refusals.BadKey _ _ _ _ (ap (λ rs. not (is_granted local_key rs e.domain v.lkey v.local v.length LocalWrite)) regions ∙ ap (λ z. not (is_granted local_key y.regions z.domain v.lkey v.local v.length LocalWrite)) same)
      (λ h. matches_cause refusals.RqFull _ _ _ _ (ap (λ z. nat_le z.receive_depth (length z.unused)) same)
      (λ h. matches_cause refusals.CqFull _ _ _ _ (full_same x y e.recv_cq (live_same w m o.context s live) ∙ ap (λ z. nat_le (queue_in y.queues z.receive_queue).capacity (length (queue_in y.queues z.receive_queue).entries + machine.reserved y z.receive_queue)) same)
      (λ h. matches_none))))))

  sound_end : has_name (λ z. z.name) o.name y.ends ≡ true → IsEndSound y.regions (map (λ q. q.name) y.queues) f
  sound_end found = All-named (IsEndSound y.regions (map (λ q. q.name) y.queues)) (λ z. z.name) (machine.nobody o) o.name y.ends (s.sound o.context).ends found

  -- what the two sides become, by whether the end has ended
  abbrev there_now : Bool → state.Context
  there_now ended = if ended then words.completing x e.recv_cq (words.failed_receive e.number status.Flush v ∷ []) else words.with_end x (words.with_unused e (e.unused ++ v ∷ []))

  abbrev here_now : Bool → Machine
  here_now ended = if ended then machine.completing m o.context f.receive_queue (receive_done f.number v wc.Recv status.Flush 0 None ∷ []) else machine.with_end m o (record f { unused = f.unused ++ v ∷ [] })

  abbrev StandsBy : Bool → Bool → Type 0
  StandsBy p q = Stands (ran w (device.answers (device.with_context (home w o.context) (there_now p)) answers.Done)).world (here_now q)

  -- at an end that has ended the receive is completed
  completes : is_live w o.context ≡ true → has_context m o.context ≡ true → has_name (λ z. z.name) o.name y.ends ≡ true → StandsBy true true
  unfolding machine.completing machine.queue_of owned_there owned
  completes live there found =
      let same = live_same w m o.context s live in
      let sound = s.sound o.context in
      let ends : owned_there e ≡ owned f = owned_same live found in
      let done : List Completion = receive_done f.number v wc.Recv status.Flush 0 None ∷ [] in
      let q : has_name (λ z. z.name) f.receive_queue y.queues ≡ true = queue_there f.receive_queue y.queues (sound_end found).receive_queue in
      let is : words.completing x e.recv_cq (words.failed_receive e.number status.Flush v ∷ []) ≡ record x { queues = with_more y.queues f.receive_queue done } =
      ap (λ z. words.completing x z.receive_queue (receive_done z.number v wc.Recv status.Flush 0 None ∷ [])) ends
      ∙ completing_there x y.queues f.receive_queue done same.queues q in
      subst (λ z. Stands (ran w (device.answers (device.with_context (home w o.context) z) answers.Done)).world (here_now true)) (sym is)
      (subst (Stands (ran w (device.answers (device.with_context (home w o.context) (record x { queues = with_more y.queues f.receive_queue done })) answers.Done)).world) (sym (queue_stored m o.context f.receive_queue _ q))
      (changed_stands w m o.context (record x { queues = with_more y.queues f.receive_queue done }) (record y { queues = with_more y.queues f.receive_queue done }) answers.Done s live there
      (live_name w o.context live) (context_name m o.context) (same_quiet _ _ _ _ refl refl)
      (record { domains = same.domains; regions = same.regions; queues = refl; ends = same.ends })
      (record {
        whole = sound.whole;
        bytes = sound.bytes;
        keyed = sound.keyed;
        keyed_once = sound.keyed_once;
        named_once = sound.named_once;
        ends = queues_like y.regions _ _ y.ends (with_more_names y.queues f.receive_queue done q) sound.ends;
        regions_in = sound.regions_in;
        ends_in = sound.ends_in;
        regions_end = sound.regions_end;
      })
      (λ q domain p h. h)))

  -- at another it is one more unused one
  waits : is_live w o.context ≡ true → has_context m o.context ≡ true → has_name (λ z. z.name) o.name y.ends ≡ true → length f.unused < f.receive_depth → is_granted local_key y.regions f.domain v.lkey v.local v.length LocalWrite ≡ true → StandsBy false false
  unfolding words.with_end words.with_unused owned_there owned untold
  waits live there found room granted =
      let same = live_same w m o.context s live in
      let sound = s.sound o.context in
      let ends : owned_there e ≡ owned f = owned_same live found in
      let here : has_name (λ z. z.name) o.name x.ends ≡ true = found_there live ∙ found in
      let named : e.name ≡ o.name = name-named_there (λ z. z.name) no_end o.name x.ends here in
      let named' : f.name ≡ o.name = name-named_there (λ z. z.name) (machine.nobody o) o.name y.ends found in
      let e' : state.End = record e { unused = e.unused ++ v ∷ [] } in
      let f' : machine.End = record f { unused = f.unused ++ v ∷ [] } in
      subst (λ k. Stands (ran w (device.answers (device.with_context (home w o.context) (record x { ends = store_named (λ z. z.name) k e' x.ends })) answers.Done)).world (here_now false)) (sym named)
      (subst (Stands (ran w (device.answers (device.with_context (home w o.context) (record x { ends = store_named (λ z. z.name) o.name e' x.ends })) answers.Done)).world) (sym (end_stored m o f' found))
      (changed_stands w m o.context (record x { ends = store_named (λ z. z.name) o.name e' x.ends }) (record y { ends = store_named (λ z. z.name) o.name f' y.ends }) answers.Done s live there
      (live_name w o.context live) (context_name m o.context)
      (stored_quiet o.name no_end (machine.nobody o) e' f' x.ends y.ends here found named named' refl refl)
      (record {
        domains = same.domains;
        regions = same.regions;
        queues = same.queues;
        ends = ends_store o.name e' f' x.ends y.ends same.ends (ap (λ (z : Owned). record z { unused = z.unused ++ v ∷ [] }) ends);
      })
      (record {
        whole = sound.whole;
        bytes = sound.bytes;
        keyed = sound.keyed;
        keyed_once = sound.keyed_once;
        named_once = λ n. omega (arith, once_store (λ z. z.name) (machine.nobody o) o.name n f' y.ends found named', sound.named_once n);
        ends = All-store (IsEndSound y.regions (map (λ q. q.name) y.queues)) (λ z. z.name) o.name f' y.ends sound.ends (receiving_sound y.regions (map (λ q. q.name) y.queues) f v room granted (sound_end found));
        regions_in = sound.regions_in;
        ends_in = All-store (λ z. has_word z.domain y.domains ≡ true) (λ z. z.name) o.name f' y.ends sound.ends_in (All-named (λ z. has_word z.domain y.domains ≡ true) (λ z. z.name) (machine.nobody o) o.name y.ends sound.ends_in found);
        regions_end = sound.regions_end;
      })
      (λ q domain p h. h)))

  by_ended : is_live w o.context ≡ true → has_context m o.context ≡ true → has_name (λ z. z.name) o.name y.ends ≡ true → length f.unused < f.receive_depth → is_granted local_key y.regions f.domain v.lkey v.local v.length LocalWrite ≡ true → (b : Bool) → StandsBy b b
  by_ended live there found room granted true = completes live there found
  by_ended live there found room granted false = waits live there found room granted

  does : is_live w o.context ≡ true → has_context m o.context ≡ true → has_name (λ z. z.name) o.name y.ends ≡ true → length f.unused < f.receive_depth → is_granted local_key y.regions f.domain v.lkey v.local v.length LocalWrite ≡ true → IsDone w m (events.PostRecv o v) (verbs.PostRecv o v)
  unfolding ran step.numbered device.receives kept.is_unmade verbing.received machine.end_of owned_there owned
  does live there found room granted = record {
    given = 0;
    may = refl;
    answer = refl;
    made = refl;
    stands = subst (λ p. StandsBy p f.ended) (sym (error_there e.link ∙ ap (λ z. z.ended) (owned_same live found))) (by_ended live there found room granted f.ended);
  }

  pub receive_follows : Follows w m (world_events.At (events.PostRecv o v))
  unfolding kept.verb_in machine.has_end machine.end_of verbing.is_local_granted
  receive_follows = verb_follows w m (events.PostRecv o v) (verbs.PostRecv o v) s (record {
    verb = refl;
    allows = λ a. refl;
    nowhere = λ h. first_yes refusals.NoSuch _ _ (rw h refl);
    matches = matches;
    does = λ live there h h'.
        let ends = later_no refusals.NoSuch _ _ h' in
        let keys = later_no refusals.TooLong _ _ (later_no refusals.NoSuch _ _ ends) in
        does live there (not_lacking _ (first_no refusals.NoSuch _ _ ends)) (has_room _ _ (first_no refusals.RqFull _ _ (later_no refusals.BadKey _ _ keys))) (not_lacking _ (first_no refusals.BadKey _ _ keys));
  })
