-- The machine follows the forgetting of a husk: it makes no step.
use Rattle.std.proofs.Common.{arith, ◌≡◌, ℕ, [], ◌∷◌, ◌++◌, map, true, refl, sym, ap, ◌∙◌, subst}
use Rattle.std.specs.Prelude.{Option, Some, None, not, is_some, ◌&&◌, flat_map}
use Rattle.std.proofs.lemmas.List.{append-nil}
use Rattle.std.proofs.lemmas.List.Elements.{All-contains}
use Rattle.rdma_types.specs.declared.names.Name.{Name}
use Rattle.rdma_types.specs.declared.names.ObjName.{ObjName}
use Rattle.rdma_types.specs.declared.answers.Answer.TheVariants as answers
use Rattle.rdma_types.specs.declared.answers.Refusal.{Refusal}
use Rattle.rdma_types.specs.declared.answers.Refusal.TheVariants as refusals
use Rattle.rdma_types.specs.Causes.{cause, first_cause}
use Rattle.rdma_types.specs.Lists.{named, has_name, has_word, has, at, store, without}
use Rattle.protocol.specs.declared.events.Event.TheVariants as events
use Rattle.protocol.specs.declared.events.WorldEvent.TheVariants as world_events
use Rattle.protocol.specs.Fabric.{sending}
use Rattle.protocol.specs.Images as images
use Rattle.protocol.specs.State as state
use Rattle.protocol.specs.State.{World, Device, Husk, HuskEntry, device_at, no_device, no_husk, no_end}
use Rattle.protocol.specs.Refusals as refusing
use Rattle.protocol.specs.DeviceStep as device
use Rattle.protocol.specs.WorldStep as step
use Rattle.protocol.specs.WorldStep.{world_step, with_device, ran, has_device, same_address}
use Rattle.packetless_machine.specs.Machine as machine
use Rattle.packetless_machine.specs.Machine.{Machine}
use Rattle.law_simulation.specs.Kept as kept
use Rattle.law_simulation.specs.Views.{contexts_of, context_of, end_of, link_or_none, in_rts, home_in, address_or_none, place_of, side_of, net_of, numbered_ends}
use Rattle.law_simulation.specs.Facts.{HuskFact}
use Rattle.law_simulation.specs.Stands.{Stands, AreSame, IsPlaced, IsCounted, AreNumbered, AreJoined, AreLeft, AreProgressing, AreSent, husks_of}
use Rattle.law_simulation.specs.Law.{Reaches, Follows}
use Rattle.law_simulation.proofs.relation.Tables.{number-at, map-store_at, flat_map-store_at, at-store_part}
use Rattle.law_simulation.proofs.relation.Inserts.{Inserts, inserts_map}
use Rattle.law_simulation.proofs.relation.Kept.{counted_kept, placed_like}
use Rattle.law_simulation.proofs.relation.Refusing.{first_no, not_lacking}
use Rattle.law_simulation.proofs.relation.Verbs.{unheard_reached}
use Rattle.law_simulation.proofs.stop_restore.Lists.{inserts_without, inserts_parts, all_of_contained}
use Rattle.law_simulation.proofs.stop_restore.Devices.{ran_stays, place_stored, all_removed, parts_removed}

module _ (w : World) (m : Machine) (n : Name) (k : ℕ) (s : Stands w m) where
  abbrev d : Device
  d = device_at w k

  abbrev d' : Device
  d' = record d { husks = without (λ h. h.name) n d.husks }

  abbrev w' : World
  w' = (ran w (device.answers d' answers.Done)).world

  module _ (made : has (λ e. e.id) k w.devices ≡ true) (there : has_name (λ h. h.name) n d.husks ≡ true) where
    devices_are : w'.devices ≡ store (λ e. e.id) k d' w.devices
    unfolding ran with_device
    devices_are = ap (λ j. store (λ e. e.id) j d' w.devices) (number-at (λ e. e.id) no_device k w.devices made)

    carried_is : w'.carried ≡ w.carried
    unfolding ran with_device
    carried_is = refl

    sent_is : w'.sent ≡ w.sent
    unfolding ran with_device sending
    sent_is = append-nil w.sent

    contexts_same : contexts_of w' ≡ contexts_of w
    unfolding contexts_of
    contexts_same =
        ap (λ cs. flat_map (λ e. e.contexts) w'.devices ++ map images.context_of cs) carried_is
        ∙ ap (λ cs. cs ++ map images.context_of w.carried) (ap (flat_map (λ e. e.contexts)) devices_are ∙ flat_map-store_at (λ e. e.contexts) (λ e. e.id) no_device k d' w.devices made refl)

    context_same : (c : Name) → context_of w' c ≡ context_of w c
    unfolding context_of
    context_same c = ap (named (λ x. x.name) (record state.no_context { name = c }) c) contexts_same

    side_is : (o : ObjName) → side_of w' o ≡ side_of w o
    unfolding in_rts end_of place_of
    side_is o =
        let link : (end_of w' o).link ≡ (end_of w o).link = ap (λ c. (named (λ e. e.name) (record no_end { name = o.name }) o.name c.ends).link) (context_same o.context) in
        let place : place_of w' o.context ≡ place_of w o.context = ap (λ ds. address_or_none (home_in ds o.context)) devices_are ∙ place_stored o.context k d' w.devices made refl refl in
        λ i. record {
          link = link_or_none (link i);
          connected = is_some (link i);
          rts = is_some (link i) && not (link_or_none (link i)).ended;
          carried = has_name (λ z. z.name) o.context (carried_is i);
          place = place i;
        }

    net_is : net_of w' m ≡ net_of w m
    net_is = λ i. record { side = λ o. side_is o i; end = (net_of w m).end; there = (net_of w m).there; name = (net_of w m).name }

    -- a husk is gone
    gone : Husk
    gone = named (λ h. h.name) no_husk n d.husks

    removed : Inserts Husk gone (husks_of w') (husks_of w)
    unfolding gone
    removed = subst (λ ds. Inserts Husk gone (flat_map (λ e. e.husks) ds) (husks_of w)) (sym devices_are)
        (inserts_parts (λ e. e.husks) (λ e. e.id) no_device k d' gone w.devices made (inserts_without (λ h. h.name) no_husk n d.husks there))

    ids_are : map (λ e. e.id) w'.devices ≡ map (λ e. e.id) w.devices
    ids_are = ap (map (λ e. e.id)) devices_are ∙ map-store_at (λ e. e.id) (λ e. e.id) no_device k d' w.devices made refl

    addresses_are : map (λ e. e.address) w'.devices ≡ map (λ e. e.address) w.devices
    addresses_are = ap (map (λ e. e.address)) devices_are ∙ map-store_at (λ e. e.address) (λ e. e.id) no_device k d' w.devices made refl

    placed : IsPlaced w' m
    placed =
        let like = placed_like (ap (map (λ x. x.name)) contexts_same) refl ids_are addresses_are refl s.placed in
        record {
          once = like.once;
          same = like.same;
          husks_made = all_removed (λ h. has_word h (map (λ x. x.name) m.contexts) ≡ true) gone.name (map (λ h. h.name) (husks_of w')) (map (λ h. h.name) (husks_of w)) (inserts_map (λ h. h.name) gone (husks_of w') (husks_of w) removed) s.placed.husks_made;
          ids_once = like.ids_once;
          addresses_once = like.addresses_once;
          ids_said = like.ids_said;
          addresses_said = like.addresses_said;
        }

    counted : IsCounted w' m
    counted =
        let id_is : d.id ≡ k = number-at (λ e. e.id) no_device k w.devices made in
        let qps : (j : ℕ) → (device_at w' j).qp_count ≡ (device_at w j).qp_count = λ j. ap (λ ds. (at (λ e. e.id) no_device j ds).qp_count) devices_are ∙ at-store_part (λ e. e.qp_count) (λ e. e.id) no_device k j d' w.devices id_is refl in
        let keys : (j : ℕ) → (device_at w' j).key_count ≡ (device_at w j).key_count = λ j. ap (λ ds. (at (λ e. e.id) no_device j ds).key_count) devices_are ∙ at-store_part (λ e. e.key_count) (λ e. e.id) no_device k j d' w.devices id_is refl in
        counted_kept w w' m (λ j. (omega (arith, qps j), omega (arith, keys j))) s.counted

    left : AreLeft (net_of w m) (flat_map (λ h. h.entries) (husks_of w'))
    left h i = All-contains (HuskFact (net_of w m)) (flat_map (λ x. x.entries) (husks_of w')) h
        (parts_removed (HuskFact (net_of w m)) (λ x. x.entries) gone (husks_of w') (husks_of w) removed (all_of_contained (HuskFact (net_of w m)) (flat_map (λ x. x.entries) (husks_of w)) s.husks)) i

    stands : Stands w' m
    stands = record {
      placed = placed;
      counted = counted;
      same = λ c. subst (λ x. AreSame x (machine.context_of m c)) (sym (context_same c)) (s.same c);
      sound = s.sound;
      numbered = subst (λ z. AreNumbered z (numbered_ends m) m.numbers) (sym net_is) s.numbered;
      joined = subst AreJoined (sym net_is) s.joined;
      progress = subst (λ z. AreProgressing z (machine.regions_of m)) (sym net_is) s.progress;
      husks = subst (λ z. AreLeft z (flat_map (λ h. h.entries) (husks_of w'))) (sym net_is) left;
      sent = subst (λ z. AreSent z w'.sent) (sym net_is) (subst (AreSent (net_of w m)) (sym sent_is) s.sent);
    }

  by_device : (r : Option Refusal) → has (λ e. e.id) k w.devices ≡ true → (r ≡ None → has_name (λ h. h.name) n d.husks ≡ true) →
      Reaches w m (world_events.Release n k) (ran w (device.by_refusal d (events.Release n) r)).world (ran w (device.by_refusal d (events.Release n) r)).answer
  unfolding device.releases ran kept.verb_of kept.kept_verb
  by_device None made h = unheard_reached w m (world_events.Release n k) w' (ran w (device.answers d' answers.Done)).answer refl refl (stands made (h refl))
  by_device (Some r) made h = unheard_reached w m (world_events.Release n k) _ _ refl refl (subst (λ z. Stands z m) (sym (ran_stays w k (answers.Refused r) made)) s)

  by_world : (r : Option Refusal) → first_cause (cause refusals.NoSuch (not (has_device w k)) ∷ []) ≡ r →
      Reaches w m (world_events.Release n k) (step.by_refusal w r (step.runs w d (events.Release n))).world (step.by_refusal w r (step.runs w d (events.Release n))).answer
  unfolding device.device_step refusing.refusal_of kept.verb_of kept.kept_verb
  by_world (Some r) h = unheard_reached w m (world_events.Release n k) w (answers.Refused r) refl refl s
  by_world None h = by_device _ (not_lacking _ (first_no refusals.NoSuch _ [] h)) (λ e. not_lacking _ (first_no refusals.NoSuch _ [] e))

  pub release_follows : Follows w m (world_events.Release n k)
  unfolding world_step step.releases
  release_follows = by_world _ refl
