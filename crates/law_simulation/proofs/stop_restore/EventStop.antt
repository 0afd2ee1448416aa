-- The machine follows a stop: a context becomes a carried image and leaves a husk, and the machine makes no step.
use Rattle.std.proofs.Common.{arith, ◌≡◌, ◌≢◌, ℕ, List, [], ◌∷◌, ◌++◌, map, true, false, Bool, refl, sym, ap, ◌∙◌, subst, inl, inr}
use Rattle.std.specs.Prelude.{Option, Some, None, option_map, is_some, not, ◌&&◌, ◌||◌, if◌then◌else◌, flat_map, bytes_eq, All}
use Rattle.std.proofs.lemmas.List.{append-nil, append_assoc, map-append}
use Rattle.std.proofs.lemmas.List.Elements.{All-nil, All-cons, All-head, All-tail, All-append, All-contains}
use Rattle.rdma_types.specs.declared.names.Name.{Name}
use Rattle.rdma_types.specs.declared.names.ObjName.{ObjName}
use Rattle.rdma_types.specs.declared.requests.Address.{Address}
use Rattle.rdma_types.specs.declared.answers.Answer.TheVariants as answers
use Rattle.rdma_types.specs.declared.answers.Refusal.{Refusal}
use Rattle.rdma_types.specs.declared.answers.Refusal.TheVariants as refusals
use Rattle.rdma_types.specs.Causes.{cause, first_cause}
use Rattle.rdma_types.specs.Lists.{has_name, has_word, has, at, store, without, first_that, some}
use Rattle.protocol.specs.declared.events.Event.TheVariants as events
use Rattle.protocol.specs.declared.events.WorldEvent.TheVariants as world_events
use Rattle.protocol.specs.Fabric.{sending}
use Rattle.protocol.specs.Images as images
use Rattle.protocol.specs.Moves.{unpaused}
use Rattle.protocol.specs.State as state
use Rattle.protocol.specs.State.{World, Device, Context, End, Link, Phase, Running, Paused, Resuming, Husk, HuskEntry, device_at, context_at, no_device, no_end}
use Rattle.protocol.specs.DeviceStep as device
use Rattle.protocol.specs.DeviceStep.{husked, husk_of, husk_entry}
use Rattle.protocol.specs.WorldStep as step
use Rattle.protocol.specs.WorldStep.{world_step, is_live, is_carried, home, with_device, ran, live_context, partner_moves, is_carried_end, is_resuming_end, context_causes}
use Rattle.packetless_machine.specs.Machine as machine
use Rattle.packetless_machine.specs.Machine.{Machine, has_end, nobody}
use Rattle.law_simulation.specs.Kept as kept
use Rattle.law_simulation.specs.Packets.{IsStopped}
use Rattle.law_simulation.specs.Views.{Net, Side, contexts_of, context_of, end_of, link_or_none, in_rts, home_in, address_or_none, place_of, side_of, net_of, name_of, peer, owned_there, receive_in}
use Rattle.law_simulation.specs.Joined.{IsHeardOf, IsMoving}
use Rattle.law_simulation.specs.Facts.{HuskFact, IsLeft, MoveFact}
use Rattle.law_simulation.specs.Stands.{Stands, AreLeft, husks_of}
use Rattle.law_simulation.specs.Law.{Reaches, Follows}
use Rattle.law_simulation.proofs.relation.Tables.{name_tells, named-map, map-store_found, at-found, at-store_part, has_name-append, has_name-push, same_name}
use Rattle.law_simulation.proofs.relation.Worlds.{ids_once, holds_it, home_found, home_holds, home_context, has_name-names, has_context_is}
use Rattle.law_simulation.proofs.relation.Inserts.{Inserts, inserts_before, inserts_flat_at, inserts_map, inserts_all}
use Rattle.law_simulation.proofs.relation.Live.{live_name}
use Rattle.law_simulation.proofs.relation.Nets.{link_in}
use Rattle.law_simulation.proofs.relation.Grows.{IsConnected}
use Rattle.law_simulation.proofs.relation.Grown.{are_made}
use Rattle.law_simulation.proofs.relation.Refusing.{first_no, later_no, not_lacking}
use Rattle.law_simulation.proofs.relation.Verbs.{unheard_reached, ran_same}
use Rattle.law_simulation.proofs.stop_restore.Lists.{inserts_without, inserts_parts, found_there, has_without, all_of_contained, all_by_name, some_named}
use Rattle.law_simulation.proofs.stop_restore.NetMoves.{SideMoves}
use Rattle.law_simulation.proofs.stop_restore.Relocated.{Relocated, Migrates, alone, side_made, side_parts, side_other, link_here, entries_kept, migrated_stands}
use Rattle.law_simulation.proofs.stop_restore.Devices.{place_stored, place_nowhere, parts_inserted}
use Rattle.law_simulation.proofs.stop_restore.Image.{calm, calm_end, calm_link, image_back}
use Rattle.law_simulation.proofs.stop_restore.Founds.{ends_found, regions_found, once_named}
use Rattle.law_simulation.proofs.stop_restore.Movers.{is_still, end_is_there, number_is}

-- ---- a link without Paused, of a carried end

unpaused_not : (p : Phase) → unpaused p ≡ Paused → ⊥
unpaused_not Running h = cc
unpaused_not Paused h = cc
unpaused_not Resuming h = cc

no_place : (a : Address) → None ≡ Some a → ⊥
no_place a h = cc

stopped_still : (k : Link) (c : Bool) (p : Option Address) (count : ℕ) → MoveFact (side_made (Some k) c p) (IsStopped count) → MoveFact (side_made (Some (calm_link k)) true None) (IsStopped count)
unfolding link_or_none
stopped_still k c p count (inl h) = inl h
stopped_still k c p count (inr h) = inr (refl, h.1, h.2)

stop_moves : (k : Link) (c : Bool) (p : Option Address) → SideMoves (side_made (Some k) c p) (side_made (Some (calm_link k)) true None)
unfolding link_or_none
stop_moves k c p = record {
  parts = record { moving = record k.moving { phase = unpaused k.moving.phase }; next = k.sender.next; rnr_wait = k.sender.rnr_wait; carried = true; place = None };
  is = refl;
  goes = inl refl;
  stopped = stopped_still k c p;
  resumed = λ body h. (h.0, λ a r place e. absurd (no_place a place));
  recorded = omega arith;
}

module _ (k : Link) (c : Bool) (p : Option Address) (y : Side) (still : not k.ended ≡ true → y.rts ≡ true → IsMoving y → ⊥) where
  -- what the peer recorded of it
  stop_heard : IsHeardOf (side_made (Some k) c p) y → IsHeardOf (side_made (Some (calm_link k)) true None) y
  unfolding link_or_none
  stop_heard h = record {
    known = h.known;
    address = λ a r place e. absurd (no_place a place);
    settled = λ r r' moves. absurd (moves (inl refl));
    paused = λ r paused. inl refl;
    one = λ r r' moving moving'. still r r' moving';
    limit = h.limit;
  }

  -- what it recorded of its peer
  stop_hears : IsHeardOf y (side_made (Some k) c p) → IsHeardOf y (side_made (Some (calm_link k)) true None)
  unfolding link_or_none
  stop_hears h = record {
    known = h.known;
    address = h.address;
    settled = h.settled;
    paused = λ r paused. absurd (unpaused_not k.moving.phase paused);
    one = λ r r' moving moving'. still r' r moving;
    limit = h.limit;
  }

-- ---- an owner has the same

calm_owned : (e : End) (l : Option Link) → e.link ≡ l → owned_there (calm_end e) ≡ owned_there e
unfolding owned_there link_or_none receive_in
calm_owned e None h = ap (λ z. owned_there (record e { link = option_map calm_link z })) h ∙ ap (λ z. owned_there (record e { link = z })) (sym h)
calm_owned e (Some l) h = ap (λ z. owned_there (record e { link = option_map calm_link z })) h ∙ ap (λ z. owned_there (record e { link = z })) (sym h)

calm_ends : (es : List End) → map owned_there (map calm_end es) ≡ map owned_there es
calm_ends [] = refl
calm_ends (e ∷ es) = ap (λ x. x ∷ map owned_there (map calm_end es)) (calm_owned e e.link refl) ∙ ap (λ xs. owned_there e ∷ xs) (calm_ends es)

calm_links : (es : List End) (n : Name) → (link_in (map calm_end es) n).link ≡ option_map calm_link (link_in es n).link
calm_links es n = ap (λ e. e.link) (named-map calm_end (λ e. e.name) (λ e. e.name) (record no_end { name = n }) n es (λ e. refl))

-- ---- lists

all_parts : {A B : Type 0} (P : B → Type 0) (f : A → List B) (xs : List A) → All (λ x. All P (f x)) xs → All P (flat_map f xs)
all_parts P f [] all = All-nil P
all_parts P f (x ∷ xs) all = All-append P (f x) (flat_map f xs) (All-head (λ y. All P (f y)) x xs all) (all_parts P f xs (All-tail (λ y. All P (f y)) x xs all))

or_first : (a b : Bool) → (a || b) ≡ false → a ≡ false
or_first true b h = absurd (cc)
or_first false b h = refl

second : (a b : Bool) → (a && b) ≡ true → b ≡ true
second true b h = h
second false b h = absurd (cc)

not_true : (b : Bool) → not b ≡ true → b ≡ false
not_true false h = refl
not_true true h = absurd (cc)

connected_link : (l : Option Link) → is_some l ≡ true → (k : Link) × (l ≡ Some k)
connected_link None h = absurd (cc)
connected_link (Some k) h = (k, refl)

-- ---- the two worlds

module _ (w : World) (m : Machine) (c : Name) (s : Stands w m) (live : is_live w c ≡ true) where
  abbrev d : Device
  d = home w c

  abbrev x : Context
  x = context_of w c

  abbrev w' : World
  w' = (ran w (device.stops d x)).world

  context_is : context_at d c ≡ x
  context_is = home_context w c live

  name_is : x.name ≡ c
  name_is = ap (λ z. z.name) (sym context_is) ∙ live_name w c live

  d_found : first_that (holds_it c) w.devices ≡ Some d
  d_found = home_found w c live

  d_there : has (λ e. e.id) d.id w.devices ≡ true
  d_there = found_there (λ e. e.id) (holds_it c) d w.devices d_found

  d_at : device_at w d.id ≡ d
  d_at = at-found (λ e. e.id) no_device (holds_it c) d w.devices (ids_once w m s.placed) d_found

  abbrev d' : Device
  d' = husked d x

  devices_are : w'.devices ≡ store (λ e. e.id) d.id d' w.devices
  unfolding ran with_device device.stops
  devices_are = refl

  carried_are : w'.carried ≡ w.carried ++ images.image_of x ∷ []
  unfolding ran with_device device.stops
  carried_are = refl

  sent_is : w'.sent ≡ w.sent
  unfolding ran with_device sending device.stops
  sent_is = append-nil w.sent

  image_is : images.context_of (images.image_of x) ≡ calm x
  image_is = image_back x (regions_found w m s c) (ends_found w m s c)

  abbrev others : List Context
  others = flat_map (λ e. e.contexts) (store (λ e. e.id) d.id d' w.devices) ++ map images.context_of w.carried

  leaves : Inserts Context x d'.contexts d.contexts
  leaves = subst (λ n. Inserts Context x (without (λ z. z.name) n d.contexts) d.contexts) (sym name_is)
      (subst (λ z. Inserts Context z (without (λ y. y.name) c d.contexts) d.contexts) context_is (inserts_without (λ z. z.name) state.no_context c d.contexts (home_holds w c live)))

  was : Inserts Context x others (contexts_of w)
  unfolding contexts_of
  was = inserts_before x (map images.context_of w.carried) (flat_map (λ e. e.contexts) (store (λ e. e.id) d.id d' w.devices)) (flat_map (λ e. e.contexts) w.devices)
      (inserts_parts (λ e. e.contexts) (λ e. e.id) no_device d.id d' x w.devices d_there (subst (λ z. Inserts Context x d'.contexts z.contexts) (sym d_at) leaves))

  is : Inserts Context (calm x) others (contexts_of w')
  unfolding contexts_of
  is = record {
    before = others;
    after = [];
    was = sym (append-nil others);
    is =
        ap (λ cs. flat_map (λ e. e.contexts) w'.devices ++ map images.context_of cs) carried_are
        ∙ (ap (λ ds. flat_map (λ e. e.contexts) ds ++ map images.context_of (w.carried ++ images.image_of x ∷ [])) devices_are
        ∙ (ap (λ cs. flat_map (λ e. e.contexts) (store (λ e. e.id) d.id d' w.devices) ++ cs) (map-append images.context_of w.carried (images.image_of x ∷ []) ∙ ap (λ z. map images.context_of w.carried ++ z ∷ []) image_is)
        ∙ sym (append_assoc (flat_map (λ e. e.contexts) (store (λ e. e.id) d.id d' w.devices)) (map images.context_of w.carried) (calm x ∷ []))));
  }

  relocated : Relocated w w' c x (calm x)
  relocated = record { named = name_is; named' = name_is; rest = others; was = was; is = is }

  -- places
  gone : address_or_none (home_in (store (λ e. e.id) d.id d' w.devices) c) ≡ None
  unfolding relocated
  gone = place_nowhere c (store (λ e. e.id) d.id d' w.devices)
      (or_first _ _ (sym (has_name-append (λ z. z.name) c (flat_map (λ e. e.contexts) (store (λ e. e.id) d.id d' w.devices)) (map images.context_of w.carried)) ∙ alone w w' c x (calm x) relocated s.placed.once))

  place_here : place_of w' c ≡ None
  unfolding place_of
  place_here = ap (λ ds. address_or_none (home_in ds c)) devices_are ∙ gone

  place_other : (k : Name) → (k ≢ c) → place_of w' k ≡ place_of w k
  unfolding place_of
  place_other k ne =
      ap (λ ds. address_or_none (home_in ds k)) devices_are
      ∙ place_stored k d.id d' w.devices d_there (ap (λ z. z.address) (sym d_at))
      (ap (λ j. has_name (λ z. z.name) k (without (λ z. z.name) j d.contexts)) name_is ∙ (has_without (λ z. z.name) c k d.contexts ne ∙ ap (λ z. has_name (λ y. y.name) k z.contexts) (sym d_at)))

  image_name : (images.image_of x).name ≡ c
  unfolding images.image_of
  image_name = name_is

  carried_by : (k : Name) → is_carried w' k ≡ (is_carried w k || bytes_eq c k)
  carried_by k = ap (has_name (λ z. z.name) k) carried_are ∙ (has_name-push (λ z. z.name) k w.carried (images.image_of x) ∙ ap (λ j. is_carried w k || bytes_eq j k) image_name)

  carried_here : is_carried w' c ≡ true
  carried_here = carried_by c ∙ grind (arith, same_name c)

  carried_other : (k : Name) → (k ≢ c) → is_carried w' k ≡ is_carried w k
  carried_other k ne = carried_by k ∙ grind (arith, name_tells c k, ne)

  -- ends of the context, and their peers
  links : (n : Name) → (link_in (calm x).ends n).link ≡ option_map calm_link (link_in x.ends n).link
  links n = calm_links x.ends n

  abbrev n : Net
  n = net_of w m

  side_now : (o : ObjName) → o.context ≡ c → (k : Link) → (end_of w o).link ≡ Some k → side_of w' o ≡ side_made (Some (calm_link k)) true None
  side_now o a k linked =
      side_parts w' o (Some (calm_link k)) true None
      (link_here w w' c x (calm x) calm_link s.placed.once relocated links o a ∙ ap (option_map calm_link) linked)
      (ap (is_carried w') a ∙ carried_here)
      (ap (place_of w') a ∙ place_here)

  side_before : (o : ObjName) (k : Link) → (end_of w o).link ≡ Some k → side_of w o ≡ side_made (Some k) (is_carried w o.context) (place_of w o.context)
  side_before o k linked = side_parts w o (Some k) (is_carried w o.context) (place_of w o.context) linked refl refl

  peer_apart : (o : ObjName) → o.context ≡ c → IsConnected n o → (peer n o).context ≢ c
  peer_apart o a connected e = cc ((s.joined o connected).apart, same_name c, e, a)

  side_peer : (o : ObjName) → o.context ≡ c → IsConnected n o → side_of w' (peer n o) ≡ side_of w (peer n o)
  side_peer o a connected =
      let ne = peer_apart o a connected in
      side_other w w' c x (calm x) calm_link s.placed.once relocated links (peer n o) ne (place_other (peer n o).context ne) (carried_other (peer n o).context ne)

  -- no partner of an end in Rts moves
  module _ (free : some (λ e. partner_moves w e.link) x.ends ≡ false) where
    partner_still : (o : ObjName) → o.context ≡ c → (k : Link) → (end_of w o).link ≡ Some k → partner_moves w (Some k) ≡ false
    unfolding end_of
    partner_still o a k linked = by_test (partner_moves w (Some k)) refl
      where
        by_test : (b : Bool) → partner_moves w (Some k) ≡ b → partner_moves w (Some k) ≡ false
        by_test false h = h
        by_test true h = absurd (cc (
          free,
          some_named (λ e. partner_moves w e.link) (λ e. e.name) (record no_end { name = o.name }) o.name x.ends
              (ap (λ j. has_name (λ e. e.name) o.name (context_of w j).ends) (sym a) ∙ end_is_there w o (ap is_some linked))
              (ap (λ j. partner_moves w (link_in (context_of w j).ends o.name).link) (sym a) ∙ (ap (partner_moves w) linked ∙ h)),
        ))

    peer_still : (o : ObjName) → o.context ≡ c → IsConnected n o → (k : Link) → (end_of w o).link ≡ Some k → not k.ended ≡ true → (side_of w (peer n o)).rts ≡ true → IsMoving (side_of w (peer n o)) → ⊥
    unfolding in_rts link_or_none
    peer_still o a connected k linked alive rts =
        let p : ObjName = peer n o in
        let j = s.joined o connected in
        let of_peer = connected_link (end_of w p).link j.connected in
        let number : k.peer ≡ (machine.end_of m p).number = ap (λ z. (link_or_none z).peer) (sym linked) ∙ j.number in
        let none : (is_carried_end w k.peer || is_resuming_end w k.peer) ≡ false = ap (λ b. b && (is_carried_end w k.peer || is_resuming_end w k.peer)) (sym alive) ∙ partner_still o a k linked in
        let peer_alive : not of_peer.0.ended ≡ true = ap (λ z. not (link_or_none z).ended) (sym of_peer.1) ∙ second (is_some (end_of w p).link) _ rts in
        is_still w m s p of_peer.0 of_peer.1 (not_true of_peer.0.ended peer_alive) (subst (λ i. (is_carried_end w i || is_resuming_end w i) ≡ false) number none)

    migrates : Migrates w w' m c x (calm x) calm_link
    migrates = record {
      relocated = relocated;
      domains = refl;
      regions = refl;
      queues = refl;
      ends = calm_ends x.ends;
      links = links;
      places = place_other;
      carried = carried_other;
      ids = ap (map (λ e. e.id)) devices_are ∙ map-store_found (λ e. e.id) (λ e. e.id) (holds_it c) d d' w.devices (ids_once w m s.placed) d_found refl;
      addresses = ap (map (λ e. e.address)) devices_are ∙ map-store_found (λ e. e.address) (λ e. e.id) (holds_it c) d d' w.devices (ids_once w m s.placed) d_found refl;
      counts = λ k. (
        omega (arith, ap (λ ds. (at (λ e. e.id) no_device k ds).qp_count) devices_are, at-store_part (λ e. e.qp_count) (λ e. e.id) no_device d.id k d' w.devices refl (ap (λ e. e.qp_count) (sym d_at))),
        omega (arith, ap (λ ds. (at (λ e. e.id) no_device k ds).key_count) devices_are, at-store_part (λ e. e.key_count) (λ e. e.id) no_device d.id k d' w.devices refl (ap (λ e. e.key_count) (sym d_at))),
      );
      sent = sent_is;
      moves = λ o a connected.
          let l = connected_link (end_of w o).link connected in
          subst (λ z. SideMoves z (side_of w' o)) (sym (side_before o l.0 l.1)) (subst (SideMoves (side_made (Some l.0) (is_carried w o.context) (place_of w o.context))) (sym (side_now o a l.0 l.1)) (stop_moves l.0 (is_carried w o.context) (place_of w o.context)));
      heard = λ o a connected.
          let l = connected_link (end_of w o).link connected in
          let j = s.joined o connected in
          let still = peer_still o a connected l.0 l.1 in
          let back : IsHeardOf (side_of w (peer n o)) (side_of w o) = subst (λ k. IsHeardOf (side_of w (peer n o)) (side_of w k)) j.back (s.joined (peer n o) j.connected).heard_of in (
            subst (λ z. IsHeardOf z (side_of w' (peer n o))) (sym (side_now o a l.0 l.1)) (subst (IsHeardOf (side_made (Some (calm_link l.0)) true None)) (sym (side_peer o a connected))
                (stop_heard l.0 (is_carried w o.context) (place_of w o.context) (side_of w (peer n o)) still (subst (λ z. IsHeardOf z (side_of w (peer n o))) (side_before o l.0 l.1) j.heard_of))),
            subst (IsHeardOf (side_of w' (peer n o))) (sym (side_now o a l.0 l.1)) (subst (λ z. IsHeardOf z (side_made (Some (calm_link l.0)) true None)) (sym (side_peer o a connected))
                (stop_hears l.0 (is_carried w o.context) (place_of w o.context) (side_of w (peer n o)) still (subst (IsHeardOf (side_of w (peer n o))) (side_before o l.0 l.1) back))),
          );
    }

    -- ---- the husk

    object : Name → ObjName
    object k = record { context = c; name = k }

    entry_left : (o : ObjName) → o.context ≡ c → (l : Link) → (end_of w o).link ≡ Some l → l.ended ≡ false → HuskFact (net_of w' m) (record { number = (end_of w o).number; peer = l.peer; moves = l.moving.own })
    unfolding in_rts link_or_none
    entry_left o a l linked alive =
        let connected : IsConnected n o = ap is_some linked in
        let j = s.joined o connected in
        let number : (end_of w o).number ≡ (machine.end_of m o).number = number_is w m o s connected in
        let name : name_of m (end_of w o).number ≡ o = ap (name_of m) number ∙ s.numbered.named o (are_made w m s o connected) in
        subst (λ k. IsLeft (side_of w' k) (n.end k) (n.end (peer n k)) (record { number = (end_of w o).number; peer = l.peer; moves = l.moving.own })) (sym name)
        (subst (λ z. IsLeft z (n.end o) (n.end (peer n o)) (record { number = (end_of w o).number; peer = l.peer; moves = l.moving.own })) (sym (side_now o a l linked))
        (record {
          connected = refl;
          number = sym number;
          peer = sym (ap (λ z. (link_or_none z).peer) (sym linked) ∙ j.number);
          count = inr (refl, ap not alive, refl);
        }))

    entries_of : (k : Name) → has_name (λ e. e.name) k x.ends ≡ true → All (HuskFact (net_of w' m)) (husk_entry (link_in x.ends k) (link_in x.ends k).link)
    unfolding end_of
    entries_of k there = by_link (link_in x.ends k).link refl
      where
        by_ended : (l : Link) → (link_in x.ends k).link ≡ Some l → (b : Bool) → l.ended ≡ b → All (HuskFact (net_of w' m)) (if b then [] else record { number = (link_in x.ends k).number; peer = l.peer; moves = l.moving.own } ∷ [])
        by_ended l linked true h = All-nil _
        by_ended l linked false h = All-cons (HuskFact (net_of w' m)) _ [] (entry_left (record { context = c; name = k }) refl l linked h) (All-nil _)

        by_link : (l : Option Link) → (link_in x.ends k).link ≡ l → All (HuskFact (net_of w' m)) (husk_entry (link_in x.ends k) l)
        by_link None h = All-nil _
        by_link (Some l) h = by_ended l h l.ended refl

    entries_new : All (HuskFact (net_of w' m)) (husk_of x).entries
    unfolding husk_of
    entries_new = all_parts (HuskFact (net_of w' m)) (λ e. husk_entry e e.link) x.ends
        (all_by_name (λ e. All (HuskFact (net_of w' m)) (husk_entry e e.link)) (λ e. e.name) (λ k. record no_end { name = k }) x.ends (once_named w m s c) entries_of)

    more_husks : Inserts Husk (husk_of x) (husks_of w) (husks_of w')
    more_husks = subst (λ ds. Inserts Husk (husk_of x) (husks_of w) (flat_map (λ e. e.husks) ds)) (sym devices_are)
        (inserts_flat_at (λ e. e.husks) (λ e. e.id) no_device d.id d' (husk_of x) w.devices d_there (ap (λ z. z.husks ++ husk_of x ∷ []) (sym d_at)))

    husk_name : (husk_of x).name ≡ c
    unfolding husk_of
    husk_name = name_is

    husks_made : All (λ h. has_word h (map (λ y. y.name) m.contexts) ≡ true) (map (λ h. h.name) (husks_of w'))
    husks_made = inserts_all (λ h. has_word h (map (λ y. y.name) m.contexts) ≡ true) (husk_of x).name (map (λ h. h.name) (husks_of w)) (map (λ h. h.name) (husks_of w'))
        (inserts_map (λ h. h.name) (husk_of x) (husks_of w) (husks_of w') more_husks) s.placed.husks_made
        (ap (λ k. has_word k (map (λ y. y.name) m.contexts)) husk_name ∙ (sym (s.placed.same c) ∙ (has_name-names c (contexts_of w) ∙ (has_context_is w c ∙ ap (λ b. b || is_carried w c) live))))

    left : AreLeft (net_of w' m) (flat_map (λ h. h.entries) (husks_of w'))
    left h i = All-contains (HuskFact (net_of w' m)) (flat_map (λ h. h.entries) (husks_of w')) h
        (parts_inserted (HuskFact (net_of w' m)) (λ h. h.entries) (husk_of x) (husks_of w) (husks_of w') more_husks
        (all_of_contained (HuskFact (net_of w' m)) (flat_map (λ h. h.entries) (husks_of w)) (entries_kept w w' m c x (calm x) calm_link s migrates)) entries_new) i

    pub stopped_stands : Stands w' m
    stopped_stands = migrated_stands w w' m c x (calm x) calm_link s migrates husks_made left

-- ---- by the refusals

module _ (w : World) (m : Machine) (c : Name) (s : Stands w m) where
  moving_now : (live : is_live w c ≡ true) → some (λ e. partner_moves w e.link) (context_of w c).ends ≡ false → Reaches w m (world_events.Stop c) (ran w (device.stops (home w c) (context_at (home w c) c))).world (ran w (device.stops (home w c) (context_at (home w c) c))).answer
  unfolding kept.verb_of kept.kept_verb
  moving_now live free =
      subst (λ z. Reaches w m (world_events.Stop c) (ran w (device.stops (home w c) z)).world (ran w (device.stops (home w c) z)).answer) (sym (home_context w c live))
      (unheard_reached w m (world_events.Stop c) (ran w (device.stops (home w c) (context_of w c))).world (ran w (device.stops (home w c) (context_of w c))).answer refl refl (stopped_stands w m c s live free))

  by_device : (r : Option Refusal) → is_live w c ≡ true → some (λ e. partner_moves w e.link) (context_of w c).ends ≡ false →
      Reaches w m (world_events.Stop c) (ran w (device.by_refusal (home w c) (events.Stop c false) r)).world (ran w (device.by_refusal (home w c) (events.Stop c false) r)).answer
  unfolding kept.verb_of kept.kept_verb
  by_device None live free = moving_now live free
  by_device (Some r) live free = unheard_reached w m (world_events.Stop c) _ _ refl refl (subst (λ z. Stands z m) (sym (ran_same w m c (answers.Refused r) s.placed live)) s)

  abbrev world_refusal : Option Refusal
  world_refusal = first_cause (context_causes w c (cause refusals.PeerMoving (some (λ e. partner_moves w e.link) (live_context w c).ends) ∷ []))

  by_world : (r : Option Refusal) → world_refusal ≡ r → Reaches w m (world_events.Stop c) (step.by_refusal w r (step.runs w (home w c) (events.Stop c false))).world (step.by_refusal w r (step.runs w (home w c) (events.Stop c false))).answer
  unfolding device.device_step kept.verb_of kept.kept_verb live_context
  by_world (Some r) h = unheard_reached w m (world_events.Stop c) w (answers.Refused r) refl refl s
  by_world None h =
      let later = later_no refusals.NoSuch _ _ h in
      let live : is_live w c ≡ true = not_lacking _ (first_no refusals.Stopped _ _ later) in
      by_device _ live (ap (λ z. some (λ e. partner_moves w e.link) z.ends) (sym (home_context w c live)) ∙ first_no refusals.PeerMoving _ [] (later_no refusals.Stopped _ _ later))

  pub stop_follows : Follows w m (world_events.Stop c)
  unfolding world_step step.stops
  stop_follows = by_world _ refl
