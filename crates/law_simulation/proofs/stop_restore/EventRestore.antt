-- The machine follows a restore: a carried image is put on a device, where its ends are Resuming, and the machine makes no
-- step.
use Rattle.std.proofs.Common.{arith, ◌≡◌, ◌≢◌, ◌≤◌, ◌<◌, ℕ, List, [], ◌∷◌, ◌++◌, map, true, false, Bool, refl, sym, ap, ◌∙◌, subst, inl, inr}
use Rattle.std.specs.Prelude.{Option, Some, None, option_map, is_some, not, ◌&&◌, ◌||◌, ◌==◌, ◌+◌, ◌%◌, ◌/◌, max, nat_le, if◌then◌else◌, flat_map, bytes_eq, All}
use Rattle.std.proofs.lemmas.Bool.Decides.{nat_tests, leb_tells}
use Rattle.std.proofs.lemmas.List.{append-nil}
use Rattle.rdma_types.specs.declared.names.Name.{Name}
use Rattle.rdma_types.specs.declared.names.ObjName.{ObjName}
use Rattle.rdma_types.specs.declared.requests.Address.{Address}
use Rattle.rdma_types.specs.declared.answers.Answer.TheVariants as answers
use Rattle.rdma_types.specs.declared.answers.Refusal.{Refusal}
use Rattle.rdma_types.specs.declared.answers.Refusal.TheVariants as refusals
use Rattle.rdma_types.specs.Causes.{cause, first_cause}
use Rattle.rdma_types.specs.Limits.{most_moves}
use Rattle.rdma_types.specs.Lists.{named, has_name, has_word, has, at, store, without, first_that, some}
use Rattle.protocol.specs.declared.events.Event.TheVariants as events
use Rattle.protocol.specs.declared.events.WorldEvent.TheVariants as world_events
use Rattle.protocol.specs.Fabric.{sending}
use Rattle.protocol.specs.declared.images.ContextImage.{ContextImage}
use Rattle.protocol.specs.Images as images
use Rattle.protocol.specs.Images.{moved, moved_end, moved_link}
use Rattle.protocol.specs.State.{World, Device, Context, End, Link, Paused, Resuming, device_at, no_device, no_end}
use Rattle.protocol.specs.Refusals as refusing
use Rattle.protocol.specs.DeviceStep as device
use Rattle.protocol.specs.DeviceStep.{highest}
use Rattle.protocol.specs.WorldStep as step
use Rattle.protocol.specs.WorldStep.{world_step, is_live, is_carried, home, with_device, ran, live_context, partner_moves, is_carried_end, is_resuming_end, context_causes}
use Rattle.packetless_machine.specs.Machine.{Machine}
use Rattle.law_simulation.specs.Kept as kept
use Rattle.law_simulation.specs.Packets.{IsStopped}
use Rattle.law_simulation.specs.Views.{Net, Side, contexts_of, context_of, end_of, link_or_none, home_in, address_or_none, place_of, side_of, net_of, peer, owned_there}
use Rattle.law_simulation.specs.Joined.{IsHeardOf}
use Rattle.law_simulation.specs.Facts.{MoveFact}
use Rattle.law_simulation.specs.Stands.{Stands, AreLeft, husks_of}
use Rattle.law_simulation.specs.Law.{Reaches, Follows}
use Rattle.law_simulation.proofs.relation.Tables.{name_tells, named-map, at-store_grows, number-at, map-store_at, flat_map-store_at, name_tells, has_name-map, has_name-append, has_name-push, same_name}
use Rattle.law_simulation.proofs.relation.Worlds.{has_name-flat}
use Rattle.law_simulation.proofs.relation.Inserts.{Inserts, inserts_before, inserts_flat_at, inserts_map}
use Rattle.law_simulation.proofs.relation.Nets.{link_in}
use Rattle.law_simulation.proofs.relation.Grows.{IsConnected}
use Rattle.law_simulation.proofs.relation.Refusing.{first_no, later_no, not_lacking}
use Rattle.law_simulation.proofs.relation.Verbs.{unheard_reached}
use Rattle.law_simulation.proofs.stop_restore.Lists.{inserts_after, inserts_without, some_map, has_without, some_named}
use Rattle.law_simulation.proofs.stop_restore.NetMoves.{SideMoves}
use Rattle.law_simulation.proofs.stop_restore.Relocated.{Relocated, Migrates, context_was, alone, side_made, side_parts, side_other, link_here, entries_kept, migrated_stands}
use Rattle.law_simulation.proofs.stop_restore.Devices.{ran_stays, place_stored, place_stored_here}
use Rattle.law_simulation.proofs.stop_restore.Movers.{end_is_there, carried_not_live, image_name}

-- ---- a link after a move

-- a link in Rts after a move
abbrev resuming_link : Link → Link
resuming_link l = record l {
  moving = record l.moving { phase = Resuming; own = l.moving.own + 1 };
  sender = record l.sender { next = l.sender.una; rnr_wait = false };
}

moved_alive : (l : Link) → l.ended ≡ false → moved_link l ≡ resuming_link l
unfolding moved_link
moved_alive l h = rw h refl

moved_ended : (l : Link) → l.ended ≡ true → moved_link l ≡ l
unfolding moved_link
moved_ended l h = rw h refl

-- ---- an end in Rts

module _ (l : Link) (alive : l.ended ≡ false) (p : Option Address) (a : Address) where
  alive_stopped : (count : ℕ) → MoveFact (side_made (Some l) true p) (IsStopped count) → MoveFact (side_made (Some (resuming_link l)) false (Some a)) (IsStopped count)
  unfolding link_or_none
  alive_stopped count (inl h) = inl (omega (arith, h))
  alive_stopped count (inr h) = inl (omega (arith, h.2))

  alive_moves : SideMoves (side_made (Some l) true p) (side_made (Some (resuming_link l)) false (Some a))
  unfolding link_or_none
  alive_moves = record {
    parts = record { moving = record l.moving { phase = Resuming; own = l.moving.own + 1 }; next = l.sender.una; rnr_wait = false; carried = false; place = Some a };
    is = refl;
    goes = inr refl;
    stopped = alive_stopped;
    resumed = λ body h. (omega (arith, h.0), λ b r place e. absurd (omega (arith, h.0, e)));
    recorded = omega arith;
  }

  module _ (y : Side) where
    alive_heard : l.moving.own < most_moves → IsHeardOf (side_made (Some l) true p) y → IsHeardOf (side_made (Some (resuming_link l)) false (Some a)) y
    unfolding link_or_none
    alive_heard few h = record {
      known = omega (arith, h.known);
      address = λ b r place e. absurd (omega (arith, h.known, e));
      settled = λ r r' moves. absurd (moves (inr refl));
      paused = λ r paused. inr (inl (omega (arith, h.known)));
      one = λ r r' moving moving'. h.one r r' (inl refl) moving';
      limit = omega (arith, few);
    }

    alive_hears : IsHeardOf y (side_made (Some l) true p) → IsHeardOf y (side_made (Some (resuming_link l)) false (Some a))
    unfolding link_or_none
    alive_hears h = record {
      known = h.known;
      address = h.address;
      settled = h.settled;
      paused = λ r paused. absurd (not_paused paused);
      one = λ r r' moving moving'. h.one r r' moving (inl refl);
      limit = h.limit;
    }
      where
        not_paused : Resuming ≡ Paused → ⊥
        not_paused e = cc

-- ---- an end in Error

not_rts : (b : Bool) → b ≡ true → not b ≡ true → ⊥
not_rts true h r = cc
not_rts false h r = cc

module _ (l : Link) (over : l.ended ≡ true) (p : Option Address) (a : Address) where
  over_stopped : (count : ℕ) → MoveFact (side_made (Some l) true p) (IsStopped count) → MoveFact (side_made (Some l) false (Some a)) (IsStopped count)
  unfolding link_or_none
  over_stopped count (inl h) = inl h
  over_stopped count (inr h) = absurd (not_rts l.ended over h.1)

  over_moves : SideMoves (side_made (Some l) true p) (side_made (Some l) false (Some a))
  unfolding link_or_none
  over_moves = record {
    parts = record { moving = l.moving; next = l.sender.next; rnr_wait = l.sender.rnr_wait; carried = false; place = Some a };
    is = refl;
    goes = inl refl;
    stopped = over_stopped;
    resumed = λ body h. (h.0, λ b r place e. absurd (not_rts l.ended over r));
    recorded = omega arith;
  }

  module _ (y : Side) where
    over_heard : IsHeardOf (side_made (Some l) true p) y → IsHeardOf (side_made (Some l) false (Some a)) y
    unfolding link_or_none
    over_heard h = record {
      known = h.known;
      address = λ b r place e. absurd (not_rts l.ended over r);
      settled = λ r r' moves. absurd (not_rts l.ended over r);
      paused = λ r paused. inr (inr over);
      one = λ r r' moving moving'. absurd (not_rts l.ended over r);
      limit = h.limit;
    }

    over_hears : IsHeardOf y (side_made (Some l) true p) → IsHeardOf y (side_made (Some l) false (Some a))
    unfolding link_or_none
    over_hears h = record {
      known = h.known;
      address = h.address;
      settled = h.settled;
      paused = λ r paused. absurd (not_rts l.ended over r);
      one = λ r r' moving moving'. absurd (not_rts l.ended over r');
      limit = h.limit;
    }

-- ---- either

-- it moved as often as may be
abbrev has_moved_out : Link → Bool
has_moved_out l = not l.ended && nat_le most_moves l.moving.own

few_moves : (l : Link) → l.ended ≡ false → has_moved_out l ≡ false → l.moving.own < most_moves
few_moves l alive h = grind (arith, nat_tests, leb_tells most_moves l.moving.own, alive, h)

module _ (l : Link) (p : Option Address) (a : Address) where
  restore_moves : (b : Bool) → l.ended ≡ b → SideMoves (side_made (Some l) true p) (side_made (Some (moved_link l)) false (Some a))
  restore_moves true h = subst (λ z. SideMoves (side_made (Some l) true p) (side_made (Some z) false (Some a))) (sym (moved_ended l h)) (over_moves l h p a)
  restore_moves false h = subst (λ z. SideMoves (side_made (Some l) true p) (side_made (Some z) false (Some a))) (sym (moved_alive l h)) (alive_moves l h p a)

  restore_heard : (y : Side) → has_moved_out l ≡ false → (b : Bool) → l.ended ≡ b → IsHeardOf (side_made (Some l) true p) y → IsHeardOf (side_made (Some (moved_link l)) false (Some a)) y
  restore_heard y few true h j = subst (λ z. IsHeardOf (side_made (Some z) false (Some a)) y) (sym (moved_ended l h)) (over_heard l h p a y j)
  restore_heard y few false h j = subst (λ z. IsHeardOf (side_made (Some z) false (Some a)) y) (sym (moved_alive l h)) (alive_heard l h p a y (few_moves l h few) j)

  restore_hears : (y : Side) → (b : Bool) → l.ended ≡ b → IsHeardOf y (side_made (Some l) true p) → IsHeardOf y (side_made (Some (moved_link l)) false (Some a))
  restore_hears y true h j = subst (λ z. IsHeardOf y (side_made (Some z) false (Some a))) (sym (moved_ended l h)) (over_hears l h p a y j)
  restore_hears y false h j = subst (λ z. IsHeardOf y (side_made (Some z) false (Some a))) (sym (moved_alive l h)) (alive_hears l h p a y j)

-- ---- an owner has the same

moved_owned : (e : End) (l : Option Link) → e.link ≡ l → owned_there (moved_end e) ≡ owned_there e
unfolding owned_there link_or_none moved_end
moved_owned e None h = ap (λ z. owned_there (record e { link = option_map moved_link z })) h ∙ ap (λ z. owned_there (record e { link = z })) (sym h)
moved_owned e (Some l) h =
    ap (λ z. owned_there (record e { link = option_map moved_link z })) h
    ∙ (by_ended l.ended refl ∙ ap (λ z. owned_there (record e { link = z })) (sym h))
  where
    by_ended : (b : Bool) → l.ended ≡ b → owned_there (record e { link = Some (moved_link l) }) ≡ owned_there (record e { link = Some l })
    by_ended true t = ap (λ z. owned_there (record e { link = Some z })) (moved_ended l t)
    by_ended false t = ap (λ z. owned_there (record e { link = Some z })) (moved_alive l t)

moved_ends : (es : List End) → map owned_there (map moved_end es) ≡ map owned_there es
moved_ends [] = refl
moved_ends (e ∷ es) = ap (λ x. x ∷ map owned_there (map moved_end es)) (moved_owned e e.link refl) ∙ ap (λ xs. owned_there e ∷ xs) (moved_ends es)

moved_links : (es : List End) (n : Name) → (link_in (map moved_end es) n).link ≡ option_map moved_link (link_in es n).link
unfolding moved_end
moved_links es n = ap (λ e. e.link) (named-map {A = End} {B = End} moved_end (λ e. e.name) (λ e. e.name) (record no_end { name = n }) n es (λ e. refl))

-- ---- lists and counts

highest_grows : (id size : ℕ) (xs : List ℕ) (n : ℕ) → n ≤ highest id size xs n
unfolding highest
highest_grows id size [] n = omega arith
highest_grows id size (x ∷ xs) n = more (x / size == id) (highest_grows id size xs n) (highest_grows id size xs (max n (x % size)))
  where
    more : (b : Bool) → n ≤ highest id size xs n → max n (x % size) ≤ highest id size xs (max n (x % size)) → n ≤ highest id size xs (if b then max n (x % size) else n)
    more true h j = omega (arith, j)
    more false h j = h

connected_link : (l : Option Link) → is_some l ≡ true → (k : Link) × (l ≡ Some k)
connected_link None h = absurd (cc)
connected_link (Some k) h = (k, refl)

-- the first of a name
first_is : (n : Name) (i : ContextImage) (xs : List ContextImage) → first_that (λ c. bytes_eq c.name n) xs ≡ Some i → (has_name (λ c. c.name) n xs ≡ true) × (named (λ c. c.name) i n xs ≡ i) × (i.name ≡ n)
unfolding first_that has_name named
first_is n i [] h = absurd (cc)
first_is n i (x ∷ xs) h = elim (name_tells x.name n) [
  | inl t ↦
      let e : x ≡ i = some_inj x i (ap (λ b. if b then Some x else first_that (λ c. bytes_eq c.name n) xs) (sym t.0) ∙ h) in
      (ap (λ b. b || has_name (λ c. c.name) n xs) t.0, ap (λ b. if b then x else named (λ c. c.name) i n xs) t.0 ∙ e, ap (λ z. z.name) (sym e) ∙ t.1)
  | inr t ↦
      let later = first_is n i xs (ap (λ b. if b then Some x else first_that (λ c. bytes_eq c.name n) xs) (sym t.0) ∙ h) in
      (ap (λ b. b || has_name (λ c. c.name) n xs) t.0 ∙ later.0, ap (λ b. if b then x else named (λ c. c.name) i n xs) t.0 ∙ later.1, later.2)
]
  where
    some_inj : (a b : ContextImage) → Some a ≡ Some b → a ≡ b
    some_inj a b e = cc

-- ---- the two worlds

module _ (w : World) (m : Machine) (c : Name) (k : ℕ) (i : ContextImage) (s : Stands w m) (made : has (λ e. e.id) k w.devices ≡ true) (image : first_that (λ z. bytes_eq z.name c) w.carried ≡ Some i) (few : some refusing.has_moved_out (refusing.links_of (images.context_of i)) ≡ false) where
  abbrev d : Device
  d = device_at w k

  abbrev x : Context
  x = images.context_of i

  abbrev d' : Device
  d' = device.restored d x

  abbrev w' : World
  w' = step.without_image (ran w (device.answers d' answers.Done)).world c

  carried : is_carried w c ≡ true
  carried = (first_is c i w.carried image).0

  name_is : x.name ≡ c
  name_is = image_name i ∙ (first_is c i w.carried image).2

  moved_name : (moved x).name ≡ c
  unfolding moved
  moved_name = name_is

  id_is : d.id ≡ k
  id_is = number-at (λ e. e.id) no_device k w.devices made

  devices_are : w'.devices ≡ store (λ e. e.id) k d' w.devices
  unfolding ran with_device
  devices_are = ap (λ j. store (λ e. e.id) j d' w.devices) id_is

  carried_are : w'.carried ≡ without (λ z. z.name) c w.carried
  unfolding ran with_device
  carried_are = refl

  sent_is : w'.sent ≡ w.sent
  unfolding ran with_device sending
  sent_is = append-nil w.sent

  abbrev others : List Context
  others = flat_map (λ e. e.contexts) w.devices ++ map images.context_of (without (λ z. z.name) c w.carried)

  was : Inserts Context x others (contexts_of w)
  unfolding contexts_of
  was = inserts_after x (flat_map (λ e. e.contexts) w.devices) (map images.context_of (without (λ z. z.name) c w.carried)) (map images.context_of w.carried)
      (inserts_map images.context_of i (without (λ z. z.name) c w.carried) w.carried
      (subst (λ z. Inserts ContextImage z (without (λ y. y.name) c w.carried) w.carried) (first_is c i w.carried image).1 (inserts_without (λ z. z.name) i c w.carried carried)))

  is : Inserts Context (moved x) others (contexts_of w')
  unfolding contexts_of
  is =
      subst (λ cs. Inserts Context (moved x) others (flat_map (λ e. e.contexts) w'.devices ++ map images.context_of cs)) (sym carried_are)
      (subst (λ ds. Inserts Context (moved x) others (flat_map (λ e. e.contexts) ds ++ map images.context_of (without (λ z. z.name) c w.carried))) (sym devices_are)
      (inserts_before (moved x) (map images.context_of (without (λ z. z.name) c w.carried)) (flat_map (λ e. e.contexts) w.devices) (flat_map (λ e. e.contexts) (store (λ e. e.id) k d' w.devices))
      (inserts_flat_at (λ e. e.contexts) (λ e. e.id) no_device k d' (moved x) w.devices made refl)))

  relocated : Relocated w w' c x (moved x)
  relocated = record { named = name_is; named' = moved_name; rest = others; was = was; is = is }

  context_is : context_of w c ≡ x
  context_is = context_was w w' c x (moved x) relocated s.placed.once

  -- places
  nowhere : has_name (λ z. z.name) c (flat_map (λ e. e.contexts) w.devices) ≡ false
  nowhere = has_name-flat c w.devices ∙ carried_not_live w m c s.placed carried

  place_here : place_of w' c ≡ Some d.address
  unfolding place_of
  place_here =
      ap (λ ds. address_or_none (home_in ds c)) devices_are
      ∙ place_stored_here c k d' w.devices made nowhere (has_name-push (λ z. z.name) c d.contexts (moved x) ∙ (ap (λ j. has_name (λ z. z.name) c d.contexts || bytes_eq j c) moved_name ∙ grind (arith, same_name c)))

  place_other : (j : Name) → (j ≢ c) → place_of w' j ≡ place_of w j
  unfolding place_of
  place_other j ne =
      ap (λ ds. address_or_none (home_in ds j)) devices_are
      ∙ place_stored j k d' w.devices made refl
      (has_name-push (λ z. z.name) j d.contexts (moved x) ∙ (ap (λ n. has_name (λ z. z.name) j d.contexts || bytes_eq n j) moved_name ∙ grind (arith, name_tells c j, ne)))

  carried_other : (j : Name) → (j ≢ c) → is_carried w' j ≡ is_carried w j
  carried_other j ne = ap (has_name (λ z. z.name) j) carried_are ∙ has_without (λ z. z.name) c j w.carried ne

  or_second : (a b : Bool) → (a || b) ≡ false → b ≡ false
  or_second true b h = absurd (cc)
  or_second false b h = h

  carried_here : is_carried w' c ≡ false
  unfolding relocated
  carried_here =
      ap (has_name (λ z. z.name) c) carried_are
      ∙ (sym (has_name-map images.context_of (λ z. z.name) (λ z. z.name) c (without (λ z. z.name) c w.carried) image_name)
      ∙ or_second _ _ (sym (has_name-append (λ z. z.name) c (flat_map (λ e. e.contexts) w.devices) (map images.context_of (without (λ z. z.name) c w.carried))) ∙ alone w w' c x (moved x) relocated s.placed.once))

  -- ends of the context, and their peers
  links : (n : Name) → (link_in (moved x).ends n).link ≡ option_map moved_link (link_in x.ends n).link
  unfolding moved
  links n = moved_links x.ends n

  abbrev n : Net
  n = net_of w m

  side_now : (o : ObjName) → o.context ≡ c → (l : Link) → (end_of w o).link ≡ Some l → side_of w' o ≡ side_made (Some (moved_link l)) false (Some d.address)
  side_now o a l linked =
      side_parts w' o (Some (moved_link l)) false (Some d.address)
      (link_here w w' c x (moved x) moved_link s.placed.once relocated links o a ∙ ap (option_map moved_link) linked)
      (ap (is_carried w') a ∙ carried_here)
      (ap (place_of w') a ∙ place_here)

  side_before : (o : ObjName) → o.context ≡ c → (l : Link) → (end_of w o).link ≡ Some l → side_of w o ≡ side_made (Some l) true (place_of w o.context)
  side_before o a l linked = side_parts w o (Some l) true (place_of w o.context) linked (ap (is_carried w) a ∙ carried) refl

  peer_apart : (o : ObjName) → o.context ≡ c → IsConnected n o → (peer n o).context ≢ c
  peer_apart o a connected e = cc ((s.joined o connected).apart, same_name c, e, a)

  side_peer : (o : ObjName) → o.context ≡ c → IsConnected n o → side_of w' (peer n o) ≡ side_of w (peer n o)
  side_peer o a connected =
      let ne = peer_apart o a connected in
      side_other w w' c x (moved x) moved_link s.placed.once relocated links (peer n o) ne (place_other (peer n o).context ne) (carried_other (peer n o).context ne)

  -- no end moved as often as may be
  not_out : (o : ObjName) → o.context ≡ c → (l : Link) → (end_of w o).link ≡ Some l → has_moved_out l ≡ false
  unfolding end_of
  not_out o a l linked = by_test (has_moved_out l) refl
    where
      by_test : (b : Bool) → has_moved_out l ≡ b → has_moved_out l ≡ false
      by_test false h = h
      by_test true h = absurd (cc (
        few,
        some_map refusing.has_moved_out (λ e. e.link) x.ends,
        some_named (λ e. refusing.has_moved_out e.link) (λ e. e.name) (record no_end { name = o.name }) o.name x.ends
            (ap (λ z. has_name (λ e. e.name) o.name z.ends) (sym context_is) ∙ (ap (λ j. has_name (λ e. e.name) o.name (context_of w j).ends) (sym a) ∙ end_is_there w o (ap is_some linked)))
            (ap (λ z. refusing.has_moved_out (link_in z.ends o.name).link) (sym context_is) ∙ (ap (λ j. refusing.has_moved_out (link_in (context_of w j).ends o.name).link) (sym a) ∙ (ap refusing.has_moved_out linked ∙ h))),
      ))

  migrates : Migrates w w' m c x (moved x) moved_link
  unfolding moved
  migrates = record {
    relocated = relocated;
    domains = refl;
    regions = refl;
    queues = refl;
    ends = moved_ends x.ends;
    links = links;
    places = place_other;
    carried = carried_other;
    ids = ap (map (λ e. e.id)) devices_are ∙ map-store_at (λ e. e.id) (λ e. e.id) no_device k d' w.devices made refl;
    addresses = ap (map (λ e. e.address)) devices_are ∙ map-store_at (λ e. e.address) (λ e. e.id) no_device k d' w.devices made refl;
    counts = λ j. (
      omega (arith, ap (λ ds. (at (λ e. e.id) no_device j ds).qp_count) devices_are, at-store_grows (λ e. e.qp_count) (λ e. e.id) no_device k j d' w.devices id_is (highest_grows d.id 65536 (map (λ e. e.number) x.ends) d.qp_count)),
      omega (arith, ap (λ ds. (at (λ e. e.id) no_device j ds).key_count) devices_are, at-store_grows (λ e. e.key_count) (λ e. e.id) no_device k j d' w.devices id_is (highest_grows d.id 8388608 (map (λ r. r.keys.local / 2) x.regions) d.key_count)),
    );
    sent = sent_is;
    moves = λ o a connected.
        let l = connected_link (end_of w o).link connected in
        subst (λ z. SideMoves z (side_of w' o)) (sym (side_before o a l.0 l.1)) (subst (SideMoves (side_made (Some l.0) true (place_of w o.context))) (sym (side_now o a l.0 l.1)) (restore_moves l.0 (place_of w o.context) d.address l.0.ended refl));
    heard = λ o a connected.
        let l = connected_link (end_of w o).link connected in
        let j = s.joined o connected in
        let back : IsHeardOf (side_of w (peer n o)) (side_of w o) = subst (λ z. IsHeardOf (side_of w (peer n o)) (side_of w z)) j.back (s.joined (peer n o) j.connected).heard_of in (
          subst (λ z. IsHeardOf z (side_of w' (peer n o))) (sym (side_now o a l.0 l.1)) (subst (IsHeardOf (side_made (Some (moved_link l.0)) false (Some d.address))) (sym (side_peer o a connected))
              (restore_heard l.0 (place_of w o.context) d.address (side_of w (peer n o)) (not_out o a l.0 l.1) l.0.ended refl (subst (λ z. IsHeardOf z (side_of w (peer n o))) (side_before o a l.0 l.1) j.heard_of))),
          subst (IsHeardOf (side_of w' (peer n o))) (sym (side_now o a l.0 l.1)) (subst (λ z. IsHeardOf z (side_made (Some (moved_link l.0)) false (Some d.address))) (sym (side_peer o a connected))
              (restore_hears l.0 (place_of w o.context) d.address (side_of w (peer n o)) l.0.ended refl (subst (IsHeardOf (side_of w (peer n o))) (side_before o a l.0 l.1) back))),
        );
  }

  husks_are : husks_of w' ≡ husks_of w
  husks_are = ap (flat_map (λ e. e.husks)) devices_are ∙ flat_map-store_at (λ e. e.husks) (λ e. e.id) no_device k d' w.devices made refl

  pub restored_stands : Stands w' m
  restored_stands = migrated_stands w w' m c x (moved x) moved_link s migrates
      (subst (λ hs. All (λ h. has_word h (map (λ y. y.name) m.contexts) ≡ true) (map (λ h. h.name) hs)) (sym husks_are) s.placed.husks_made)
      (subst (λ hs. AreLeft (net_of w' m) (flat_map (λ h. h.entries) hs)) (sym husks_are) (entries_kept w w' m c x (moved x) moved_link s migrates))

-- ---- by the refusals

module _ (w : World) (m : Machine) (c : Name) (k : ℕ) (s : Stands w m) where
  by_device : (i : ContextImage) (r : Option Refusal) → has (λ e. e.id) k w.devices ≡ true → first_that (λ z. bytes_eq z.name c) w.carried ≡ Some i → (r ≡ None → some refusing.has_moved_out (refusing.links_of (images.context_of i)) ≡ false) →
      Reaches w m (world_events.Restore c k) (step.restored_by w c (ran w (device.by_refusal (device_at w k) (events.Restore i) r))).world (step.restored_by w c (ran w (device.by_refusal (device_at w k) (events.Restore i) r))).answer
  unfolding kept.verb_of kept.kept_verb ran step.numbered device.restores
  by_device i None made image few = unheard_reached w m (world_events.Restore c k) (step.without_image (ran w (device.answers (device.restored (device_at w k) (images.context_of i)) answers.Done)).world c) answers.Done refl refl (restored_stands w m c k i s made image (few refl))
  by_device i (Some r) made image few = unheard_reached w m (world_events.Restore c k) _ _ refl refl (subst (λ z. Stands z m) (sym (ran_stays w k (answers.Refused r) made)) s)

  or_no : (a b : Bool) → (a || b) ≡ false → (a ≡ false) × (b ≡ false)
  or_no true b h = absurd (cc)
  or_no false b h = (refl, h)

  by_image : (i : Option ContextImage) → has (λ e. e.id) k w.devices ≡ true → first_that (λ z. bytes_eq z.name c) w.carried ≡ i →
      Reaches w m (world_events.Restore c k) (step.restores_image w c k i).world (step.restores_image w c k i).answer
  unfolding device.device_step refusing.refusal_of kept.verb_of kept.kept_verb
  by_image None made image = unheard_reached w m (world_events.Restore c k) w (answers.Refused refusals.Spent) refl refl s
  by_image (Some i) made image = by_device i _ made image (λ e. (or_no _ _ (first_no refusals.TooMany _ _ (later_no refusals.NumberTaken _ _ e))).1)

  by_world : (r : Option Refusal) → first_cause (cause refusals.NoSuch (not (step.has_device w k) || not (has_word c w.stopped)) ∷ []) ≡ r →
      Reaches w m (world_events.Restore c k) (step.by_refusal w r (step.restores_image w c k (step.carried_image w c))).world (step.by_refusal w r (step.restores_image w c k (step.carried_image w c))).answer
  unfolding kept.verb_of kept.kept_verb step.carried_image
  by_world (Some r) h = unheard_reached w m (world_events.Restore c k) w (answers.Refused r) refl refl s
  by_world None h = by_image _ (not_lacking _ (or_no _ _ (first_no refusals.NoSuch _ [] h)).0) refl

  pub restore_follows : Follows w m (world_events.Restore c k)
  unfolding world_step step.restores
  restore_follows = by_world _ refl
