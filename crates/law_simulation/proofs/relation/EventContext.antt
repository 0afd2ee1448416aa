-- The machine follows the making of a context.
use Rattle.std.proofs.Common.{arith, ◌≡◌, ◌≢◌, ◌≤◌, ◌<◌, ◌⊎◌, ℕ, List, [], ◌∷◌, ◌++◌, map, true, false, Bool, refl, sym, ap, ◌∙◌, subst, inl, inr}
use Rattle.std.specs.Prelude.{Option, Some, None, not, ◌&&◌, ◌||◌, ◌==◌, ◌^◌, flat_map, is_some, bytes_eq, All, Contains}
use Rattle.std.specs.List.{count_by}
use Rattle.std.proofs.lemmas.Bool.Decides.{nat_tests}
use Rattle.std.proofs.lemmas.Grind.{flat_map-append}
use Rattle.std.proofs.lemmas.List.{append-nil, map-append, map-id}
use Rattle.std.proofs.lemmas.List.Elements.{All-head, All-tail, All-weaker}
use Rattle.rdma_types.specs.declared.names.Name.{Name}
use Rattle.rdma_types.specs.declared.names.ObjName.{ObjName}
use Rattle.rdma_types.specs.declared.verbs.Verb.TheVariants as verbs
use Rattle.rdma_types.specs.declared.verbs.Verb.{Verb}
use Rattle.rdma_types.specs.declared.answers.Answer.{Answer}
use Rattle.rdma_types.specs.declared.answers.Answer.TheVariants as answers
use Rattle.rdma_types.specs.declared.answers.Refusal.{Refusal}
use Rattle.rdma_types.specs.declared.answers.Refusal.TheVariants as refusals
use Rattle.rdma_types.specs.declared.requests.Address.{Address}
use Rattle.rdma_types.specs.Causes.{cause, first_cause}
use Rattle.rdma_types.specs.Lists.{named, has_name, has_word, has, at, store, store_named}
use Rattle.protocol.specs.declared.events.Event.TheVariants as events
use Rattle.protocol.specs.declared.events.WorldEvent.{WorldEvent}
use Rattle.protocol.specs.declared.events.WorldEvent.TheVariants as world_events
use Rattle.protocol.specs.Images as images
use Rattle.protocol.specs.Fabric.{sending}
use Rattle.protocol.specs.State as state
use Rattle.protocol.specs.State.{World, Device, device_at, no_device, no_end}
use Rattle.protocol.specs.Refusals as refusing
use Rattle.protocol.specs.DeviceStep as device
use Rattle.protocol.specs.WorldStep as step
use Rattle.protocol.specs.WorldStep.{world_step, is_live, is_carried, with_device, ran, has_device}
use Rattle.packetless_machine.specs.Machine as machine
use Rattle.packetless_machine.specs.Machine.{Machine, has_context, has_end, nobody}
use Rattle.packetless_machine.specs.Verbs as verbing
use Rattle.law_simulation.specs.Kept as kept
use Rattle.law_simulation.specs.Views.{contexts_of, context_of, end_of, in_rts, link_or_none, home_in, address_or_none, place_of, side_of, net_of, numbered, numbered_ends, name_at, requests_of}
use Rattle.law_simulation.specs.Stands.{Stands, AreSame, IsContextSound, IsPlaced, IsCounted, AreNumbered, names_of, husks_of}
use Rattle.law_simulation.specs.Law.{Reaches, Follows}
use Rattle.law_simulation.proofs.relation.Tables.{name_or_not, name_tells, named-absent, named-store_same, named-store_other, store_named-new, has_name-push, has_name-at, map-store_at, flat_map-store_at, at-store_part, some-at, number-at}
use Rattle.law_simulation.proofs.relation.Worlds.{has_name-names, has_context_is, is_there}
use Rattle.law_simulation.proofs.relation.Kept.{counted_kept}
use Rattle.law_simulation.proofs.relation.Grows.{IsConnected, NetGrows}
use Rattle.law_simulation.proofs.relation.Grown.{grown_stands}
use Rattle.law_simulation.proofs.relation.Inserts.{Inserts, inserts_flat_at, inserts_before, inserts_map, named_other, named_here, has_inserted, count_inserted, count_lacking}
use Rattle.law_simulation.proofs.relation.Refusing.{first_no, later_no, not_lacking}
use Rattle.law_simulation.proofs.relation.Verbs.{done_reached, by_refusal_reached, unmade_reached}

-- ---- places

-- where another context lives does not change
place_stored : (c : Name) (k : ℕ) (d : Device) (ds : List Device) → has (λ e. e.id) k ds ≡ true → d.address ≡ (at (λ e. e.id) no_device k ds).address → has_name (λ x. x.name) c d.contexts ≡ has_name (λ x. x.name) c (at (λ e. e.id) no_device k ds).contexts → address_or_none (home_in (store (λ e. e.id) k d ds) c) ≡ address_or_none (home_in ds c)
unfolding has at store home_in address_or_none
place_stored c k d [] there address same = absurd (cc)
place_stored c k d (x ∷ ds) there address same = grind (arith, nat_tests, place_stored c k d ds)

-- an address can be said
abbrev IsSaid : Address → Type 0
IsSaid a = (a.ip < 2 ^ 32) × (a.port < 2 ^ 16)

has_name-made : (c : Name) (xs : List machine.Context) → has_word c (map (λ x. x.name) xs) ≡ has_name (λ x. x.name) c xs
unfolding has_name
has_name-made c [] = refl
has_name-made c (x ∷ xs) = ap (λ b. bytes_eq x.name c || b) (has_name-made c xs)

or_no : (a b : Bool) → (a || b) ≡ false → (a ≡ false) × (b ≡ false)
or_no true b h = absurd (cc)
or_no false b h = (refl, h)

-- ---- the two sides with one more context

module _ (w : World) (m : Machine) (n : Name) (k : ℕ) (s : Stands w m) (made : has (λ d. d.id) k w.devices ≡ true) (fresh : has_name (λ x. x.name) n (contexts_of w) ≡ false) where
  abbrev d : Device
  d = device_at w k

  abbrev x : state.Context
  x = device.new_context n

  abbrev d' : Device
  d' = record d { contexts = d.contexts ++ x ∷ [] }

  abbrev w' : World
  w' = (ran w (device.answers d' answers.Done)).world

  abbrev m' : Machine
  m' = record m { contexts = m.contexts ++ machine.no_context n ∷ [] }

  id_is : d.id ≡ k
  id_is = number-at (λ e. e.id) no_device k w.devices made

  devices_are : w'.devices ≡ store (λ e. e.id) k d' w.devices
  unfolding ran with_device
  devices_are = ap (λ j. store (λ e. e.id) j d' w.devices) id_is

  carried_is : w'.carried ≡ w.carried
  unfolding ran with_device
  carried_is = refl

  sent_is : w'.sent ≡ w.sent
  unfolding ran with_device sending
  sent_is = append-nil w.sent

  inserted : Inserts state.Context x (contexts_of w) (contexts_of w')
  unfolding contexts_of
  inserted =
      subst (λ cs. Inserts state.Context x (flat_map (λ e. e.contexts) w.devices ++ map images.context_of w.carried) (flat_map (λ e. e.contexts) w'.devices ++ map images.context_of cs)) (sym carried_is)
      (inserts_before x (map images.context_of w.carried) (flat_map (λ e. e.contexts) w.devices) (flat_map (λ e. e.contexts) w'.devices)
      (subst (λ ds. Inserts state.Context x (flat_map (λ e. e.contexts) w.devices) (flat_map (λ e. e.contexts) ds)) (sym devices_are)
      (inserts_flat_at (λ e. e.contexts) (λ e. e.id) no_device k d' x w.devices made refl)))

  context_new : context_of w' n ≡ x
  unfolding context_of
  context_new = named_here (λ c. c.name) _ x n (contexts_of w) (contexts_of w') inserted fresh refl

  context_old : (c : Name) → (c ≢ n) → context_of w' c ≡ context_of w c
  unfolding context_of
  context_old c ne = named_other (λ z. z.name) _ x c (contexts_of w) (contexts_of w') inserted (λ e. ne (sym e))

  -- before, nothing was there
  context_none : context_of w n ≡ record state.no_context { name = n }
  unfolding context_of
  context_none = named-absent (λ z. z.name) _ n (contexts_of w) fresh

  lacking : has_context m n ≡ false
  unfolding has_context
  lacking = sym (has_name-made n m.contexts) ∙ (sym (s.placed.same n) ∙ (has_name-names n (contexts_of w) ∙ fresh))

  machine_contexts : m'.contexts ≡ store_named (λ z. z.name) n (machine.no_context n) m.contexts
  unfolding has_context
  machine_contexts = sym (store_named-new (λ z. z.name) n (machine.no_context n) m.contexts lacking)

  machine_new : machine.context_of m' n ≡ machine.no_context n
  unfolding machine.context_of
  machine_new = ap (named (λ z. z.name) (machine.no_context n) n) machine_contexts ∙ named-store_same (λ z. z.name) (machine.no_context n) n (machine.no_context n) m.contexts refl

  machine_old : (c : Name) → (c ≢ n) → machine.context_of m' c ≡ machine.context_of m c
  unfolding machine.context_of
  machine_old c ne = ap (named (λ z. z.name) (machine.no_context c) c) machine_contexts ∙ named-store_other (λ z. z.name) (machine.no_context c) n c (machine.no_context n) m.contexts refl ne

  machine_none : machine.context_of m n ≡ machine.no_context n
  unfolding machine.context_of has_context
  machine_none = named-absent (λ z. z.name) (machine.no_context n) n m.contexts lacking

  -- so the machine's contexts are as they were, by their names
  machine_same : (c : Name) → machine.context_of m' c ≡ machine.context_of m c
  machine_same c = elim (name_or_not c n) [
    | inl a ↦ ap (machine.context_of m') a ∙ (machine_new ∙ (sym machine_none ∙ ap (machine.context_of m) (sym a)))
    | inr ne ↦ machine_old c ne
  ]

  -- and the world's
  things_same : (c : Name) → (context_of w' c).ends ≡ (context_of w c).ends
  things_same c = elim (name_or_not c n) [
    | inl a ↦ ap (λ j. (context_of w' j).ends) a ∙ (ap (λ z. z.ends) context_new ∙ (ap (λ z. z.ends) (sym context_none) ∙ ap (λ j. (context_of w j).ends) (sym a)))
    | inr ne ↦ ap (λ z. z.ends) (context_old c ne)
  ]

  numbers_are : m'.numbers ≡ m.numbers
  numbers_are = refl

  keys_are : m'.keys ≡ m.keys
  keys_are = refl

  numbered_same : numbered_ends m' ≡ numbered_ends m
  numbered_same = flat_map-append numbered m.contexts (machine.no_context n ∷ []) ∙ append-nil (numbered_ends m)

  husks_are : husks_of w' ≡ husks_of w
  husks_are = ap (flat_map (λ e. e.husks)) devices_are ∙ flat_map-store_at (λ e. e.husks) (λ e. e.id) no_device k d' w.devices made refl

  names_inserted : Inserts Name n (names_of w) (names_of w')
  names_inserted = inserts_map (λ z. z.name) x (contexts_of w) (contexts_of w') inserted

  made_now : (c : Name) → has_word c (map (λ z. z.name) m'.contexts) ≡ (has_word c (map (λ z. z.name) m.contexts) || bytes_eq n c)
  made_now c = ap (has_word c) (map-append (λ z. z.name) m.contexts (machine.no_context n ∷ [])) ∙ has_name-push (λ z. z) c (map (λ z. z.name) m.contexts) n

  absent_name : has_word n (names_of w) ≡ false
  absent_name = has_name-names n (contexts_of w) ∙ fresh

  once : (c : Name) → count_by (λ z. bytes_eq z c) (names_of w') ≤ 1
  once c = elim (name_tells n c) [
    | inl h ↦
        let none : count_by (λ z. bytes_eq z c) (names_of w) ≡ 0 = subst (λ j. count_by (λ z. bytes_eq z j) (names_of w) ≡ 0) h.1 (count_lacking n (names_of w) absent_name) in
        grind (arith, h.0, none, count_inserted (λ z. bytes_eq z c) n (names_of w) (names_of w') names_inserted)
    | inr h ↦ grind (arith, h.0, s.placed.once c, count_inserted (λ z. bytes_eq z c) n (names_of w) (names_of w') names_inserted)
  ]

  placed : IsPlaced w' m'
  placed = record {
    once = once;
    same = λ c. has_inserted (λ z. z) n c (names_of w) (names_of w') names_inserted ∙ (ap (λ b. b || bytes_eq n c) (s.placed.same c) ∙ sym (made_now c));
    husks_made = subst (λ hs. All (λ h. has_word h (map (λ z. z.name) m'.contexts) ≡ true) (map (λ h. h.name) hs)) (sym husks_are)
        (All-weaker (λ h. has_word h (map (λ z. z.name) m.contexts) ≡ true) (λ h. has_word h (map (λ z. z.name) m'.contexts) ≡ true) (λ h t. made_now h ∙ ap (λ b. b || bytes_eq n h) t) (map (λ h. h.name) (husks_of w)) s.placed.husks_made);
    ids_once = λ j. subst (λ is. count_by (λ z. z == j) is ≤ 1) (sym ids_are) (s.placed.ids_once j);
    addresses_once = λ a. subst (λ as'. count_by (λ z. step.same_address z a) as' ≤ 1) (sym addresses_are) (s.placed.addresses_once a);
    ids_said = subst (All (λ j. j < 256)) (sym ids_are) s.placed.ids_said;
    addresses_said = subst (All IsSaid) (sym addresses_are) s.placed.addresses_said;
  }
    where
      ids_are : map (λ e. e.id) w'.devices ≡ map (λ e. e.id) w.devices
      ids_are = ap (map (λ e. e.id)) devices_are ∙ map-store_at (λ e. e.id) (λ e. e.id) no_device k d' w.devices made refl

      addresses_are : map (λ e. e.address) w'.devices ≡ map (λ e. e.address) w.devices
      addresses_are = ap (map (λ e. e.address)) devices_are ∙ map-store_at (λ e. e.address) (λ e. e.id) no_device k d' w.devices made refl

  counted : IsCounted w' m'
  counted =
      let qps : (j : ℕ) → (device_at w' j).qp_count ≡ (device_at w j).qp_count = λ j. ap (λ ds. (at (λ e. e.id) no_device j ds).qp_count) devices_are ∙ at-store_part (λ e. e.qp_count) (λ e. e.id) no_device k j d' w.devices id_is refl in
      let keys : (j : ℕ) → (device_at w' j).key_count ≡ (device_at w j).key_count = λ j. ap (λ ds. (at (λ e. e.id) no_device j ds).key_count) devices_are ∙ at-store_part (λ e. e.key_count) (λ e. e.id) no_device k j d' w.devices id_is refl in
      counted_kept w w' m (λ j. (omega (arith, qps j), omega (arith, keys j))) s.counted

  same : (c : Name) → AreSame (context_of w' c) (machine.context_of m' c)
  same c = elim (name_or_not c n) [
    | inl a ↦ subst (λ j. AreSame (context_of w' j) (machine.context_of m' j)) (sym a) (subst (λ z. AreSame z (machine.context_of m' n)) (sym context_new) (subst (AreSame x) (sym machine_new) (record { domains = refl; regions = refl; queues = refl; ends = refl })))
    | inr ne ↦ subst (λ z. AreSame z (machine.context_of m' c)) (sym (context_old c ne)) (subst (AreSame (context_of w c)) (sym (machine_old c ne)) (s.same c))
  ]

  sound : (c : Name) → IsContextSound m'.keys (machine.context_of m' c)
  sound c = subst (λ ks. IsContextSound ks (machine.context_of m' c)) (sym keys_are) (subst (IsContextSound m.keys) (sym (machine_same c)) (s.sound c))

  end_same : (o : ObjName) → machine.end_of m' o ≡ machine.end_of m o
  unfolding machine.end_of
  end_same o = ap (λ z. named (λ e. e.name) (nobody o) o.name z.ends) (machine_same o.context)

  there_same : (o : ObjName) → has_end m' o ≡ has_end m o
  unfolding has_end
  there_same o = ap (λ z. has_name (λ e. e.name) o.name z.ends) (machine_same o.context)

  link_same : (o : ObjName) → (end_of w' o).link ≡ (end_of w o).link
  unfolding end_of
  link_same o = ap (λ es. (named (λ e. e.name) (record no_end { name = o.name }) o.name es).link) (things_same o.context)

  numbering : AreNumbered (net_of w' m') (numbered_ends m') m'.numbers
  numbering = subst (AreNumbered (net_of w' m') (numbered_ends m')) (sym numbers_are) (record {
    given = subst (All (λ z. Contains m.numbers z.0)) (sym numbered_same) s.numbered.given;
    named = λ o h. ap (λ l. name_at l (machine.end_of m' o).number) numbered_same ∙ (ap (λ e. name_at (numbered_ends m) e.number) (end_same o) ∙ s.numbered.named o (sym (there_same o) ∙ h));
  })

  -- a connected end lies in another context, whose place stays
  connected_elsewhere : (o : ObjName) → IsConnected (net_of w m) o → o.context ≢ n
  unfolding end_of named
  connected_elsewhere o c a = absurd (cc (ap (λ j. is_some (named (λ e. e.name) (record no_end { name = o.name }) o.name (context_of w j).ends).link) a, ap (λ z. is_some (named (λ e. e.name) (record no_end { name = o.name }) o.name z.ends).link) context_none, c))

  place_same : (c : Name) → (c ≢ n) → place_of w' c ≡ place_of w c
  unfolding place_of
  place_same c ne = ap (λ ds. address_or_none (home_in ds c)) devices_are ∙ place_stored c k d' w.devices made refl (has_name-push (λ z. z.name) c d.contexts x ∙ grind (arith, name_tells n c, ne))

  side_same : (o : ObjName) → (o.context ≢ n) → side_of w' o ≡ side_of w o
  unfolding in_rts
  side_same o ne =
      let link : (end_of w' o).link ≡ (end_of w o).link = link_same o in
      let place : place_of w' o.context ≡ place_of w o.context = place_same o.context ne in
      λ i. record {
        link = link_or_none (link i);
        connected = is_some (link i);
        rts = is_some (link i) && not (link_or_none (link i)).ended;
        carried = has_name (λ z. z.name) o.context (carried_is i);
        place = place i;
      }

  grows : NetGrows (net_of w m) (net_of w' m') m.numbers
  grows = record {
    sides = λ o c. side_same o (connected_elsewhere o c);
    ends = λ o c. ap requests_of (end_same o);
    names = λ j c. ap (λ l. name_at l j) numbered_same;
  }

  stands : Stands w' m'
  stands = grown_stands w w' m m' s (record {
    placed = placed;
    counted = counted;
    same = same;
    sound = sound;
    numbered = numbering;
    grows = grows;
    regions = λ o c. ap (λ z. z.regions) (machine_same o.context);
    new = λ o c. inl (ap is_some (sym (link_same o)) ∙ c);
    husks = husks_are;
    sent = sent_is;
  })

-- ---- by the refusals

machine_lacks : (m : Machine) (n : Name) → has_context m n ≡ false → has_name (λ x. x.name) n m.contexts ≡ false
unfolding has_context
machine_lacks m n h = h

-- a husk's name is that of a context that was made
husk_made : (m : Machine) (n : Name) (hs : List state.Husk) → All (λ h. has_word h (map (λ x. x.name) m.contexts) ≡ true) (map (λ h. h.name) hs) → has_name (λ h. h.name) n hs ≡ true → has_word n (map (λ x. x.name) m.contexts) ≡ true
unfolding has_name
husk_made m n [] all h = absurd (cc)
husk_made m n (x ∷ hs) all h = elim (name_tells x.name n) [
  | inl t ↦ subst (λ j. has_word j (map (λ x. x.name) m.contexts) ≡ true) t.1 (All-head (λ z. has_word z (map (λ x. x.name) m.contexts) ≡ true) x.name (map (λ z. z.name) hs) all)
  | inr t ↦ husk_made m n hs (All-tail (λ z. has_word z (map (λ x. x.name) m.contexts) ≡ true) x.name (map (λ z. z.name) hs) all) (subst (λ b. (b || has_name (λ z. z.name) n hs) ≡ true) t.0 h)
]

module _ (w : World) (m : Machine) (n : Name) (k : ℕ) (s : Stands w m) where
  -- a step that leaves the device as it was, and sends nothing, leaves the world as it was
  stays : (a : Answer) → has (λ d. d.id) k w.devices ≡ true → (ran w (device.answers (device_at w k) a)).world ≡ w
  unfolding ran with_device sending
  stays a made =
      let devices : store (λ d. d.id) (device_at w k).id (device_at w k) w.devices ≡ w.devices =
      ap (λ j. store (λ d. d.id) j (device_at w k) w.devices) (number-at (λ e. e.id) no_device k w.devices made)
      ∙ (sym (map-id (store (λ d. d.id) k (device_at w k) w.devices))
      ∙ (map-store_at (λ d. d) (λ d. d.id) no_device k (device_at w k) w.devices made refl ∙ map-id w.devices)) in
      λ i. record { devices = devices i; sent = append-nil w.sent i; carried = w.carried; stopped = w.stopped }

  abbrev verb : Verb
  verb = verbs.Context n (has (λ d. d.id) k w.devices)

  abbrev event : WorldEvent
  event = world_events.MakeContext n k

  is_verb : kept.verb_of w event ≡ Some verb
  unfolding kept.verb_of
  is_verb = refl

  abbrev first_refusal : Option Refusal
  first_refusal = first_cause (cause refusals.NoSuch (not (has_device w k)) ∷ cause refusals.NumberTaken (is_live w n || is_carried w n) ∷ [])

  first_same : first_refusal ≡ verbing.refusal_of m verb
  first_same = ap (λ b. first_cause (cause refusals.NoSuch (not (has_device w k)) ∷ cause refusals.NumberTaken b ∷ [])) (sym (is_there w m n s.placed))

  -- neither a context nor a husk of the device has the name
  free : has (λ d. d.id) k w.devices ≡ true → is_live w n ≡ false → is_carried w n ≡ false → (refusing.has_context (device_at w k) n || refusing.has_husk (device_at w k) n) ≡ false
  free made dead uncarried =
      let context : refusing.has_context (device_at w k) n ≡ false = some-at (λ d. has_name (λ x. x.name) n d.contexts) (λ d. d.id) no_device k w.devices made dead in
      let unmade : has_word n (map (λ x. x.name) m.contexts) ≡ false = has_name-made n m.contexts ∙ missing dead uncarried in
      let husk : refusing.has_husk (device_at w k) n ≡ false = no_husk (refusing.has_husk (device_at w k) n) refl unmade in
      rw (context, husk) refl
    where
      missing : is_live w n ≡ false → is_carried w n ≡ false → has_name (λ x. x.name) n m.contexts ≡ false
      missing dead uncarried = machine_lacks m n (is_there w m n s.placed ∙ rw (dead, uncarried) refl)

      no_husk : (b : Bool) → refusing.has_husk (device_at w k) n ≡ b → has_word n (map (λ x. x.name) m.contexts) ≡ false → refusing.has_husk (device_at w k) n ≡ false
      no_husk false t unmade = t
      no_husk true t unmade = absurd (cc (husk_made m n (husks_of w) s.placed.husks_made (has_name-at (λ d. d.husks) (λ h. h.name) (λ d. d.id) no_device n k w.devices made t), unmade))

  by_device : (r : Option Refusal) → has (λ d. d.id) k w.devices ≡ true → is_live w n ≡ false → is_carried w n ≡ false → verbing.refusal_of m verb ≡ None → (r ≡ None) ⊎ (r ≡ Some refusals.TooMany) →
      Reaches w m event (ran w (device.by_refusal (device_at w k) (events.MakeContext n) r)).world (ran w (device.by_refusal (device_at w k) (events.MakeContext n) r)).answer
  unfolding step.numbered device.makes_context kept.is_unmade kept.is_unmade_by ran
  by_device r made dead uncarried none (inl e) =
      subst (λ z. Reaches w m event (ran w (device.by_refusal (device_at w k) (events.MakeContext n) z)).world (ran w (device.by_refusal (device_at w k) (events.MakeContext n) z)).answer) (sym e)
      (done_reached w m event verb 0 _ _ is_verb refl none refl refl refl (stands w m n k s made (has_context_is w n ∙ rw (dead, uncarried) refl)))
  by_device r made dead uncarried none (inr e) =
      subst (λ z. Reaches w m event (ran w (device.by_refusal (device_at w k) (events.MakeContext n) z)).world (ran w (device.by_refusal (device_at w k) (events.MakeContext n) z)).answer) (sym e)
      (subst (λ z. Reaches w m event z (answers.Refused refusals.TooMany)) (sym (stays (answers.Refused refusals.TooMany) made)) (unmade_reached w m event verb w refusals.TooMany is_verb refl refl s))

  device_refusal : (a t : Bool) → a ≡ false → (first_cause (cause refusals.NumberTaken a ∷ cause refusals.TooMany t ∷ []) ≡ None) ⊎ (first_cause (cause refusals.NumberTaken a ∷ cause refusals.TooMany t ∷ []) ≡ Some refusals.TooMany)
  unfolding first_cause
  device_refusal a true h = inr (rw h refl)
  device_refusal a false h = inl (rw h refl)

  by_world : (r : Option Refusal) → first_refusal ≡ r → Reaches w m event (step.by_refusal w r (step.runs w (device_at w k) (events.MakeContext n))).world (step.by_refusal w r (step.runs w (device_at w k) (events.MakeContext n))).answer
  unfolding device.device_step refusing.refusal_of
  by_world (Some r) h = by_refusal_reached w m event verb r is_verb refl (λ known. sym h ∙ first_same) s
  by_world None h =
      let made : has (λ d. d.id) k w.devices ≡ true = not_lacking _ (first_no refusals.NoSuch _ _ h) in
      let places = or_no _ _ (first_no refusals.NumberTaken _ [] (later_no refusals.NoSuch _ _ h)) in
      by_device _ made places.0 places.1 (sym first_same ∙ h) (device_refusal _ _ (free made places.0 places.1))

  pub context_follows : Follows w m event
  unfolding world_step step.makes_context
  context_follows = by_world _ refl
