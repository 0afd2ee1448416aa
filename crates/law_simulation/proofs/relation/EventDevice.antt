-- The machine follows the adding of a device: it has none, and makes no step.
use Rattle.std.proofs.Common.{arith, ◌≡◌, ◌≤◌, ◌<◌, ◌⊎◌, ℕ, List, [], ◌∷◌, ◌++◌, map, true, false, Bool, refl, sym, ap, ◌∙◌, subst, inl, inr}
use Rattle.std.specs.Prelude.{Option, Some, None, not, ◌&&◌, ◌||◌, ◌==◌, ◌^◌, if◌then◌else◌, flat_map, is_some, All, bytes_eq}
use Rattle.std.specs.List.{count_by}
use Rattle.std.proofs.lemmas.Bool.Decides.{nat_tests, eqb_tells}
use Rattle.std.proofs.lemmas.Grind.{flat_map-append}
use Rattle.std.proofs.lemmas.List.{append-nil, map-append}
use Rattle.std.proofs.lemmas.List.Elements.{All-push}
use Rattle.std.proofs.lemmas.List.Sums.{sum_by_push}
use Rattle.rdma_types.specs.declared.names.Name.{Name}
use Rattle.rdma_types.specs.declared.names.ObjName.{ObjName}
use Rattle.rdma_types.specs.declared.requests.Address.{Address}
use Rattle.rdma_types.specs.declared.answers.Answer.TheVariants as answers
use Rattle.rdma_types.specs.declared.answers.Refusal.{Refusal}
use Rattle.rdma_types.specs.declared.answers.Refusal.TheVariants as refusals
use Rattle.rdma_types.specs.Lists.{named, has_name, has_word, has, some}
use Rattle.protocol.specs.declared.events.WorldEvent.TheVariants as world_events
use Rattle.protocol.specs.Images as images
use Rattle.protocol.specs.State as state
use Rattle.protocol.specs.State.{World, Device, device_at, no_device, no_end}
use Rattle.protocol.specs.WorldStep as step
use Rattle.protocol.specs.WorldStep.{world_step, same_address}
use Rattle.packetless_machine.specs.Machine as machine
use Rattle.packetless_machine.specs.Machine.{Machine}
use Rattle.law_simulation.specs.Kept as kept
use Rattle.law_simulation.specs.Views.{contexts_of, context_of, end_of, in_rts, link_or_none, home_in, address_or_none, place_of, side_of, net_of, numbered_ends}
use Rattle.law_simulation.specs.Stands.{Stands, AreSame, IsPlaced, IsCounted, AreNumbered, AreJoined, AreLeft, AreProgressing, AreSent, husks_of}
use Rattle.law_simulation.specs.Law.{Reaches, Follows}
use Rattle.law_simulation.proofs.relation.Tables.{count_by-cons, at-push_part}
use Rattle.law_simulation.proofs.relation.Kept.{counted_kept}
use Rattle.law_simulation.proofs.relation.Refusing.{first_no}
use Rattle.law_simulation.proofs.relation.Verbs.{unheard_reached}

-- ---- one more device without contexts

flat_pushed : {A : Type 0} (f : Device → List A) (ds : List Device) (d : Device) → f d ≡ [] → flat_map f (ds ++ d ∷ []) ≡ flat_map f ds
flat_pushed f ds d bare = flat_map-append f ds (d ∷ []) ∙ (ap (λ xs. flat_map f ds ++ (xs ++ [])) bare ∙ append-nil (flat_map f ds))

place_pushed : (c : Name) (ds : List Device) (d : Device) → d.contexts ≡ [] → address_or_none (home_in (ds ++ d ∷ []) c) ≡ address_or_none (home_in ds c)
unfolding home_in address_or_none has_name
place_pushed c [] d bare = ap (λ cs. address_or_none (if has_name (λ x. x.name) c cs then Some d else None)) bare
place_pushed c (x ∷ ds) d bare = grind (arith, place_pushed c ds d bare)

ids_absent : (i : ℕ) (ds : List Device) → has (λ d. d.id) i ds ≡ false → count_by (λ x. x == i) (map (λ d. d.id) ds) ≡ 0
unfolding has
ids_absent i [] h = refl
ids_absent i (d ∷ ds) h = grind (arith, nat_tests, count_by-cons (λ x. x == i) d.id (map (λ e. e.id) ds), ids_absent i ds)

ids_pushed : (id : ℕ) (ds : List Device) (k : ℕ) → has (λ d. d.id) id ds ≡ false → count_by (λ x. x == k) (map (λ d. d.id) ds) ≤ 1 → count_by (λ x. x == k) (map (λ d. d.id) ds ++ id ∷ []) ≤ 1
ids_pushed id ds k absent once = grind (arith, nat_tests, eqb_tells id k, sum_by_push (λ x. if x == k then 1 else 0) (map (λ d. d.id) ds) id, ids_absent id ds absent)

same_tells : (a b : Address) → ((same_address a b ≡ true) × (a ≡ b)) ⊎ (same_address a b ≡ false)
same_tells a b = elim (eqb_tells a.ip b.ip) [
  | inr h ↦ inr (rw (h.0) refl)
  | inl h ↦ elim (eqb_tells a.port b.port) [
    | inr k ↦ inr (rw (h.0, k.0) refl)
    | inl k ↦ inl (rw (h.0, k.0) refl, λ i. record { ip = h.1 i; port = k.1 i })
  ]
]

addresses_absent : (a : Address) (ds : List Device) → some (λ d. same_address d.address a) ds ≡ false → count_by (λ x. same_address x a) (map (λ d. d.address) ds) ≡ 0
unfolding some
addresses_absent a [] h = refl
addresses_absent a (d ∷ ds) h = grind (arith, count_by-cons (λ x. same_address x a) d.address (map (λ e. e.address) ds), addresses_absent a ds)

addresses_pushed : (address : Address) (ds : List Device) (a : Address) → some (λ d. same_address d.address address) ds ≡ false → count_by (λ x. same_address x a) (map (λ d. d.address) ds) ≤ 1 → count_by (λ x. same_address x a) (map (λ d. d.address) ds ++ address ∷ []) ≤ 1
addresses_pushed address ds a absent once = elim (same_tells address a) [
  | inl h ↦
      let none : count_by (λ x. same_address x a) (map (λ d. d.address) ds) ≡ 0 = subst (λ b. count_by (λ x. same_address x b) (map (λ d. d.address) ds) ≡ 0) h.1 (addresses_absent address ds absent) in
      grind (arith, h.0, none, sum_by_push (λ x. if same_address x a then 1 else 0) (map (λ d. d.address) ds) address)
  | inr h ↦ grind (arith, h, once, sum_by_push (λ x. if same_address x a then 1 else 0) (map (λ d. d.address) ds) address)
]

-- an address can be said
abbrev IsSaid : Address → Type 0
IsSaid a = (a.ip < 2 ^ 32) × (a.port < 2 ^ 16)

or_no : (a b : Bool) → (a || b) ≡ false → (a ≡ false) × (b ≡ false)
or_no true b h = absurd (cc)
or_no false b h = (refl, h)

module _ (w : World) (m : Machine) (id : ℕ) (address : Address) (said : (1 ≤ id) × (id ≤ 255) × (address.ip < 2 ^ 32) × (address.port < 2 ^ 16)) (s : Stands w m) where
  abbrev new : Device
  new = record { id = id; address = address; qp_count = 0; key_count = 0; contexts = []; husks = [] }

  abbrev w' : World
  w' = record w { devices = w.devices ++ new ∷ [] }

  contexts_same : contexts_of w' ≡ contexts_of w
  unfolding contexts_of
  contexts_same = ap (λ cs. cs ++ map images.context_of w.carried) (flat_pushed (λ d. d.contexts) w.devices new refl)

  context_same : (c : Name) → context_of w' c ≡ context_of w c
  unfolding context_of
  context_same c = ap (named (λ x. x.name) (record state.no_context { name = c }) c) contexts_same

  side_is : (o : ObjName) → side_of w' o ≡ side_of w o
  unfolding in_rts end_of place_of
  side_is o =
      let link : (end_of w' o).link ≡ (end_of w o).link = ap (λ c. (named (λ e. e.name) (record no_end { name = o.name }) o.name c.ends).link) (context_same o.context) in
      let place : place_of w' o.context ≡ place_of w o.context = place_pushed o.context w.devices new refl in
      λ i. record {
        link = link_or_none (link i);
        connected = is_some (link i);
        rts = is_some (link i) && not (link_or_none (link i)).ended;
        carried = has_name (λ z. z.name) o.context w.carried;
        place = place i;
      }

  net_is : net_of w' m ≡ net_of w m
  net_is = λ i. record { side = λ o. side_is o i; end = (net_of w m).end; there = (net_of w m).there; name = (net_of w m).name }

  husks_are : husks_of w' ≡ husks_of w
  husks_are = flat_pushed (λ d. d.husks) w.devices new refl

  placed : has (λ d. d.id) id w.devices ≡ false → some (λ d. same_address d.address address) w.devices ≡ false → IsPlaced w' m
  placed fresh apart = record {
    once = λ c. subst (λ cs. count_by (λ n. bytes_eq n c) (map (λ x. x.name) cs) ≤ 1) (sym contexts_same) (s.placed.once c);
    same = λ c. subst (λ cs. has_word c (map (λ x. x.name) cs) ≡ has_word c (map (λ x. x.name) m.contexts)) (sym contexts_same) (s.placed.same c);
    husks_made = subst (λ hs. All (λ h. has_word h (map (λ x. x.name) m.contexts) ≡ true) (map (λ h. h.name) hs)) (sym husks_are) s.placed.husks_made;
    ids_once = λ k. subst (λ is. count_by (λ x. x == k) is ≤ 1) (sym (map-append (λ d. d.id) w.devices (new ∷ []))) (ids_pushed id w.devices k fresh (s.placed.ids_once k));
    addresses_once = λ a. subst (λ as'. count_by (λ x. same_address x a) as' ≤ 1) (sym (map-append (λ d. d.address) w.devices (new ∷ []))) (addresses_pushed address w.devices a apart (s.placed.addresses_once a));
    ids_said = subst (All (λ k. k < 256)) (sym (map-append (λ d. d.id) w.devices (new ∷ []))) (All-push (λ k. k < 256) (map (λ d. d.id) w.devices) id s.placed.ids_said (omega (arith, said)));
    addresses_said = subst (All IsSaid) (sym (map-append (λ d. d.address) w.devices (new ∷ []))) (All-push IsSaid (map (λ d. d.address) w.devices) address s.placed.addresses_said (said.2, said.3));
  }

  counted : IsCounted w' m
  counted =
      let qps : (k : ℕ) → (device_at w' k).qp_count ≡ (device_at w k).qp_count = λ k. at-push_part (λ d. d.qp_count) (λ d. d.id) no_device k new w.devices refl in
      let keys : (k : ℕ) → (device_at w' k).key_count ≡ (device_at w k).key_count = λ k. at-push_part (λ d. d.key_count) (λ d. d.id) no_device k new w.devices refl in
      counted_kept w w' m (λ k. (omega (arith, qps k), omega (arith, keys k))) s.counted

  stands : has (λ d. d.id) id w.devices ≡ false → some (λ d. same_address d.address address) w.devices ≡ false → Stands w' m
  stands fresh apart = record {
    placed = placed fresh apart;
    counted = counted;
    same = λ c. subst (λ x. AreSame x (machine.context_of m c)) (sym (context_same c)) (s.same c);
    sound = s.sound;
    numbered = subst (λ n. AreNumbered n (numbered_ends m) m.numbers) (sym net_is) s.numbered;
    joined = subst AreJoined (sym net_is) s.joined;
    progress = subst (λ n. AreProgressing n (machine.regions_of m)) (sym net_is) s.progress;
    husks = subst (λ n. AreLeft n (flat_map (λ h. h.entries) (husks_of w'))) (sym net_is) (subst (λ hs. AreLeft (net_of w m) (flat_map (λ h. h.entries) hs)) (sym husks_are) s.husks);
    sent = subst (λ n. AreSent n w.sent) (sym net_is) s.sent;
  }

  by_refusal : (r : Option Refusal) → (r ≡ None → Stands w' m) → Reaches w m (world_events.AddDevice id address) (step.by_refusal w r (step.answers w' answers.Done)).world (step.by_refusal w r (step.answers w' answers.Done)).answer
  unfolding kept.verb_of kept.kept_verb
  by_refusal None h = unheard_reached w m (world_events.AddDevice id address) w' answers.Done refl refl (h refl)
  by_refusal (Some r) h = unheard_reached w m (world_events.AddDevice id address) w (answers.Refused r) refl refl s

  pub device_follows : Follows w m (world_events.AddDevice id address)
  unfolding world_step step.adds_device
  device_follows = by_refusal _ (λ h. let free = or_no _ _ (first_no refusals.NumberTaken _ _ h) in stands free.0 free.1)
