-- One connected end of a world and of the machine changes.
use Rattle.std.proofs.Common.{arith, ◌≡◌, ◌≢◌, ℕ, List, [], ◌∷◌, map, true, false, Bool, refl, sym, ap, ◌∙◌, subst}
use Rattle.std.specs.Prelude.{Some, None, not, ◌&&◌, ◌||◌}
use Rattle.rdma_types.specs.declared.names.Name.{Name}
use Rattle.rdma_types.specs.declared.names.ObjName.{ObjName}
use Rattle.rdma_types.specs.declared.requests.Address.{Address}
use Rattle.rdma_types.specs.declared.requests.Terms.{Terms}
use Rattle.rdma_types.specs.declared.answers.Answer.TheVariants as answers
use Rattle.rdma_types.specs.declared.answers.Refusal.{Refusal}
use Rattle.rdma_types.specs.declared.answers.Refusal.TheVariants as refusals
use Rattle.rdma_types.specs.Causes.{Cause, cause, first_cause}
use Rattle.rdma_types.specs.Lists.{named, has_name, has_word, store_named}
use Rattle.protocol.specs.declared.events.Event.TheVariants as events
use Rattle.protocol.specs.State as state
use Rattle.protocol.specs.State.{World, Device, Link, fresh_link, no_end, device_at}
use Rattle.protocol.specs.EndWords as words
use Rattle.protocol.specs.Refusals as refusing
use Rattle.protocol.specs.DeviceStep as device
use Rattle.protocol.specs.WorldStep as step
use Rattle.protocol.specs.WorldStep.{world_step, is_live, is_carried, home, ran, exchanged}
use Rattle.packetless_machine.specs.Machine as machine
use Rattle.packetless_machine.specs.Machine.{Machine, End, has_context, has_end, nobody, regions_of}
use Rattle.packetless_machine.specs.Steps.{untold}
use Rattle.packetless_machine.specs.Verbs as verbing
use Rattle.law_simulation.specs.Views.{Owned, owned, owned_there, contexts_of, context_of, link_or_none, receive_in, numbered_ends}
use Rattle.law_simulation.specs.Stands.{IsPlaced, AreSame, IsContextSound, IsEndSound}
use Rattle.law_simulation.proofs.relation.Tables.{named-store_same, named-store_other, has_name-store, map-store, All-named, All-store, once_store}
use Rattle.law_simulation.proofs.relation.Worlds as worlds
use Rattle.law_simulation.proofs.relation.Worlds.{WorldChanged, shapes_of, home_holds, home_context, place_same, husks_same, has_context_is, has_name-names, is_there, ran_counts}
use Rattle.law_simulation.proofs.relation.Machines as machines
use Rattle.law_simulation.proofs.relation.Machines.{MachineChanged, context_name, with_context_changed, end_stored}
use Rattle.law_simulation.proofs.relation.Kept.{placed_like}
use Rattle.law_simulation.proofs.relation.Ends.{ends_store}
use Rattle.law_simulation.proofs.relation.Connecting.{live_place, live_not_carried}
use Rattle.law_simulation.proofs.relation.Live.{live_of, live_name, home_changed}

pub no_causes : first_cause [] ≡ None
unfolding first_cause
no_causes = refl

pub no_cause : (r : Refusal) (b : Bool) (xs : List Cause) → b ≡ false → first_cause xs ≡ None → first_cause (cause r b ∷ xs) ≡ None
unfolding first_cause
no_cause r b xs h k = rw h k

-- ---- one end of a world is connected

abbrev pub end_there_of : World → ObjName → state.End
end_there_of w o = state.end_at (live_of w o.context) o.name

abbrev pub linked_of : World → ObjName → Link → state.Context
linked_of w o l = words.linked (live_of w o.context) (end_there_of w o) l

abbrev pub connected_world : World → ObjName → Link → World
connected_world w o l = (ran w (device.answers (device.with_context (home w o.context) (linked_of w o l)) answers.Done)).world

pub connects : (w : World) (o : ObjName) (number : ℕ) (a : Address) (t : Terms) → is_live w o.context ≡ true → has_name (λ e. e.name) o.name (live_of w o.context).ends ≡ true → refusing.is_init (end_there_of w o).link ≡ true →
    (step.runs w (home w o.context) (events.Connect o number a t)).world ≡ connected_world w o (fresh_link number a t)
unfolding device.device_step device.connects refusing.refusal_of
connects w o number a t live found lone =
    ap (λ r. (ran w (device.by_refusal (home w o.context) (events.Connect o number a t) r)).world)
    (no_cause refusals.NoSuch _ _ (ap (λ b. not b && not (refusing.has_husk (home w o.context) o.context)) (home_holds w o.context live))
    (no_cause refusals.Stopped _ _ (ap not (home_holds w o.context live))
    (no_cause refusals.NoSuch _ _ (ap not found)
    (no_cause refusals.BadState _ [] (ap not lone) no_causes))))

pub placed_world : (w w' : World) (m : Machine) (c : Name) (x : state.Context) → WorldChanged w w' c x → IsPlaced w m → IsPlaced w' m
placed_world w w' m c x cw p = placed_like (worlds.names_same w w' c x cw) refl (worlds.ids_same w w' cw.shapes) (worlds.addresses_same w w' cw.shapes) (ap (map (λ h. h.name)) (worlds.husks_same w w' cw.shapes)) p

pub linked_changed : (w : World) (m : Machine) (o : ObjName) (l : Link) → IsPlaced w m → is_live w o.context ≡ true → WorldChanged w (connected_world w o l) o.context (linked_of w o l)
unfolding words.with_end
linked_changed w m o l placed live = home_changed w m o.context (linked_of w o l) (home w o.context) answers.Done placed live (live_name w o.context live) refl refl

-- where contexts live is as before
pub or_left : (a b : Bool) → (a || b) ≡ true → b ≡ false → a ≡ true
or_left true b h k = refl
or_left false b h k = absurd (cc)

pub live_kept : (w w' : World) (m : Machine) (c : Name) (x : state.Context) (k : Name) → WorldChanged w w' c x → IsPlaced w m → is_live w k ≡ true → is_live w' k ≡ true
live_kept w w' m c x k cw placed live =
    let had : has_name (λ z. z.name) k (contexts_of w) ≡ true = has_context_is w k ∙ ap (λ b. b || is_carried w k) live in
    let has_now : has_name (λ z. z.name) k (contexts_of w') ≡ true = sym (has_name-names k (contexts_of w')) ∙ (ap (has_word k) (worlds.names_same w w' c x cw) ∙ (has_name-names k (contexts_of w) ∙ had)) in
    or_left (is_live w' k) (is_carried w' k) (sym (has_context_is w' k) ∙ has_now) (ap (has_name (λ z. z.name) k) cw.carried ∙ live_not_carried w m k placed live)

pub some_address : (a b : Address) → Some a ≡ Some b → a ≡ b
some_address a b h = cc

pub home_kept : (w w' : World) (m : Machine) (c : Name) (x : state.Context) (k : Name) → WorldChanged w w' c x → IsPlaced w m → is_live w k ≡ true → (home w' k).address ≡ (home w k).address
home_kept w w' m c x k cw placed live = some_address _ _ (sym (live_place w' k (live_kept w w' m c x k cw placed live)) ∙ (place_same w w' k cw.shapes ∙ live_place w k live))

-- ---- one end of the machine is connected

abbrev pub connected_machine : Machine → ObjName → End → Machine
connected_machine m o e = machine.with_end m o e

abbrev pub context_with : Machine → ObjName → End → machine.Context
context_with m o e = record (machine.context_of m o.context) { ends = store_named (λ z. z.name) o.name e (machine.context_of m o.context).ends }

abbrev pub HasEnd : Machine → ObjName → Type 0
HasEnd m o = has_name (λ z. z.name) o.name (machine.context_of m o.context).ends ≡ true

pub end_changed : (m : Machine) (o : ObjName) (e : End) → has_context m o.context ≡ true → HasEnd m o → MachineChanged m (machine.with_end m o e) o.context (context_with m o e)
end_changed m o e there found = subst (λ z. MachineChanged m z o.context (context_with m o e)) (sym (end_stored m o e found)) (with_context_changed m o.context (context_with m o e) (context_name m o.context) there)

pub machine_here : (m : Machine) (o : ObjName) (e : End) → has_context m o.context ≡ true → HasEnd m o → e.name ≡ o.name → machine.end_of (machine.with_end m o e) o ≡ e
unfolding machine.end_of
machine_here m o e there found named' =
    ap (λ z. named (λ u. u.name) (nobody o) o.name z.ends) (machines.context_here m _ o.context (context_with m o e) (end_changed m o e there found))
    ∙ named-store_same (λ u. u.name) (nobody o) o.name e (machine.context_of m o.context).ends named'

pub machine_other : (m : Machine) (o k : ObjName) (e : End) → has_context m o.context ≡ true → HasEnd m o → e.name ≡ o.name → (k ≢ o) → machine.end_of (machine.with_end m o e) k ≡ machine.end_of m k
machine_other m o k e there found named' ne =
    machines.end_part_same m _ o.context (context_with m o e) (end_changed m o e there found) (λ z. z) k
    (λ c. named-store_other (λ z. z.name) (nobody k) o.name k.name e (machine.context_of m o.context).ends named' (λ h. ne (λ i. record { context = c i; name = h i })))

-- the numbers of all ends stay
pub listed : (m : Machine) (o : ObjName) (e : End) → has_context m o.context ≡ true → has_name (λ z. z.name) o.name (machine.context_of m o.context).ends ≡ true → e.name ≡ o.name → e.number ≡ (machine.end_of m o).number → e.name ≡ (machine.end_of m o).name → numbered_ends (machine.with_end m o e) ≡ numbered_ends m
unfolding machine.end_of
listed m o e there found named' number name =
    machines.listed_same m _ o.context (context_with m o e) (end_changed m o e there found)
    (map-store (λ z. (z.number, record { context = (machine.context_of m o.context).name; name = z.name })) (λ z. z.name) (nobody o) o.name e (machine.context_of m o.context).ends found
    (λ i. (number i, record { context = (machine.context_of m o.context).name; name = name i })))

pub there_kept : (m : Machine) (o k : ObjName) (e : End) → has_context m o.context ≡ true → has_name (λ z. z.name) o.name (machine.context_of m o.context).ends ≡ true → e.name ≡ o.name → has_end (machine.with_end m o e) k ≡ has_end m k
there_kept m o k e there found named' = machines.there_same m _ o.context (context_with m o e) (end_changed m o e there found) k (λ n. has_name-store (λ z. z.name) o.name n e (machine.context_of m o.context).ends found named')

-- ---- both sides of one end

-- what an owner has of an end that is connected
pub owned_linked : (e : state.End) (f : End) (l : Link) (p : ObjName) (t : Terms) → owned_there e ≡ owned f → e.link ≡ None → l.ended ≡ false → l.sender.untold ≡ [] → l.receiver.progress ≡ state.NoMessage → owned_there (record e { link = Some l }) ≡ owned (verbing.joined p t f)
unfolding owned_there owned untold link_or_none receive_in verbing.joined
owned_linked e f l p t same lone alive idle none =
    let before : record (owned_there e) { connected = true } ≡ record (owned f) { connected = true } = ap (λ (z : Owned). record z { connected = true }) same in
    let there : owned_there (record e { link = Some l }) ≡ record (owned_there e) { connected = true } = λ i. record {
      name = e.name;
      number = e.number;
      domain = e.domain;
      send_queue = e.send_cq;
      receive_queue = e.recv_cq;
      send_depth = e.send_depth;
      receive_depth = e.recv_depth;
      connected = true;
      ended = (alive ∙ ap (λ z. (link_or_none z).ended) (sym lone)) i;
      untold = (idle ∙ ap (λ z. (link_or_none z).sender.untold) (sym lone)) i;
      in_use = (ap receive_in none ∙ ap (λ z. receive_in (link_or_none z).receiver.progress) (sym lone)) i;
      unused = e.unused;
    } in
    there ∙ before

-- the context with the connected end, on both sides
pub side_connected : (x : state.Context) (y : machine.Context) (n : Name) (e : state.End) (f : End) (l : Link) (p : ObjName) (t : Terms) → AreSame x y → e.name ≡ n → owned_there e ≡ owned f → e.link ≡ None → l.ended ≡ false → l.sender.untold ≡ [] → l.receiver.progress ≡ state.NoMessage →
    AreSame (words.linked x e l) (record y { ends = store_named (λ z. z.name) n (verbing.joined p t f) y.ends })
unfolding words.with_end words.with_link
side_connected x y n e f l p t same named' both lone alive idle none = record {
  domains = same.domains;
  regions = same.regions;
  queues = same.queues;
  ends =
      ap (λ k. map owned_there (store_named (λ z. z.name) k (record e { link = Some l }) x.ends)) named'
      ∙ ends_store n (record e { link = Some l }) (verbing.joined p t f) x.ends y.ends same.ends (owned_linked e f l p t both lone alive idle none);
}

-- the domain of an end that is there
pub domain_there : (m : Machine) (o : ObjName) → HasEnd m o → IsContextSound m.keys (machine.context_of m o.context) → has_word (machine.end_of m o).domain (machine.context_of m o.context).domains ≡ true
unfolding machine.end_of
domain_there m o found s = All-named (λ e. has_word e.domain (machine.context_of m o.context).domains ≡ true) (λ z. z.name) (nobody o) o.name (machine.context_of m o.context).ends s.ends_in found

pub connected_sound : (keys : List ℕ) (y : machine.Context) (n : Name) (none : End) (g : End) → has_name (λ z. z.name) n y.ends ≡ true → g.name ≡ n → has_word g.domain y.domains ≡ true → IsEndSound y.regions (map (λ q. q.name) y.queues) g → IsContextSound keys y → IsContextSound keys (record y { ends = store_named (λ z. z.name) n g y.ends })
connected_sound keys y n none g found named' domain here s = record {
  whole = s.whole;
  bytes = s.bytes;
  keyed = s.keyed;
  keyed_once = s.keyed_once;
  named_once = λ k. omega (arith, once_store (λ z. z.name) none n k g y.ends found named', s.named_once k);
  ends = All-store (IsEndSound y.regions (map (λ q. q.name) y.queues)) (λ z. z.name) n g y.ends s.ends here;
  regions_in = s.regions_in;
  ends_in = All-store (λ e. has_word e.domain y.domains ≡ true) (λ z. z.name) n g y.ends s.ends_in domain;
  regions_end = s.regions_end;
}

pub linked_ends : (w : World) (o : ObjName) (l : Link) → is_live w o.context ≡ true → (end_there_of w o).name ≡ o.name → (linked_of w o l).ends ≡ store_named (λ z. z.name) o.name (record (end_there_of w o) { link = Some l }) (context_of w o.context).ends
unfolding words.with_end words.with_link
linked_ends w o l live named' = ap (λ k. store_named (λ z. z.name) k (record (end_there_of w o) { link = Some l }) (live_of w o.context).ends) named' ∙ ap (λ c. store_named (λ z. z.name) o.name (record (end_there_of w o) { link = Some l }) c.ends) (home_context w o.context live)
