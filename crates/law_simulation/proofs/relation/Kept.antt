-- The relation is kept where one context changes on both sides, and the net of all ends stays.
use Rattle.std.proofs.Common.{arith, ◌≡◌, ◌≢◌, ◌≤◌, ℕ, List, map, sym, ap, inl, inr, subst}
use Rattle.std.specs.Prelude.{Contains, flat_map, ◌%◌, ◌/◌, suc}
use Rattle.std.proofs.lemmas.List.Elements.{All-weaker}
use Rattle.rdma_types.specs.declared.names.Name.{Name}
use Rattle.rdma_types.specs.declared.requests.Address.{Address}
use Rattle.rdma_types.specs.Objects.{Region}
use Rattle.protocol.specs.State as state
use Rattle.protocol.specs.State.{World, Progress, device_at}
use Rattle.packetless_machine.specs.Machine as machine
use Rattle.packetless_machine.specs.Machine.{Machine, End, regions_of}
use Rattle.law_simulation.specs.Views.{Net, net_of, numbered_ends, peer, context_of}
use Rattle.law_simulation.specs.Joined.{IsProgress}
use Rattle.law_simulation.specs.Stands.{Stands, ArePlaced, IsPlaced, IsCounted, AreNumbered, AreSame, IsContextSound, AreProgressing, AreJoined, AreLeft, AreSent, husks_of}
use Rattle.law_simulation.proofs.relation.Tables.{name_or_not}
use Rattle.law_simulation.proofs.relation.Worlds as worlds
use Rattle.law_simulation.proofs.relation.Worlds.{WorldChanged}
use Rattle.law_simulation.proofs.relation.Machines as machines
use Rattle.law_simulation.proofs.relation.Machines.{MachineChanged}

pub placed_like : {names names' made made' : List Name} {ids ids' : List ℕ} {addresses addresses' : List Address} {husks husks' : List Name} → names' ≡ names → made' ≡ made → ids' ≡ ids → addresses' ≡ addresses → husks' ≡ husks → ArePlaced names made ids addresses husks → ArePlaced names' made' ids' addresses' husks'
placed_like {names} {names'} {made} {made'} {ids} {ids'} {addresses} {addresses'} {husks} {husks'} a b c d e p =
    subst (λ x. ArePlaced x made' ids' addresses' husks') (sym a) (subst (λ x. ArePlaced names x ids' addresses' husks') (sym b) (subst (λ x. ArePlaced names made x addresses' husks') (sym c) (subst (λ x. ArePlaced names made ids x husks') (sym d) (subst (λ x. ArePlaced names made ids addresses x) (sym e) p))))

pub placed_kept : (w w' : World) (m m' : Machine) (c : Name) (x : state.Context) (y : machine.Context) → WorldChanged w w' c x → MachineChanged m m' c y → IsPlaced w m → IsPlaced w' m'
placed_kept w w' m m' c x y cw cm p = placed_like (worlds.names_same w w' c x cw) (machines.names_same m m' c y cm) (worlds.ids_same w w' cw.shapes) (worlds.addresses_same w w' cw.shapes) (ap (map (λ h. h.name)) (worlds.husks_same w w' cw.shapes)) p

abbrev pub IsUsed : (ℕ → ℕ) → ℕ → Type 0
IsUsed count n = n % 65536 ≤ count (n / 65536)

abbrev pub IsKeyUsed : (ℕ → ℕ) → ℕ → Type 0
IsKeyUsed count k = (k % 16777216) / 2 ≤ count (k / 16777216)

-- the counts of the devices grow
pub counted_kept : (w w' : World) (m : Machine) → ((k : ℕ) → ((device_at w k).qp_count ≤ (device_at w' k).qp_count) × ((device_at w k).key_count ≤ (device_at w' k).key_count)) → IsCounted w m → IsCounted w' m
counted_kept w w' m grows s = record {
  numbers_said = s.numbers_said;
  numbers_used = All-weaker (IsUsed (λ k. (device_at w k).qp_count)) (IsUsed (λ k. (device_at w' k).qp_count)) (λ n h. omega (arith, h, (grows (n / 65536)).0)) m.numbers s.numbers_used;
  keys_used = All-weaker (IsKeyUsed (λ k. (device_at w k).key_count)) (IsKeyUsed (λ k. (device_at w' k).key_count)) (λ k h. omega (arith, h, (grows (k / 16777216)).1)) m.keys s.keys_used;
}

-- more keys are given
abbrev pub IsKeyed : List ℕ → Region → Type 0
IsKeyed keys r = Contains keys r.keys.local × (r.keys.local % 2 ≡ 0) × (r.keys.remote ≡ suc r.keys.local)

keys_grow : (keys keys' : List ℕ) (y : machine.Context) → ((k : ℕ) → Contains keys k → Contains keys' k) → IsContextSound keys y → IsContextSound keys' y
keys_grow keys keys' y grow s = record {
  whole = s.whole;
  bytes = s.bytes;
  keyed = All-weaker (IsKeyed keys) (IsKeyed keys') (λ r h. (grow r.keys.local h.0, h.1, h.2)) y.regions s.keyed;
  keyed_once = s.keyed_once;
  named_once = s.named_once;
  ends = s.ends;
  regions_in = s.regions_in;
  ends_in = s.ends_in;
  regions_end = s.regions_end;
}

-- what is in progress in the regions of one context stays where these change
pub progress_kept : (n : Net) (c : Name) (regions regions' : Name → List Region) → ((k : Name) → k ≢ c → regions' k ≡ regions k) → ((q : End) (domain : Name) (p : Progress) → IsProgress q domain (regions c) p → IsProgress q domain (regions' c) p) → AreProgressing n regions → AreProgressing n regions'
progress_kept n c regions regions' others here s o connected rts =
    let domain : Name = (n.end (peer n o)).domain in
    let p : Progress = (n.side (peer n o)).link.receiver.progress in
    elim (name_or_not (peer n o).context c) [
      | inl a ↦ subst (λ k. IsProgress (n.end o) domain (regions' k) p) (sym a) (here (n.end o) domain p (subst (λ k. IsProgress (n.end o) domain (regions k) p) a (s o connected rts)))
      | inr ne ↦ subst (λ rs. IsProgress (n.end o) domain rs p) (sym (others (peer n o).context ne)) (s o connected rts)
    ]

-- where one context changes, the others are the same and sound as before
pub same_kept : (w w' : World) (m m' : Machine) (c : Name) (x : state.Context) (y : machine.Context) → WorldChanged w w' c x → MachineChanged m m' c y → AreSame x y → ((k : Name) → AreSame (context_of w k) (machine.context_of m k)) → (k : Name) → AreSame (context_of w' k) (machine.context_of m' k)
same_kept w w' m m' c x y cw cm here all k = elim (name_or_not k c) [
  | inl a ↦ subst (λ j. AreSame (context_of w' j) (machine.context_of m' j)) (sym a) (rw (worlds.context_here w w' c x cw, machines.context_here m m' c y cm) here)
  | inr ne ↦ rw (worlds.context_other w w' c x cw k ne, machines.context_other m m' c y cm k ne) (all k)
]

pub sound_kept : (m m' : Machine) (c : Name) (y : machine.Context) → MachineChanged m m' c y → ((k : ℕ) → Contains m.keys k → Contains m'.keys k) → IsContextSound m'.keys y → ((k : Name) → IsContextSound m.keys (machine.context_of m k)) → (k : Name) → IsContextSound m'.keys (machine.context_of m' k)
sound_kept m m' c y cm keys here all k = elim (name_or_not k c) [
  | inl a ↦ subst (λ j. IsContextSound m'.keys (machine.context_of m' j)) (sym a) (rw (machines.context_here m m' c y cm) here)
  | inr ne ↦ rw (machines.context_other m m' c y cm k ne) (keys_grow m.keys m'.keys (machine.context_of m k) keys (all k))
]

-- .. in a machine in which that context changes
pub progress_changed : (n : Net) (m m' : Machine) (c : Name) (y : machine.Context) → MachineChanged m m' c y → ((q : End) (domain : Name) (p : Progress) → IsProgress q domain (regions_of m c) p → IsProgress q domain y.regions p) → AreProgressing n (regions_of m) → AreProgressing n (regions_of m')
progress_changed n m m' c y cm here s =
    progress_kept n c (regions_of m) (regions_of m')
    (λ k ne. ap (λ z. z.regions) (machines.context_other m m' c y cm k ne))
    (λ e domain p h. subst (λ z. IsProgress e domain z.regions p) (sym (machines.context_here m m' c y cm)) (here e domain p h))
    s

-- what a change of one context leaves to be shown
pub record IsQuiet (w w' : World) (m m' : Machine) (c : Name) (x : state.Context) (y : machine.Context) : Type 0 where
  pub world : WorldChanged w w' c x
  pub machine : MachineChanged m m' c y
  pub net : net_of w' m' ≡ net_of w m
  pub listed : numbered_ends m' ≡ numbered_ends m
  pub numbers : m'.numbers ≡ m.numbers
  pub keys : (k : ℕ) → Contains m.keys k → Contains m'.keys k
  pub counted : IsCounted w' m'
  pub same : AreSame x y
  pub sound : IsContextSound m'.keys y
  pub progress : AreProgressing (net_of w m) (regions_of m')

pub quiet_kept : (w w' : World) (m m' : Machine) (c : Name) (x : state.Context) (y : machine.Context) → Stands w m → IsQuiet w w' m m' c x y → Stands w' m'
quiet_kept w w' m m' c x y s q = record {
  placed = placed_kept w w' m m' c x y q.world q.machine s.placed;
  counted = q.counted;
  same = same_kept w w' m m' c x y q.world q.machine q.same s.same;
  sound = sound_kept m m' c y q.machine q.keys q.sound s.sound;
  numbered = subst (λ n. AreNumbered n (numbered_ends m') m'.numbers) (sym q.net) (subst (λ l. AreNumbered (net_of w m) l m'.numbers) (sym q.listed) (subst (AreNumbered (net_of w m) (numbered_ends m)) (sym q.numbers) s.numbered));
  joined = subst AreJoined (sym q.net) s.joined;
  progress = subst (λ n. AreProgressing n (regions_of m')) (sym q.net) q.progress;
  husks = subst (λ n. AreLeft n (flat_map (λ h. h.entries) (husks_of w'))) (sym q.net) (subst (λ hs. AreLeft (net_of w m) (flat_map (λ h. h.entries) hs)) (sym (worlds.husks_same w w' q.world.shapes)) s.husks);
  sent = subst (λ n. AreSent n w'.sent) (sym q.net) (subst (λ fs. AreSent (net_of w m) fs) (sym q.world.sent) s.sent);
}
