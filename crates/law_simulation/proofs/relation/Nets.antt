-- Where a context changes on both sides, and no link and no queue of requests, the net of all ends stays.
use Rattle.std.proofs.Common.{◌≡◌, ℕ, List, map, ap}
use Rattle.rdma_types.specs.declared.names.Name.{Name}
use Rattle.rdma_types.specs.declared.names.ObjName.{ObjName}
use Rattle.rdma_types.specs.Lists.{named, has_name}
use Rattle.protocol.specs.State as state
use Rattle.protocol.specs.State.{World, no_end}
use Rattle.packetless_machine.specs.Machine as machine
use Rattle.packetless_machine.specs.Machine.{Machine, nobody}
use Rattle.law_simulation.specs.Views.{context_of, numbered, numbered_ends, name_at, requests_of, side_of, net_of}
use Rattle.law_simulation.proofs.relation.Worlds.{WorldChanged, side_same}
use Rattle.law_simulation.proofs.relation.Machines.{MachineChanged, end_part_same, there_same, listed_same}

-- the link of an end among others
abbrev pub link_in : List state.End → Name → state.End
link_in es n = named (λ e. e.name) (record no_end { name = n }) n es

abbrev pub end_in : List machine.End → ObjName → machine.End
end_in es o = named (λ e. e.name) (nobody o) o.name es

abbrev pub numbered_in : Name → List machine.End → List (ℕ × ObjName)
numbered_in c es = map (λ e. (e.number, record { context = c; name = e.name })) es

-- the ends of a context, on both sides, are as before but for receives
pub record AreQuiet (xs xs' : List state.End) (ys ys' : List machine.End) : Type 0 where
  pub links : (n : Name) → (link_in xs' n).link ≡ (link_in xs n).link
  pub requests : (o : ObjName) → requests_of (end_in ys' o) ≡ requests_of (end_in ys o)
  pub there : (n : Name) → has_name (λ e. e.name) n ys' ≡ has_name (λ e. e.name) n ys
  pub numbers : (c : Name) → numbered_in c ys' ≡ numbered_in c ys

pub same_quiet : (xs xs' : List state.End) (ys ys' : List machine.End) → xs' ≡ xs → ys' ≡ ys → AreQuiet xs xs' ys ys'
same_quiet xs xs' ys ys' e f = record {
  links = λ n. ap (λ es. (link_in es n).link) e;
  requests = λ o. ap (λ es. requests_of (end_in es o)) f;
  there = λ n. ap (has_name (λ x. x.name) n) f;
  numbers = λ c. ap (numbered_in c) f;
}

pub listed_quiet : (m m' : Machine) (c : Name) (y : machine.Context) (xs xs' : List state.End) → MachineChanged m m' c y → y.name ≡ (machine.context_of m c).name → AreQuiet xs xs' (machine.context_of m c).ends y.ends → numbered_ends m' ≡ numbered_ends m
listed_quiet m m' c y xs xs' cm named q =
    let numbering : numbered y ≡ numbered (machine.context_of m c) = rw named (q.numbers (machine.context_of m c).name) in
    listed_same m m' c y cm numbering

pub net_same : (w w' : World) (m m' : Machine) (c : Name) (x : state.Context) (y : machine.Context) → WorldChanged w w' c x → MachineChanged m m' c y → y.name ≡ (machine.context_of m c).name → AreQuiet (context_of w c).ends x.ends (machine.context_of m c).ends y.ends → net_of w' m' ≡ net_of w m
net_same w w' m m' c x y cw cm named q =
    let sides : (o : ObjName) → side_of w' o ≡ side_of w o = λ o. side_same w w' c x cw o q.links in
    let ends : (o : ObjName) → requests_of (machine.end_of m' o) ≡ requests_of (machine.end_of m o) = λ o. end_part_same m m' c y cm requests_of o (λ h. q.requests o) in
    let theres : (o : ObjName) → machine.has_end m' o ≡ machine.has_end m o = λ o. there_same m m' c y cm o q.there in
    let listed : numbered_ends m' ≡ numbered_ends m = listed_quiet m m' c y _ _ cm named q in
    λ i. record { side = λ o. sides o i; end = λ o. ends o i; there = λ o. theres o i; name = λ k. name_at (listed i) k }
