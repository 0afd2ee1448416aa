-- What the opening made stays, where an end of the machine is another that is joined alike.
use Rattle.std.proofs.Common.{◌≡◌, ℕ, ◌+◌, List, true, refl, sym, subst, ap, ◌∙◌}
use Rattle.rdma_types.specs.declared.names.Name.{Name}
use Rattle.rdma_types.specs.declared.names.ObjName.{ObjName}
use Rattle.rdma_types.specs.Lists.{has_name, store_named}
use Rattle.rdma_types.specs.Objects.{CompletionQueue, Region}
use Rattle.packetless_machine.specs.Machine.{End, Machine, context_of, end_of, has_end, regions_of, with_end}
use Rattle.packetless_machine.specs.Verbs.{region_of}
use Rattle.law_simulation.proofs.relation.Machines.{part_same, there_same}
use Rattle.law_simulation.proofs.relation.Tables.{has_name-store}
use Rattle.law_simulation.proofs.runs.Acting.{end_related}
use Rattle.mailbox_rules.specs.Opening.{place_address, place_bytes, queue_name, receiver, receiver_end, receiver_key, receiver_region, sender, sender_end, sender_key, sender_region, staging_address}
use Rattle.rdma_types.specs.Limits.{most_bytes}
use Rattle.law_mailbox.specs.Kept.{IsJoined, IsKeyedOnce, IsOpened, IsRegion, landing_offset}
use Rattle.law_mailbox.proofs.connection.Sights.{changed, end_there, region_same}

-- an end is joined as another one
pub record IsAlike (a b : End) : Type 0 where
  pub connected : a.connected ≡ b.connected
  pub peer : a.peer ≡ b.peer
  pub domain : a.domain ≡ b.domain
  pub send_queue : a.send_queue ≡ b.send_queue
  pub receive_queue : a.receive_queue ≡ b.receive_queue
  pub send_depth : a.send_depth ≡ b.send_depth
  pub receive_depth : a.receive_depth ≡ b.receive_depth

pub alike_itself : (a : End) → IsAlike a a
alike_itself a = record { connected = refl; peer = refl; domain = refl; send_queue = refl; receive_queue = refl; send_depth = refl; receive_depth = refl }

pub joined_as : (a b : End) (p : ObjName) → IsAlike a b → IsJoined b p → IsJoined a p
joined_as a b p x j = record {
  connected = x.connected ∙ j.connected;
  peer_is = x.peer ∙ j.peer_is;
  domain = x.domain ∙ j.domain;
  send_queue = x.send_queue ∙ j.send_queue;
  receive_queue = x.receive_queue ∙ j.receive_queue;
  send_depth = x.send_depth ∙ j.send_depth;
  receive_depth = x.receive_depth ∙ j.receive_depth;
}

module _ (m : Machine) (o : ObjName) (e : End) (there : has_end m o ≡ true) (name : e.name ≡ o.name) (same : e.name ≡ (end_of m o).name) (alike : IsAlike e (end_of m o)) where
  ends_as : (q : ObjName) → IsAlike (end_of (with_end m o e) q) (end_of m q)
  ends_as q = end_related IsAlike alike_itself m o e q same alike

  pub connected_as : (q : ObjName) → (end_of (with_end m o e) q).connected ≡ (end_of m q).connected
  connected_as q = (ends_as q).connected

  regions_as : (c : Name) → regions_of (with_end m o e) c ≡ regions_of m c
  regions_as c = part_same m (with_end m o e) o.context (record (context_of m o.context) { ends = store_named (λ z. z.name) o.name e (context_of m o.context).ends }) (changed m o e there name same) (λ x. x.regions) c refl

  queues_as : (c : Name) → (context_of (with_end m o e) c).queues ≡ (context_of m c).queues
  queues_as c = part_same m (with_end m o e) o.context (record (context_of m o.context) { ends = store_named (λ z. z.name) o.name e (context_of m o.context).ends }) (changed m o e there name same) (λ x. x.queues) c refl

  pub there_as : (q : ObjName) → has_end (with_end m o e) q ≡ has_end m q
  there_as q = there_same m (with_end m o e) o.context (record (context_of m o.context) { ends = store_named (λ z. z.name) o.name e (context_of m o.context).ends }) (changed m o e there name same) q
      (λ n. has_name-store (λ z. z.name) o.name n e (context_of m o.context).ends (end_there m o e there name same) name)

  region_as : (q : ObjName) → region_of (with_end m o e) q ≡ region_of m q
  region_as q = region_same m (with_end m o e) q (regions_as q.context)

  pub opened_as : (i : ℕ) → IsOpened m i → IsOpened (with_end m o e) i
  opened_as i x = record {
    sender_there = there_as (sender_end i) ∙ x.sender_there;
    receiver_there = there_as (receiver_end i) ∙ x.receiver_there;
    sender_joined = joined_as (end_of (with_end m o e) (sender_end i)) (end_of m (sender_end i)) (receiver_end i) (ends_as (sender_end i)) x.sender_joined;
    receiver_joined = joined_as (end_of (with_end m o e) (receiver_end i)) (end_of m (receiver_end i)) (sender_end i) (ends_as (receiver_end i)) x.receiver_joined;
    sender_queue = ap (λ (qs : List CompletionQueue). has_name (λ z. z.name) queue_name qs) (queues_as (sender i)) ∙ x.sender_queue;
    receiver_queue = ap (λ (qs : List CompletionQueue). has_name (λ z. z.name) queue_name qs) (queues_as receiver) ∙ x.receiver_queue;
    sender_region_there = ap (λ (rs : List Region). has_name (λ z. z.name) (sender_region i).name rs) (regions_as (sender i)) ∙ x.sender_region_there;
    receiver_region_there = ap (λ (rs : List Region). has_name (λ z. z.name) (receiver_region i).name rs) (regions_as receiver) ∙ x.receiver_region_there;
    sender_region_is = subst (λ (r : Region). IsRegion r staging_address (place_bytes + most_bytes) 5 (sender_key i)) (sym (region_as (sender_region i))) x.sender_region_is;
    receiver_region_is = subst (λ (r : Region). IsRegion r (place_address i 0) (landing_offset + most_bytes) 1 (receiver_key i)) (sym (region_as (receiver_region i))) x.receiver_region_is;
    sender_keyed = subst (λ (rs : List Region). IsKeyedOnce rs (sender_key i)) (sym (regions_as (sender i))) x.sender_keyed;
    receiver_keyed = subst (λ (rs : List Region). IsKeyedOnce rs (receiver_key i)) (sym (regions_as receiver)) x.receiver_keyed;
  }
