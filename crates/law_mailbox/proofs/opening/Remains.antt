-- What the opening made remains, where regions hold other bytes and completion queues are longer.
use Rattle.std.proofs.Common.{arith, ◌≡◌, ◌≢◌, ℕ, ◌+◌, ◌-◌, ◌≤◌, List, length, true, refl, sym, subst, ◌∙◌, leb-true}
use Rattle.std.specs.Prelude.{count_by, nat_le, ◌==◌}
use Rattle.rdma_types.specs.declared.names.Name.{Name}
use Rattle.rdma_types.specs.declared.names.ObjName.{ObjName}
use Rattle.rdma_types.specs.Limits.{most_bytes}
use Rattle.rdma_types.specs.Lists.{has_name, named}
use Rattle.rdma_types.specs.Memory.{holds, put}
use Rattle.rdma_types.specs.Objects.{Region, no_region}
use Rattle.rdma_types.proofs.Cuts.{length-put}
use Rattle.packetless_machine.specs.Machine.{Machine, end_of, has_end, put_at, regions_of}
use Rattle.packetless_machine.specs.Verbs.{has_queue, region_of}
use Rattle.mailbox_rules.specs.Opening.{place_address, place_bytes, queue_name, receiver, receiver_end, receiver_key, receiver_region, sender, sender_end, sender_key, sender_region, staging_address}
use Rattle.law_mailbox.specs.Kept.{IsKeyedOnce, IsOpened, IsRegion, landing_offset}
use Rattle.law_mailbox.proofs.work.Channels.{both}
use Rattle.law_mailbox.proofs.connection.Keyed.{put_by_key}
use Rattle.law_mailbox.proofs.connection.Opens.{IsAlike, joined_as}
use Rattle.law_mailbox.proofs.connection.Puts.{counted_put, names_put, others_put}

-- ---- a region, in other regions of its context

-- it holds as many bytes, and else it is the same; and its keys name no other
pub record IsRegionKept (rs rs' : List Region) (n : Name) (key : ℕ) : Type 0 where
  pub there : has_name (λ r. r.name) n rs' ≡ has_name (λ r. r.name) n rs
  pub bytes : List ℕ
  pub long : length bytes ≡ length (named (λ r. r.name) no_region n rs).bytes
  pub same : named (λ r. r.name) no_region n rs' ≡ record (named (λ r. r.name) no_region n rs) { bytes = bytes }
  pub local_same : count_by (λ r. r.keys.local == key) rs' ≡ count_by (λ r. r.keys.local == key) rs
  pub remote_same : count_by (λ r. r.keys.remote == key + 1) rs' ≡ count_by (λ r. r.keys.remote == key + 1) rs

-- the regions are the same
pub regions_kept : (rs rs' : List Region) (n : Name) (key : ℕ) → rs' ≡ rs → IsRegionKept rs rs' n key
regions_kept rs rs' n key e =
    subst (λ (xs : List Region). IsRegionKept rs xs n key) (sym e)
    (record { there = refl; bytes = (named (λ r. r.name) no_region n rs).bytes; long = refl; same = refl; local_same = refl; remote_same = refl })

module _ (key_of : Region → ℕ) (other address : ℕ) (new : List ℕ) (n : Name) (key : ℕ) (rs : List Region) where
  -- bytes are put by another key
  pub kept_elsewhere : key_of (named (λ r. r.name) no_region n rs) ≢ other → IsRegionKept rs (put_at key_of other address new rs) n key
  kept_elsewhere apart = record {
    there = names_put key_of other address new n rs;
    bytes = (named (λ r. r.name) no_region n rs).bytes;
    long = refl;
    same = others_put key_of other address new n rs apart;
    local_same = counted_put key_of other address new (λ r. r.keys.local == key) (λ r bytes. refl) rs;
    remote_same = counted_put key_of other address new (λ r. r.keys.remote == key + 1) (λ r bytes. refl) rs;
  }

  -- bytes are put into it
  pub kept_there : has_name (λ r. r.name) n rs ≡ true → key_of (named (λ r. r.name) no_region n rs) ≡ other → count_by (λ r. key_of r == other) rs ≤ 1 →
      holds (named (λ r. r.name) no_region n rs) address (length new) ≡ true → length (named (λ r. r.name) no_region n rs).bytes ≡ (named (λ r. r.name) no_region n rs).length → IsRegionKept rs (put_at key_of other address new rs) n key
  unfolding holds
  kept_there there keyed once held whole =
      let r : Region = named (λ x. x.name) no_region n rs in
      let inside = both (nat_le r.base address) (nat_le (address + length new) (r.base + r.length)) held in
      let low : r.base ≤ address = leb-true r.base address inside.0 in
      let high : address + length new ≤ r.base + r.length = leb-true (address + length new) (r.base + r.length) inside.1 in
      record {
        there = names_put key_of other address new n rs;
        bytes = put (named (λ x. x.name) no_region n rs).bytes (address - (named (λ x. x.name) no_region n rs).base) new;
        long = length-put (named (λ x. x.name) no_region n rs).bytes (address - (named (λ x. x.name) no_region n rs).base) new (omega (arith, low, high, whole));
        same = put_by_key key_of other n address new rs there keyed once held;
        local_same = counted_put key_of other address new (λ x. x.keys.local == key) (λ x bytes. refl) rs;
        remote_same = counted_put key_of other address new (λ x. x.keys.remote == key + 1) (λ x bytes. refl) rs;
      }

-- ---- all that the opening made for a connection

region_as : (r r' : Region) (bytes : List ℕ) (base size rights key : ℕ) → r' ≡ record r { bytes = bytes } → length bytes ≡ length r.bytes → IsRegion r base size rights key → IsRegion r' base size rights key
region_as r r' bytes base size rights key same long is =
    subst (λ (x : Region). IsRegion x base size rights key) (sym same)
    (record { domain = is.domain; begins = is.begins; long = is.long; whole = long ∙ is.whole; granted = is.granted; keyed = is.keyed })

keyed_as : (rs rs' : List Region) (n : Name) (key : ℕ) → IsRegionKept rs rs' n key → IsKeyedOnce rs key → IsKeyedOnce rs' key
keyed_as rs rs' n key k once = record {
  local_once = subst (λ (x : ℕ). x ≤ 1) (sym k.local_same) once.local_once;
  remote_once = subst (λ (x : ℕ). x ≤ 1) (sym k.remote_same) once.remote_once;
}

pub remains : (m m' : Machine) (i : ℕ) → ((o : ObjName) → has_end m' o ≡ has_end m o) → ((o : ObjName) → IsAlike (end_of m' o) (end_of m o)) → ((c : Name) → has_queue m' c queue_name ≡ has_queue m c queue_name) →
    IsRegionKept (regions_of m (sender i)) (regions_of m' (sender i)) (sender_region i).name (sender_key i) → IsRegionKept (regions_of m receiver) (regions_of m' receiver) (receiver_region i).name (receiver_key i) → IsOpened m i → IsOpened m' i
unfolding region_of
remains m m' i there alike queues at_sender at_receiver x = record {
  sender_there = there (sender_end i) ∙ x.sender_there;
  receiver_there = there (receiver_end i) ∙ x.receiver_there;
  sender_joined = joined_as (end_of m' (sender_end i)) (end_of m (sender_end i)) (receiver_end i) (alike (sender_end i)) x.sender_joined;
  receiver_joined = joined_as (end_of m' (receiver_end i)) (end_of m (receiver_end i)) (sender_end i) (alike (receiver_end i)) x.receiver_joined;
  sender_queue = queues (sender i) ∙ x.sender_queue;
  receiver_queue = queues receiver ∙ x.receiver_queue;
  sender_region_there = at_sender.there ∙ x.sender_region_there;
  receiver_region_there = at_receiver.there ∙ x.receiver_region_there;
  sender_region_is = region_as (region_of m (sender_region i)) (region_of m' (sender_region i)) at_sender.bytes staging_address (place_bytes + most_bytes) 5 (sender_key i) at_sender.same at_sender.long x.sender_region_is;
  receiver_region_is = region_as (region_of m (receiver_region i)) (region_of m' (receiver_region i)) at_receiver.bytes (place_address i 0) (landing_offset + most_bytes) 1 (receiver_key i) at_receiver.same at_receiver.long x.receiver_region_is;
  sender_keyed = keyed_as (regions_of m (sender i)) (regions_of m' (sender i)) (sender_region i).name (sender_key i) at_sender x.sender_keyed;
  receiver_keyed = keyed_as (regions_of m receiver) (regions_of m' receiver) (receiver_region i).name (receiver_key i) at_receiver x.receiver_keyed;
}
