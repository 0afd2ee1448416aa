-- The machine that the opening leads to, evaluated for each number of senders.
use Rattle.std.proofs.Common.{arith, ◌≡◌, ◌≢◌, ℕ, zero, suc, ◌+◌, ◌≤◌, List, [], ◌∷◌, ◌++◌, true, false, Bool, refl, ◌⊎◌, inl, inr}
use Rattle.std.specs.Prelude.{All, map, count_by, ◌==◌}
use Rattle.rdma_types.specs.declared.names.ObjName.{ObjName}
use Rattle.rdma_types.specs.declared.requests.Completion.{Completion}
use Rattle.rdma_types.specs.declared.requests.Receive.{Receive}
use Rattle.rdma_types.specs.Limits.{most_bytes}
use Rattle.rdma_types.specs.Objects.{Region}
use Rattle.protocol.specs.Evaluate.{computed}
use Rattle.protocol.specs.State.{empty_world}
use Rattle.packetless_machine.specs.Evaluate.{ran_to}
use Rattle.packetless_machine.specs.Legal.{after}
use Rattle.packetless_machine.specs.Machine.{End, Machine, empty, end_of, has_end, new_end, regions_of}
use Rattle.packetless_machine.specs.Verbs.{has_queue, has_region, region_of}
use Rattle.law_simulation.specs.Kept as in_kept
use Rattle.law_simulation.specs.Named as in_named
use Rattle.law_simulation.specs.Law.{IsInRange}
use Rattle.law_simulation.specs.Named.{RunsFollowByName, run_steps}
use Rattle.law_simulation.specs.Stands.{Stands}
use Rattle.law_simulation.specs.Views.{numbered_ends}
use Rattle.mailbox_rules.specs.Opening as in_opening
use Rattle.mailbox_rules.specs.Opening.{depth, domain_name, opening_events, opening_world, place_address, place_bytes, queue_name, receiver, receiver_end, receiver_key, receiver_receive, receiver_region, region_name, sender, sender_end, sender_key, sender_receive, sender_region, staging_address}
use Rattle.law_mailbox.specs.Kept.{landing_offset, standing}
use Rattle.law_mailbox.proofs.work.Changing.{one_or_not}

-- ---- what is found of a connection

-- its ends, its regions but for their bytes, how often their keys are there, and what stands in its queues
pub record Found : Type 0 where
  pub sender_there : Bool
  pub receiver_there : Bool
  pub sender : End
  pub receiver : End
  pub sender_queue : Bool
  pub receiver_queue : Bool
  pub sender_standing : List Completion
  pub receiver_standing : List Completion
  pub sender_region_there : Bool
  pub receiver_region_there : Bool
  pub sender_region : Region
  pub receiver_region : Region
  pub sender_local : ℕ
  pub sender_remote : ℕ
  pub receiver_local : ℕ
  pub receiver_remote : ℕ

-- that of connection i in a machine
abbrev pub found : Machine → ℕ → Found
found m i = record {
  sender_there = has_end m (sender_end i);
  receiver_there = has_end m (receiver_end i);
  sender = end_of m (sender_end i);
  receiver = end_of m (receiver_end i);
  sender_queue = has_queue m (sender i) queue_name;
  receiver_queue = has_queue m receiver queue_name;
  sender_standing = standing m (sender i);
  receiver_standing = standing m receiver;
  sender_region_there = has_region m (sender_region i);
  receiver_region_there = has_region m (receiver_region i);
  sender_region = record (region_of m (sender_region i)) { bytes = [] };
  receiver_region = record (region_of m (receiver_region i)) { bytes = [] };
  sender_local = count_by (λ r. r.keys.local == sender_key i) (regions_of m (sender i));
  sender_remote = count_by (λ r. r.keys.remote == sender_key i + 1) (regions_of m (sender i));
  receiver_local = count_by (λ r. r.keys.local == receiver_key i) (regions_of m receiver);
  receiver_remote = count_by (λ r. r.keys.remote == receiver_key i + 1) (regions_of m receiver);
}

-- the first n receives
abbrev pub receives_to : (ℕ → Receive) → ℕ → List Receive
receives_to f zero = []
receives_to f (suc n) = receives_to f n ++ f n ∷ []

-- an end that was connected, with its receives
abbrev pub joined_end : ObjName → ℕ → ObjName → (ℕ → Receive) → End
joined_end o number peer receives = record (new_end o number domain_name queue_name queue_name depth depth) {
  connected = true;
  peer = peer;
  mtu = 1024;
  retry = 7;
  rnr = 7;
  unused = receives_to receives depth;
}

-- a region but for its bytes
abbrev pub made_region : ObjName → ℕ → ℕ → ℕ → ℕ → Region
made_region o base size rights key = record {
  name = o.name;
  domain = domain_name;
  base = base;
  length = size;
  rights = record { 0 = rights };
  keys = record { local = key; remote = key + 1 };
  bytes = [];
}

-- what the opening made
abbrev pub made_for : ℕ → Found
made_for i = record {
  sender_there = true;
  receiver_there = true;
  sender = joined_end (sender_end i) (131072 + i) (receiver_end i) sender_receive;
  receiver = joined_end (receiver_end i) (65536 + i) (sender_end i) (receiver_receive i);
  sender_queue = true;
  receiver_queue = true;
  sender_standing = [];
  receiver_standing = [];
  sender_region_there = true;
  receiver_region_there = true;
  sender_region = made_region (sender_region i) staging_address (place_bytes + most_bytes) 5 (sender_key i);
  receiver_region = made_region (receiver_region i) (place_address i 0) (landing_offset + most_bytes) 1 (receiver_key i);
  sender_local = 1;
  sender_remote = 1;
  receiver_local = 1;
  receiver_remote = 1;
}

-- ---- all connections

-- the numbers n to 1
abbrev pub numbers : ℕ → List ℕ
numbers zero = []
numbers (suc n) = suc n ∷ numbers n

-- the ends of connections 1 to n
abbrev pub ends_to : (ℕ → ObjName) → ℕ → List ObjName
ends_to f zero = []
ends_to f (suc n) = ends_to f n ++ f (suc n) ∷ []

-- the name that stands where no end has a number
abbrev pub no_name : ObjName
no_name = record { context = []; name = [] }

-- what is found of all connections; the names of all ends; and whether an end with no name is connected
pub record AllFound : Type 0 where
  pub each : List Found
  pub listed : List ObjName
  pub nameless : Bool

-- that of n connections in a machine
abbrev pub found_in : ℕ → Machine → AllFound
found_in n m = record { each = map (found m) (numbers n); listed = map (λ x. x.1) (numbered_ends m); nameless = (end_of m no_name).connected }

-- what the opening made
abbrev pub made_for_all : ℕ → AllFound
made_for_all n = record { each = map made_for (numbers n); listed = ends_to receiver_end n ++ ends_to sender_end n; nameless = false }

-- ---- the evaluation

-- the machine that follows the opening with so many senders
unfoldable pub opened : ℕ → Machine
unfolding computed ran_to in_kept.verb_in in_kept.verb_of in_kept.is_unmade_by in_kept.is_unmade in_kept.kept_verb in_named.steps_of_each in_opening.receives_events in_opening.sender_events in_opening.senders_events in_opening.opening_events
opened peers = after empty (run_steps empty_world empty (opening_events most_bytes peers))

pub evaluated : map (λ n. found_in n (opened n)) (numbers 8) ≡ map made_for_all (numbers 8)
unfolding opened
evaluated = refl

-- .. one of them
pub at_number : {A : Type 0} (f g : ℕ → A) (n i : ℕ) → map f (numbers n) ≡ map g (numbers n) → 1 ≤ i → i ≤ n → f i ≡ g i
at_number f g zero i same low high = absurd (omega arith)
at_number f g (suc n) i same low high = by (one_or_not i (suc n)) (λ (other : i ≢ suc n). at_number f g n i (cc) low (omega (arith, other)))
  where
    by : (i ≡ suc n) ⊎ (i ≢ suc n) → (i ≢ suc n → f i ≡ g i) → f i ≡ g i
    by (inl e) rest = rw e (cc)
    by (inr other) rest = rest other

-- ---- the world that stands for it

pub stands : RunsFollowByName → Stands empty_world empty → (peers : ℕ) → All IsInRange (opening_events most_bytes peers) → Stands (opening_world most_bytes peers) (opened peers)
unfolding opened
stands follow start peers range = (follow empty_world empty (opening_events most_bytes peers) range start).stands
