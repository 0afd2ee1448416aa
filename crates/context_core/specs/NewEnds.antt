-- Queue pairs made.
use Rattle.std.specs.Prelude.{ℕ, ◌≡◌, ◌<◌, ◌||◌, List, [], ◌∷◌, ◌++◌, Bool, false, Option, Some, None, is_none, length, nat_le}
use Rattle.std.specs.Map.{keys_of}
use Rattle.rdma_types.specs.declared.names.Name.{Name}
use Rattle.rdma_types.specs.Causes.{Cause, cause}
use Rattle.rdma_types.specs.declared.answers.Refusal.TheVariants.{NoSuch, NumberTaken, TooMany}
use Rattle.rdma_types.specs.Limits.{most_ends}
use Rattle.rdma_types.specs.Lists.{has_name, has_word}
use Rattle.end_queues.specs.Completions.{Queue}
use Rattle.end_queues.specs.Postings.{empty_queue}
use Rattle.protocol.specs.DeviceStep.{word_of}
use Rattle.protocol.specs.Refusals.{lacks}
use Rattle.endpoint_core.specs.declared.end.Endpoint.{Endpoint}
use Rattle.endpoint_core.specs.Queues.{queues_of}
use Rattle.context_core.specs.Context.{queue_name}
use Rattle.context_core.specs.declared.making.NewEnd.{NewEnd}
use Rattle.context_core.specs.declared.new_ends.Parts.{Parts}
use Rattle.context_core.specs.declared.state.EndSlot.{EndSlot}

-- ---- causes

-- a new queue pair names a domain or a completion queue that is not there
abbrev pub lacks_parts : List Name → List (Name × Queue) → NewEnd → Bool
lacks_parts domains queues new =
    lacks (λ n. has_word n domains) new.domain
    || (lacks (λ n. has_name (λ q. q.name) n (queues_of queues)) new.send_cq || lacks (λ n. has_name (λ q. q.name) n (queues_of queues)) new.recv_cq)

-- why no number is given
abbrev pub number_causes : List (Name × EndSlot) → Name → Option ℕ → List Cause
number_causes ends name offered = cause NumberTaken (has_word name (keys_of ends)) ∷ cause TooMany (nat_le most_ends (length ends) || is_none offered) ∷ []

-- why no queue pair is made
abbrev pub make_causes : List Name → List (Name × Queue) → List (Name × EndSlot) → NewEnd → Option ℕ → List Cause
make_causes domains queues ends new offered = cause NoSuch (lacks_parts domains queues new) ∷ number_causes ends new.name offered

-- ---- what is made

-- a completion queue that was named stands at a place
pub record IsPlaceOf (queues : List (Name × Queue)) (name : Option Name) (place : ℕ) : Type 0 where
  pub there : place < length queues
  pub named : queue_name queues place ≡ word_of name

-- the domain and the completion queues that a new queue pair names
pub record AreParts (queues : List (Name × Queue)) (new : NewEnd) (p : Parts) : Type 0 where
  pub domain : p.domain ≡ word_of new.domain
  pub send : IsPlaceOf queues new.send_cq p.send
  pub recv : IsPlaceOf queues new.recv_cq p.recv

-- a queue pair in Init, with its queues empty
abbrev pub new_endpoint : NewEnd → ℕ → Name → Endpoint
new_endpoint new number domain = record {
  number = number;
  domain = domain;
  send_depth = new.send_depth;
  recv_depth = new.recv_depth;
  recvs = empty_queue new.recv_depth;
  unlinked = Some (empty_queue new.send_depth);
  link = None;
}

-- the queue pair, with the places of its completion queues
abbrev pub new_slot : NewEnd → Parts → ℕ → EndSlot
new_slot new p number = record { send = p.send; recv = p.recv; endpoint = new_endpoint new number p.domain }

-- a queue pair of a new name stands behind the others
pub record IsMade (queues : List (Name × Queue)) (old new : List (Name × EndSlot)) (asked : NewEnd) (offered : Option ℕ) : Type 0 where
  pub parts : Parts
  pub found : AreParts queues asked parts
  pub number : ℕ
  pub given : offered ≡ Some number
  pub absent : has_word asked.name (keys_of old) ≡ false
  pub entries : new ≡ old ++ (asked.name, new_slot asked parts number) ∷ []
