-- What is true of every end in each run of the machine.
use Rattle.std.specs.Prelude.{◌≡◌, ℕ, suc, ◌+◌, ◌<◌, ◌≤◌, ◌⊎◌, length, slice_get, All, true, false, Option, Some, None}
use Rattle.rdma_types.specs.Objects.{Posted, CompletionQueue}
use Rattle.rdma_types.specs.Kinds.{is_atomic, is_read, kind_of, lands, size_of}
use Rattle.rdma_types.specs.Limits.{most_bytes}
use Rattle.packetless_machine.specs.declared.reply.Reply.{Reply}
use Rattle.packetless_machine.specs.declared.reply.Reply.TheVariants.{Finished, OldValue, Denied}
use Rattle.packetless_machine.specs.Machine.{End, Offered, Context, posted_at, untold_count, reserved}
use Rattle.packetless_machine.specs.Steps.{current, front, in_place}

-- the answer to a request that acted
abbrev pub IsReplyTo : Posted → Option Reply → Type 0
IsReplyTo r None = ⊥
IsReplyTo r (Some Finished) = is_atomic (kind_of r) ≡ false
IsReplyTo r (Some (OldValue value)) = is_atomic (kind_of r) ≡ true
IsReplyTo r (Some (Denied why)) = ⊥

-- the answer is a refusal
abbrev pub IsDenial : Option Reply → Type 0
IsDenial None = ⊥
IsDenial (Some Finished) = ⊥
IsDenial (Some (OldValue value)) = ⊥
IsDenial (Some (Denied why)) = Unit {0}

-- an offer is of a Read that acted, and lies in it
pub record IsOfferOf (e : End) (o : Offered) : Type 0 where
  pub acted : o.request < e.acted
  pub reads : is_read (kind_of (posted_at e.posted o.request)) ≡ true
  pub inside : o.offset + length o.bytes ≤ size_of (posted_at e.posted o.request)

-- what holds of every end
pub record IsSound (e : End) : Type 0 where
  -- no more requests acted, or were told, than were posted
  pub acted_posted : e.acted ≤ length e.posted
  pub told_posted : e.told ≤ length e.posted
  -- before it ends, no more were told than acted, and then nothing is untold
  pub told_acted : e.ended ≡ false → e.told ≤ e.acted
  pub over : e.ended ≡ true → e.told ≡ length e.posted
  -- bytes in place are those of an unfinished Write or Send
  pub unfinished : (e.into ≡ 0) ⊎ (e.into < size_of (current e))
  pub whole_turns : lands (kind_of (current e)) ≡ true → e.into ≡ 0
  -- what the owner knows of a Write or Send is in place; a Read lands after its turn, and an atomic at once
  pub known_there : e.ended ≡ false → lands (kind_of (front e)) ≡ false → e.known ≤ in_place e e.told
  pub known_within : e.known ≤ size_of (front e)
  pub unlanded : lands (kind_of (front e)) ≡ true → e.told ≡ e.acted → e.known ≡ 0
  pub whole_atomics : is_atomic (kind_of (front e)) ≡ true → e.known ≡ 0
  -- each acted request has its answer, and one more can have been refused
  pub replies : (i : ℕ) → i < e.acted → IsReplyTo (posted_at e.posted i) (slice_get e.answers i)
  pub answered : (length e.answers ≡ e.acted) ⊎ ((length e.answers ≡ suc e.acted) × IsDenial (slice_get e.answers e.acted))
  pub offers : All (IsOfferOf e) e.offers
  -- lengths are within the limit
  pub sizes : (i : ℕ) → i < length e.posted → size_of (posted_at e.posted i) ≤ most_bytes
  -- untold requests, and unused receives, are no more than the depths
  pub depth : untold_count e ≤ e.send_depth
  pub receive_depth : length e.unused ≤ e.receive_depth

-- entries and reservations of a queue are within its capacity
abbrev pub HasRoom : Context → CompletionQueue → Type 0
HasRoom c q = length q.entries + reserved c q.name ≤ q.capacity

-- the counts of an end are in order
pub record IsWithin (e : End) : Type 0 where
  pub acted : e.acted ≤ length e.posted
  pub told : e.told ≤ length e.posted
  pub order : e.ended ≡ false → e.told ≤ e.acted
