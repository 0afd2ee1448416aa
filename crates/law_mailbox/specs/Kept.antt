-- What is true of each connection at all times: the letters that were sent, the two ends of the packetless machine and the bytes of
-- their regions, and what is still due. It is what parts of the theorem on letters are proved by.
use Rattle.std.specs.Prelude.{ℕ, ◌≡◌, ◌≤◌, ◌<◌, ◌+◌, ◌-◌, ◌*◌, ◌/◌, ◌%◌, ◌==◌, List, [], ◌∷◌, ◌++◌, length, map, flat_map, filter, take, drop, slice_get, count_by, Bool, true, false, All, ◌⊎◌, Option, Some, None, option_to_list, if◌then◌else◌}
use Rattle.rdma_types.specs.declared.requests.Completion.{Completion}
use Rattle.rdma_types.specs.declared.requests.Kind.TheVariants as kind
use Rattle.rdma_types.specs.declared.requests.Receive.{Receive}
use Rattle.rdma_types.specs.declared.names.ObjName.{ObjName}
use Rattle.rdma_types.specs.Limits.{most_bytes}
use Rattle.rdma_types.specs.Memory.{cut}
use Rattle.rdma_types.specs.Objects.{Posted, Region}
use Rattle.packetless_machine.specs.declared.reply.Reply.{Reply}
use Rattle.packetless_machine.specs.declared.reply.Reply.TheVariants.{Denied, Finished, OldValue}
use Rattle.packetless_machine.specs.Machine.{End, Machine, Offered, end_of, has_end, queue_of, regions_of}
use Rattle.packetless_machine.specs.Verbs.{has_queue, has_region, region_of}
use Rattle.mailbox_rules.specs.declared.due.Due.{Due}
use Rattle.mailbox_rules.specs.declared.due.Due.TheVariants as due
use Rattle.mailbox_rules.specs.declared.due.Fetch.{Fetch}
use Rattle.mailbox_rules.specs.declared.letters.Letter.{Letter}
use Rattle.mailbox_rules.specs.Calls.{message_of}
use Rattle.mailbox_rules.specs.Histories.{Placed, fetched_before}
use Rattle.mailbox_rules.specs.Letters.{is_rendezvous}
use Rattle.mailbox_rules.specs.Opening.{connection_of, depth, domain_name, landing_address, place_address, place_bytes, queue_name, receiver, receiver_end, receiver_key, receiver_receive, receiver_region, sender, sender_end, sender_key, sender_region, sender_remote_key, slot_address, staging_address}
use Rattle.mailbox_rules.specs.State.{Channel}
use Rattle.mailbox_rules.specs.Working.{due_of, is_success, request}
use Rattle.law_mailbox.specs.Arrived.{HasArrived}
use Rattle.law_mailbox.specs.Headers.{IsLetter}

-- ---- what is due on one connection

-- what completions of context n make due, those with status 0
abbrev pub dues_by : ℕ → Completion → List Due
dues_by n x = if is_success x.status then option_to_list (due_of n x) else []

abbrev pub dues_of : ℕ → List Completion → List Due
dues_of n xs = flat_map (dues_by n) xs

-- one thing, where it is of connection i
abbrev pub if_of : {X : Type 0} → ℕ → ℕ → X → List X
if_of i j x = if j == i then x ∷ [] else []

-- a message to be copied: its place, and its length
abbrev pub copy_in : ℕ → Due → List (ℕ × ℕ)
copy_in i (due.CopyMessage j place length) = if_of i j (place, length)
copy_in i d = []

-- a place to be posted again
abbrev pub repost_in : ℕ → Due → List ℕ
repost_in i (due.Repost j place fetch) = if_of i j place
repost_in i d = []

-- a body to be fetched
abbrev pub fetch_in : ℕ → Due → List Fetch
fetch_in i (due.Repost j place (Some f)) = if_of i j f
fetch_in i (due.PostRead j f) = if_of i j f
fetch_in i d = []

-- the length of a body to be copied
abbrev pub body_in : ℕ → Due → List ℕ
body_in i (due.CopyBody j length) = if_of i j length
body_in i d = []

-- a Send of no bytes to be posted
abbrev pub free_in : ℕ → Due → List ℕ
free_in i (due.PostFree j) = if_of i j j
free_in i d = []

-- a slot to be freed
abbrev pub slot_in : ℕ → Due → List ℕ
slot_in i (due.FreeSlot j place) = if_of i j place
slot_in i d = []

-- all that is due on connection i: messages to be copied, in the order of their arrival; places to be posted again; bodies to be
-- fetched, and to be copied; Sends of no bytes to be posted; and slots to be freed
abbrev pub copies : ℕ → List Due → List (ℕ × ℕ)
copies i ds = flat_map (copy_in i) ds

abbrev pub reposts : ℕ → List Due → List ℕ
reposts i ds = flat_map (repost_in i) ds

abbrev pub fetches : ℕ → List Due → List Fetch
fetches i ds = flat_map (fetch_in i) ds

abbrev pub bodies : ℕ → List Due → List ℕ
bodies i ds = flat_map (body_in i) ds

abbrev pub frees : ℕ → List Due → List ℕ
frees i ds = flat_map (free_in i) ds

abbrev pub slots : ℕ → List Due → List ℕ
slots i ds = flat_map (slot_in i) ds

-- all of it
pub record Pending : Type 0 where
  pub copied : List (ℕ × ℕ)
  pub reposted : List ℕ
  pub fetched : List Fetch
  pub bodies : List ℕ
  pub frees : ℕ
  pub slots : ℕ

abbrev pub pending : ℕ → List Due → Pending
pending i ds = record { copied = copies i ds; reposted = reposts i ds; fetched = fetches i ds; bodies = bodies i ds; frees = length (frees i ds); slots = length (slots i ds) }

-- ---- what is seen of one connection

-- its two ends, the bytes of their regions, and what is due
pub record Sight : Type 0 where
  pub sender : End
  pub receiver : End
  pub stored : List ℕ  -- the sender's region: the staging bytes, and then the slot
  pub landed : List ℕ  -- the receiver's region: the places, and then the landing place
  pub dues : List Due  -- what is owed, and then what completions will make due that stand in the receiver's queue and in the sender's

-- the completions that stand in the queue of a context of letters
abbrev pub standing : Machine → List ℕ → List Completion
standing m c = (queue_of m c queue_name).entries

-- that of connection i, where so much is owed
abbrev pub sight_of : Machine → List Due → ℕ → Sight
sight_of m owed i = record {
  sender = end_of m (sender_end i);
  receiver = end_of m (receiver_end i);
  stored = (region_of m (sender_region i)).bytes;
  landed = (region_of m (receiver_region i)).bytes;
  dues = owed ++ (dues_of 0 (standing m receiver) ++ dues_of i (standing m (sender i)));
}

-- ---- messages

-- the Send of a letter, as it is posted
abbrev pub sent_as : ℕ → Letter → Posted
sent_as i l = record { request = request kind.Send (sender_key i) staging_address (length (message_of i l)) 0 0; payload = message_of i l }

-- what the sender's end has posted, how much of it acted, and whether it has ended
pub record AreSendsKept (i : ℕ) (posted : List Posted) (acted : ℕ) (ended : Bool) (sent : List Letter) : Type 0 where
  -- it has posted the Sends of the letters that were sent; of all of them unless it has ended
  pub queue_of_sender : posted ≡ take (length posted) (map (sent_as i) sent)
  pub posted_within : length posted ≤ length sent
  pub acted_within : acted ≤ length posted
  pub all_posted : ended ≡ false → length posted ≡ length sent

-- each of these places holds the message of its letter, whole
abbrev pub HoldMessages : ℕ → List ℕ → List (ℕ × ℕ) → List Letter → Type 0
HoldMessages i bytes [] ls = Unit {0}
HoldMessages i bytes (x ∷ xs) [] = ⊥
HoldMessages i bytes (x ∷ xs) (l ∷ ls) = (x.1 ≡ length (message_of i l)) × (cut (place_bytes * x.0) x.1 bytes ≡ message_of i l) × HoldMessages i bytes xs ls

-- the place of the receive in use holds the bytes of a message that are in place
abbrev pub HoldsPart : ℕ → List ℕ → ℕ → Option Receive → Option Letter → Type 0
HoldsPart i bytes into None l = into ≡ 0
HoldsPart i bytes into (Some v) None = ⊥
HoldsPart i bytes into (Some v) (Some l) = (v ≡ receiver_receive i v.id) × (cut (place_bytes * v.id) into bytes ≡ take into (message_of i l))

-- the receiver's bytes, how many messages acted and how much of the next one did, whether the receiver's end has ended, its receive in
-- use, and what is to be copied
pub record AreMessagesKept (i : ℕ) (landed : List ℕ) (acted into : ℕ) (ended : Bool) (in_use : Option Receive) (copied : List (ℕ × ℕ)) (receives : ℕ) (sent : List Letter) : Type 0 where
  -- each Send that acted was copied, or is to be copied
  pub receives_completed : receives + length copied ≡ acted
  -- those to be copied lie in their places
  pub places_hold : HoldMessages i landed copied (drop receives sent)
  -- .. and the one in progress as far as it came
  pub part_holds : ended ≡ false → HoldsPart i landed into in_use (slice_get sent acted)
  pub part_within : into ≤ place_bytes

-- all places: of unused receives, of the one in use, of messages to be copied, and those to be posted again
abbrev pub places : List Receive → Option Receive → List (ℕ × ℕ) → List ℕ → List ℕ
places unused in_use copied reposted = map (λ v. v.id) unused ++ (map (λ v. v.id) (option_to_list in_use) ++ (map (λ x. x.0) copied ++ reposted))

-- unless the receiver's end has ended, no two things have one place, and receives are those of their places
pub record ArePlacesKept (i : ℕ) (ended : Bool) (unused : List Receive) (in_use : Option Receive) (copied : List (ℕ × ℕ)) (reposted : List ℕ) : Type 0 where
  pub places_once : ended ≡ false → (k : ℕ) → count_by (λ x. x == k) (places unused in_use copied reposted) ≤ 1
  pub places_within : ended ≡ false → All (λ x. x < depth) (places unused in_use copied reposted)
  pub receives_known : ended ≡ false → All (λ v. v ≡ receiver_receive i v.id) unused

-- ---- bodies that are fetched

-- the letters whose bodies are fetched, in order
abbrev pub long_letters : List Letter → List Letter
long_letters ls = filter (λ l. is_rendezvous l.body) ls

-- .. and the last of them
abbrev pub last_long : List Letter → Option Letter
last_long ls = slice_get (long_letters ls) (length (long_letters ls) - 1)

-- the Read of a body, and the Send of no bytes behind it, as they are posted
abbrev pub read_as : ℕ → Letter → Posted
read_as i l = record { request = request kind.Read (receiver_key i) (landing_address i) (length l.body) slot_address (sender_remote_key i); payload = [] }

abbrev pub freed_as : Posted
freed_as = record { request = request kind.Send 0 0 0 0 0; payload = [] }

-- all that the receiver's end posts for such letters
abbrev pub requests_for : ℕ → List Letter → List Posted
requests_for i [] = []
requests_for i (l ∷ ls) = read_as i l ∷ freed_as ∷ requests_for i ls

-- it has posted a Read and a Send of no bytes for each long letter, in order, as far as it came
abbrev pub IsQueueOfReceiver : ℕ → List Posted → List Letter → Type 0
IsQueueOfReceiver i posted sent = posted ≡ take (length posted) (requests_for i (long_letters sent))

-- Reads, and Sends of no bytes, among the first n of them
abbrev pub reads_in : ℕ → ℕ
reads_in n = (n + 1) / 2

abbrev pub frees_in : ℕ → ℕ
frees_in n = n / 2

-- how many of its requests the receiver's end has posted, how many acted and were told, and whether it has ended; how many fetches,
-- bodies to be copied, Sends of no bytes and slots to be freed are due; how many messages and bodies were copied
pub record AreCountsKept (posted acted told : ℕ) (ended : Bool) (fetches bodies frees slots receives reads : ℕ) (slot_in_use : Bool) (sent : List Letter) : Type 0 where
  -- no more acted than was posted; where the end has ended all is told, and else no more than acted
  pub acted_within : acted ≤ posted
  pub told_within : told ≤ posted
  pub told_acted : ended ≡ false → told ≤ acted
  pub over : ended ≡ true → told ≡ posted
  -- Reads are posted for long letters that were copied, but not yet where one is due
  pub reads_posted : reads_in posted + fetches ≤ fetched_before receives sent
  -- Sends of no bytes are posted for bodies that were copied, but not yet where one is due
  pub frees_posted : frees_in posted + frees ≤ reads
  -- bodies were copied, or are to be copied, where their Reads were told
  pub bodies_posted : reads + bodies ≤ reads_in posted
  pub bodies_told : ended ≡ false → reads + bodies ≡ reads_in told
  -- the slot was freed, or is to be freed, once for each Send of no bytes that acted; one long letter may wait for that
  pub slot_freed : length (long_letters sent) + slots ≡ frees_in acted + (if slot_in_use then 1 else 0)

-- where the slot begins in the sender's region, and the landing place in the receiver's
abbrev pub slot_offset : ℕ
slot_offset = place_bytes

abbrev pub landing_offset : ℕ
landing_offset = place_bytes * depth

-- what is due to be fetched, and the sender's bytes
pub record IsSlotKept (i : ℕ) (fetched : List Fetch) (slot_in_use : Bool) (stored : List ℕ) (sent : List Letter) : Type 0 where
  -- what is due to be fetched is the last long letter's body
  pub fetches_true : (l : Letter) → last_long sent ≡ Some l → All (λ f. (f.length ≡ length l.body) × (f.rkey ≡ sender_remote_key i)) fetched
  -- while the slot is in use it holds that body
  pub slot_holds : slot_in_use ≡ true → (l : Letter) → last_long sent ≡ Some l → cut slot_offset (length l.body) stored ≡ l.body

-- what was offered to the receiver's end, and how many of its requests acted and were told
pub record AreOffersKept (offers : List Offered) (acted told : ℕ) (sent : List Letter) : Type 0 where
  -- only Reads that acted have offers
  pub offers_acted : All (λ o. (o.request < acted) × (o.request % 2 ≡ 0)) offers
  -- what was offered for an untold Read is a piece of its body
  pub offers_true : All (λ o. told ≤ o.request → (l : Letter) → slice_get (long_letters sent) (o.request / 2) ≡ Some l → o.bytes ≡ cut o.offset (length o.bytes) l.body) offers

-- the receiver's bytes, and what it knows of its first untold request
pub record IsLandingKept (landed : List ℕ) (posted told known : ℕ) (ended : Bool) (bodies : List ℕ) (reads : ℕ) (sent : List Letter) : Type 0 where
  -- nothing is known where all is told
  pub nothing_known : told ≡ posted → known ≡ 0
  -- what landed for the first untold Read lies in the landing place
  pub landing : ended ≡ false → told % 2 ≡ 0 → (l : Letter) → slice_get (long_letters sent) (told / 2) ≡ Some l → cut landing_offset known landed ≡ take known l.body
  -- .. and a whole body until it is copied
  pub bodies_hold : (l : Letter) → slice_get (long_letters sent) reads ≡ Some l → All (λ n. (n ≡ length l.body) × (cut landing_offset n landed ≡ l.body)) bodies

-- ---- what has arrived

-- one of them is this
abbrev pub Has : List Placed → Placed → Type 0
Has [] y = ⊥
Has (x ∷ xs) y = (x ≡ y) ⊎ Has xs y

-- a letter whose message or whose body is not copied is open
abbrev pub WaitsOpen : ℕ → ℕ → List Letter → List Placed → Type 0
WaitsOpen receives reads sent open' = (k : ℕ) (l : Letter) → slice_get sent k ≡ Some l → (receives ≤ k) ⊎ ((is_rendezvous l.body ≡ true) × (reads ≤ fetched_before k sent)) →
    Has open' (record { place = k; letter = l })

-- no atomic acted, so no old value is an answer
abbrev pub IsPlain : Reply → Type 0
IsPlain Finished = Unit {0}
IsPlain (OldValue value) = ⊥
IsPlain (Denied why) = Unit {0}

-- ---- the whole

-- all of connection i: its two ends, the bytes of their regions, what is due, what is held of it, and its letters
pub record IsKeptWith (i : ℕ) (sender receiver : End) (stored landed : List ℕ) (due : Pending) (c : Channel) (sent : List Letter) (open' : List Placed) : Type 0 where
  pub letters : All IsLetter sent
  pub number : connection_of receiver.number ≡ i
  pub plain : All IsPlain sender.answers × All IsPlain receiver.answers
  pub unoffered : sender.offers ≡ []  -- the sender's end has no Reads, so nothing is offered to it
  pub sends : AreSendsKept i sender.posted sender.acted sender.ended sent
  pub messages : AreMessagesKept i landed sender.acted sender.into receiver.ended receiver.in_use due.copied c.receives sent
  pub places : ArePlacesKept i receiver.ended receiver.unused receiver.in_use due.copied due.reposted
  pub queue : IsQueueOfReceiver i receiver.posted sent
  pub counts : AreCountsKept (length receiver.posted) receiver.acted receiver.told receiver.ended
      (length due.fetched) (length due.bodies) due.frees due.slots c.receives c.reads c.slot_in_use sent
  pub slot : IsSlotKept i due.fetched c.slot_in_use stored sent
  pub offers : AreOffersKept receiver.offers receiver.acted receiver.told sent
  pub landing : IsLandingKept landed (length receiver.posted) receiver.told receiver.known receiver.ended due.bodies c.reads sent
  pub arrived : HasArrived c sent open'
  pub waits_open : WaitsOpen c.receives c.reads sent open'

-- .. as it is seen
abbrev pub IsKept : ℕ → Sight → Channel → List Letter → List Placed → Type 0
IsKept i s c sent open' = IsKeptWith i s.sender s.receiver s.stored s.landed (pending i s.dues) c sent open'

-- ---- what the opening made

-- a region's place, rights and keys
pub record IsRegion (r : Region) (base size rights key : ℕ) : Type 0 where
  pub domain : r.domain ≡ domain_name
  pub begins : r.base ≡ base
  pub long : r.length ≡ size
  pub whole : length r.bytes ≡ size
  pub granted : r.rights ≡ record { 0 = rights }
  pub keyed : r.keys ≡ record { local = key; remote = key + 1 }

-- an end that is connected to another
pub record IsJoined (e : End) (peer : ObjName) : Type 0 where
  pub connected : e.connected ≡ true
  pub peer_is : e.peer ≡ peer
  pub domain : e.domain ≡ domain_name
  pub send_queue : e.send_queue ≡ queue_name
  pub receive_queue : e.receive_queue ≡ queue_name
  pub send_depth : e.send_depth ≡ depth
  pub receive_depth : e.receive_depth ≡ depth

-- a local key and a remote key name one region of a context
pub record IsKeyedOnce (rs : List Region) (key : ℕ) : Type 0 where
  pub local_once : count_by (λ r. r.keys.local == key) rs ≤ 1
  pub remote_once : count_by (λ r. r.keys.remote == key + 1) rs ≤ 1

-- what the opening made for connection i, and nothing changes
pub record IsOpened (m : Machine) (i : ℕ) : Type 0 where
  pub sender_there : has_end m (sender_end i) ≡ true
  pub receiver_there : has_end m (receiver_end i) ≡ true
  pub sender_joined : IsJoined (end_of m (sender_end i)) (receiver_end i)
  pub receiver_joined : IsJoined (end_of m (receiver_end i)) (sender_end i)
  pub sender_queue : has_queue m (sender i) queue_name ≡ true
  pub receiver_queue : has_queue m receiver queue_name ≡ true
  pub sender_region_there : has_region m (sender_region i) ≡ true
  pub receiver_region_there : has_region m (receiver_region i) ≡ true
  pub sender_region_is : IsRegion (region_of m (sender_region i)) staging_address (place_bytes + most_bytes) 5 (sender_key i)
  pub receiver_region_is : IsRegion (region_of m (receiver_region i)) (place_address i 0) (landing_offset + most_bytes) 1 (receiver_key i)
  pub sender_keyed : IsKeyedOnce (regions_of m (sender i)) (sender_key i)
  pub receiver_keyed : IsKeyedOnce (regions_of m receiver) (receiver_key i)
