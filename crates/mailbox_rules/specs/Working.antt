-- Working: completions are polled, and what they make due is done (this project's choice).
use Rattle.std.specs.Prelude.{ℕ, zero, suc, ◌+◌, ◌%◌, ◌==◌, not, Bool, true, false, List, [], ◌∷◌, ◌++◌, length, drop, slice_get, slice_set, Option, Some, None, nat_lt, if◌then◌else◌}
use Rattle.std.specs.List.{position, remove}
use Rattle.rdma_types.specs.declared.answers.Answer.{Answer}
use Rattle.rdma_types.specs.declared.answers.Answer.TheVariants as answer
use Rattle.rdma_types.specs.declared.answers.Refusal.TheVariants as refusal
use Rattle.rdma_types.specs.declared.requests.Completion.{Completion}
use Rattle.rdma_types.specs.declared.requests.Kind.{Kind}
use Rattle.rdma_types.specs.declared.requests.Kind.TheVariants as kind
use Rattle.rdma_types.specs.declared.requests.Request.{Request}
use Rattle.rdma_types.specs.declared.requests.WcKind.{WcKind}
use Rattle.rdma_types.specs.declared.requests.WcKind.TheVariants as wc_kind
use Rattle.rdma_types.specs.declared.requests.WcStatus.{WcStatus}
use Rattle.rdma_types.specs.declared.requests.WcStatus.TheVariants as status
use Rattle.protocol.specs.declared.events.Event.{Event}
use Rattle.protocol.specs.declared.events.Event.TheVariants as event
use Rattle.protocol.specs.declared.events.WorldEvent.TheVariants as world_event
use Rattle.protocol.specs.State.{World}
use Rattle.protocol.specs.WorldStep.{world_step}
use Rattle.mailbox_rules.specs.declared.due.Due.{Due}
use Rattle.mailbox_rules.specs.declared.due.Due.TheVariants as due
use Rattle.mailbox_rules.specs.declared.due.Fetch.{Fetch}
use Rattle.mailbox_rules.specs.declared.due.Side.{Side}
use Rattle.mailbox_rules.specs.declared.due.Side.TheVariants.{AtReceiver, AtSender}
use Rattle.mailbox_rules.specs.declared.letters.Arrival.{Arrival}
use Rattle.mailbox_rules.specs.declared.letters.Header.{Header}
use Rattle.mailbox_rules.specs.Letters.{header_length, header_of}
use Rattle.mailbox_rules.specs.Opening.{connection_of, depth, landing_address, object, place_address, queue_name, receiver_end, receiver_key, receiver_receives, receiver_region, sender_receives, slot_address}
use Rattle.mailbox_rules.specs.State.{Channel, Mail, channel, context_at, ending, has_ended, is_away, with_channel, with_world}

-- ---- asking

-- what holds after a context was asked for something, and the answer
pub record Asked : Type 0 where
  pub mail : Mail
  pub answer : Answer

-- a context is asked
unfoldable pub asking : Mail → Event → Asked
asking m e = let s = world_step m.world (world_event.At e) in record { mail = with_world m s.world; answer = s.answer }

-- ---- posting

-- a request of an end, signaled; its id is not looked at
abbrev pub request : Kind → ℕ → ℕ → ℕ → ℕ → ℕ → Request
request k lkey local length remote rkey = record {
  id = 0;
  shape = record { kind = k; length = length; remote = remote; rkey = rkey; imm = None; swap_add = 0; compare = 0 };
  lkey = lkey;
  local = local;
  signaled = true;
  fence = false;
}

-- the fetching of a body to the landing place
abbrev pub read_event : ℕ → Fetch → Event
read_event i f = event.PostSend (receiver_end i) (request kind.Read (receiver_key i) (landing_address i) f.length slot_address f.rkey)

-- the Send of no bytes that frees the slot
abbrev pub free_event : ℕ → Event
free_event i = event.PostSend (receiver_end i) (request kind.Send 0 0 0 0 0)

-- refused, since the packet numbers of the end are used up
abbrev pub is_too_many : Answer → Bool
is_too_many (answer.Refused refusal.TooMany) = true
is_too_many a = false

-- after a posting; one that was refused so counts as a completion with an error
abbrev pub posted : Asked → Side → ℕ → Mail
posted a side i = if is_too_many a.answer then with_channel a.mail i (ending side) else a.mail

-- a posting, but nothing is posted at an end of which a completion with an error was polled
unfoldable pub posting : Mail → Side → ℕ → Event → Mail
posting m side i e = if has_ended side (channel m i) then m else posted (asking m e) side i

-- ---- what is due

-- what is due at a place of the list is done, and nothing or another thing is due there
abbrev pub due_next : List Due → ℕ → Option Due → List Due
due_next ds k None = remove ds k
due_next ds k (Some d) = slice_set ds k d

abbrev pub going_on : Mail → ℕ → Option Due → Mail
going_on m k next = record m { owed = due_next m.owed k next }

-- the bytes of a load's answer
abbrev pub bytes_in : Answer → List ℕ
bytes_in (answer.Bytes bytes) = bytes
bytes_in a = []

-- the receiver's bytes at an address of its region for sender i
abbrev pub loads : Mail → ℕ → ℕ → ℕ → Asked
loads m i address length = asking m (event.Load (receiver_region i) address length)

-- a letter that arrived: without its body where that is to be fetched
abbrev pub arrival_of : Header → List ℕ → Arrival
arrival_of h bytes = record { tag = h.tag; body = if h.fetched then None else Some (drop header_length bytes) }

-- one more letter arrived
abbrev pub arriving : List ℕ → Channel → Channel
arriving bytes c = record c { arrived = c.arrived ++ arrival_of (header_of bytes) bytes ∷ []; receives = c.receives + 1 }

-- what a header says of a body that is to be fetched
abbrev pub fetch_of : Header → Option Fetch
fetch_of h = if h.fetched then Some (record { length = h.length; rkey = h.rkey }) else None

-- a message was read: its letter arrived, and its place is to be posted again
abbrev pub copied : Mail → ℕ → ℕ → ℕ → List ℕ → Mail
copied m k i place bytes = going_on (with_channel m i (arriving bytes)) k (Some (due.Repost i place (fetch_of (header_of bytes))))

abbrev pub copying : Asked → ℕ → ℕ → ℕ → Mail
copying a k i place = copied a.mail k i place (bytes_in a.answer)

-- the first arrival without a body gets it
unfoldable pub filled : List ℕ → List Arrival → List Arrival
filled body [] = []
filled body (a ∷ as') = (elim a.body [
  | None ↦ record a { body = Some body } ∷ as'
  | Some b ↦ a ∷ filled body as'
])

-- the body that was fetched is here
abbrev pub filling : List ℕ → Channel → Channel
filling body c = record c { arrived = filled body c.arrived; reads = c.reads + 1 }

-- .. and the slot is to be freed
abbrev pub fetching : Asked → ℕ → ℕ → Mail
fetching a k i = going_on (with_channel a.mail i (filling (bytes_in a.answer))) k (Some (due.PostFree i))

-- the slot is free
abbrev pub freeing : Channel → Channel
freeing c = record c { slot_in_use = false }

-- a body that is to be fetched, as what is due
abbrev pub read_due : ℕ → Option Fetch → Option Due
read_due i None = None
read_due i (Some f) = Some (due.PostRead i f)

-- the thing at a place of the list is done
unfoldable pub doing : Mail → ℕ → Due → Mail
doing m k (due.CopyMessage i place length) = copying (loads m i (place_address i place) length) k i place
doing m k (due.Repost i place fetch) = going_on (posting m AtReceiver i (receiver_receives i place)) k (read_due i fetch)
doing m k (due.PostRead i fetch) = going_on (posting m AtReceiver i (read_event i fetch)) k None
doing m k (due.CopyBody i length) = fetching (loads m i (landing_address i) length) k i
doing m k (due.PostFree i) = going_on (posting m AtReceiver i (free_event i)) k None
doing m k (due.FreeSlot i place) = going_on (with_channel m i freeing) k (Some (due.RepostAtSender i place))
doing m k (due.RepostAtSender i place) = going_on (posting m AtSender i (sender_receives i place)) k None

-- ---- polling

-- most completions of one poll
abbrev pub most_polled : ℕ
most_polled = 256

-- a poll of a context
abbrev pub poll_event : ℕ → Event
poll_event n = event.Poll (object (context_at n) queue_name) most_polled

-- the completions of a poll's answer; a poll of a carried context is refused, and has none
abbrev pub entries_in : Answer → List Completion
entries_in (answer.Polled entries) = entries
entries_in a = []

-- status 0
abbrev pub is_success : WcStatus → Bool
is_success status.Success = true
is_success s = false

-- the place of a receive is its id
abbrev pub place_in : Completion → ℕ
place_in x = x.id % depth

-- what a completion of the receiver with status 0 makes due
abbrev pub received : Completion → WcKind → Option Due
received x wc_kind.Recv = Some (due.CopyMessage (connection_of x.qp) (place_in x) x.length)
received x wc_kind.Read = Some (due.CopyBody (connection_of x.qp) x.length)
received x k = None

-- a completion of sender n with status 0: a Send of no bytes freed the slot
abbrev pub heard : ℕ → Completion → WcKind → Option Due
heard n x wc_kind.Recv = Some (due.FreeSlot n (place_in x))
heard n x k = None

-- .. of context n
abbrev pub due_of : ℕ → Completion → Option Due
due_of n x = if n == 0 then received x x.kind else heard n x x.kind

-- one more thing is due, or none
abbrev pub owing : Mail → Option Due → Mail
owing m None = m
owing m (Some d) = record m { owed = m.owed ++ d ∷ [] }

-- the end of a completion with an error has ended
abbrev pub failing : ℕ → Completion → Mail → Mail
failing n x m = if n == 0 then with_channel m (connection_of x.qp) (ending AtReceiver) else with_channel m n (ending AtSender)

-- a completion of context n was polled
abbrev pub noting : ℕ → Mail → Completion → Mail
noting n m x = if is_success x.status then owing m (due_of n x) else failing n x m

-- all of them, before anything is done for one
unfoldable pub noting_all : ℕ → Mail → List Completion → Mail
noting_all n m [] = m
noting_all n m (x ∷ xs) = noting_all n (noting n m x) xs

-- ---- one step, and all of them

-- work under way: the context that is polled next, where nothing is due; it is past the last one at the end
pub record Working : Type 0 where
  pub mail : Mail
  pub next : ℕ

-- work begins with the receiver
abbrev pub begun : Mail → Working
begun m = record { mail = m; next = 0 }

-- a context was polled: it is polled again, until the answer is empty
abbrev pub heard_of : ℕ → Mail → List Completion → Working
heard_of n m [] = record { mail = m; next = n + 1 }
heard_of n m (x ∷ xs) = record { mail = noting_all n m (x ∷ xs); next = n }

abbrev pub polled : ℕ → Asked → Working
polled n a = heard_of n a.mail (entries_in a.answer)

-- the context that a thing is due in
abbrev pub context_of : Due → ℕ
context_of (due.CopyMessage i place length) = 0
context_of (due.Repost i place fetch) = 0
context_of (due.PostRead i fetch) = 0
context_of (due.CopyBody i length) = 0
context_of (due.PostFree i) = 0
context_of (due.FreeSlot i place) = i
context_of (due.RepostAtSender i place) = i

-- it can be done now: its context is not carried
abbrev pub may_be_done : World → Due → Bool
may_be_done w d = not (is_away w (context_of d))

-- the thing at a place of the list is done, where one is there
abbrev pub doing_at : Working → ℕ → Option Due → Working
doing_at w k None = w
doing_at w k (Some d) = record w { mail = doing w.mail k d }

-- the next context is polled, and None where all were
abbrev pub polling : Working → Option Working
polling w = if nat_lt (length w.mail.channels) w.next then None else Some (polled w.next (asking w.mail (poll_event w.next)))

-- the first thing that can be done is done; where there is none, a context is polled
abbrev pub stepping : Working → Option ℕ → Option Working
stepping w (Some k) = Some (doing_at w k (slice_get w.mail.owed k))
stepping w None = polling w

-- one step; None where there is nothing to do now
unfoldable pub work_step : Working → Option Working
work_step w = stepping w (position (may_be_done w.mail.world) w.mail.owed)

-- so many steps, or all that there are
unfoldable pub worked : ℕ → Working → Working
worked zero w = w
worked (suc n) w = (elim (work_step w) [
  | None ↦ w
  | Some v ↦ worked n v
])

-- steps of one call at most; they are never used up
abbrev pub most_steps : ℕ
most_steps = 65536

-- the contexts are polled, the receiver first and then the senders, each until its queue is empty
unfoldable pub working : Mail → Mail
working m = (worked most_steps (begun m)).mail
