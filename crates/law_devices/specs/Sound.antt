-- What is always true of a device's contexts: the rules that their images keep, said of the contexts themselves (this
-- project's choice).
use Rattle.std.specs.Prelude.{ℕ, ◌≡◌, ◌≢◌, ◌<◌, ◌≤◌, ◌+◌, ◌-◌, ◌/◌, ◌%◌, ◌^◌, ◌⊎◌, Bool, true, false, List, [], length, map, Option, Some, None, All, AllPairs, slice_get, if◌then◌else◌, ⊤}
use Rattle.rdma_types.specs.Spelled.{is_name}
use Rattle.rdma_types.specs.declared.names.Name.{Name}
use Rattle.rdma_types.specs.declared.requests.Completion.{Completion}
use Rattle.rdma_types.specs.declared.requests.Receive.{Receive}
use Rattle.rdma_types.specs.declared.requests.Terms.{Terms}
use Rattle.rdma_types.specs.Kinds.{lands, takes_bytes}
use Rattle.rdma_types.specs.Limits.{AreTerms, most_bytes, most_capacity, most_depth, most_domains, most_ends, most_kept, most_keys, most_numbers, most_queues, most_region_bytes, most_regions, number_limit}
use Rattle.rdma_types.specs.Lists.{has_word}
use Rattle.rdma_types.specs.Memory.{LocalWrite, RemoteWrite, Right, allows, is_granted, landing_right, local_key}
use Rattle.rdma_types.specs.Objects.{CompletionQueue, Posted, Region}
use Rattle.rdma_types.specs.Shapes.{IsLawfulShape}
use Rattle.rdma_types.specs.Spans.{end_number, first_number, piece_at, span_of}
use Rattle.protocol.specs.Requester.{is_inside_read}
use Rattle.protocol.specs.declared.events.Event.{Event}
use Rattle.protocol.specs.declared.events.Event.TheVariants as event
use Rattle.protocol.specs.EndWords.{is_resuming}
use Rattle.protocol.specs.Images.{image_of}
use Rattle.protocol.specs.Lawful.{AreNames, IsLawful, IsLawfulEntry, is_local_key, is_number, is_whole_pieces}
use Rattle.protocol.specs.Refusals.{has_queue, reserved}
use Rattle.protocol.specs.State.{Context, Device, End, InSend, InWrite, Link, NoMessage, Progress, Receiver, Sender, queue_at}

-- ---- regions

-- a region without its bytes: its place, its keys and its rights
abbrev pub plan_of : Region → Region
plan_of r = record r { bytes = [] }

-- the regions without their bytes
abbrev pub plans : List Region → List Region
plans rs = map plan_of rs

-- a region: its domain, its place, its size, its rights, its pair of keys and its bytes
pub record IsSoundRegion (domains : List Name) (r : Region) : Type 0 where
  pub domain : has_word r.domain domains ≡ true
  pub base : r.base ≤ 2 ^ 63
  pub some_bytes : 1 ≤ r.length
  pub few_bytes : r.length ≤ most_region_bytes
  pub rights : r.rights.0 ≤ 15
  pub local : is_local_key r.keys.local ≡ true
  pub remote : r.keys.remote ≡ r.keys.local + 1
  pub whole : length r.bytes ≡ r.length

-- a completion queue: its capacity, and its entries
pub record IsSoundQueue (q : CompletionQueue) : Type 0 where
  pub some_room : 1 ≤ q.capacity
  pub little_room : q.capacity ≤ most_capacity
  pub entries : All IsLawfulEntry q.entries

-- a local place is granted to an end of the domain
abbrev pub IsGrantedTo : List Region → Name → ℕ → ℕ → ℕ → Right → Type 0
IsGrantedTo regions domain lkey at count right = is_granted local_key regions domain lkey at count right ≡ true

-- a receive: its length is in range and its place is granted
pub record IsSoundReceive (regions : List Region) (domain : Name) (r : Receive) : Type 0 where
  pub length' : r.length ≤ most_bytes
  pub granted : IsGrantedTo regions domain r.lkey r.local r.length LocalWrite

-- an untold request: its length is in range, its shape is lawful, its place is granted, and its payload is whole
pub record IsSoundRequest (regions : List Region) (domain : Name) (p : Posted) : Type 0 where
  pub length' : p.request.shape.length ≤ most_bytes
  pub shape : IsLawfulShape p.request.shape
  pub granted : IsGrantedTo regions domain p.request.lkey p.request.local p.request.shape.length (landing_right p.request.shape.kind)
  pub payload : length p.payload ≡ (if takes_bytes p.request.shape.kind then p.request.shape.length else 0)

-- ---- requesters

-- a Read or atomic stands before request i
pub record LandsBefore (ps : List Posted) (i : ℕ) : Type 0 where
  pub j : ℕ
  pub posted : Posted
  pub before : j < i
  pub there : slice_get ps j ≡ Some posted
  pub landing : lands posted.request.shape.kind ≡ true

-- the numbers are in order and within the untold requests; the next is inside a Read only where it is the oldest; and none
-- is sent past a fence that holds
pub record AreSoundNumbers (mtu : ℕ) (untold : List Posted) (first una next top : ℕ) : Type 0 where
  pub first_una : first ≤ una
  pub una_next : una ≤ next
  pub next_top : next ≤ top
  pub top_end : top ≤ first + end_number untold mtu
  pub limit : first + end_number untold mtu < number_limit
  pub whole_reads : una < next → is_inside_read (piece_at untold mtu (next - first)) ≡ false
  pub fenced : (i : ℕ) (p : Posted) → slice_get untold i ≡ Some p → p.request.fence ≡ true → LandsBefore untold i → top ≤ first + first_number untold mtu i

-- the oldest number is of the first untold request
abbrev pub IsInFirst : ℕ → List Posted → ℕ → ℕ → Type 0
IsInFirst mtu untold first una = (p : Posted) → slice_get untold 0 ≡ Some p → una < first + span_of p mtu

-- a requester, also one whose told requests are not handed out yet
pub record IsSoundSender (regions : List Region) (domain : Name) (depth : ℕ) (terms : Terms) (s : Sender) : Type 0 where
  pub fits : length s.untold ≤ depth
  pub requests : All (IsSoundRequest regions domain) s.untold
  pub numbers : AreSoundNumbers terms.mtu s.untold s.first s.una s.next s.top
  pub spent : s.spent ≤ terms.retry
  pub waits : (s.waits ≤ terms.rnr) ⊎ (terms.rnr ≡ 7)

-- ---- responders

-- a SEND in progress: whole pieces of it are done, and they fit its receive
pub record IsSoundSend (regions : List Region) (domain : Name) (mtu done : ℕ) (r : Receive) : Type 0 where
  pub pieces : is_whole_pieces mtu done ≡ true
  pub fits : done ≤ r.length
  pub receive : IsSoundReceive regions domain r

-- a WRITE in progress: whole pieces of it are done and some are not, and a region of the end's domain that a remote end
-- may write holds its whole range
pub record IsSoundWrite (regions : List Region) (domain : Name) (mtu region off length' done : ℕ) : Type 0 where
  pub place : ℕ
  pub written : Region
  pub there : slice_get regions place ≡ Some written
  pub local : written.keys.local ≡ region
  pub domain' : written.domain ≡ domain
  pub right : allows written.rights RemoteWrite ≡ true
  pub inside : off + length' ≤ written.length
  pub few : length' ≤ most_bytes
  pub pieces : is_whole_pieces mtu done ≡ true
  pub unfinished : done < length'

-- no message, a SEND or a WRITE in progress
abbrev pub IsSoundProgress : List Region → Name → ℕ → Progress → Type 0
IsSoundProgress regions domain mtu NoMessage = ⊤
IsSoundProgress regions domain mtu (InSend done receive) = IsSoundSend regions domain mtu done receive
IsSoundProgress regions domain mtu (InWrite region off length' done) = IsSoundWrite regions domain mtu region off length' done

-- a responder
pub record IsSoundReceiver (regions : List Region) (domain : Name) (mtu : ℕ) (r : Receiver) : Type 0 where
  pub expected : r.expected < number_limit
  pub msn : r.msn < 2 ^ 24
  pub in_progress : IsSoundProgress regions domain mtu r.progress
  pub few_kept : length r.kept ≤ most_kept
  pub kept_rise : AllPairs (λ a b. a.number < b.number) r.kept
  pub kept_before : All (λ k. k.number < r.expected) r.kept

-- ---- ends

-- a connected end; in Error it has no work
pub record IsSoundLink (regions : List Region) (domain : Name) (depth : ℕ) (l : Link) : Type 0 where
  pub peer : l.peer < 2 ^ 24
  pub terms : AreTerms l.terms
  pub sender : IsSoundSender regions domain depth l.terms l.sender
  pub oldest : IsInFirst l.terms.mtu l.sender.untold l.sender.first l.sender.una
  pub receiver : IsSoundReceiver regions domain l.terms.mtu l.receiver
  pub no_untold : l.ended ≡ true → l.sender.untold ≡ []
  pub no_message : l.ended ≡ true → l.receiver.progress ≡ NoMessage
  pub not_resuming : l.ended ≡ true → is_resuming l.moving.phase ≡ false

-- never connected, or connected
abbrev pub IsSoundState : List Region → Name → ℕ → Option Link → Type 0
IsSoundState regions domain depth None = ⊤
IsSoundState regions domain depth (Some l) = IsSoundLink regions domain depth l

-- an end in Error has no unused receives
abbrev pub HasNoneInError : Option Link → List Receive → Type 0
HasNoneInError None unused = ⊤
HasNoneInError (Some l) unused = l.ended ≡ true → unused ≡ []

-- a queue pair among regions without their bytes: its number, the things that it names, its depths and its work
pub record IsSoundEnd (domains queues : List Name) (regions : List Region) (e : End) : Type 0 where
  pub number : is_number e.number ≡ true
  pub domain : has_word e.domain domains ≡ true
  pub send_cq : has_word e.send_cq queues ≡ true
  pub recv_cq : has_word e.recv_cq queues ≡ true
  pub some_sends : 1 ≤ e.send_depth
  pub few_sends : e.send_depth ≤ most_depth
  pub some_receives : 1 ≤ e.recv_depth
  pub few_receives : e.recv_depth ≤ most_depth
  pub unused_fit : length e.unused ≤ e.recv_depth
  pub receives : All (IsSoundReceive regions e.domain) e.unused
  pub state : IsSoundState regions e.domain e.send_depth e.link
  pub no_unused : HasNoneInError e.link e.unused

-- ---- contexts

-- the names of completion queues
abbrev pub names_of_queues : List CompletionQueue → List Name
names_of_queues qs = map (λ q. q.name) qs

-- all of a context but that no queue is over its capacity
pub record AreSoundParts (c : Context) : Type 0 where
  pub name : is_name c.name ≡ true
  pub domains : AreNames c.domains most_domains
  pub region_names : AreNames (map (λ r. r.name) c.regions) most_regions
  pub regions : All (IsSoundRegion c.domains) c.regions
  pub keys : AllPairs (λ a b. a ≢ b) (map local_key c.regions)
  pub queue_names : AreNames (names_of_queues c.queues) most_queues
  pub queues : All IsSoundQueue c.queues
  pub end_names : AreNames (map (λ e. e.name) c.ends) most_ends
  pub numbers : AllPairs (λ a b. a ≢ b) (map (λ e. e.number) c.ends)
  pub ends : All (IsSoundEnd c.domains (names_of_queues c.queues) (plans c.regions)) c.ends

-- the entries of a queue and those that are reserved there
abbrev pub load_of : Context → Name → ℕ
load_of c n = length (queue_at c n).entries + reserved c n

-- no queue is over its capacity
abbrev pub IsWithinRoom : Context → Type 0
IsWithinRoom c = (n : Name) → has_queue c n ≡ true → load_of c n ≤ (queue_at c n).capacity

-- a context
pub record IsSoundContext (c : Context) : Type 0 where
  pub parts : AreSoundParts c
  pub room : IsWithinRoom c

-- ---- devices

-- a number of this device is not past its count
abbrev pub IsCounted : ℕ → ℕ → ℕ → ℕ → Type 0
IsCounted id size count n = n / size ≡ id → n % size ≤ count

-- no queue pair number and no pair of keys is past the device's counts
pub record AreCounted (d : Device) (c : Context) : Type 0 where
  pub ends : All (λ e. IsCounted d.id 65536 d.qp_count e.number) c.ends
  pub regions : All (λ r. IsCounted d.id 8388608 d.key_count (r.keys.local / 2)) c.regions

-- a device
pub record IsSoundDevice (d : Device) : Type 0 where
  pub some_id : 1 ≤ d.id
  pub few_ids : d.id ≤ 255
  pub few_numbers : d.qp_count ≤ most_numbers
  pub few_keys : d.key_count ≤ most_keys
  pub contexts : All IsSoundContext d.contexts
  pub counted : All (AreCounted d) d.contexts

-- the image of each context keeps the rules
abbrev pub AreLawfulContexts : Device → Type 0
AreLawfulContexts d = All (λ c. IsLawful (image_of c)) d.contexts

-- ---- events

-- the names that an event gives to new things are names, as their type has it
abbrev pub GivesNames : Event → Type 0
GivesNames (event.MakeContext name) = is_name name ≡ true
GivesNames (event.MakeDomain o) = is_name o.name ≡ true
GivesNames (event.MakeRegion o domain base length' rights) = is_name o.name ≡ true
GivesNames (event.MakeCq o capacity) = is_name o.name ≡ true
GivesNames (event.MakeQp o domain send_cq recv_cq send_depth recv_depth) = is_name o.name ≡ true
GivesNames e = Unit {0}
