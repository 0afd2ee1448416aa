-- What the parts of a call do, where the world keeps the last datagrams.
use Rattle.std.specs.Prelude.{ℕ, ◌≡◌, ◌-◌, ◌==◌, ◌||◌, Bool, List, [], ◌++◌, Option, Some, None, slice_get, if◌then◌else◌}
use Rattle.std.specs.List.{position}
use Rattle.rdma_types.specs.declared.answers.Answer.{Answer}
use Rattle.rdma_types.specs.declared.answers.UnfinishedReason.{UnfinishedReason}
use Rattle.rdma_types.specs.declared.names.ObjName.{ObjName}
use Rattle.rdma_types.specs.declared.requests.Completion.{Completion}
use Rattle.protocol.specs.declared.events.Event.{Event}
use Rattle.protocol.specs.declared.events.WorldEvent.{WorldEvent}
use Rattle.protocol.specs.declared.events.WorldEvent.TheVariants as world_event
use Rattle.protocol.specs.Settle.{settled, unfinished}
use Rattle.protocol.specs.State.{World}
use Rattle.protocol.specs.WorldStep.{world_after, world_step}
use Rattle.law_kept_datagrams.specs.Alike.{with_kept_datagrams}
use Rattle.mailbox_rules.specs.declared.due.Due.{Due}
use Rattle.mailbox_rules.specs.declared.due.Due.TheVariants as due
use Rattle.mailbox_rules.specs.declared.due.Fetch.{Fetch}
use Rattle.mailbox_rules.specs.declared.due.Side.TheVariants.{AtReceiver, AtSender}
use Rattle.mailbox_rules.specs.declared.letters.Arrival.{Arrival}
use Rattle.mailbox_rules.specs.declared.letters.Letter.{Letter}
use Rattle.mailbox_rules.specs.declared.letters.Header.{Header}
use Rattle.mailbox_rules.specs.Letters.{header_bytes, header_of}
use Rattle.mailbox_rules.specs.Opening.{connection_of, landing_address, place_address, receiver_receives, sender_receives}
use Rattle.mailbox_rules.specs.State.{Channel, Mail, ending, with_channel, with_there}
use Rattle.mailbox_rules.specs.Working.{Asked, Working, arriving, begun, bytes_in, fetch_of, asking, filling, free_event, freeing, is_too_many, loads, posted, posting, read_due, read_event, worked}
use Rattle.mailbox_rules.specs.Calls.{After, IsSent, calls, Refused, Reply, Send, Settle, is_asked, replies, send_event, taking}
use Rattle.mailbox_rules.specs.Wanting.{IsCut, IsPartlyStored}
use Rattle.mailbox_rules.specs.declared.faults.MailFault.{MailFault}
use Rattle.mailbox_rules.specs.declared.faults.MailFault.TheVariants as fault

-- ---- a world that keeps the last datagrams

-- all is the same, but that the world keeps the last datagrams
pub record Shows (v m : Mail) : Type 0 where
  pub world : v.world ≡ with_kept_datagrams m.world
  pub channels : v.channels ≡ m.channels
  pub owed : v.owed ≡ m.owed

-- a context of the world was asked for something
pub record Asks (old new : World) (e : Event) (answer : Answer) (w : World) : Type 0 where
  pub answered : answer ≡ (world_step w (world_event.At e)).answer
  pub left : new ≡ with_kept_datagrams (world_step w (world_event.At e)).world

-- .. of each whole world whose last datagrams it keeps
abbrev pub IsAsked : World → World → Event → Answer → Type 0
IsAsked old new e answer = (w : World) → old ≡ with_kept_datagrams w → Asks old new e answer w

-- these events were made of each such world
abbrev pub IsMadeOf : World → World → List WorldEvent → Type 0
IsMadeOf old new es = (w : World) → old ≡ with_kept_datagrams w → new ≡ with_kept_datagrams (world_after w es)

-- it goes from one state to the next as a rule says
abbrev pub Goes : Mail → Mail → (Mail → Mail) → Type 0
Goes old new f = (m : Mail) → Shows old m → Shows new (f m)

-- ---- one connection

-- connection i of a list is changed, where it is there
abbrev pub changed : List Channel → ℕ → (Channel → Channel) → List Channel
changed cs i change = with_there (slice_get cs (i - 1)) cs i change

-- the end of a completion of context n with an error has ended
abbrev pub failed : List Channel → ℕ → Completion → List Channel
failed cs n x = if n == 0 then changed cs (connection_of x.qp) (ending AtReceiver) else changed cs n (ending AtSender)

-- the bytes that a world answers to a load
abbrev pub loaded : World → Event → List ℕ
loaded w e = bytes_in (world_step w (world_event.At e)).answer

-- bytes were loaded
pub record Loads (old new : World) (e : Event) (bytes : List ℕ) (w : World) : Type 0 where
  pub bytes_are : bytes ≡ loaded w e
  pub left : new ≡ with_kept_datagrams (world_step w (world_event.At e)).world

abbrev pub IsLoaded : World → World → Event → List ℕ → Type 0
IsLoaded old new e bytes = (w : World) → old ≡ with_kept_datagrams w → Loads old new e bytes w

-- a message was copied, and what is then to be fetched
pub record Copies (old new : World) (e : Event) (c c' : Channel) (fetch : Option Fetch) (w : World) : Type 0 where
  pub arrived : c' ≡ arriving (loaded w e) c
  pub fetched : fetch ≡ fetch_of (header_of (loaded w e))
  pub left : new ≡ with_kept_datagrams (world_step w (world_event.At e)).world

abbrev pub IsCopied : World → World → Event → Channel → Channel → Option Fetch → Type 0
IsCopied old new e c c' fetch = (w : World) → old ≡ with_kept_datagrams w → Copies old new e c c' fetch w

-- a body was copied
pub record Fills (old new : World) (e : Event) (c c' : Channel) (w : World) : Type 0 where
  pub filled : c' ≡ filling (loaded w e) c
  pub left : new ≡ with_kept_datagrams (world_step w (world_event.At e)).world

abbrev pub IsFilled : World → World → Event → Channel → Channel → Type 0
IsFilled old new e c c' = (w : World) → old ≡ with_kept_datagrams w → Fills old new e c c' w

-- what a taking leaves, and gives
pub record Given : Type 0 where
  pub channel : Channel
  pub letter : Option Letter

abbrev pub given_body : Channel → ℕ → ℕ → Option (List ℕ) → Given
given_body c k tag None = record { channel = c; letter = None }
given_body c k tag (Some body) = record { channel = taking k c; letter = Some (record { tag = tag; body = body }) }

abbrev pub given_at : Channel → ℕ → Option Arrival → Given
given_at c k None = record { channel = c; letter = None }
given_at c k (Some a) = given_body c k a.tag a.body

abbrev pub given_by : Channel → Option ℕ → Given
given_by c None = record { channel = c; letter = None }
given_by c (Some k) = given_at c k (slice_get c.arrived k)

-- the first arrival with an asked tag, where its body is here
abbrev pub given : Channel → Option ℕ → Given
given c t = given_by c (position (λ a. is_asked t a.tag) c.arrived)

-- ---- work

-- what holds after one thing was done, and what is due in its place
pub record Advanced : Type 0 where
  pub mail : Mail
  pub next : Option Due

abbrev pub then_copied : Asked → ℕ → ℕ → Advanced
then_copied a i place = record { mail = with_channel a.mail i (arriving (bytes_in a.answer)); next = Some (due.Repost i place (fetch_of (header_of (bytes_in a.answer)))) }

abbrev pub then_filled : Asked → ℕ → Advanced
then_filled a i = record { mail = with_channel a.mail i (filling (bytes_in a.answer)); next = Some (due.PostFree i) }

unfoldable pub advanced : Mail → Due → Advanced
advanced m (due.CopyMessage i place length) = then_copied (loads m i (place_address i place) length) i place
advanced m (due.Repost i place fetch) = record { mail = posting m AtReceiver i (receiver_receives i place); next = read_due i fetch }
advanced m (due.PostRead i fetch) = record { mail = posting m AtReceiver i (read_event i fetch); next = None }
advanced m (due.CopyBody i length) = then_filled (loads m i (landing_address i) length) i
advanced m (due.PostFree i) = record { mail = posting m AtReceiver i (free_event i); next = None }
advanced m (due.FreeSlot i place) = record { mail = with_channel m i freeing; next = Some (due.RepostAtSender i place) }
advanced m (due.RepostAtSender i place) = record { mail = posting m AtSender i (sender_receives i place); next = None }

-- .. of each state that is shown
pub record Advances (new : Mail) (next : Option Due) (a : Advanced) : Type 0 where
  pub next_is : next ≡ a.next
  pub shown : Shows new a.mail

abbrev pub IsAdvanced : Mail → Mail → Due → Option Due → Type 0
IsAdvanced old new d next = (m : Mail) → Shows old m → Advances new next (advanced m d)

-- a context was polled
pub record Polls (new : Mail) (n : ℕ) (w : Working) : Type 0 where
  pub next : w.next ≡ n
  pub shown : Shows new w.mail

-- one step of work was made, or there is nothing to do
abbrev pub IsStep : Option Working → Option ℕ → Mail → Mail → Type 0
IsStep (Some v) (Some n) new m = Polls new n v
IsStep None None new m = Shows new m
IsStep (Some v) None new m = ⊥
IsStep None (Some n) new m = ⊥

-- work was cut off after some of its steps
pub record IsPartOfWork (new m : Mail) : Type 0 where
  pub steps : ℕ
  pub shown : Shows new (worked steps (begun m)).mail

-- ---- calls

-- a call is answered so, and leaves this
pub record Replies (new : Mail) (reply : Reply) (a : After) : Type 0 where
  pub reply_is : a.reply ≡ reply
  pub shown : Shows new a.mail

-- one fact where a call ran out of memory, and another where it was refused
abbrev pub ByFault : MailFault → Type 0 → Type 0 → Type 0
ByFault fault.OutOfMemory cut refused = cut
ByFault f cut refused = refused

-- a letter was not sent, since memory ran out: all was done but the posting, or less
pub record IsPartOfSend (new m : Mail) (i : ℕ) (l : Letter) : Type 0 where
  pub mail : Mail
  pub cut : IsCut m (Send i l.tag l.body) mail
  pub shown : Shows new mail

-- a settling was cut off after its first events
pub record IsPartOfSettling (new m : Mail) : Type 0 where
  pub mail : Mail
  pub cut : IsCut m Settle mail
  pub shown : Shows new mail

-- the bytes of a Send: a header, and behind it a body, unless that is fetched
abbrev pub message_with : Header → List ℕ → List ℕ
message_with h body = header_bytes h ++ (if h.fetched then [] else body)

-- after the posting of a letter's Send
abbrev pub sent_after : ℕ → Bool → Asked → After
sent_after i is_stored a =
    if is_too_many a.answer
    then replies (posted a AtSender i) (Refused fault.Ended)
    else replies (with_channel (posted a AtSender i) i (λ c. record c { slot_in_use = c.slot_in_use || is_stored })) IsSent

-- the Send of a message of so many bytes is posted
abbrev pub sent_with : Mail → ℕ → ℕ → Bool → After
sent_with m i length is_stored = sent_after i is_stored (asking m (send_event i length))

-- a letter was stored in part, or all of it
pub record IsStoredOnly (new m : Mail) (i : ℕ) (l : Letter) : Type 0 where
  pub mail : Mail
  pub stored : IsPartlyStored m i l mail
  pub shown : Shows new mail

-- a settling leaves this, and each end that has untold requests is told with its reason
pub record SettlesTo (new : Mail) (left : List (ObjName × UnfinishedReason)) (m : Mail) : Type 0 where
  pub left_is : left ≡ unfinished (settled m.world).world
  pub shown : Shows new (calls m Settle).mail
