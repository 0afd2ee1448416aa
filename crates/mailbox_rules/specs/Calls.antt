-- The calls on letters: what each answers and leaves (this project's choice).
use Rattle.std.specs.Prelude.{ℕ, ◌==◌, ◌&&◌, ◌||◌, not, Bool, true, false, List, [], ◌∷◌, ◌++◌, length, slice_get, Option, Some, None, nat_le, nat_lt, if◌then◌else◌}
use Rattle.std.specs.List.{position, remove}
use Rattle.rdma_types.specs.declared.answers.Answer.{Answer}
use Rattle.rdma_types.specs.declared.answers.EndView.{EndView}
use Rattle.rdma_types.specs.declared.answers.UnfinishedReason.{UnfinishedReason}
use Rattle.rdma_types.specs.declared.names.ObjName.{ObjName}
use Rattle.rdma_types.specs.declared.requests.Kind.TheVariants as kind
use Rattle.rdma_types.specs.Limits.{most_bytes}
use Rattle.protocol.specs.declared.events.Event.{Event}
use Rattle.protocol.specs.declared.events.Event.TheVariants as event
use Rattle.protocol.specs.declared.events.WorldEvent.{WorldEvent}
use Rattle.protocol.specs.declared.events.WorldEvent.TheVariants as world_event
use Rattle.protocol.specs.Readers.{world_end_view}
use Rattle.protocol.specs.Settle.{Settled, settled, unfinished}
use Rattle.protocol.specs.State.{World}
use Rattle.protocol.specs.WorldStep.{Step, world_step}
use Rattle.mailbox_rules.specs.declared.due.Side.TheVariants.{AtSender}
use Rattle.mailbox_rules.specs.declared.faults.MailFault.{MailFault}
use Rattle.mailbox_rules.specs.declared.faults.MailFault.TheVariants as fault
use Rattle.mailbox_rules.specs.declared.letters.Arrival.{Arrival}
use Rattle.mailbox_rules.specs.declared.letters.Header.{Header}
use Rattle.mailbox_rules.specs.declared.letters.Letter.{Letter}
use Rattle.mailbox_rules.specs.Letters.{header_bytes, is_rendezvous}
use Rattle.mailbox_rules.specs.Opening.{depth, sender, sender_end, sender_key, sender_region, sender_remote_key, slot_address, staging_address}
use Rattle.mailbox_rules.specs.State.{Channel, Mail, channel, is_away, is_sender, with_channel, with_world}
use Rattle.mailbox_rules.specs.Working.{Asked, asking, is_too_many, posted, request, working}

-- a call, after `make`
pub data Call : Type 0 where
  Send : (from tag : ℕ) → (body : List ℕ) → Call
  Take : (from : ℕ) → (tag : Option ℕ) → Call
  Work : Call
  Network : (event : WorldEvent) → Call
  Settle : Call

-- what it answers, where it does not run out of memory
pub data Reply : Type 0 where
  IsSent : Reply  -- the letter is sent
  Gives : (letter : Option Letter) → Reply  -- a letter, or none
  IsWorked : Reply
  Answers : (answer : Answer) → Reply  -- what the network's event is answered
  IsQuiet : (rounds : ℕ) → (left : List (ObjName × UnfinishedReason)) → Reply
  Refused : (why : MailFault) → Reply

-- what holds after a call, and what it answers
pub record After : Type 0 where
  pub mail : Mail
  pub reply : Reply

-- both
abbrev pub replies : Mail → Reply → After
replies m r = record { mail = m; reply = r }

-- refused, or what the call does
abbrev pub by_fault : Mail → Option MailFault → After → After
by_fault m (Some f) a = replies m (Refused f)
by_fault m None a = a

-- ---- send

-- untold requests of an end, as its view tells
abbrev pub untold_in : Option EndView → ℕ
untold_in None = 0
untold_in (Some v) = v.untold

-- requests of a sender's end that are not told
abbrev pub untold_at : World → ℕ → ℕ
untold_at w i = untold_in (world_end_view w (sender i) 0)

-- the end may have no more requests, or the body needs a slot that is not free
abbrev pub is_full : Mail → ℕ → List ℕ → Bool
is_full m i body = nat_le depth (untold_at m.world i) || (is_rendezvous body && (channel m i).slot_in_use)

-- why a letter is refused, after work
abbrev pub send_fault : Mail → ℕ → List ℕ → Option MailFault
send_fault m i body =
    if not (is_sender m i) then Some fault.NoSender
    else if nat_lt most_bytes (length body) then Some fault.TooLong
    else if is_away m.world i then Some fault.Moving
    else if (channel m i).sender_ended then Some fault.Ended
    else if is_full m i body then Some fault.Full
    else None

-- bytes in a sender's region
abbrev pub storing : Mail → ℕ → ℕ → List ℕ → Mail
storing m i address bytes = (asking m (event.Store (sender_region i) address bytes)).mail

-- the header of a letter
abbrev pub header_for : ℕ → Letter → Header
header_for i l = record { fetched = is_rendezvous l.body; tag = l.tag; length = length l.body; rkey = if is_rendezvous l.body then sender_remote_key i else 0 }

-- the bytes of a letter's Send: the header, and behind it the body, unless that is fetched
abbrev pub message_of : ℕ → Letter → List ℕ
message_of i l = header_bytes (header_for i l) ++ (if is_rendezvous l.body then [] else l.body)

-- the body of a rendezvous is stored in the slot
abbrev pub slotted : Mail → ℕ → Letter → Mail
slotted m i l = if is_rendezvous l.body then storing m i slot_address l.body else m

-- .. and the message in the staging bytes
abbrev pub staged : Mail → ℕ → Letter → Mail
staged m i l = storing (slotted m i l) i staging_address (message_of i l)

-- the Send of a letter's message of so many bytes
abbrev pub send_event : ℕ → ℕ → Event
send_event i length = event.PostSend (sender_end i) (request kind.Send (sender_key i) staging_address length 0 0)

-- one more letter is sent
abbrev pub sending : Letter → Channel → Channel
sending l c = record c { slot_in_use = c.slot_in_use || is_rendezvous l.body }

-- after the posting; one that was refused, since the packet numbers are used up, ends the end, and the letter is not sent
abbrev pub sent_by : ℕ → Letter → Asked → After
sent_by i l a =
    if is_too_many a.answer
    then replies (posted a AtSender i) (Refused fault.Ended)
    else replies (with_channel (posted a AtSender i) i (sending l)) IsSent

-- the letter is stored and its Send posted
unfoldable pub posts_letter : Mail → ℕ → Letter → After
posts_letter m i l = sent_by i l (asking (staged m i l) (send_event i (length (message_of i l))))

-- a letter is sent, after work
unfoldable pub sends : Mail → ℕ → Letter → After
sends m i l = by_fault m (send_fault m i l.body) (posts_letter m i l)

-- ---- take

-- the asked tag, or any
abbrev pub is_asked : Option ℕ → ℕ → Bool
is_asked None tag = true
is_asked (Some t) tag = t == tag

-- an arrival is taken
abbrev pub taking : ℕ → Channel → Channel
taking k c = record c { arrived = remove c.arrived k }

-- a body that is here is given, with the tag that arrived with it
abbrev pub gives_body : Mail → ℕ → ℕ → ℕ → Option (List ℕ) → After
gives_body m i k tag None = replies m (Gives None)
gives_body m i k tag (Some body) = replies (with_channel m i (taking k)) (Gives (Some (record { tag = tag; body = body })))

-- the arrival at a place is given
abbrev pub gives_at : Mail → ℕ → ℕ → Option Arrival → After
gives_at m i k None = replies m (Gives None)
gives_at m i k (Some a) = gives_body m i k a.tag a.body

-- .. at the first place with an asked tag
abbrev pub gives : Mail → ℕ → Option ℕ → After
gives m i None = replies m (Gives None)
gives m i (Some k) = gives_at m i k (slice_get (channel m i).arrived k)

-- where the first arrival with an asked tag is
abbrev pub first_asked : Mail → ℕ → Option ℕ → Option ℕ
first_asked m i t = position (λ a. is_asked t a.tag) (channel m i).arrived

-- a letter is taken, after work
unfoldable pub takes : Mail → ℕ → Option ℕ → After
takes m i t = by_fault m (if is_sender m i then None else Some fault.NoSender) (gives m i (first_asked m i t))

-- ---- network and settle

-- a transmission, an expiry or the end of an RNR timer
abbrev pub is_turn : Event → Bool
is_turn (event.Transmit o) = true
is_turn (event.Expire o) = true
is_turn (event.RnrOver o) = true
is_turn e = false

-- an event that the network may have
abbrev pub is_of_network : WorldEvent → Bool
is_of_network (world_event.Deliver k) = true
is_of_network (world_event.Lose k) = true
is_of_network (world_event.Wire k) = true
is_of_network (world_event.Stop n) = true
is_of_network (world_event.Restore n k) = true
is_of_network (world_event.Release n k) = true
is_of_network (world_event.At e) = is_turn e
is_of_network e = false

-- the answer of the world
abbrev pub answers_by : Mail → Step → After
answers_by m s = replies (with_world m s.world) (Answers s.answer)

-- an event of the network
unfoldable pub networks : Mail → WorldEvent → After
networks m e = by_fault m (if is_of_network e then None else Some fault.NotNetwork) (answers_by m (world_step m.world e))

-- the settled world
abbrev pub quiet_by : Mail → Settled → After
quiet_by m s = replies (with_world m s.world) (IsQuiet s.rounds (unfinished s.world))

-- the world settles
unfoldable pub settles : Mail → After
settles m = quiet_by m (settled m.world)

-- ---- the table

-- one call
unfoldable pub calls : Mail → Call → After
calls m (Send from tag body) = sends (working m) from (record { tag = tag; body = body })
calls m (Take from tag) = takes (working m) from tag
calls m Work = replies (working m) IsWorked
calls m (Network e) = networks m e
calls m Settle = settles m

-- ---- runs

-- `settle` and `work`, three times
abbrev pub settled_thrice : List Call
settled_thrice = Settle ∷ Work ∷ Settle ∷ Work ∷ Settle ∷ Work ∷ []

-- what holds after a list of calls
unfoldable pub after : Mail → List Call → Mail
after m [] = m
after m (c ∷ cs) = after (calls m c).mail cs

-- what they answer
unfoldable pub replies_of : Mail → List Call → List Reply
replies_of m [] = []
replies_of m (c ∷ cs) = let a = calls m c in a.reply ∷ replies_of a.mail cs
