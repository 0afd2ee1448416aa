-- What an inner step of the machine changes of what is seen of one connection.
use Rattle.std.specs.Prelude.{All, ℕ, ◌≡◌, ◌≤◌, ◌<◌, ◌+◌, ◌*◌, ◌%◌, suc, List, [], ◌∷◌, ◌++◌, length, slice_get, Bool, true, false, Option, Some, None}
use Rattle.rdma_types.specs.declared.requests.Receive.{Receive}
use Rattle.rdma_types.specs.Kinds.{size_of}
use Rattle.rdma_types.specs.Memory.{cut, put}
use Rattle.packetless_machine.specs.declared.reply.Reply.{Reply}
use Rattle.packetless_machine.specs.Machine.{Offered, posted_at}
use Rattle.packetless_machine.specs.Steps.{current, first_receive, unused_after}
use Rattle.mailbox_rules.specs.declared.due.Due.{Due}
use Rattle.mailbox_rules.specs.declared.letters.Letter.{Letter}
use Rattle.mailbox_rules.specs.Histories.{Placed}
use Rattle.mailbox_rules.specs.Opening.{place_bytes}
use Rattle.mailbox_rules.specs.State.{Channel}
use Rattle.law_mailbox.specs.Kept.{IsKept, IsPlain, Sight, bodies, copies, fetches, frees, landing_offset, reposts, slot_offset, slots}

-- more messages and bodies to be copied and slots to be freed are due on connection i, and else the same
pub record Gains (i : ℕ) (ds ds' : List Due) (copied : List (ℕ × ℕ)) (body slot : List ℕ) : Type 0 where
  pub copied_more : copies i ds' ≡ copies i ds ++ copied
  pub bodies_more : bodies i ds' ≡ bodies i ds ++ body
  pub slots_more : slots i ds' ≡ slots i ds ++ slot
  pub reposts_same : reposts i ds' ≡ reposts i ds
  pub fetches_same : fetches i ds' ≡ fetches i ds
  pub frees_same : frees i ds' ≡ frees i ds

-- the bytes that a Run of the sender's end puts in place
abbrev pub next_of : Sight → ℕ → List ℕ
next_of s n = cut s.sender.into n (current s.sender).payload

-- a Run of so many bytes into this receive
pub record MayRun (s : Sight) (v : Receive) (n : ℕ) : Type 0 where
  pub lives : s.receiver.ended ≡ false
  pub receive : first_receive s.receiver.in_use s.receiver.unused ≡ Some v
  pub turn : s.sender.acted < length s.sender.posted
  pub size : length (next_of s n) ≡ n
  pub fits : s.sender.into + n ≤ place_bytes
  pub inside : place_bytes * v.id + s.sender.into ≤ length s.landed

-- what is seen once a step was made
pub data MovesTo (i : ℕ) (s : Sight) : Sight → Type 0 where
  -- the sender's end is as before but for its owner's side and its receives, or it has ended
  SenderStays : (told known spent waits : ℕ) (answers : List Reply) (dry : List ℕ) (unused : List Receive) (in_use : Option Receive) (ended : Bool) →
      All IsPlain answers → (ended ≡ false → s.sender.ended ≡ false) →
      MovesTo i s (record s { sender = record s.sender { told = told; known = known; spent = spent; waits = waits; answers = answers; dry = dry; unused = unused; in_use = in_use; ended = ended } })
  -- the receiver's end is as before but for its counts of expiries and waits and its replies
  ReceiverStays : (spent waits : ℕ) (answers : List Reply) (dry : List ℕ) → All IsPlain answers →
      MovesTo i s (record s { receiver = record s.receiver { spent = spent; waits = waits; answers = answers; dry = dry } })
  -- more is due on other connections
  OthersGain : (ds : List Due) → Gains i s.dues ds [] [] [] → MovesTo i s (record s { dues = ds })
  -- the receiver's end has ended
  ReceiverEnds : MovesTo i s (record s { receiver = record s.receiver { ended = true; told = length s.receiver.posted; known = 0; spent = 0; waits = 0; unused = []; in_use = None } })
  -- it knows more of an untold Send
  ReceiverKnows : (known : ℕ) → s.receiver.told < length s.receiver.posted → s.receiver.told % 2 ≡ 1 →
      MovesTo i s (record s { receiver = record s.receiver { known = known; spent = 0; waits = 0 } })
  -- its next Read has its turn
  ReadTurns : (answers : List Reply) → All IsPlain answers → s.receiver.acted < length s.receiver.posted → s.receiver.acted % 2 ≡ 0 →
      MovesTo i s (record s { receiver = record s.receiver { acted = suc s.receiver.acted; into = 0; answers = answers } })
  -- its next Send of no bytes acts, and a slot is to be freed
  FreeActs : (answers : List Reply) (place : ℕ) (ds : List Due) → All IsPlain answers → s.receiver.acted < length s.receiver.posted → s.receiver.acted % 2 ≡ 1 → Gains i s.dues ds [] [] (place ∷ []) →
      MovesTo i s (record s { receiver = record s.receiver { acted = suc s.receiver.acted; into = 0; answers = answers }; dues = ds })
  -- bytes of a Read that acted are offered, as they stand
  ReadOffers : (o : Offered) → o.request < s.receiver.acted → o.request % 2 ≡ 0 → o.offset + length o.bytes ≤ size_of (posted_at s.receiver.posted o.request) →
      o.bytes ≡ cut (slot_offset + o.offset) (length o.bytes) s.stored →
      MovesTo i s (record s { receiver = record s.receiver { offers = s.receiver.offers ++ o ∷ [] } })
  -- an offer of the first untold Read lands
  ReadLands : (k : ℕ) (o : Offered) → s.receiver.ended ≡ false → s.receiver.told < length s.receiver.posted → slice_get s.receiver.offers k ≡ Some o → o.request ≡ s.receiver.told → o.offset ≡ s.receiver.known →
      landing_offset + s.receiver.known ≤ length s.landed →
      MovesTo i s (record s { receiver = record s.receiver { known = s.receiver.known + length o.bytes; spent = 0; waits = 0 }; landed = put s.landed (landing_offset + s.receiver.known) o.bytes })
  -- a Read that landed whole is told, and its body is to be copied
  ReadTells : (ds : List Due) → s.receiver.ended ≡ false → s.receiver.told < s.receiver.acted → s.receiver.told % 2 ≡ 0 → s.receiver.known ≡ size_of (posted_at s.receiver.posted s.receiver.told) →
      Gains i s.dues ds [] (size_of (posted_at s.receiver.posted s.receiver.told) ∷ []) [] →
      MovesTo i s (record s { receiver = record s.receiver { told = suc s.receiver.told; known = 0; spent = 0; waits = 0 }; dues = ds })
  -- a Send of no bytes is told
  FreeTells : s.receiver.ended ≡ false → s.receiver.told < s.receiver.acted → s.receiver.told % 2 ≡ 1 →
      MovesTo i s (record s { receiver = record s.receiver { told = suc s.receiver.told; known = 0; spent = 0; waits = 0 } })
  -- more bytes of a message are in place
  PartRuns : (v : Receive) (n : ℕ) → MayRun s v n → s.sender.into + n < size_of (current s.sender) →
      MovesTo i s (record s {
        sender = record s.sender { into = s.sender.into + n };
        receiver = record s.receiver { in_use = Some v; unused = unused_after s.receiver };
        landed = put s.landed (place_bytes * v.id + s.sender.into) (next_of s n);
      })
  -- .. and it is whole, and to be copied
  MessageRuns : (v : Receive) (n : ℕ) (answers : List Reply) (ds : List Due) → All IsPlain answers → MayRun s v n → s.sender.into + n ≡ size_of (current s.sender) → Gains i s.dues ds ((v.id, size_of (current s.sender)) ∷ []) [] [] →
      MovesTo i s (record s {
        sender = record s.sender { acted = suc s.sender.acted; into = 0; answers = answers };
        receiver = record s.receiver { in_use = None; unused = unused_after s.receiver };
        landed = put s.landed (place_bytes * v.id + s.sender.into) (next_of s n);
        dues = ds;
      })

-- each such step keeps what is true of the connection
abbrev pub MovesKeep : Type 0
MovesKeep = (i : ℕ) (s s' : Sight) (c : Channel) (sent : List Letter) (open' : List Placed) → MovesTo i s s' → IsKept i s c sent open' → IsKept i s' c sent open'
