-- What three rounds of settling and work leave of one connection, where no Read and no Send of no bytes is refused.
use Rattle.std.specs.Prelude.{ℕ, ◌≡◌, ◌≤◌, ◌+◌, List, [], ◌∷◌, ◌++◌, length, Bool, true, false, ◌⊎◌}
use Rattle.rdma_types.specs.declared.requests.Receive.{Receive}
use Rattle.mailbox_rules.specs.declared.due.Due.{Due}
use Rattle.mailbox_rules.specs.declared.letters.Letter.{Letter}
use Rattle.mailbox_rules.specs.Histories.{fetched_before}
use Rattle.law_mailbox.specs.Arrived.{AreOpen}
use Rattle.law_mailbox.specs.Kept.{Sight, bodies, copies, fetches, frees, frees_in, long_letters, pending, reads_in, slots}
use Rattle.law_mailbox.specs.Moves.{MovesTo}
use Rattle.law_mailbox.specs.Works.{FetchesNot, FreePostsNot, IsKeptLine, Line, WorksTo}

-- ---- all is posted

-- unless the receiver's end has ended, or counts as ended: a Read is posted for each long letter that was copied, or due to be; and a
-- Send of no bytes for each body that was copied, or due to be. The bounds of what is kept are met
pub record AreAllPosted (posted : ℕ) (ended flagged : Bool) (fetches frees receives reads : ℕ) (sent : List Letter) : Type 0 where
  pub reads_all : ended ≡ false → flagged ≡ false → reads_in posted + fetches ≡ fetched_before receives sent
  pub frees_all : ended ≡ false → flagged ≡ false → frees_in posted + frees ≡ reads

-- .. as a connection is seen
abbrev pub IsPostedLine : ℕ → Line → Type 0
IsPostedLine i x = AreAllPosted (length x.sight.receiver.posted) x.sight.receiver.ended x.channel.receiver_ended (length (fetches i x.sight.dues)) (length (frees i x.sight.dues)) x.channel.receives x.channel.reads x.sent

-- a connection once an inner step of the machine was made
abbrev pub with_sight : Line → Sight → Line
with_sight x s = record x { sight = s }

-- moves keep it
abbrev pub MovesKeepPosted : Type 0
MovesKeepPosted = (i : ℕ) (x : Line) (s : Sight) → MovesTo i x.sight s → IsPostedLine i x → IsPostedLine i (with_sight x s)

-- the receiver's end has ended, or counts as ended
abbrev pub IsOver : Line → Type 0
IsOver x = (x.sight.receiver.ended ≡ true) ⊎ (x.channel.receiver_ended ≡ true)

-- a Read or a Send of no bytes that was due and is not posted was due at an end that is over
abbrev pub PostsUnlessOver : (i : ℕ) (x : Line) {x' : Line} → WorksTo i x x' → Type 0
PostsUnlessOver i x (FetchesNot f ds is) = IsOver x
PostsUnlessOver i x (FreePostsNot ds is) = IsOver x
PostsUnlessOver i x other = Unit {0}

-- so work and letters that are sent keep it
abbrev pub WorkKeepsPosted : Type 0
WorkKeepsPosted = (i : ℕ) (x x' : Line) (w : WorksTo i x x') → i ≤ 8 → AreOpen x.sent x.open' → PostsUnlessOver i x w → IsKeptLine i x → IsPostedLine i x → IsPostedLine i x'

-- ---- what never goes back

-- how far a connection came: the letters that were sent, the messages and bodies that were copied, the Sends that acted, the requests of
-- the receiver's end that were posted, acted and were told, and which ends have ended or count as ended
pub record Reach : Type 0 where
  pub sent : List Letter
  pub receives : ℕ
  pub reads : ℕ
  pub sends : ℕ
  pub posted : ℕ
  pub acted : ℕ
  pub told : ℕ
  pub sender_ended : Bool
  pub receiver_ended : Bool
  pub flagged : Bool

abbrev pub reach_of : Line → Reach
reach_of x = record {
  sent = x.sent;
  receives = x.channel.receives;
  reads = x.channel.reads;
  sends = x.sight.sender.acted;
  posted = length x.sight.receiver.posted;
  acted = x.sight.receiver.acted;
  told = x.sight.receiver.told;
  sender_ended = x.sight.sender.ended;
  receiver_ended = x.sight.receiver.ended;
  flagged = x.channel.receiver_ended;
}

-- it came no less far, no letter was sent, and an end that lives has lived
pub record IsBeyond (r s : Reach) : Type 0 where
  pub same_sent : s.sent ≡ r.sent
  pub more_receives : r.receives ≤ s.receives
  pub more_reads : r.reads ≤ s.reads
  pub more_sends : r.sends ≤ s.sends
  pub more_posted : r.posted ≤ s.posted
  pub more_acted : r.acted ≤ s.acted
  pub more_told : r.told ≤ s.told
  pub sender_lived : s.sender_ended ≡ false → r.sender_ended ≡ false
  pub receiver_lived : s.receiver_ended ≡ false → r.receiver_ended ≡ false
  pub unflagged : s.flagged ≡ false → r.flagged ≡ false

abbrev pub IsAhead : Line → Line → Type 0
IsAhead x x' = IsBeyond (reach_of x) (reach_of x')

-- moves go ahead
abbrev pub MovesAreAhead : Type 0
MovesAreAhead = (i : ℕ) (x : Line) (s : Sight) → MovesTo i x.sight s → IsKeptLine i x → IsAhead x (with_sight x s)

-- ---- work

-- what a step of work changes of one connection
pub data WorksOn (i : ℕ) (x : Line) : Line → Type 0 where
  -- one thing that is due was done
  Does : {x' : Line} (w : WorksTo i x x') → x'.sent ≡ x.sent → PostsUnlessOver i x w → WorksOn i x x'
  -- completions were polled, or something was done elsewhere
  Turns : (ds : List Due) → pending i ds ≡ pending i x.sight.dues → WorksOn i x (record x { sight = record x.sight { dues = ds } })
  -- an end counts as ended
  Flags : (at_receiver at_sender : Bool) → (at_receiver ≡ false → x.channel.receiver_ended ≡ false) → (at_sender ≡ false → x.channel.sender_ended ≡ false) →
      WorksOn i x (record x { channel = record x.channel { receiver_ended = at_receiver; sender_ended = at_sender } })
  -- a receive of the sender's end is posted
  SenderPosts : (v : Receive) → WorksOn i x (record x { sight = record x.sight { sender = record x.sight.sender { unused = x.sight.sender.unused ++ v ∷ [] } } })

-- such steps one after the other
pub data Works (i : ℕ) (x : Line) : Line → Type 0 where
  Rests : Works i x x
  Worked : {x' x'' : Line} → Works i x x' → WorksOn i x' x'' → Works i x x''

-- what is true after it
pub record IsWorkedOn (i : ℕ) (x x' : Line) : Type 0 where
  pub kept : IsKeptLine i x'
  pub posted : IsPostedLine i x'
  pub ahead : IsAhead x x'

-- work keeps what is true, and goes ahead
abbrev pub WorksGoAhead : Type 0
WorksGoAhead = (i : ℕ) (x x' : Line) → i ≤ 8 → AreOpen x.sent x.open' → Works i x x' → IsKeptLine i x → IsPostedLine i x → IsWorkedOn i x x'

-- ---- three rounds

-- a settling that leaves nothing leads from x to a, and work that leaves nothing due at the receiver from a to b
pub record IsRound (i : ℕ) (x a b : Line) : Type 0 where
  pub settled : IsAhead x a
  pub kept : IsKeptLine i a
  pub sends_told : a.sight.sender.acted ≡ length a.sight.sender.posted
  pub all_told : a.sight.receiver.told ≡ length a.sight.receiver.posted
  pub worked : IsWorkedOn i a b
  pub copied : copies i b.sight.dues ≡ []
  pub fetched : fetches i b.sight.dues ≡ []
  pub filled : bodies i b.sight.dues ≡ []
  pub freed : frees i b.sight.dues ≡ []

-- all messages and all bodies are copied, and the slot is free where nothing is due at the sender
pub record IsAllCopied (i : ℕ) (x : Line) : Type 0 where
  pub receives_all : x.channel.receives ≡ length x.sent
  pub reads_all : x.channel.reads ≡ length (long_letters x.sent)
  pub slot_free : slots i x.sight.dues ≡ [] → x.channel.slot_in_use ≡ false

-- the ends live still, and count as living
pub record IsLive (x : Line) : Type 0 where
  pub sender_lives : x.sight.sender.ended ≡ false
  pub receiver_lives : x.sight.receiver.ended ≡ false
  pub unflagged : x.channel.receiver_ended ≡ false

-- the first of three rounds copies all messages and posts the Reads, the second copies the bodies and posts the Sends of no bytes, and
-- the third frees the slot
abbrev pub ThreeRoundsAreEnough : Type 0
ThreeRoundsAreEnough = (i : ℕ) (x a b a' b' a'' b'' : Line) → IsRound i x a b → IsRound i b a' b' → IsRound i b' a'' b'' → IsLive b'' → IsAllCopied i b''
