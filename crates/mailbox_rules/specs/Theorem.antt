-- What is claimed of any calls: letters are taken whole, once and in order; None is answered exactly where the bytes are not
-- here; and after settling three times everything is here. The calls are those of the turns `ts`, and `m` is held after them.
use Rattle.std.specs.Prelude.{ℕ, ◌≡◌, ◌<◌, ◌≤◌, ◌↔◌, List, [], ◌∷◌, ◌++◌, Bool, true, false, not, ◌&&◌, ◌||◌, ◌^◌, All, Option, Some, None}
use Rattle.rdma_types.specs.Lists.{some}
use Rattle.protocol.specs.EndWords.{is_in_error}
use Rattle.protocol.specs.Settle.{is_ended_image, live_ends, settled, unfinished}
use Rattle.protocol.specs.State.{World}
use Rattle.mailbox_rules.specs.declared.faults.MailFault.TheVariants as fault
use Rattle.mailbox_rules.specs.declared.letters.Letter.{Letter}
use Rattle.mailbox_rules.specs.Letters.{is_rendezvous}
use Rattle.mailbox_rules.specs.State.{Channel, Mail, channel, is_away, is_sender, made}
use Rattle.mailbox_rules.specs.Working.{working}
use Rattle.mailbox_rules.specs.Calls.{Call, Send, Take, Work, Network, Settle, Reply, Gives, Refused, after, calls, settled_thrice}
use Rattle.mailbox_rules.specs.Histories.{Placed, Turn, fetched_before, first_wanted, placed_letters, sent_letters}
use Rattle.mailbox_rules.specs.Wanting.{IsCut}

-- ---- what is held after calls

-- the arguments of a call are in the ranges of their types
abbrev pub MayBeCalled : Call → Type 0
MayBeCalled (Send from tag body) = (tag < 2 ^ 32) × All (λ b. b < 256) body
MayBeCalled (Take from tag) = Unit {0}
MayBeCalled Work = Unit {0}
MayBeCalled (Network e) = Unit {0}
MayBeCalled Settle = Unit {0}

-- calls lead from a beginning to what is held: those that were answered are the turns, and others ran out of memory
pub data IsReached (begin : Mail) : List Turn → Mail → Type 0 where
  Begins : IsReached begin [] begin
  Replied : {ts : List Turn} {m : Mail} (c : Call) → MayBeCalled c → IsReached begin ts m → IsReached begin (ts ++ record { call = c; reply = (calls m c).reply } ∷ []) (calls m c).mail
  WasCut : {ts : List Turn} {m m' : Mail} (c : Call) → MayBeCalled c → IsReached begin ts m → IsCut m c m' → IsReached begin ts m'

-- ---- a letter that is taken

-- the first open letter with an asked tag is that letter
pub record IsFirstOpen (l : Letter) (first : Option Placed) : Type 0 where
  pub open_letter : Placed
  pub is_first : first ≡ Some open_letter
  pub is_whole : open_letter.letter ≡ l

-- a letter that is taken is whole: it is the first open letter with the asked tag
abbrev pub TakesFirstWhole : Mail → List Turn → Type 0
TakesFirstWhole m ts = (i : ℕ) (tag : Option ℕ) (l : Letter) → (calls m (Take i tag)).reply ≡ Gives (Some l) → IsFirstOpen l (first_wanted tag (placed_letters i ts))

-- ---- no letter

-- the bytes of a letter are here: its receive, and where it is fetched its Read too, completed with status 0, and what landed was
-- copied, so that completion does not stand in the queue of a carried context
pub record IsLanded (c : Channel) (sent : List Letter) (x : Placed) : Type 0 where
  pub received : x.place < c.receives
  pub fetched : is_rendezvous x.letter.body ≡ true → fetched_before x.place sent < c.reads

-- there is no such letter, or its bytes are not here
abbrev pub IsAwaited : Channel → List Letter → Option Placed → Type 0
IsAwaited c sent None = Unit {0}
IsAwaited c sent (Some x) = IsLanded c sent x → ⊥

-- `take` answers no letter exactly where, after its work, the first open letter with the asked tag is not there or its bytes
-- are not here
abbrev pub NoneExactlyWhere : Mail → List Turn → Type 0
NoneExactlyWhere m ts = (i : ℕ) (tag : Option ℕ) → is_sender m i ≡ true →
    ((calls m (Take i tag)).reply ≡ Gives None) ↔ IsAwaited (channel (working m) i) (sent_letters i ts) (first_wanted tag (placed_letters i ts))

-- ---- after settling

-- a settling leaves nothing
abbrev pub LeavesNothing : Mail → Type 0
LeavesNothing m = unfinished (settled m.world).world ≡ []

-- some end of the world is in Error, live or carried
abbrev pub is_some_end_in_error : World → Bool
is_some_end_in_error w = some (λ e. is_in_error e.link) (live_ends w) || some (λ c. some is_ended_image c.ends) w.carried

-- no completion with an error was polled
abbrev pub has_no_ended : Channel → Bool
has_no_ended c = not c.receiver_ended && not c.sender_ended

-- each of the three settlings leaves nothing, and then the receiver is not carried and no end is ended: none is in Error, nor
-- was one's posting refused since its packet numbers are used up
pub record IsCalm (m : Mail) : Type 0 where
  pub first : LeavesNothing m
  pub second : LeavesNothing (after m (Settle ∷ Work ∷ []))
  pub third : LeavesNothing (after m (Settle ∷ Work ∷ Settle ∷ Work ∷ []))
  pub receiver_lives : is_away (after m settled_thrice).world 0 ≡ false
  pub none_in_error : is_some_end_in_error (after m settled_thrice).world ≡ false
  pub none_ended : All (λ c. has_no_ended c ≡ true) (after m settled_thrice).channels

-- that letter, or none, is given
abbrev pub IsGiven : Option Placed → Reply → Type 0
IsGiven None r = r ≡ Gives None
IsGiven (Some x) r = r ≡ Gives (Some x.letter)

-- each open letter that is asked for is given, and no letter is refused since an end or a slot is full
pub record AllIsHere (m : Mail) (ts : List Turn) : Type 0 where
  pub given : (i : ℕ) (tag : Option ℕ) → is_sender m i ≡ true → IsGiven (first_wanted tag (placed_letters i ts)) (calls m (Take i tag)).reply
  pub room : (i tag : ℕ) (body : List ℕ) → (calls m (Send i tag body)).reply ≡ Refused fault.Full → ⊥

-- after `settle` and `work` three times, which open and close no letter, everything is here
abbrev pub AllTakenAfterSettling : Mail → List Turn → Type 0
AllTakenAfterSettling m ts = IsCalm m → AllIsHere (after m settled_thrice) ts

-- ---- the whole

-- the three
pub record AreLettersKept (m : Mail) (ts : List Turn) : Type 0 where
  pub whole : TakesFirstWhole m ts
  pub none : NoneExactlyWhere m ts
  pub all : AllTakenAfterSettling m ts

-- the theorem on letters: after any calls from a beginning with 1 to 8 senders
abbrev pub LettersAreKept : Type 0
LettersAreKept = (peers : ℕ) (ts : List Turn) (m : Mail) → 1 ≤ peers → peers ≤ 8 → IsReached (made peers) ts m → AreLettersKept m ts
