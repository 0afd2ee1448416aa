-- What has arrived of the letters that are open, and what is given of it.
use Rattle.std.specs.Prelude.{ℕ, ◌≡◌, ◌<◌, ◌↔◌, List, [], ◌∷◌, map, slice_get, Bool, true, not, nat_lt, ◌||◌, All, Option, Some, None, if◌then◌else◌}
use Rattle.mailbox_rules.specs.declared.letters.Arrival.{Arrival}
use Rattle.mailbox_rules.specs.declared.letters.Letter.{Letter}
use Rattle.mailbox_rules.specs.Calls.{Gives, takes}
use Rattle.mailbox_rules.specs.Histories.{Placed, Turn, fetched_before, first_wanted, placed_letters, sent_letters, without_first}
use Rattle.mailbox_rules.specs.Letters.{is_rendezvous}
use Rattle.mailbox_rules.specs.State.{Channel, Mail, channel, is_sender}
use Rattle.mailbox_rules.specs.Theorem.{IsAwaited, IsFirstOpen}

-- ---- open letters

-- places rise
abbrev pub AreRising : List Placed → Type 0
AreRising [] = Unit {0}
AreRising (x ∷ xs) = All (λ y. x.place < y.place) xs × AreRising xs

-- open letters are among those that were sent: each is the one of its place, and they stand in the order of their sending
pub record AreOpen (sent : List Letter) (open' : List Placed) : Type 0 where
  pub there : All (λ x. slice_get sent x.place ≡ Some x.letter) open'
  pub rising : AreRising open'

-- the open letters after any turns were sent in these turns
abbrev pub OpenLettersWereSent : Type 0
OpenLettersWereSent = (i : ℕ) (ts : List Turn) → AreOpen (sent_letters i ts) (placed_letters i ts)

-- ---- what has arrived of them

-- the body of a letter is here: it came in its message, or it was fetched
abbrev pub is_here : ℕ → List Letter → Placed → Bool
is_here reads sent x = not (is_rendezvous x.letter.body) || nat_lt (fetched_before x.place sent) reads

-- a letter as it stands at the receiver, once its message was copied and so many bodies were fetched
abbrev pub arrival_at : ℕ → List Letter → Placed → Arrival
arrival_at reads sent x = record { tag = x.letter.tag; body = if is_here reads sent x then Some x.letter.body else None }

-- those in front whose places are below a number
abbrev pub in_front : ℕ → List Placed → List Placed
in_front n [] = []
in_front n (x ∷ xs) = if nat_lt x.place n then x ∷ in_front n xs else []

-- what has arrived and was not taken are the open letters whose messages were copied, in order
abbrev pub HasArrived : Channel → List Letter → List Placed → Type 0
HasArrived c sent open' = c.arrived ≡ map (arrival_at c.reads sent) (in_front c.receives open')

-- ---- what is given of it

-- what `take` answers, where work is done, and what it leaves
pub record IsTaken (m : Mail) (i : ℕ) (sent : List Letter) (open' : List Placed) (tag : Option ℕ) : Type 0 where
  pub whole : (l : Letter) → (takes m i tag).reply ≡ Gives (Some l) → IsFirstOpen l (first_wanted tag open')
  pub none : ((takes m i tag).reply ≡ Gives None) ↔ IsAwaited (channel m i) sent (first_wanted tag open')
  pub gone : (l : Letter) → (takes m i tag).reply ≡ Gives (Some l) → HasArrived (channel (takes m i tag).mail i) sent (without_first tag open')
  pub stays : (takes m i tag).reply ≡ Gives None → (takes m i tag).mail ≡ m

-- a letter that is taken is the first open one with the asked tag, and whole; none is given exactly where its bytes are not here
abbrev pub LettersAreGiven : Type 0
LettersAreGiven = (m : Mail) (i : ℕ) (sent : List Letter) (open' : List Placed) (tag : Option ℕ) →
    is_sender m i ≡ true → AreOpen sent open' → HasArrived (channel m i) sent open' → IsTaken m i sent open' tag
