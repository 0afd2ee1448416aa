-- Which letters were sent, and which of them are open, as the calls and their answers alone say; no request and no packet is
-- looked at.
use Rattle.std.specs.Prelude.{ℕ, ◌+◌, ◌==◌, Bool, List, [], ◌∷◌, ◌++◌, length, map, count_by, Option, Some, None, take, if◌then◌else◌}
use Rattle.mailbox_rules.specs.declared.letters.Letter.{Letter}
use Rattle.mailbox_rules.specs.Letters.{is_rendezvous}
use Rattle.mailbox_rules.specs.State.{Mail}
use Rattle.mailbox_rules.specs.Calls.{Call, Send, Take, Reply, IsSent, Gives, calls, is_asked}

-- a call with its answer
pub record Turn : Type 0 where
  pub call : Call
  pub reply : Reply

-- the calls with their answers, where none runs out of memory
unfoldable pub turns_of : Mail → List Call → List Turn
turns_of m [] = []
turns_of m (c ∷ cs) = record { call = c; reply = (calls m c).reply } ∷ turns_of (calls m c).mail cs

-- a letter that a turn sent from sender i
abbrev pub sent_by : ℕ → Call → Reply → List Letter
sent_by i (Send from tag body) IsSent = if from == i then record { tag = tag; body = body } ∷ [] else []
sent_by i c r = []

-- the letters of sender i whose `send` answered Ok, in order
abbrev pub sent_letters : ℕ → List Turn → List Letter
sent_letters i [] = []
sent_letters i (t ∷ ts) = sent_by i t.call t.reply ++ sent_letters i ts

-- a sent letter, and its place among all that its sender sent, counted from 0
pub record Placed : Type 0 where
  pub place : ℕ
  pub letter : Letter

-- a letter with an asked tag
abbrev pub is_wanted : Option ℕ → Placed → Bool
is_wanted tag x = is_asked tag x.letter.tag

-- the list without its first letter with an asked tag
unfoldable pub without_first : Option ℕ → List Placed → List Placed
without_first tag [] = []
without_first tag (x ∷ xs) = if is_wanted tag x then xs else x ∷ without_first tag xs

-- the open letters after a turn, where so many had been sent before
abbrev pub opened_by : ℕ → Call → Reply → ℕ → List Placed → List Placed
opened_by i (Send from tag body) IsSent count open' = if from == i then open' ++ record { place = count; letter = record { tag = tag; body = body } } ∷ [] else open'
opened_by i (Take from tag) (Gives (Some l)) count open' = if from == i then without_first tag open' else open'
opened_by i c r count open' = open'

-- the same after further turns
abbrev pub opened_from : ℕ → ℕ → List Placed → List Turn → List Placed
opened_from i count open' [] = open'
opened_from i count open' (t ∷ ts) = opened_from i (count + length (sent_by i t.call t.reply)) (opened_by i t.call t.reply count open') ts

-- the letters of sender i that were sent and not taken, with their places
abbrev pub placed_letters : ℕ → List Turn → List Placed
placed_letters i ts = opened_from i 0 [] ts

-- the letters of sender i that were sent and not taken, in order
abbrev pub open_letters : ℕ → List Turn → List Letter
open_letters i ts = map (λ x. x.letter) (placed_letters i ts)

-- the first open letter with an asked tag
abbrev pub first_wanted : Option ℕ → List Placed → Option Placed
first_wanted tag [] = None
first_wanted tag (x ∷ xs) = if is_wanted tag x then Some x else first_wanted tag xs

-- how many of the first n letters are fetched
abbrev pub fetched_before : ℕ → List Letter → ℕ
fetched_before n ls = count_by (λ l. is_rendezvous l.body) (take n ls)
