-- The calls that a plan makes, by the words of the generator, and the line that is written of them (this project's choice).
use Rattle.std.specs.Prelude.{ℕ, zero, suc, ◌+◌, ◌-◌, ◌*◌, ◌/◌, ◌%◌, ◌==◌, Bool, true, false, List, [], ◌∷◌, ◌++◌, codes, count_by, Some, None, if◌then◌else◌}
use Rattle.std.specs.Fmt.{decimal}
use Rattle.protocol.specs.declared.events.WorldEvent.TheVariants as world_event
use Rattle.workload_gen.specs.Lines.{line}
use Rattle.workload_gen.specs.Plan.{word_at}
use Rattle.mailbox_rules.specs.declared.faults.MailFault.TheVariants as fault
use Rattle.mailbox_rules.specs.declared.plans.MailPlan.{MailPlan}
use Rattle.mailbox_rules.specs.Opening.{receiver}
use Rattle.mailbox_rules.specs.State.{Mail, made}
use Rattle.mailbox_rules.specs.Calls.{Call, Send, Take, Network, Settle, Reply, IsSent, Gives, Refused, after, calls, replies_of, settled_thrice}

-- ---- letters

-- n bytes that count up from a number, modulo 256
unfoldable pub counting_bytes : ℕ → ℕ → List ℕ
counting_bytes j zero = []
counting_bytes j (suc n) = j % 256 ∷ counting_bytes (j + 1) n

-- the length of a body: one in eight is long
abbrev pub body_length : ℕ → ℕ
body_length w = if w / 32 % 8 == 0 then 5000 + w / 256 % 60000 else w / 256 % 4081

-- the sending of letter j, as its word says
abbrev pub send_of : MailPlan → ℕ → ℕ → Call
send_of plan j w = Send (w % plan.peers + 1) (w / 8 % 4) (counting_bytes j (body_length w))

-- the slot, or the end, is full
abbrev pub is_refused_full : Reply → Bool
is_refused_full (Refused fault.Full) = true
is_refused_full r = false

-- a call is made, and where it is refused as Full, once more after settling
unfoldable pub sending_calls : Mail → Call → List Call
sending_calls m c = if is_refused_full (calls m c).reply then c ∷ settled_thrice ++ c ∷ [] else c ∷ []

-- ---- moves

-- the letter after which move k stands, or 0 where it stands before the first
abbrev pub place_of : MailPlan → ℕ → ℕ
place_of plan k = k * plan.letters / (plan.moves + 1)

-- the receiver moves from one device to another
abbrev pub transfer : ℕ → ℕ → List Call
transfer old new = Network (world_event.Stop receiver) ∷ Network (world_event.Restore receiver new) ∷ Settle ∷ Network (world_event.Release receiver old) ∷ []

-- move k: from 1 to 3, then from 3 to 1, and so on
abbrev pub move_calls : ℕ → List Call
move_calls k = transfer (3 - 2 * (k % 2)) (1 + 2 * (k % 2))

-- those of the first n moves that stand after letter j
unfoldable pub moves_after : MailPlan → ℕ → ℕ → List Call
moves_after plan j zero = []
moves_after plan j (suc n) = moves_after plan j n ++ (if place_of plan (suc n) == j then move_calls (suc n) else [])

-- ---- the whole

-- letter j, and the moves that stand after it
abbrev pub letter_calls : MailPlan → Mail → ℕ → List Call
letter_calls plan m j = sending_calls m (send_of plan j (word_at plan.seed (j - 1))) ++ moves_after plan j plan.moves

-- the calls of the letters from j on, so many
unfoldable pub letters_calls : MailPlan → ℕ → ℕ → Mail → List Call
letters_calls plan j zero m = []
letters_calls plan j (suc n) m = let cs = letter_calls plan m j in cs ++ letters_calls plan (j + 1) n (after m cs)

-- a letter was given
abbrev pub is_given : Reply → Bool
is_given (Gives (Some l)) = true
is_given r = false

-- the letters of a sender are taken until none is given; each call before closes a letter, so the fuel is never used up
unfoldable pub taking_calls : ℕ → ℕ → Mail → List Call
taking_calls zero i m = []
taking_calls (suc fuel) i m = (elim (is_given (calls m (Take i None)).reply) [
  | true ↦ Take i None ∷ taking_calls fuel i (calls m (Take i None)).mail
  | false ↦ Take i None ∷ []
])

-- those of the senders from i on, so many, where at most so many letters were sent
unfoldable pub all_taking_calls : ℕ → ℕ → ℕ → Mail → List Call
all_taking_calls letters i zero m = []
all_taking_calls letters i (suc n) m = let cs = taking_calls (letters + 1) i m in cs ++ all_taking_calls letters (i + 1) n (after m cs)

-- at the end all is settled, and every letter is taken
abbrev pub closing_calls : MailPlan → Mail → List Call
closing_calls plan m = settled_thrice ++ all_taking_calls plan.letters 1 plan.peers (after m settled_thrice)

-- the calls of the letters with the moves between them
abbrev pub middle_calls : MailPlan → List Call
middle_calls plan = let first = moves_after plan 0 plan.moves in first ++ letters_calls plan 1 plan.letters (after (made plan.peers) first)

-- the calls of a plan, after `make`
abbrev pub mail_calls : MailPlan → List Call
mail_calls plan = let cs = middle_calls plan in cs ++ closing_calls plan (after (made plan.peers) cs)

-- ---- the line

-- a letter was sent
abbrev pub is_sent : Reply → Bool
is_sent IsSent = true
is_sent r = false

-- what the calls of a plan are answered
abbrev pub mail_replies : MailPlan → List Reply
mail_replies plan = replies_of (made plan.peers) (mail_calls plan)

-- letters sent, and letters taken
abbrev pub letters_sent : List Reply → ℕ
letters_sent rs = count_by is_sent rs

abbrev pub letters_taken : List Reply → ℕ
letters_taken rs = count_by is_given rs

-- `mail letters` sent `moves` moves `taken` taken
abbrev pub mail_line_of : MailPlan → List Reply → List ℕ
mail_line_of plan rs = line (codes "mail") (codes "letters" ∷ decimal (letters_sent rs) ∷ codes "moves" ∷ decimal plan.moves ∷ codes "taken" ∷ decimal (letters_taken rs) ∷ [])

-- the line of a plan
abbrev pub mail_line : MailPlan → List ℕ
mail_line plan = mail_line_of plan (mail_replies plan)
