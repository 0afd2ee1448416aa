-- The timers of one queue pair: what sets and clears them (this project's choice).
use Rattle.std.specs.Prelude.{ℕ, ◌+◌, ◌*◌, ◌-◌, ◌^◌, ◌==◌, ◌&&◌, ◌||◌, not, min, Bool, true, false, Option, Some, None, is_none, nat_le, nat_lt, if◌then◌else◌}
use Rattle.rdma_types.specs.declared.answers.EndState.{EndState}
use Rattle.rdma_types.specs.declared.answers.EndState.TheVariants as state
use Rattle.rdma_types.specs.declared.answers.EndView.{EndView}
use Rattle.serve_rules.specs.declared.timers.Timer.{Timer}
use Rattle.serve_rules.specs.declared.timers.Due.{Due}
use Rattle.serve_rules.specs.declared.timers.Due.TheVariants as due_is

-- a moment so much later, up to the last that a clock tells
abbrev pub later : ℕ → ℕ → ℕ
later now time = min (now + time) (2 ^ 64 - 1)

-- so many times a number, up to the last that there is
abbrev pub times : ℕ → ℕ → ℕ
times k n = min (n * k) (2 ^ 64 - 1)

-- ---- states

-- it runs
abbrev pub is_running : EndState → Bool
is_running state.Running = true
is_running other = false

-- it was moved, and its partner is not heard since
abbrev pub is_resuming : EndState → Bool
is_resuming state.Resuming = true
is_resuming other = false

-- a number for each state, apart from the others
abbrev pub code_of : EndState → ℕ
code_of state.Init = 0
code_of state.Running = 1
code_of state.Paused = 2
code_of state.Resuming = 3
code_of state.Error = 4

-- packets are in flight
abbrev pub is_in_flight : EndView → Bool
is_in_flight v = is_running v.state && nat_lt v.una v.next

-- ---- times

-- the base, doubled so often: 16 times at most
abbrev pub doubled : ℕ → ℕ → ℕ
doubled base doublings =
    if doublings == 0 then base
    else if doublings == 1 then times 2 base
    else if doublings == 2 then times 4 base
    else if doublings == 3 then times 8 base
    else times 16 base

-- once more, up to four times
abbrev pub more_doubled : ℕ → ℕ
more_doubled n = min (min (n + 1) 255) 4

-- what stands, or else that
abbrev pub or_else : Option ℕ → ℕ → Option ℕ
or_else None other = Some other
or_else (Some moment) other = Some moment

-- a moment has come
abbrev pub has_come : Option ℕ → ℕ → Bool
has_come None now = false
has_come (Some moment) now = nat_le moment now

-- ---- the timers

-- no timer is set
abbrev pub idle : EndView → Timer
idle v = record { una = v.una; state = v.state; due = None; doublings = 0; rnr = None }

-- the oldest unacknowledged number and the state are those
abbrev pub is_same : Timer → EndView → Bool
is_same t v = v.una == t.una && code_of v.state == code_of t.state

-- the retransmission timer begins anew where one of these is another: an acknowledgement or a response moved the number
abbrev pub renewed : Timer → EndView → Timer
renewed t v = if is_same t v then t else record { una = v.una; state = v.state; due = None; doublings = 0; rnr = t.rnr }

-- when the retransmission timer is due that is set now
abbrev pub due_from : Timer → ℕ → ℕ → ℕ
due_from t base now = later now (doubled base t.doublings)

-- it is set from nothing in flight, and cleared where nothing is; a Resuming queue pair keeps it
abbrev pub kept_due : Timer → EndView → ℕ → ℕ → Option ℕ
kept_due t v base now =
    if is_in_flight v then or_else t.due (due_from t base now)
    else if is_resuming v.state then t.due
    else None

-- the RNR timer is set where a wait begins, and cleared where there is none
abbrev pub kept_rnr : Timer → EndView → ℕ → ℕ → Option ℕ
kept_rnr t v base now = if v.rnr_wait then or_else t.rnr (later now base) else None

-- with the moments for what is told now
abbrev pub set_for : Timer → EndView → ℕ → ℕ → Timer
set_for t v base now = record t { due = kept_due t v base now; rnr = kept_rnr t v base now }

-- the timers once it is told this of the queue pair
unfoldable pub observed : Timer → EndView → ℕ → ℕ → Timer
observed t v base now = set_for (renewed t v) v base now

-- once a RESUME was sent
unfoldable pub resumed : Timer → ℕ → ℕ → Timer
resumed t base now = record t { due = or_else t.due (due_from t base now) }

-- which timer is due: that for the RNR wait before the other
unfoldable pub due_of : Timer → ℕ → Due
due_of t now =
    if has_come t.rnr now then due_is.Rnr
    else if not (has_come t.due now) then due_is.Neither
    else if is_resuming t.state then due_is.Resume
    else due_is.Expiry

-- without the timer that was due
unfoldable pub spent : Timer → Due → Timer
spent t due_is.Neither = t
spent t due_is.Rnr = record t { rnr = None }
spent t due_is.Expiry = record t { due = None; doublings = more_doubled t.doublings }
spent t due_is.Resume = record t { due = None; doublings = more_doubled t.doublings }

-- there is nothing to keep
abbrev pub is_over : Timer → Bool
is_over t = (is_none t.due && is_none t.rnr) && t.doublings == 0

-- a Resuming queue pair is asked to send only where no RESUME is unanswered
abbrev pub may_send : Timer → EndView → Bool
may_send t v = not (is_resuming v.state) || is_none t.due
