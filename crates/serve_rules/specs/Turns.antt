-- A turn: datagrams arrive, queue pairs that may have something to send each send, and timers that are due expire (this
-- project's choice).
use Rattle.std.specs.Prelude.{ℕ, zero, suc, Bool, true, false, List, [], ◌∷◌, length, nat_le, Option, Some, None, if◌then◌else◌}
use Rattle.host_ports.specs.Links.{Addressed}
use Rattle.device_core.specs.Numbered.{numbered_view}
use Rattle.protocol.specs.Bytes.{number_at}
use Rattle.protocol.specs.declared.events.Event.TheVariants as event
use Rattle.rdma_types.specs.declared.answers.Answer.{Answer}
use Rattle.rdma_types.specs.declared.answers.Answer.TheVariants as answer
use Rattle.rdma_types.specs.declared.answers.ArrivalEffect.TheVariants as took
use Rattle.rdma_types.specs.declared.answers.EndView.{EndView}
use Rattle.rdma_types.specs.declared.answers.Sent.{Sent}
use Rattle.rdma_types.specs.declared.requests.Address.{Address}
use Rattle.serve_rules.specs.declared.timers.Due.{Due}
use Rattle.serve_rules.specs.declared.timers.Due.TheVariants as due_is
use Rattle.serve_rules.specs.declared.timers.Timer.{Timer}
use Rattle.serve_rules.specs.Tallies.{with_arrival}
use Rattle.serve_rules.specs.Timers.{is_resuming}
use Rattle.serve_rules.specs.Timers as timers
use Rattle.serve_rules.specs.Server.{Server, after, due_of, may_send, observed, outcome_of, queued, resumed, spent, stepped, without_timer, woken}

-- ---- arrivals

-- an arrival did something
abbrev pub is_heard : Answer → Bool
is_heard (answer.Took (took.Silent why) first count) = false
is_heard other = true

-- the queue pair may have something to send, where the arrival did something
abbrev pub woken_if : Bool → Server → ℕ → Server
woken_if true s n = woken s n
woken_if false s n = s

-- an arrival is counted
abbrev pub counted : Server → Answer → Server
counted s a = record s { tallies = with_arrival s.tallies a }

-- .. and its queue pair may have something to send
unfoldable pub noted : Server → Answer → ℕ → Server
noted s a n = woken_if (is_heard a) (counted s a) n

-- a datagram arrives
unfoldable pub arrived : Server → Address → List ℕ → Server
arrived s from bytes =
    queued (noted (after s (event.Arrive from bytes)) (outcome_of s (event.Arrive from bytes)).answer (number_at 5 3 bytes))
    (outcome_of s (event.Arrive from bytes)).sent

-- so many datagrams wait to leave that none arrives
abbrev pub is_crowded : Server → Bool
is_crowded s = nat_le 256 (length s.outgoing)

-- the first datagram that was taken arrives, if there is one
abbrev pub arrived_first : Server → List Addressed → Server
arrived_first s [] = s
arrived_first s (d ∷ ds) = arrived (record s { inbox = ds }) d.0 d.1

-- one more arrives, unless too many wait to leave
unfoldable pub arrived_next : Server → Server
arrived_next s = if is_crowded s then s else arrived_first s s.inbox

-- so many
unfoldable pub arrived_many : ℕ → Server → Server
arrived_many zero s = s
arrived_many (suc k) s = arrived_next (arrived_many k s)

-- ---- sending

-- a queue pair that sent something is looked at, and may have more
unfoldable pub sent_view : Server → EndView → Server
sent_view s v = woken (if is_resuming v.state then resumed (observed s v) v else observed s v) v.number

-- .. where it is there
abbrev pub sent_by : Server → Option EndView → Server
sent_by s None = s
sent_by s (Some v) = sent_view s v

-- .. where something was sent
abbrev pub sent_if : List Sent → Server → ℕ → Server
sent_if [] s n = s
sent_if (x ∷ xs) s n = sent_by s (numbered_view s.device n)

-- a queue pair sends once, if it can
unfoldable pub transmitted : Server → EndView → Server
transmitted s v = sent_if (outcome_of s (event.Transmit v.name)).sent (stepped s (event.Transmit v.name)) v.number

-- .. where it may be asked
unfoldable pub sent_once : Server → EndView → Server
sent_once s v = if may_send (observed s v) v then transmitted (observed s v) v else observed s v

-- .. where it lives here
abbrev pub sent_from : Server → ℕ → Option EndView → Server
sent_from s n None = without_timer s n
sent_from s n (Some v) = sent_once s v

-- the first that may have something to send
abbrev pub sent_first : Server → List ℕ → Server
sent_first s [] = s
sent_first s (n ∷ ns) = let left = record s { ready = ns } in sent_from left n (numbered_view left.device n)

-- one more queue pair sends once
unfoldable pub sent_next : Server → Server
sent_next s = sent_first s s.ready

-- so many queue pairs
unfoldable pub sent_many : ℕ → Server → Server
sent_many zero s = s
sent_many (suc k) s = sent_next (sent_many k s)

-- ---- expiries

-- what is due of a queue pair is done
abbrev pub expired_by : Server → EndView → Due → Server
expired_by s v due_is.Neither = s
expired_by s v due_is.Resume = s
expired_by s v due_is.Rnr = stepped s (event.RnrOver v.name)
expired_by s v due_is.Expiry = stepped s (event.Expire v.name)

-- the timer that is due is cleared, and its queue pair may have something to send
abbrev pub expired_due : Server → EndView → Due → Server
expired_due s v d = woken (expired_by (spent s v d) v d) v.number

-- a queue pair is looked at, and expires where a timer is due
unfoldable pub expired_once : Server → EndView → Server
expired_once s v = expired_due (observed s v) v (due_of (observed s v) v)

-- .. where it lives here
abbrev pub expired_from : Server → ℕ → Option EndView → Server
expired_from s n None = without_timer s n
expired_from s n (Some v) = expired_once s v

-- these expire
unfoldable pub all_expired : Server → List ℕ → Server
all_expired s [] = s
all_expired s (n ∷ ns) = all_expired (expired_from s n (numbered_view s.device n)) ns

-- a number before others, where its timer is due
abbrev pub due_before : ℕ → Due → List ℕ → List ℕ
due_before n due_is.Neither more = more
due_before n due_is.Rnr more = n ∷ more
due_before n due_is.Expiry more = n ∷ more
due_before n due_is.Resume more = n ∷ more

-- the numbers of the queue pairs of which a timer is due
unfoldable pub due_in : ℕ → List (ℕ × Timer) → List ℕ
due_in now [] = []
due_in now (t ∷ ts) = due_before t.0 (timers.due_of t.1 now) (due_in now ts)

-- ---- a turn

-- what is due expires
unfoldable pub expired_at : Server → Server
expired_at s = all_expired s (due_in s.clock s.timers)

-- up to 64 datagrams that were taken arrive, up to 64 queue pairs send, and what is due at that moment expires
unfoldable pub turned : Server → ℕ → Server
turned s now = expired_at (sent_many 64 (record (arrived_many 64 s) { clock = now }))
