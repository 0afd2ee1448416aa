-- Messages of moving at an end: the row of the table that is taken, and what it leaves.
use Rattle.std.specs.Prelude.{ℕ, ◌≡◌, List, [], ◌∷◌, map}
use Rattle.rdma_types.specs.declared.requests.Address.{Address}
use Rattle.protocol.specs.State.{Phase, Running, Paused, Resuming, Moving}
use Rattle.protocol.specs.Moves.{Control, Stopped, Resume, ResumeAck, MoveTook, GoesPaused, Resumed, Again, GoesRunning, Stale, move_row}
use Rattle.transport.specs.Table.{moving_by}

-- two places
abbrev pub home : Address
home = record { ip = 167772161; port = 4791 }

abbrev pub away : Address
away = record { ip = 167772162; port = 4791 }

-- an end that moved twice, and its partner as far as it is known
abbrev pub moving : Phase → ℕ → Address → Moving
moving phase recorded partner = record { phase = phase; own = 2; recorded = recorded; partner = partner }

-- an end, a message, its row, and the end after it
pub record Case : Type 0 where
  pub before : Moving
  pub message : Control
  pub row : MoveTook
  pub behind : Moving

abbrev pub case : Moving → Control → MoveTook → Moving → Case
case before message row behind = record { before = before; message = message; row = row; behind = behind }

-- each message takes its row, which leaves the end behind it
pub record AreTaken (cases : List Case) : Type 0 where
  pub rows : map (λ c. move_row c.before c.message) cases ≡ map (λ c. c.row) cases
  pub left : map (λ c. moving_by c.before c.message c.row) cases ≡ map (λ c. c.behind) cases

abbrev pub stops : List Case
stops =
    case (moving Running 3 home) (Stopped 3) GoesPaused (moving Paused 3 home)
    ∷ case (moving Resuming 3 home) (Stopped 3) GoesPaused (moving Paused 3 home)
    ∷ case (moving Paused 3 home) (Stopped 3) Stale (moving Paused 3 home)
    ∷ case (moving Running 4 home) (Stopped 3) Stale (moving Running 4 home)
    ∷ []

-- RESUME from the other place
abbrev pub resume : ℕ → Control
resume count = Resume (record { count = count; address = away })

abbrev pub resumes : List Case
resumes =
    case (moving Running 3 home) (resume 65535) Resumed (moving Running 65535 away)
    ∷ case (moving Resuming 3 home) (resume 65535) Resumed (moving Resuming 65535 away)
    ∷ case (moving Paused 3 home) (resume 65535) Resumed (moving Running 65535 away)
    ∷ []

abbrev pub other_resumes : List Case
other_resumes =
    case (moving Running 3 home) (resume 3) Again (moving Running 3 home)
    ∷ case (moving Resuming 3 home) (resume 3) Again (moving Resuming 3 home)
    ∷ case (moving Paused 3 home) (resume 3) Stale (moving Paused 3 home)
    ∷ case (moving Running 3 home) (resume 2) Stale (moving Running 3 home)
    ∷ case (moving Running 3 home) (resume 65536) Stale (moving Running 3 home)
    ∷ []

abbrev pub acks : List Case
acks =
    case (moving Resuming 3 home) (ResumeAck 2) GoesRunning (moving Running 3 home)
    ∷ case (moving Resuming 3 home) (ResumeAck 1) Stale (moving Resuming 3 home)
    ∷ case (moving Running 3 home) (ResumeAck 2) Stale (moving Running 3 home)
    ∷ case (moving Paused 3 home) (ResumeAck 2) Stale (moving Paused 3 home)
    ∷ []
