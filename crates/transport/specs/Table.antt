-- The state, messages and answers of moving as the protocol's definitions name them, and what each answer changes.
use Rattle.protocol.specs.State as state
use Rattle.protocol.specs.Moves as moves
use Rattle.transport.specs.declared.move_core.Phase.{Phase}
use Rattle.transport.specs.declared.move_core.Phase.TheVariants as phase
use Rattle.transport.specs.declared.move_core.Control.{Control}
use Rattle.transport.specs.declared.move_core.Control.TheVariants.{Stopped, Resume, ResumeAck}
use Rattle.transport.specs.declared.move_core.MoveEffect.{MoveEffect}
use Rattle.transport.specs.declared.move_core.MoveEffect.TheVariants as took
use Rattle.transport.specs.declared.move_core.MoveState.{MoveState}

-- a phase
abbrev pub phase_of : Phase → state.Phase
phase_of phase.Running = state.Running
phase_of phase.Paused = state.Paused
phase_of phase.Resuming = state.Resuming

-- the state of moving of an end
abbrev pub moving_of : MoveState → state.Moving
moving_of s = record { phase = phase_of s.phase; own = s.own; recorded = s.recorded; partner = s.partner }

-- a message of moving
abbrev pub control_of : Control → moves.Control
control_of (Stopped count) = moves.Stopped count
control_of (Resume count address) = moves.Resume (record { count = count; address = address })
control_of (ResumeAck count) = moves.ResumeAck count

-- a row of the table
abbrev pub row_of : MoveEffect → moves.MoveTook
row_of took.Paused = moves.GoesPaused
row_of took.Resumed = moves.Resumed
row_of took.Again = moves.Again
row_of took.Running = moves.GoesRunning
row_of took.Stale = moves.Stale

-- a paused end runs
abbrev pub unpaused : Phase → Phase
unpaused phase.Paused = phase.Running
unpaused phase.Running = phase.Running
unpaused phase.Resuming = phase.Resuming

-- the state with the count and the address of a RESUME
abbrev pub recording : MoveState → Control → MoveState
recording s (Resume count address) = record s { phase = unpaused s.phase; recorded = count; partner = address }
recording s (Stopped count) = s
recording s (ResumeAck count) = s

-- what an answer leaves of the state
abbrev pub moved_by : MoveState → Control → MoveEffect → MoveState
moved_by s c took.Paused = record s { phase = phase.Paused }
moved_by s c took.Resumed = recording s c
moved_by s c took.Running = record s { phase = phase.Running }
moved_by s c took.Again = s
moved_by s c took.Stale = s

-- what a row leaves of the state, in the protocol's words
abbrev pub moving_by : state.Moving → moves.Control → moves.MoveTook → state.Moving
moving_by m (moves.Stopped count) moves.GoesPaused = moves.in_phase m state.Paused
moving_by m (moves.Resume body) moves.Resumed = moves.recording m body
moving_by m (moves.ResumeAck count) moves.GoesRunning = moves.in_phase m state.Running
moving_by m control row = m
