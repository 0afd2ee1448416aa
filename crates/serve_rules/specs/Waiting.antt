-- Lines that wait, and when they are answered (this project's choice).
use Rattle.std.specs.Prelude.{ℕ, ◌==◌, Bool, true, false, Option, Some, None, nat_le, if◌then◌else◌}
use Rattle.rdma_types.specs.declared.answers.EndState.{EndState}
use Rattle.rdma_types.specs.declared.answers.EndState.TheVariants as state
use Rattle.rdma_types.specs.declared.answers.EndView.{EndView}
use Rattle.serve_rules.specs.declared.lines.Goal.{Goal}
use Rattle.serve_rules.specs.declared.lines.Goal.TheVariants as goal_is
use Rattle.serve_rules.specs.declared.replies.Reply.{Reply}
use Rattle.serve_rules.specs.declared.replies.Reply.TheVariants as reply
use Rattle.serve_rules.specs.Timers.{is_running}

-- it is in Error
abbrev pub is_error : EndState → Bool
is_error state.Error = true
is_error other = false

-- an end has come so far: all its posted work is told, or it runs
abbrev pub is_reached : Goal → EndView → Bool
is_reached goal_is.Idle v = v.untold == 0
is_reached goal_is.Running v = is_running v.state

-- the answer then
abbrev pub reached : Goal → Reply
reached goal_is.Idle = reply.Idle
reached goal_is.Running = reply.Running

-- an answer, once a time is over
abbrev pub when_over : Bool → Reply → Reply
when_over true r = r
when_over false r = reply.Nothing

-- the answer to an `until` of an end that is told so, and nothing as long as there is none
unfoldable pub until_reply : Goal → EndView → Bool → Reply
until_reply g v is_over =
    if is_error v.state then reply.Error
    else if is_reached g v then reached g
    else when_over is_over reply.Late

-- .. of an end that may live here
abbrev pub until_of : Goal → Option EndView → Bool → Reply
until_of g None is_over = reply.NoSuch
until_of g (Some v) is_over = until_reply g v is_over
