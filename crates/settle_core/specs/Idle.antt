-- Idle ends, which a round without pending datagrams leaves as they are.
use Rattle.std.specs.Prelude.{◌&&◌, not, Bool, true, Option, Some, None}
use Rattle.context_core.specs.declared.lives.LinkView.{LinkView}
use Rattle.context_core.specs.declared.lives.LiveEnd.{LiveEnd}
use Rattle.settle_core.specs.Steps.{view_may_send, view_resumes, view_runs}
use Rattle.settle_core.specs.Waits.{view_expires}

-- an end with this link neither waits for its RNR timer nor resumes, has nothing to send, and may not expire
abbrev pub view_is_idle : LinkView → Bool
view_is_idle v = not v.rnr_wait && (not (view_resumes v) && (not (view_runs v && view_may_send v) && not (view_expires v)))

-- .. or is not connected
abbrev pub link_is_idle : Option LinkView → Bool
link_is_idle None = true
link_is_idle (Some v) = view_is_idle v

-- a live end is idle
abbrev pub end_is_idle : LiveEnd → Bool
end_is_idle e = link_is_idle e.link
