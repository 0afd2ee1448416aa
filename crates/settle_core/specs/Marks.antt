-- What is watched of an end, as its view tells it.
use Rattle.std.specs.Prelude.{ℕ, ◌==◌, ◌&&◌, Bool, Option, Some, None, if◌then◌else◌}
use Rattle.protocol.specs.Settle.{Mark}
use Rattle.context_core.specs.declared.lives.LinkView.{LinkView}
use Rattle.context_core.specs.declared.lives.LiveEnd.{LiveEnd}

-- the state of a connected end as a number
abbrev pub view_code : LinkView → ℕ
view_code v = if v.ended then 4 else if v.paused then 2 else if v.resuming then 3 else 1

-- what is watched of a link
abbrev pub link_mark : Option LinkView → Mark
link_mark None = record { una = 0; state = 0 }
link_mark (Some v) = record { una = v.una; state = view_code v }

-- .. and of an end
abbrev pub view_mark : LiveEnd → Mark
view_mark e = link_mark e.link

-- equal marks
abbrev pub same_mark : Mark → Mark → Bool
same_mark a b = a.una == b.una && a.state == b.state
