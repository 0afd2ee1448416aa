-- The unacknowledged numbers of an end, as its view tells it, and the load of listed ends.
use Rattle.std.specs.Prelude.{ℕ, ◌+◌, ◌-◌, List, length, sum_by, Option, Some, None, if◌then◌else◌}
use Rattle.context_core.specs.declared.lives.LinkView.{LinkView}
use Rattle.context_core.specs.declared.lives.LiveEnd.{LiveEnd}

-- the posted numbers of a link from `una` on
abbrev pub link_numbers : Option LinkView → ℕ
link_numbers None = 0
link_numbers (Some v) = if v.ended then 0 else v.last - v.una

-- .. and of an end
abbrev pub view_numbers : LiveEnd → ℕ
view_numbers e = link_numbers e.link

-- the load of these ends
abbrev pub view_load : List LiveEnd → ℕ
view_load es = sum_by view_numbers es + length es + 1
