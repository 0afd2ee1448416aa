-- The view of the connected end with a queue pair number.
use Rattle.std.proofs.Common.{◌≡◌, ◌∙◌, ℕ, [], refl, sym, ap}
use Rattle.std.specs.Prelude.{Option, Some, None, option_map}
use Rattle.protocol.specs.DeviceStep.{found_in, found_link}
use Rattle.protocol.specs.State.{Context, Device, End, Link}
use Rattle.context_core.specs.Links.{link_view, live_end}
use Rattle.context_core.specs.declared.lives.LinkView.{LinkView}
use Rattle.context_core.specs.declared.lives.LiveEnd.{LiveEnd}
use Rattle.device_core.specs.Numbered.{first_view, numbered_view}
use Rattle.device_core.specs.Readings.{connected_view, live_view, view_by}
use Rattle.device_core.proofs.Seen.{live-view}

pub numbered-nowhere : (d : Device) (k : ℕ) → found_in k d.contexts ≡ [] → numbered_view d k ≡ connected_view None
numbered-nowhere d k none = ap first_view none

pub numbered-one : (d : Device) (k : ℕ) (c : Context) (e : End) → found_in k d.contexts ≡ found_link c e e.link [] → numbered_view d k ≡ connected_view (Some (live_end c e))
numbered-one d k c e found = ap first_view found ∙ by_link e.link refl
  where
    by_link : (o : Option Link) → e.link ≡ o → first_view (found_link c e o []) ≡ option_map (λ l. view_by (live_end c e) (Some l)) (option_map link_view o)
    by_link None t = refl
    by_link (Some l) t = ap Some (sym (live-view c e) ∙ ap (λ x. view_by (live_end c e) (option_map link_view x)) t)

-- what is told of a connected end is its view
pub connected-none : (e : LiveEnd) → e.link ≡ None → None ≡ connected_view (Some e)
connected-none e none = ap (option_map (λ l. view_by e (Some l))) (sym none)

pub connected-some : (e : LiveEnd) (x : LinkView) → e.link ≡ Some x → Some (live_view e) ≡ connected_view (Some e)
connected-some e x some = by_link e.link some
  where
    by_link : (o : Option LinkView) → o ≡ Some x → Some (view_by e o) ≡ option_map (λ l. view_by e (Some l)) o
    by_link None t = absurd (cc)
    by_link (Some l) t = refl
