use Rattle.std.proofs.Common.{◌∙◌, sym, ap, Some}
use Rattle.device_core.specs.Readings.{connected_view}
use Rattle.device_core.proofs.Numbered.{connected-none, connected-some}
use Rattle.device_core.proofs.device.Device.end_numbered.Goals as goal

pub returns-in_default : goal.returns-in_default
returns-in_default c = sym (c.live_end.ensures.view ∙ ap connected_view c.in_default.is)

pub returns-in-None : goal.returns-in-None
returns-in-None c = connected-none c.in-Some.end c.in-None.is ∙ sym (c.live_end.ensures.view ∙ ap connected_view c.in-Some.is)

pub returns-in-Some-link : goal.returns-in-Some-link
returns-in-Some-link c = ap (λ v. Some v) c.view_of.ensures ∙ (connected-some c.in-Some.end _ c.in-Some-link.is ∙ sym (c.live_end.ensures.view ∙ ap connected_view c.in-Some.is))
