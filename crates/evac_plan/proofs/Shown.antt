-- A world that keeps the last datagrams of an evacuation's goes the same steps.
use Rattle.std.proofs.Common.{◌≡◌, List, [], ◌∷◌, refl, sym, ◌∙◌, subst}
use Rattle.rdma_types.specs.declared.answers.Answer.{Answer}
use Rattle.protocol.proofs.Histories.{forgetting-forgetting}
use Rattle.protocol.specs.declared.events.WorldEvent.{WorldEvent}
use Rattle.protocol.specs.Script.{Happening, Event, Settles, happens, settles}
use Rattle.protocol.specs.State.{World}
use Rattle.protocol.specs.WorldStep.{world_after, world_step}
use Rattle.law_kept_datagrams.specs.Alike.{AreAlike, with_kept_datagrams}
use Rattle.law_kept_datagrams.proofs.Rounds.{line_alike}
use Rattle.law_kept_datagrams.proofs.Steps.{step_alike}
use Rattle.world_core.specs.Kept.{Makes}
use Rattle.world_core.specs.Settled.{IsSettled}
use Rattle.world_core.specs.declared.settling.Quiet.{Quiet}
use Rattle.evac_rules.specs.Evacuation.{Evacuation, doing}
use Rattle.evac_plan.specs.Steps.{Shows}

pub alike_kept : (a b : World) → AreAlike a b → with_kept_datagrams a ≡ with_kept_datagrams b
alike_kept a b h = λ i. record { devices = h.devices i; sent = h.sent i; carried = h.carried i; stopped = h.stopped i }

pub kept_alike : (v w : World) → v ≡ with_kept_datagrams w → AreAlike v w
kept_alike v w h = subst (λ (x : World). AreAlike x w) (sym h) (record { devices = refl; sent = forgetting-forgetting w.sent; carried = refl; stopped = refl })

pub after_alike : (es : List WorldEvent) (a b : World) → AreAlike a b → AreAlike (world_after a es) (world_after b es)
unfolding world_after
after_alike [] a b h = h
after_alike (e ∷ es) a b h = after_alike es (world_step a e).world (world_step b e).world (step_alike a b e h).world

-- one step
pub shows_on : (w new : World) (s : Evacuation) (h : Happening) → Shows w s → new ≡ with_kept_datagrams (happens w h).world → Shows new (doing s h)
shows_on w new s h shows is = record { world = is ∙ alike_kept (happens w h).world (happens s.world h).world (line_alike w s.world h (kept_alike w s.world shows.world)).world }

pub made_on : (w new : World) (s : Evacuation) (e : WorldEvent) (a : Answer) → Shows w s → Makes (world_step w e) a new → Shows new (doing s (Event e))
unfolding happens
made_on w new s e a shows made = shows_on w new s (Event e) shows made.left

pub answered_on : (w new : World) (s : Evacuation) (e : WorldEvent) (a : Answer) → Shows w s → Makes (world_step w e) a new → a ≡ (world_step s.world e).answer
answered_on w new s e a shows made = made.answered ∙ (step_alike w s.world e (kept_alike w s.world shows.world)).answer

pub settled_on : (w new : World) (s : Evacuation) (q : Quiet) → Shows w s → IsSettled w new q → Shows new (doing s Settles)
unfolding happens settles
settled_on w new s q shows is = shows_on w new s Settles shows is.world

pub shows_same : (w new : World) (s : Evacuation) → new ≡ w → Shows w s → Shows new s
shows_same w new s same shows = record { world = same ∙ shows.world }
