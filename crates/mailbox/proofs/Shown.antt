-- A world that keeps the last datagrams answers as the whole one does.
use Rattle.std.proofs.Common.{◌≡◌, refl, sym, ◌∙◌, subst}
use Rattle.rdma_types.specs.declared.answers.Answer.{Answer}
use Rattle.protocol.proofs.Histories.{forgetting-forgetting}
use Rattle.protocol.specs.declared.events.Event.{Event}
use Rattle.protocol.specs.declared.events.WorldEvent.TheVariants as world_event
use Rattle.protocol.specs.State.{World}
use Rattle.protocol.specs.WorldStep.{world_step}
use Rattle.law_kept_datagrams.specs.Alike.{AreAlike, with_kept_datagrams}
use Rattle.law_kept_datagrams.proofs.Steps.{step_alike}
use Rattle.world_core.specs.Kept.{Makes}
use Rattle.mailbox.specs.Steps.{Asks}

pub alike_kept : (a b : World) → AreAlike a b → with_kept_datagrams a ≡ with_kept_datagrams b
alike_kept a b h = λ i. record { devices = h.devices i; sent = h.sent i; carried = h.carried i; stopped = h.stopped i }

pub kept_alike : (v w : World) → v ≡ with_kept_datagrams w → AreAlike v w
kept_alike v w h = subst (λ (x : World). AreAlike x w) (sym h) (record { devices = refl; sent = forgetting-forgetting w.sent; carried = refl; stopped = refl })

pub asked_on : (v new w : World) (e : Event) (a : Answer) → v ≡ with_kept_datagrams w → Makes (world_step v (world_event.At e)) a new → Asks v new e a w
asked_on v new w e a is made = record {
  answered = made.answered ∙ (step_alike v w (world_event.At e) (kept_alike v w is)).answer;
  left = made.left ∙ alike_kept (world_step v (world_event.At e)).world (world_step w (world_event.At e)).world (step_alike v w (world_event.At e) (kept_alike v w is)).world;
}
