-- What a call of a world says of every whole world that it keeps a part of, and of the packetless machine.
use Rattle.std.specs.Prelude.{◌≡◌}
use Rattle.rdma_types.specs.declared.answers.Answer.{Answer}
use Rattle.protocol.specs.declared.events.WorldEvent.{WorldEvent}
use Rattle.protocol.specs.State.{World}
use Rattle.protocol.specs.WorldStep.{world_step}
use Rattle.packetless_machine.specs.Machine.{Machine}
use Rattle.law_simulation.specs.Law.{IsInRange}
use Rattle.law_simulation.specs.Named.{ReachesByName}
use Rattle.law_simulation.specs.Stands.{Stands}
use Rattle.law_kept_datagrams.specs.Alike.{with_kept_datagrams}

-- the machine comes from m, by exactly the steps that are named at the event, which the event allows, to a state for which the
-- whole world's next one stands, and the answer is the one that an application hears; of that next world the call leaves what
-- is kept
pub record Follows (w : World) (m : Machine) (e : WorldEvent) (answer : Answer) (new : World) : Type 0 where
  pub reached : ReachesByName w m e (world_step w e).world answer
  pub left : new ≡ with_kept_datagrams (world_step w e).world

-- .. from each whole world whose last datagrams this one keeps, and each machine state for which it stands
abbrev pub IsFollowed : World → WorldEvent → Answer → World → Type 0
IsFollowed old e answer new = (w : World) (m : Machine) → with_kept_datagrams w ≡ old → Stands w m → IsInRange e → Follows w m e answer new
