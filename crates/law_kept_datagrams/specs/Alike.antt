-- Worlds that differ only in datagrams which the network keeps no more.
use Rattle.std.specs.Prelude.{◌≡◌}
use Rattle.protocol.specs.State.{World}
use Rattle.protocol.specs.WorldStep.{Step}
use Rattle.protocol.specs.Fabric.{forgetting}

-- the world in which the datagrams that are not kept any more are blank
abbrev pub with_kept_datagrams : World → World
with_kept_datagrams w = record w { sent = forgetting w.sent }

-- two worlds are the same but for such datagrams
pub record AreAlike (a b : World) : Type 0 where
  pub devices : a.devices ≡ b.devices
  pub sent : forgetting a.sent ≡ forgetting b.sent
  pub carried : a.carried ≡ b.carried
  pub stopped : a.stopped ≡ b.stopped

-- two steps have the same answer and leave such worlds
pub record StepAlike (a b : Step) : Type 0 where
  pub answer : a.answer ≡ b.answer
  pub world : AreAlike a.world b.world
