-- What an image needs besides: its positions and depths are of 16 bits.
use Rattle.std.specs.Prelude.{◌<◌, ◌^◌, length, All}
use Rattle.protocol.specs.State.{Context, End}
use Rattle.rdma_types.specs.declared.names.Name.{Name}
use Rattle.context_core.specs.declared.state.EndSlot.{EndSlot}
use Rattle.context_core.specs.Context.{Holding}

-- both depths of a queue pair
pub record HasNarrowDepths (e : End) : Type 0 where
  pub send : e.send_depth < 2 ^ 16
  pub recv : e.recv_depth < 2 ^ 16

-- the positions of domains and regions, and the depths of queue pairs
pub record FitsImage (c : Context) : Type 0 where
  pub domains : length c.domains < 2 ^ 16
  pub regions : length c.regions < 2 ^ 16
  pub ends : All HasNarrowDepths c.ends

-- the same of a queue pair that is held
pub record IsNarrowEnd (e : Name × EndSlot) : Type 0 where
  pub send : e.1.endpoint.send_depth < 2 ^ 16
  pub recv : e.1.endpoint.recv_depth < 2 ^ 16

-- .. and of what a context holds
pub record IsNarrow (h : Holding) : Type 0 where
  pub domains : length h.domains < 2 ^ 16
  pub regions : length h.regions < 2 ^ 16
  pub ends : All IsNarrowEnd h.ends
