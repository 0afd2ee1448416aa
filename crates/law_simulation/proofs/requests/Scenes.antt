-- What a request meets that arrives at an end, by the names that the proofs give it.
use Rattle.std.proofs.Common.{◌≡◌, ℕ, List}
use Rattle.std.specs.Prelude.{Option}
use Rattle.rdma_types.specs.declared.names.ObjName.{ObjName}
use Rattle.rdma_types.specs.Objects.{Posted, Region}
use Rattle.protocol.specs.State as state
use Rattle.protocol.specs.State.{World, Link}
use Rattle.protocol.specs.Wire.{Packet}
use Rattle.packetless_machine.specs.Machine as machine
use Rattle.packetless_machine.specs.Machine.{Machine, End, regions_of}
use Rattle.packetless_machine.specs.Steps.{current}
use Rattle.law_simulation.specs.Packets.{class_of, IsRequest}
use Rattle.law_simulation.specs.Delivered as delivered
use Rattle.law_simulation.specs.Delivered.{Arrives}
use Rattle.law_simulation.proofs.requests.Requests.{asker, request_at_end}

pub record Scene : Type 0 where
  pub n : ℕ  -- the true number of the request
  pub q : ObjName  -- the end that asks
  pub g : End  -- .. as the machine has it
  pub r : Posted  -- its request that acts next
  pub x : End  -- the end that is asked, as the machine has it
  pub y : machine.Context
  pub regions : List Region
  pub c : state.Context  -- .. as the protocol has it
  pub e : state.End

abbrev pub scene : (w : World) (m : Machine) (o : ObjName) (l : Link) (number : Option ℕ) (bytes : List ℕ) (d : Packet) → Arrives w m o l number bytes d → class_of d ≡ IsRequest → Scene
scene w m o l number bytes d a is = record {
  n = (request_at_end w m o l number bytes d a is).0;
  q = asker m o;
  g = machine.end_of m (asker m o);
  r = current (machine.end_of m (asker m o));
  x = machine.end_of m o;
  y = machine.context_of m o.context;
  regions = regions_of m o.context;
  c = delivered.context_there w o;
  e = delivered.end_there w o;
}
