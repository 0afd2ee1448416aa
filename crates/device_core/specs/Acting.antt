-- What an event of a context does there, whatever device the context lives on.
use Rattle.std.specs.Prelude.{◌≡◌, true, Option, Some, None, Result}
use Rattle.rdma_types.specs.declared.names.Name.{Name}
use Rattle.page_pool.specs.Pool.{Pool, free_pages}
use Rattle.protocol.specs.declared.events.Event.{Event}
use Rattle.protocol.specs.declared.events.Event.TheVariants as event
use Rattle.protocol.specs.declared.images.Outcome.{Outcome}
use Rattle.protocol.specs.DeviceStep.{with_context}
use Rattle.protocol.specs.Memory as rule
use Rattle.protocol.specs.Refusals.{has_context}
use Rattle.protocol.specs.State.{Device, context_at}
use Rattle.context_core.specs.Context.{Holding, IsContext, Moves, context_in}
use Rattle.context_core.specs.declared.ContextFault.{ContextFault}
use Rattle.device_core.specs.Done.{IsDone}
use Rattle.device_core.specs.Index.{numbers_of}

-- the context that an event is done in by `act`; an event with a call of its own has none
abbrev pub context_named : Event → Option Name
context_named (event.MakeDomain o) = Some o.context
context_named (event.MakeCq o capacity) = Some o.context
context_named (event.Connect o peer partner terms) = Some o.context
context_named (event.DropRegion o) = Some o.context
context_named (event.Store o at bytes) = Some o.context
context_named (event.Load o at length) = Some o.context
context_named (event.PostSend o r) = Some o.context
context_named (event.PostRecv o r) = Some o.context
context_named (event.Poll o most) = Some o.context
context_named (event.Expire o) = Some o.context
context_named (event.RnrOver o) = Some o.context
context_named e = None

-- the context lives on a device, and its bytes lie in the device's pool
pub record Lives (d : Device) (pool : Pool) (n : Name) (s : Holding) : Type 0 where
  pub lives : has_context d n ≡ true
  pub at : context_at d n ≡ context_in pool n s
  pub same : with_context d (context_in pool n s) ≡ d
  pub free : rule.free_pages d ≡ free_pages pool

-- a context makes a step
pub record Turn (pool pool' : Pool) (n : Name) (s s' : Holding) : Type 0 where
  pub moves : Moves pool pool' s s'
  pub is : IsContext pool' s'
  pub numbers : numbers_of (context_in pool' n s') ≡ numbers_of (context_in pool n s)

-- .. that an event asks for: the event is done on each device on which the context lives
pub record Acts (e : Event) (pool pool' : Pool) (s s' : Holding) (told : Result Outcome ContextFault) (n : Name) : Type 0 where
  pub turn : Turn pool pool' n s s'
  pub done : (d : Device) → Lives d pool n s → IsDone d e (with_context d (context_in pool' n s')) told
