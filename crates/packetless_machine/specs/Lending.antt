-- Parts of the machine that are lent to be changed.
use Rattle.std.specs.Prelude.{Option}
use Rattle.std.specs.Borrow.{LendsIf, MutBor, Fml}
use Rattle.rdma_types.specs.declared.names.Name.{Name}
use Rattle.rdma_types.specs.declared.names.ObjName.{ObjName}
use Rattle.rdma_types.specs.Objects.{CompletionQueue}
use Rattle.packetless_machine.specs.Machine.{Machine, Context, End, with_context, with_end_in, with_queue_in, with_end, with_queue}
use Rattle.packetless_machine.specs.contracts.machine.PacketlessMachine as machines
use Rattle.packetless_machine.specs.contracts.context.Context as contexts
use Rattle.packetless_machine.specs.contracts.end.End as ends
use Rattle.packetless_machine.specs.contracts.queue.Queue as queues

-- the machine ends with the last value behind r as its context c
abbrev pub LendsContext : MutBor Machine → Name → Option (MutBor Context) → Fml
LendsContext m c r = LendsIf machines.the_row contexts.the_row m r (with_context m.now c) m.now

-- a context ends with the last value behind r as its end of that name
abbrev pub LendsEndOf : MutBor Context → Name → Option (MutBor End) → Fml
LendsEndOf c name r = LendsIf contexts.the_row ends.the_row c r (with_end_in c.now name) c.now

-- a context ends with the last value behind r as its queue of that name
abbrev pub LendsQueueOf : MutBor Context → Name → Option (MutBor CompletionQueue) → Fml
LendsQueueOf c name r = LendsIf contexts.the_row queues.the_row c r (with_queue_in c.now name) c.now

-- .. as its end o
abbrev pub LendsEnd : MutBor Machine → ObjName → Option (MutBor End) → Fml
LendsEnd m o r = LendsIf machines.the_row ends.the_row m r (with_end m.now o) m.now

-- .. as the queue q of its context c
abbrev pub LendsQueue : MutBor Machine → Name → Name → Option (MutBor CompletionQueue) → Fml
LendsQueue m c q r = LendsIf machines.the_row queues.the_row m r (with_queue m.now c q) m.now
