use Rattle.std.proofs.Common.{ap, length}
use Rattle.rdma_types.specs.declared.names.Name.{Name}
use Rattle.context_core.specs.declared.state.EndSlot.{EndSlot}
use Rattle.std.proofs.lemmas.List.{nil_from_length}
use Rattle.context_core.specs.Context.{posted_of}
use Rattle.context_core.proofs.ReleasedPayloads.{last-apart, last-given, no-more, none-left}
use Rattle.context_core.proofs.leaving.give_ends.Goals as goal

pub give_end-requires : goal.give_end-requires
give_end-requires c = last-apart c.args.pool.now c.loop-slot.pool _ c.pop.new.self.entries (c.in-Some.field-0-0, c.in-Some.slot) c.loop-slot.ends.entries c.in-Some.ensures.entries c.loop-slot.invariant

pub loop-slot-preserved : goal.loop-slot-preserved
loop-slot-preserved c = last-given c.args.pool.now c.loop-slot.pool c.give_end.new.pool _ c.pop.new.self.entries (c.in-Some.field-0-0, c.in-Some.slot) c.loop-slot.ends.entries c.in-Some.ensures.entries c.give_end.ensures c.loop-slot.invariant

pub loop-slot-preserved-in-Some : goal.loop-slot-preserved-in-Some
loop-slot-preserved-in-Some c = last-given c.args.pool.now c.loop-slot.pool c.give_end.new.pool _ c.pop.new.self.entries (c.in-Some.field-0-0, c.in-Some.slot) c.loop-slot.ends.entries c.in-Some.ensures.entries c.give_end.ensures c.loop-slot.invariant

pub returns : goal.returns
returns c = none-left c.args.pool.now c.loop-slot.pool (posted_of c.args.ends.now.entries) (posted_of c.loop-slot.ends.entries) (ap posted_of (nil_from_length c.loop-slot.ends.entries (no-more (Name × EndSlot) (length c.loop-slot.ends.entries) c.in_default.ensures.found.1))) c.loop-slot.invariant
