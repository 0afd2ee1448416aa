use Rattle.std.proofs.Common.{◌≡◌, refl}
use Rattle.packetless_machine.specs.Machine.{queue_of, with_queue, context_of}
use Rattle.packetless_machine.proofs.Same.{same_context, same_queue, no_queue_to_change}
use Rattle.packetless_machine.proofs.machine.PacketlessMachine.queue_mut.Goals as goal

pub returns : goal.returns
unfolding with_queue queue_of
returns c =
    let there : c.in_ok-context.context.now ≡ context_of c.args.self.now c.args.context = c.in_ok-context.ensures.some in
    rw (there, same_context c.args.self.now c.args.context) (
      refl,
      record {
        lends = tt;
        some = rw there at c.queue_mut.ensures.some;
        none = no_queue_to_change c.queue_mut.result c.args.self.now c.args.context c.args.name c.in_ok-context.context.now there c.queue_mut.ensures.none;
        same = same_queue c.args.self.now c.args.context c.args.name;
      },
    )
