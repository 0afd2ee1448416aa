use Rattle.std.proofs.Common.{◌∷◌, []}
use Rattle.std.proofs.lemmas.Result.{on_ok_weaker}
use Rattle.protocol.specs.declared.events.Event.TheVariants as event
use Rattle.protocol.specs.declared.events.WorldEvent.TheVariants as world_event
use Rattle.mailbox_rules.specs.Opening.{at, domain_name, object, queue_name}
use Rattle.mailbox.proofs.Made.{made_as, made_then}
use Rattle.mailbox.proofs.making.add_context.Goals as goal

pub returns : goal.returns
returns c = on_ok_weaker c.make-2.result (λ last.
    made_then c.args.world.now c.make_context.new.world c.make-2.new.world (world_event.MakeContext c.args.context c.args.device ∷ []) _ c.in_ok-make_context.ensures
    (made_then c.make_context.new.world c.make.new.world c.make-2.new.world (at (event.MakeDomain (object c.args.context domain_name)) ∷ []) _
    (made_as c.make_context.new.world c.make.new.world _ _ c.make_domain.ensures.event c.in_ok-make.ensures)
    (made_as c.make.new.world c.make-2.new.world _ (at (event.MakeCq (object c.args.context queue_name) c.args.capacity)) c.make_queue.ensures.event last))) c.make-2.ensures
