-- Both ends, one after the other.
use Rattle.std.proofs.Common.{◌≡◌, subst, slice_get, Some}
use Rattle.rdma_types.specs.Causes.{first_cause}
use Rattle.protocol.specs.State.{Device}
use Rattle.protocol.specs.WorldStep as rules
use Rattle.protocol.specs.WorldStep.{connect_causes, exchanged}
use Rattle.protocol.specs.declared.events.Event.TheVariants as event
use Rattle.world_core.specs.Sites.{joined_at}
use Rattle.world_core.proofs.Connecting.{connected_both, joined_within}
use Rattle.world_core.proofs.Worlds.{refused}
use Rattle.world_core.proofs.world.World.connect.Goals as goal

pub connect_one-requires-in-Ok-clause-here : goal.connect_one-requires-in-Ok-clause-here
connect_one-requires-in-Ok-clause-here c =
    joined_within c.args.self.now c.connect_one.new.self c.args.one.now c.args.two.now c.in-Ok.first c.in-Ok.second
    (event.Connect c.args.one.now c.in-Ok.second.number c.in-Ok.second.address c.args.terms.now) c.in-Ok.ensures.one c.in-Ok.ensures.two c.connect_one.ensures.joined

pub returns-in-Ok : goal.returns-in-Ok
returns-in-Ok c =
    connected_both c.args.self.now c.connect_one.new.self c.connect_one-in-Ok.new.self c.args.one.now c.args.two.now c.in-Ok.first c.in-Ok.second c.args.terms.now
    c.connect_one.ensures.ids c.requires.ready.kept c.in-Ok.ensures.free c.in-Ok.ensures.one c.in-Ok.ensures.two c.connect_one.ensures.joined
    (subst (λ t. (d : Device) → slice_get c.connect_one.new.self.devices c.in-Ok.second.place ≡ Some d → c.connect_one-in-Ok.new.self ≡ joined_at c.connect_one.new.self c.in-Ok.second.place d (event.Connect c.args.two.now c.in-Ok.first.number c.in-Ok.first.address t)) c.exchanged.ensures c.connect_one-in-Ok.ensures.joined)

pub returns-in-Err : goal.returns-in-Err
unfolding rules.connects
returns-in-Err c = refused c.args.self.now (first_cause (connect_causes c.args.self.now c.args.one.now c.args.two.now)) c.in-Err.refusal _ c.requires.ready.kept c.in-Err.ensures.refusal
