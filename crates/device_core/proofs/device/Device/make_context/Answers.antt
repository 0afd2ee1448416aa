use Rattle.std.proofs.Common.{◌≡◌, ◌∙◌, sym, ap, refl, None}
use Rattle.rdma_types.specs.Causes.{first_cause}
use Rattle.protocol.specs.declared.events.Event.TheVariants as event
use Rattle.protocol.specs.Refusals.{causes_of}
use Rattle.device_core.specs.Parts.{device_of}
use Rattle.device_core.proofs.Contexts.{free-lookup}
use Rattle.device_core.proofs.Dones.{step-refused}
use Rattle.device_core.proofs.NewDevices.{free-name, made-context}
use Rattle.device_core.proofs.Stepping.{done-at}
use Rattle.device_core.proofs.device.Device.make_context.Goals as goal

pub invariant_of-self : goal.invariant_of-self
invariant_of-self c =
    let x = c.self.inside in
    let none : first_cause (causes_of (device_of x.id x.address x.qp_count x.key_count x.pool x.contexts.entries x.husks.entries) (event.MakeContext c.args.name)) ≡ None = ap (λ k. first_cause (causes_of k (event.MakeContext c.args.name))) c.self.view_is ∙ (sym c.context_refusal.ensures ∙ c.in_default.is) in
    (made-context x.id x.address x.qp_count x.key_count x.pool x.contexts.entries x.husks.entries _ c.self.invariant c.args.name none
    c.make.result c.make.ensures.empty (c.make.ensures.view x.pool c.args.name) (c.make.ensures.is x.pool) c.add_context-made.result c.told.result c.add_context-made.new.contexts.entries
    c.told.ensures c.add_context-made.ensures.ok c.add_context-made.ensures.err c.add_context-made.ensures.memory).held tt c.as_bytes-spelled.ensures.spelled

pub returns : goal.returns
returns c =
    let x = c.self.inside in
    let none : first_cause (causes_of (device_of x.id x.address x.qp_count x.key_count x.pool x.contexts.entries x.husks.entries) (event.MakeContext c.args.name)) ≡ None = ap (λ k. first_cause (causes_of k (event.MakeContext c.args.name))) c.self.view_is ∙ (sym c.context_refusal.ensures ∙ c.in_default.is) in
    done-at c.self.view_is (made-context x.id x.address x.qp_count x.key_count x.pool x.contexts.entries x.husks.entries _ c.self.invariant c.args.name none
    c.make.result c.make.ensures.empty (c.make.ensures.view x.pool c.args.name) (c.make.ensures.is x.pool) c.add_context-made.result c.told.result c.add_context-made.new.contexts.entries
    c.told.ensures c.add_context-made.ensures.ok c.add_context-made.ensures.err c.add_context-made.ensures.memory)

pub returns-in-Some : goal.returns-in-Some
returns-in-Some c = (step-refused c.args.self.now (event.MakeContext c.args.name) c.in-Some.refusal (sym c.context_refusal.ensures ∙ c.in-Some.is), refl)

pub add_context-made-requires : goal.add_context-made-requires
add_context-made-requires c =
    let x = c.self.inside in
    free-lookup x.pool c.args.name x.contexts.entries (free-name (device_of x.id x.address x.qp_count x.key_count x.pool x.contexts.entries x.husks.entries) c.args.name (ap (λ k. first_cause (causes_of k (event.MakeContext c.args.name))) c.self.view_is ∙ (sym c.context_refusal.ensures ∙ c.in_default.is))).0
