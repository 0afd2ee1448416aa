-- What becomes of the datagram.
use Rattle.std.proofs.Common.{◌∙◌, ap, refl, inl, inr}
use Rattle.rdma_types.specs.declared.answers.Answer.TheVariants as answer
use Rattle.protocol.specs.Fabric.{IsGone, IsLost, took}
use Rattle.protocol.specs.State.{World}
use Rattle.world_core.proofs.Delivering.{delivered-by, delivers-nothing}
use Rattle.world_core.proofs.Lacking.{comes_nothing}
use Rattle.world_core.proofs.Networks.{comes_found, taken_aged, taken_nowhere, taken_there, untaken}
use Rattle.world_core.proofs.world.World.deliver.Goals as goal

pub returns-in-Gone-clause-ok : goal.returns-in-Gone-clause-ok
returns-in-Gone-clause-ok c = untaken c.args.self.now c.args.k IsGone answer.Gone c.requires.ready.kept c.in-Gone.ensures (inl (refl, refl))

pub returns-in-Lost-clause-ok : goal.returns-in-Lost-clause-ok
returns-in-Lost-clause-ok c = untaken c.args.self.now c.args.k IsLost answer.Lost c.requires.ready.kept c.in-Lost.ensures (inr (refl, refl))

pub returns-in-Aged-clause-ok : goal.returns-in-Aged-clause-ok
returns-in-Aged-clause-ok c =
    taken_aged c.args.self.now _ c.args.k c.took.new.self c.requires.ready.kept c.in-Aged.ensures
    (ap (λ (w : World). record w { sent = c.took.new.self }) c.self.view_is)
    (c.took.ensures.taken ∙ ap (λ (w : World). took w.sent c.args.k) c.self.view_is)

pub returns-in-Nowhere-clause-ok : goal.returns-in-Nowhere-clause-ok
returns-in-Nowhere-clause-ok c =
    taken_nowhere c.args.self.now _ c.args.k c.took-in-Nowhere.new.self c.requires.ready.kept c.in-Nowhere.ensures
    (ap (λ (w : World). record w { sent = c.took-in-Nowhere.new.self }) c.self.view_is)
    (c.took-in-Nowhere.ensures.taken ∙ ap (λ (w : World). took w.sent c.args.k) c.self.view_is)

pub returns-in_ok-took-in-Comes-clause-ok : goal.returns-in_ok-took-in-Comes-clause-ok
returns-in_ok-took-in-Comes-clause-ok c =
    let to = c.in-Comes.ensures in
    taken_there c.args.self.now c.arrive.new.self c.args.k c.in-Comes.place c.in-Comes.found _ to (c.in_ok-took-in-Comes.ensures.ok to.flight to.device to.kept to.at)

pub returns-in-Gone-clause-touched : goal.returns-in-Gone-clause-touched
returns-in-Gone-clause-touched c = delivers-nothing _ _ _ refl refl refl

pub returns-in-Lost-clause-touched : goal.returns-in-Lost-clause-touched
returns-in-Lost-clause-touched c = delivers-nothing _ _ _ refl refl refl

pub returns-in-Aged-clause-touched : goal.returns-in-Aged-clause-touched
returns-in-Aged-clause-touched c = delivers-nothing _ _ _ (ap (λ (w : World). w.devices) c.self.view_is) (ap (λ (w : World). w.carried) c.self.view_is) (ap (λ (w : World). w.stopped) c.self.view_is)

pub returns-in-Nowhere-clause-touched : goal.returns-in-Nowhere-clause-touched
returns-in-Nowhere-clause-touched c = delivers-nothing _ _ _ (ap (λ (w : World). w.devices) c.self.view_is) (ap (λ (w : World). w.carried) c.self.view_is) (ap (λ (w : World). w.stopped) c.self.view_is)

pub returns-in_ok-took-in-Comes-clause-touched : goal.returns-in_ok-took-in-Comes-clause-touched
returns-in_ok-took-in-Comes-clause-touched c = delivered-by c.args.self.now c.arrive.new.self c.args.k c.in-Comes.place c.in-Comes.found c.in-Comes.ensures c.in_ok-took-in-Comes.ensures.touched

pub arrive-requires-clause-found : goal.arrive-requires-clause-found
arrive-requires-clause-found c = comes_found c.in-Comes.ensures

pub returns-in_err-took-in-Comes-clause-never_out_of_memory : goal.returns-in_err-took-in-Comes-clause-never_out_of_memory
returns-in_err-took-in-Comes-clause-never_out_of_memory c = λ none.
    let there = c.in_err-took-in-Comes.ensures.never_out_of_memory (comes_nothing c.args.self.now c.args.k c.in-Comes.place c.in-Comes.found c.in-Comes.ensures none) in
    absurd (cc)
