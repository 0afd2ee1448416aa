-- An event that no application asks for, and by which no datagram is taken, leaves the machine as it is.
use Rattle.std.proofs.Common.{◌≡◌, List, [], ◌∷◌, refl, sym, ◌∙◌, subst}
use Rattle.protocol.specs.declared.events.Event.TheVariants as events
use Rattle.protocol.specs.declared.events.WorldEvent.{WorldEvent}
use Rattle.protocol.specs.declared.events.WorldEvent.TheVariants as world_events
use Rattle.rdma_types.specs.declared.answers.Answer.{Answer}
use Rattle.protocol.specs.State.{World, empty_world}
use Rattle.protocol.specs.WorldStep.{world_step, world_after}
use Rattle.packetless_machine.specs.declared.steps.MachineStep.{MachineStep}
use Rattle.packetless_machine.specs.declared.steps.MachineStep.TheVariants as steps
use Rattle.packetless_machine.specs.Machine.{Machine, empty}
use Rattle.packetless_machine.specs.Legal.{after, seen}
use Rattle.law_simulation.specs.Kept as kept
use Rattle.law_simulation.specs.Kept.{kept_of}
use Rattle.law_simulation.specs.Carries.{Allows}
use Rattle.law_simulation.specs.Stands.{Stands}
use Rattle.law_simulation.specs.Law.{Follows, FollowsRun, IsInRange, Law, inner_of, joined_steps}
use Rattle.law_simulation.specs.Unseen.{IsUnseen, AreUnchanged, UnseenChangesNothing}

-- what is neither seen nor an inner step is nothing
no_steps : (m : Machine) (ss : List MachineStep) → seen m ss ≡ [] → inner_of ss ≡ [] → ss ≡ []
no_steps m [] unseen inner = refl
no_steps m (steps.Verb verb given ∷ ss) unseen inner = absurd (cc)
no_steps m (steps.Run q n ∷ ss) unseen inner = absurd (cc)
no_steps m (steps.Atom q ∷ ss) unseen inner = absurd (cc)
no_steps m (steps.ReadTurn q ∷ ss) unseen inner = absurd (cc)
no_steps m (steps.Refuse q why ∷ ss) unseen inner = absurd (cc)
no_steps m (steps.Dry q ∷ ss) unseen inner = absurd (cc)
no_steps m (steps.Offer q i off n ∷ ss) unseen inner = absurd (cc)
no_steps m (steps.Land q o ∷ ss) unseen inner = absurd (cc)
no_steps m (steps.Known q bytes ∷ ss) unseen inner = absurd (cc)
no_steps m (steps.Tell q ∷ ss) unseen inner = absurd (cc)
no_steps m (steps.Expire q ∷ ss) unseen inner = absurd (cc)
no_steps m (steps.Wait q ∷ ss) unseen inner = absurd (cc)
no_steps m (steps.Bounce q ∷ ss) unseen inner = absurd (cc)

unheard : (w : World) (e : WorldEvent) (a : Answer) → IsUnseen e → kept_of w e a ≡ []
unfolding kept.verb_of kept.verb_in kept.kept_verb
unheard w (world_events.AddDevice id address) a u = absurd u
unheard w (world_events.MakeContext name device) a u = absurd u
unheard w (world_events.Connect one two terms) a u = absurd u
unheard w (world_events.Deliver k) a u = absurd u
unheard w (world_events.Lose k) a u = refl
unheard w (world_events.Wire k) a u = refl
unheard w (world_events.Stop name) a u = refl
unheard w (world_events.Restore name device) a u = refl
unheard w (world_events.Release name device) a u = refl
unheard w (world_events.At (events.MakeContext name)) a u = absurd u
unheard w (world_events.At (events.MakeDomain o)) a u = absurd u
unheard w (world_events.At (events.MakeRegion o domain base length rights)) a u = absurd u
unheard w (world_events.At (events.MakeCq o capacity)) a u = absurd u
unheard w (world_events.At (events.MakeQp o domain send_cq recv_cq send_depth recv_depth)) a u = absurd u
unheard w (world_events.At (events.Connect end peer partner terms)) a u = absurd u
unheard w (world_events.At (events.DropRegion o)) a u = absurd u
unheard w (world_events.At (events.Store o address bytes)) a u = absurd u
unheard w (world_events.At (events.Load o address length)) a u = absurd u
unheard w (world_events.At (events.PostSend o r)) a u = absurd u
unheard w (world_events.At (events.PostRecv o r)) a u = absurd u
unheard w (world_events.At (events.Poll o most)) a u = absurd u
unheard w (world_events.At (events.Transmit o)) a u = refl
unheard w (world_events.At (events.Arrive from bytes)) a u = absurd u
unheard w (world_events.At (events.Expire o)) a u = absurd u
unheard w (world_events.At (events.RnrOver o)) a u = refl
unheard w (world_events.At (events.Stop name alone)) a u = absurd u
unheard w (world_events.At (events.Restore image)) a u = absurd u
unheard w (world_events.At (events.Release name)) a u = absurd u

none_allowed : (w : World) (m : Machine) (e : WorldEvent) (a : Answer) (ss : List MachineStep) → IsUnseen e → Allows w m e a ss → ss ≡ []
none_allowed w m (world_events.AddDevice id address) a ss u h = absurd u
none_allowed w m (world_events.MakeContext name device) a ss u h = absurd u
none_allowed w m (world_events.Connect one two terms) a ss u h = absurd u
none_allowed w m (world_events.Deliver k) a ss u h = absurd u
none_allowed w m (world_events.Lose k) a ss u h = h
none_allowed w m (world_events.Wire k) a ss u h = h
none_allowed w m (world_events.Stop name) a ss u h = h
none_allowed w m (world_events.Restore name device) a ss u h = h
none_allowed w m (world_events.Release name device) a ss u h = h
none_allowed w m (world_events.At (events.MakeContext name)) a ss u h = absurd u
none_allowed w m (world_events.At (events.MakeDomain o)) a ss u h = absurd u
none_allowed w m (world_events.At (events.MakeRegion o domain base length rights)) a ss u h = absurd u
none_allowed w m (world_events.At (events.MakeCq o capacity)) a ss u h = absurd u
none_allowed w m (world_events.At (events.MakeQp o domain send_cq recv_cq send_depth recv_depth)) a ss u h = absurd u
none_allowed w m (world_events.At (events.Connect end peer partner terms)) a ss u h = absurd u
none_allowed w m (world_events.At (events.DropRegion o)) a ss u h = absurd u
none_allowed w m (world_events.At (events.Store o address bytes)) a ss u h = absurd u
none_allowed w m (world_events.At (events.Load o address length)) a ss u h = absurd u
none_allowed w m (world_events.At (events.PostSend o r)) a ss u h = absurd u
none_allowed w m (world_events.At (events.PostRecv o r)) a ss u h = absurd u
none_allowed w m (world_events.At (events.Poll o most)) a ss u h = absurd u
none_allowed w m (world_events.At (events.Transmit o)) a ss u h = h
none_allowed w m (world_events.At (events.Arrive from bytes)) a ss u h = absurd u
none_allowed w m (world_events.At (events.Expire o)) a ss u h = absurd u
none_allowed w m (world_events.At (events.RnrOver o)) a ss u h = h
none_allowed w m (world_events.At (events.Stop name alone)) a ss u h = absurd u
none_allowed w m (world_events.At (events.Restore image)) a ss u h = absurd u
none_allowed w m (world_events.At (events.Release name)) a ss u h = absurd u

in_range : (e : WorldEvent) → IsUnseen e → IsInRange e
in_range (world_events.AddDevice id address) u = absurd u
in_range (world_events.MakeContext name device) u = absurd u
in_range (world_events.Connect one two terms) u = absurd u
in_range (world_events.Deliver k) u = absurd u
in_range (world_events.Lose k) u = tt
in_range (world_events.Wire k) u = tt
in_range (world_events.Stop name) u = tt
in_range (world_events.Restore name device) u = tt
in_range (world_events.Release name device) u = tt
in_range (world_events.At (events.MakeContext name)) u = absurd u
in_range (world_events.At (events.MakeDomain o)) u = absurd u
in_range (world_events.At (events.MakeRegion o domain base length rights)) u = absurd u
in_range (world_events.At (events.MakeCq o capacity)) u = absurd u
in_range (world_events.At (events.MakeQp o domain send_cq recv_cq send_depth recv_depth)) u = absurd u
in_range (world_events.At (events.Connect end peer partner terms)) u = absurd u
in_range (world_events.At (events.DropRegion o)) u = absurd u
in_range (world_events.At (events.Store o address bytes)) u = absurd u
in_range (world_events.At (events.Load o address length)) u = absurd u
in_range (world_events.At (events.PostSend o r)) u = absurd u
in_range (world_events.At (events.PostRecv o r)) u = absurd u
in_range (world_events.At (events.Poll o most)) u = absurd u
in_range (world_events.At (events.Transmit o)) u = tt
in_range (world_events.At (events.Arrive from bytes)) u = absurd u
in_range (world_events.At (events.Expire o)) u = absurd u
in_range (world_events.At (events.RnrOver o)) u = tt
in_range (world_events.At (events.Stop name alone)) u = absurd u
in_range (world_events.At (events.Restore image)) u = absurd u
in_range (world_events.At (events.Release name)) u = absurd u

-- the next world stands for the same machine
stands_still : (w : World) (m : Machine) (e : WorldEvent) → IsUnseen e → Follows w m e → Stands (world_step w e).world m
stands_still w m e u f =
    let none : f.steps ≡ [] = no_steps m f.steps (f.heard ∙ unheard w e (world_step w e).answer u) (none_allowed w m e (world_step w e).answer (inner_of f.steps) u f.allowed) in
    subst (λ ss. Stands (world_step w e).world (after m ss)) none f.stands

-- worlds that stand for one machine are the same to their owners
same_to_owners : (w w' : World) (m : Machine) → Stands w m → Stands w' m → AreUnchanged w w'
same_to_owners w w' m s t c = record {
  domains = (s.same c).domains ∙ sym (t.same c).domains;
  regions = (s.same c).regions ∙ sym (t.same c).regions;
  queues = (s.same c).queues ∙ sym (t.same c).queues;
  ends = (s.same c).ends ∙ sym (t.same c).ends;
}

pub changes_nothing : Law → UnseenChangesNothing
changes_nothing law es e ranges u =
    let r : FollowsRun empty_world empty es = law.run es ranges in
    same_to_owners (world_after empty_world es) (world_step (world_after empty_world es) e).world (after empty (joined_steps r.steps)) r.stands
    (stands_still (world_after empty_world es) (after empty (joined_steps r.steps)) e u (law.step e (world_after empty_world es) (after empty (joined_steps r.steps)) (in_range e u) r.stands))
