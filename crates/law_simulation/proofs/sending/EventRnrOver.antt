-- The machine follows the end of the RNR timer: it makes no step.
use Rattle.std.proofs.Common.{true, false, Bool, refl, sym, subst}
use Rattle.std.specs.Prelude.{if◌then◌else◌}
use Rattle.rdma_types.specs.declared.names.ObjName.{ObjName}
use Rattle.rdma_types.specs.declared.answers.Answer.TheVariants as answers
use Rattle.protocol.specs.declared.events.Event.TheVariants as events
use Rattle.protocol.specs.declared.events.WorldEvent.TheVariants as world_events
use Rattle.protocol.specs.State.{World, Link}
use Rattle.protocol.specs.EndWords as words
use Rattle.protocol.specs.Refusals as refusing
use Rattle.protocol.specs.Requester.{waited_out}
use Rattle.protocol.specs.DeviceStep as device
use Rattle.protocol.specs.WorldStep as step
use Rattle.protocol.specs.WorldStep.{is_live, home, ran}
use Rattle.packetless_machine.specs.Machine.{Machine}
use Rattle.law_simulation.specs.Kept as kept
use Rattle.law_simulation.specs.Stands.{Stands}
use Rattle.law_simulation.specs.Law.{Reaches, Follows}
use Rattle.law_simulation.proofs.relation.Live.{live_of}
use Rattle.law_simulation.proofs.relation.Linked.{end_there_of, linked_of}
use Rattle.law_simulation.proofs.relation.Verbs.{unheard_reached}
use Rattle.law_simulation.proofs.sending.GoUnheard.{unheard_follows, same_reached}
use Rattle.law_simulation.proofs.sending.GoLive.{LiveEnd, waited_stands}
use Rattle.law_simulation.proofs.sending.GoFound.{found_linked}

module _ (w : World) (m : Machine) (o : ObjName) (s : Stands w m) where
  by_wait : (l : Link) (b : Bool) → LiveEnd w m o l →
      let next = if b then device.answers (device.with_context (home w o.context) (linked_of w o (words.with_sender l (waited_out l.sender)))) answers.Over else device.answers (home w o.context) answers.NotWaiting in
      Reaches w m (world_events.At (events.RnrOver o)) (ran w next).world (ran w next).answer
  unfolding ran step.numbered kept.verb_in kept.verb_of kept.kept_verb
  by_wait l true h = unheard_reached w m (world_events.At (events.RnrOver o)) _ answers.Over refl refl (waited_stands w m o l s h false answers.Over)
  by_wait l false h = same_reached w m (events.RnrOver o) answers.NotWaiting s h.live refl refl refl

  does : (found : (l : Link) × LiveEnd w m o l) → Reaches w m (world_events.At (events.RnrOver o)) (ran w (device.rnr_over (home w o.context) (live_of w o.context) (end_there_of w o))).world (ran w (device.rnr_over (home w o.context) (live_of w o.context) (end_there_of w o))).answer
  unfolding device.rnr_over
  does found =
      let l : Link = found.0 in
      subst (λ z. Reaches w m (world_events.At (events.RnrOver o)) (ran w (device.at_link (home w o.context) z (λ l. device.waits_out (home w o.context) (live_of w o.context) (end_there_of w o) l))).world (ran w (device.at_link (home w o.context) z (λ l. device.waits_out (home w o.context) (live_of w o.context) (end_there_of w o) l))).answer) (sym found.1.linked)
      (by_wait l l.sender.rnr_wait found.1)

  pub rnr_over_follows : Follows w m (world_events.At (events.RnrOver o))
  unfolding kept.verb_in refusing.refusal_of
  rnr_over_follows = unheard_follows w m (events.RnrOver o) s (record {
    silent = refl;
    refused = λ r. refl;
    does = λ live there h. does (found_linked w m o s live there h);
  })
