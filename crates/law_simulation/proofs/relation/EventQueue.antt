-- The machine follows the making of a completion queue.
use Rattle.std.proofs.Common.{◌≡◌, ℕ, [], ◌∷◌, ◌++◌, true, refl, ap}
use Rattle.law_simulation.proofs.relation.Sounds.{queues_more}
use Rattle.rdma_types.specs.declared.names.Name.{Name}
use Rattle.rdma_types.specs.declared.names.ObjName.{ObjName}
use Rattle.rdma_types.specs.declared.verbs.Verb.TheVariants as verbs
use Rattle.rdma_types.specs.declared.answers.Answer.TheVariants as answers
use Rattle.rdma_types.specs.declared.answers.Refusal.TheVariants as refusals
use Rattle.rdma_types.specs.Causes.{first_cause}
use Rattle.rdma_types.specs.Lists.{has_name}
use Rattle.rdma_types.specs.Objects.{CompletionQueue}
use Rattle.protocol.specs.declared.events.Event.TheVariants as events
use Rattle.protocol.specs.declared.events.WorldEvent.TheVariants as world_events
use Rattle.protocol.specs.State.{World}
use Rattle.protocol.specs.Refusals as refusing
use Rattle.protocol.specs.DeviceStep as device
use Rattle.protocol.specs.WorldStep as step
use Rattle.protocol.specs.WorldStep.{is_live, home, ran}
use Rattle.packetless_machine.specs.Machine as machine
use Rattle.packetless_machine.specs.Machine.{Machine, has_context}
use Rattle.packetless_machine.specs.Verbs as verbing
use Rattle.law_simulation.specs.Kept as kept
use Rattle.law_simulation.specs.Stands.{Stands}
use Rattle.law_simulation.specs.Law.{Follows}
use Rattle.law_simulation.proofs.relation.Machines.{context_name}
use Rattle.law_simulation.proofs.relation.Nets.{same_quiet}
use Rattle.law_simulation.proofs.relation.Refusing.{Matches, matches_cause, matches_unknown, matches_none, first_yes}
use Rattle.law_simulation.proofs.relation.Live.{live_of, live_name, live_same, within_matches, changed_stands}
use Rattle.law_simulation.proofs.relation.Verbs.{IsDone, verb_follows}

abbrev new_queue : Name → ℕ → CompletionQueue
new_queue n capacity = record { name = n; capacity = capacity; entries = [] }

module _ (w : World) (m : Machine) (o : ObjName) (capacity : ℕ) (s : Stands w m) where
  matches : is_live w o.context ≡ true → has_context m o.context ≡ true → Matches (refusing.refusal_of (home w o.context) (events.MakeCq o capacity)) (verbing.refusal_of m (verbs.MakeCq o capacity))
  unfolding refusing.refusal_of kept.is_unmade_by
  matches live there =
      within_matches w m o.context _ _ live there
      (matches_cause refusals.NumberTaken _ _ _ _ (ap (has_name (λ q. q.name) o.name) (live_same w m o.context s live).queues)
      (λ h. matches_unknown refusals.TooMany _ [] (first_cause []) refl (λ h. matches_none)))

  does : is_live w o.context ≡ true → has_context m o.context ≡ true → IsDone w m (events.MakeCq o capacity) (verbs.MakeCq o capacity)
  unfolding ran step.numbered device.makes_queue device.with_new_queue kept.is_unmade verbing.made_queue
  does live there =
      let same = live_same w m o.context s live in
      let sound = s.sound o.context in
      let queues = (machine.context_of m o.context).queues in
      record {
        given = 0;
        may = refl;
        answer = refl;
        made = refl;
        stands =
            changed_stands w m o.context (device.with_new_queue (live_of w o.context) (new_queue o.name capacity)) (record (machine.context_of m o.context) { queues = queues ++ new_queue o.name capacity ∷ [] }) answers.Done s live there
            (live_name w o.context live) (context_name m o.context) (same_quiet _ _ _ _ refl refl)
            (record { domains = same.domains; regions = same.regions; queues = ap (λ qs. qs ++ new_queue o.name capacity ∷ []) same.queues; ends = same.ends })
            (record {
              whole = sound.whole;
              bytes = sound.bytes;
              keyed = sound.keyed;
              keyed_once = sound.keyed_once;
              named_once = sound.named_once;
              ends = queues_more (machine.context_of m o.context).regions queues (new_queue o.name capacity) (machine.context_of m o.context).ends sound.ends;
              regions_in = sound.regions_in;
              ends_in = sound.ends_in;
              regions_end = sound.regions_end;
            })
            (λ q domain p h. h);
      }

  pub queue_follows : Follows w m (world_events.At (events.MakeCq o capacity))
  unfolding kept.verb_in
  queue_follows = verb_follows w m (events.MakeCq o capacity) (verbs.MakeCq o capacity) s (record {
    verb = refl;
    allows = λ a. refl;
    nowhere = λ h. first_yes refusals.NoSuch _ _ (rw h refl);
    matches = matches;
    does = λ live there h h'. does live there;
  })
