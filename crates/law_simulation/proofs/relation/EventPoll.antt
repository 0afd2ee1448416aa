-- The machine follows a poll.
use Rattle.std.proofs.Common.{◌≡◌, ℕ, List, [], true, refl, sym, ap, ◌∙◌, subst}
use Rattle.std.specs.Prelude.{not, take, drop}
use Rattle.law_simulation.proofs.relation.Tables.{map-store, name-named_there}
use Rattle.law_simulation.proofs.relation.Sounds.{queues_like}
use Rattle.protocol.specs.EndWords.{with_queue, with_entries}
use Rattle.rdma_types.specs.declared.names.Name.{Name}
use Rattle.rdma_types.specs.declared.names.ObjName.{ObjName}
use Rattle.rdma_types.specs.declared.verbs.Verb.TheVariants as verbs
use Rattle.rdma_types.specs.declared.answers.Answer.TheVariants as answers
use Rattle.rdma_types.specs.declared.answers.Refusal.TheVariants as refusals
use Rattle.rdma_types.specs.Lists.{has_name, named, store_named}
use Rattle.rdma_types.specs.Objects.{CompletionQueue, no_queue}
use Rattle.protocol.specs.declared.events.Event.TheVariants as events
use Rattle.protocol.specs.declared.events.WorldEvent.TheVariants as world_events
use Rattle.protocol.specs.State as state
use Rattle.protocol.specs.State.{World}
use Rattle.protocol.specs.Refusals as refusing
use Rattle.protocol.specs.DeviceStep as device
use Rattle.protocol.specs.WorldStep as step
use Rattle.protocol.specs.WorldStep.{is_live, home, ran}
use Rattle.packetless_machine.specs.Machine as machine
use Rattle.packetless_machine.specs.Machine.{Machine, has_context}
use Rattle.packetless_machine.specs.Verbs as verbing
use Rattle.law_simulation.specs.Kept as kept
use Rattle.law_simulation.specs.Stands.{Stands}
use Rattle.law_simulation.specs.Law.{Follows}
use Rattle.law_simulation.proofs.relation.Machines.{context_name, queue_stored}
use Rattle.law_simulation.proofs.relation.Nets.{same_quiet}
use Rattle.law_simulation.proofs.relation.Refusing.{Matches, matches_cause, matches_none, first_yes, first_no, later_no, not_lacking}
use Rattle.law_simulation.proofs.relation.Live.{live_of, live_name, live_same, within_matches, changed_stands}
use Rattle.law_simulation.proofs.relation.Verbs.{IsDone, verb_follows}

-- the queue without its oldest entries
abbrev polled : CompletionQueue → ℕ → CompletionQueue
polled q most = record q { entries = drop most q.entries }

abbrev queue_in : List CompletionQueue → Name → CompletionQueue
queue_in qs n = named (λ q. q.name) no_queue n qs

module _ (w : World) (m : Machine) (o : ObjName) (most : ℕ) (s : Stands w m) where
  matches : is_live w o.context ≡ true → has_context m o.context ≡ true → Matches (refusing.refusal_of (home w o.context) (events.Poll o most)) (verbing.refusal_of m (verbs.Poll o most))
  unfolding refusing.refusal_of
  matches live there =
      within_matches w m o.context _ _ live there
      (matches_cause refusals.NoSuch _ _ _ _ (ap (λ qs. not (has_name (λ q. q.name) o.name qs)) (live_same w m o.context s live).queues)
      (λ h. matches_none))

  does : is_live w o.context ≡ true → has_context m o.context ≡ true → has_name (λ q. q.name) o.name (machine.context_of m o.context).queues ≡ true → IsDone w m (events.Poll o most) (verbs.Poll o most)
  unfolding ran step.numbered device.polls with_queue with_entries kept.is_unmade machine.queue_of verbing.polled
  does live there found =
      let same = live_same w m o.context s live in
      let sound = s.sound o.context in
      let y = machine.context_of m o.context in
      let q : CompletionQueue = queue_in y.queues o.name in
      record {
        given = 0;
        may = refl;
        answer = ap (λ qs. answers.Polled (take most (queue_in qs o.name).entries)) (sym same.queues);
        made = refl;
        stands = subst (Stands (ran w (device.answers (device.with_context (home w o.context) (with_queue (live_of w o.context) (with_entries (state.queue_at (live_of w o.context) o.name) (drop most (state.queue_at (live_of w o.context) o.name).entries)))) (answers.Polled (take most (state.queue_at (live_of w o.context) o.name).entries)))).world) (sym (queue_stored m o.context o.name (polled q most) found))
            (changed_stands w m o.context (with_queue (live_of w o.context) (with_entries (state.queue_at (live_of w o.context) o.name) (drop most (state.queue_at (live_of w o.context) o.name).entries)))
            (record y { queues = store_named (λ x. x.name) o.name (polled q most) y.queues }) (answers.Polled (take most (state.queue_at (live_of w o.context) o.name).entries)) s live there
            (live_name w o.context live) (context_name m o.context) (same_quiet _ _ _ _ refl refl)
            (record {
              domains = same.domains;
              regions = same.regions;
              queues = ap (λ qs. store_named (λ x. x.name) (queue_in qs o.name).name (polled (queue_in qs o.name) most) qs) same.queues ∙ ap (λ k. store_named (λ x. x.name) k (polled q most) y.queues) (name-named_there (λ x. x.name) no_queue o.name y.queues found);
              ends = same.ends;
            })
            (record {
              whole = sound.whole;
              bytes = sound.bytes;
              keyed = sound.keyed;
              keyed_once = sound.keyed_once;
              named_once = sound.named_once;
              ends = queues_like y.regions _ _ y.ends (map-store (λ x. x.name) (λ x. x.name) no_queue o.name (polled q most) y.queues found refl) sound.ends;
              regions_in = sound.regions_in;
              ends_in = sound.ends_in;
              regions_end = sound.regions_end;
            })
            (λ q domain p h. h));
      }

  pub poll_follows : Follows w m (world_events.At (events.Poll o most))
  unfolding kept.verb_in
  poll_follows = verb_follows w m (events.Poll o most) (verbs.Poll o most) s (record {
    verb = refl;
    allows = λ a. refl;
    nowhere = λ h. first_yes refusals.NoSuch _ _ (rw h refl);
    matches = matches;
    does = λ live there h h'. does live there (not_lacking _ (first_no refusals.NoSuch _ [] (later_no refusals.NoSuch _ _ h')));
  })
