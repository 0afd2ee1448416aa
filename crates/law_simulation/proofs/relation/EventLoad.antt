-- The machine follows a load.
use Rattle.std.proofs.Common.{◌≡◌, ℕ, true, refl, sym, ap, subst}
use Rattle.std.specs.Prelude.{not}
use Rattle.rdma_types.specs.declared.names.ObjName.{ObjName}
use Rattle.rdma_types.specs.declared.verbs.Verb.TheVariants as verbs
use Rattle.rdma_types.specs.declared.answers.Answer.TheVariants as answers
use Rattle.rdma_types.specs.declared.answers.Refusal.TheVariants as refusals
use Rattle.rdma_types.specs.Lists.{has_name, named}
use Rattle.rdma_types.specs.Memory.{holds}
use Rattle.rdma_types.specs.Objects.{no_region}
use Rattle.protocol.specs.declared.events.Event.TheVariants as events
use Rattle.protocol.specs.declared.events.WorldEvent.TheVariants as world_events
use Rattle.protocol.specs.State as state
use Rattle.protocol.specs.State.{World}
use Rattle.protocol.specs.Memory.{loaded}
use Rattle.protocol.specs.Refusals as refusing
use Rattle.protocol.specs.DeviceStep as device
use Rattle.protocol.specs.WorldStep as step
use Rattle.protocol.specs.WorldStep.{is_live, home, ran}
use Rattle.packetless_machine.specs.Machine.{Machine, has_context}
use Rattle.packetless_machine.specs.Verbs as verbing
use Rattle.law_simulation.specs.Kept as kept
use Rattle.law_simulation.specs.Stands.{Stands}
use Rattle.law_simulation.specs.Law.{Follows}
use Rattle.law_simulation.proofs.relation.Refusing.{Matches, matches_cause, matches_none, first_yes}
use Rattle.law_simulation.proofs.relation.Live.{live_of, live_same, within_matches}
use Rattle.law_simulation.proofs.relation.Verbs.{IsDone, verb_follows, ran_same}

module _ (w : World) (m : Machine) (o : ObjName) (a n : ℕ) (s : Stands w m) where
  matches : is_live w o.context ≡ true → has_context m o.context ≡ true → Matches (refusing.refusal_of (home w o.context) (events.Load o a n)) (verbing.refusal_of m (verbs.Load o a n))
  unfolding refusing.refusal_of verbing.region_of
  matches live there =
      within_matches w m o.context _ _ live there
      (matches_cause refusals.NoSuch _ _ _ _ (ap (λ rs. not (has_name (λ r. r.name) o.name rs)) (live_same w m o.context s live).regions)
      (λ h. matches_cause refusals.BadKey _ _ _ _ (ap (λ rs. not (holds (named (λ r. r.name) no_region o.name rs) a n)) (live_same w m o.context s live).regions)
      (λ h. matches_none)))

  does : is_live w o.context ≡ true → IsDone w m (events.Load o a n) (verbs.Load o a n)
  unfolding ran step.numbered device.loads kept.is_unmade verbing.region_of
  does live = record {
    given = 0;
    may = refl;
    answer = ap (λ rs. answers.Bytes (loaded (named (λ r. r.name) no_region o.name rs) a n)) (sym (live_same w m o.context s live).regions);
    made = refl;
    stands = subst (λ x. Stands x m) (sym (ran_same w m o.context (answers.Bytes (loaded (state.region_at (live_of w o.context) o.name) a n)) s.placed live)) s;
  }

  pub load_follows : Follows w m (world_events.At (events.Load o a n))
  unfolding kept.verb_in
  load_follows = verb_follows w m (events.Load o a n) (verbs.Load o a n) s (record {
    verb = refl;
    allows = λ x. refl;
    nowhere = λ h. first_yes refusals.NoSuch _ _ (rw h refl);
    matches = matches;
    does = λ live there h h'. does live;
  })
