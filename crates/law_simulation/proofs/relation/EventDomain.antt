-- The machine follows the making of a domain.
use Rattle.std.proofs.Common.{◌≡◌, List, [], ◌∷◌, ◌++◌, true, refl, ap, ◌∙◌}
use Rattle.std.specs.Prelude.{◌||◌, bytes_eq}
use Rattle.std.proofs.lemmas.List.Elements.{All-weaker}
use Rattle.rdma_types.specs.declared.names.Name.{Name}
use Rattle.rdma_types.specs.declared.names.ObjName.{ObjName}
use Rattle.rdma_types.specs.declared.verbs.Verb.TheVariants as verbs
use Rattle.rdma_types.specs.declared.answers.Answer.TheVariants as answers
use Rattle.rdma_types.specs.declared.answers.Refusal.TheVariants as refusals
use Rattle.rdma_types.specs.Causes.{first_cause}
use Rattle.rdma_types.specs.Lists.{has_word}
use Rattle.protocol.specs.declared.events.Event.TheVariants as events
use Rattle.protocol.specs.declared.events.WorldEvent.TheVariants as world_events
use Rattle.protocol.specs.State.{World}
use Rattle.protocol.specs.Refusals as refusing
use Rattle.protocol.specs.DeviceStep as device
use Rattle.protocol.specs.WorldStep as step
use Rattle.protocol.specs.WorldStep.{is_live, home, ran}
use Rattle.packetless_machine.specs.Machine as machine
use Rattle.packetless_machine.specs.Machine.{Machine, has_context}
use Rattle.packetless_machine.specs.Verbs as verbing
use Rattle.law_simulation.specs.Kept as kept
use Rattle.law_simulation.specs.Stands.{Stands}
use Rattle.law_simulation.specs.Law.{Follows}
use Rattle.law_simulation.proofs.relation.Tables.{has_name-push}
use Rattle.law_simulation.proofs.relation.Machines.{context_name}
use Rattle.law_simulation.proofs.relation.Nets.{same_quiet}
use Rattle.law_simulation.proofs.relation.Refusing.{Matches, matches_cause, matches_unknown, matches_none, first_yes}
use Rattle.law_simulation.proofs.relation.Live.{live_of, live_name, live_same, within_matches, changed_stands}
use Rattle.law_simulation.proofs.relation.Verbs.{IsDone, verb_follows}

-- a name that is there stays with one more
more_words : (n k : Name) (ns : List Name) → has_word n ns ≡ true → has_word n (ns ++ k ∷ []) ≡ true
more_words n k ns h = has_name-push (λ x. x) n ns k ∙ ap (λ b. b || bytes_eq k n) h

module _ (w : World) (m : Machine) (o : ObjName) (s : Stands w m) where
  matches : is_live w o.context ≡ true → has_context m o.context ≡ true → Matches (refusing.refusal_of (home w o.context) (events.MakeDomain o)) (verbing.refusal_of m (verbs.MakeDomain o))
  unfolding refusing.refusal_of kept.is_unmade_by
  matches live there =
      within_matches w m o.context _ _ live there
      (matches_cause refusals.NumberTaken _ _ _ _ (ap (has_word o.name) (live_same w m o.context s live).domains)
      (λ h. matches_unknown refusals.TooMany _ [] (first_cause []) refl (λ h. matches_none)))

  does : is_live w o.context ≡ true → has_context m o.context ≡ true → IsDone w m (events.MakeDomain o) (verbs.MakeDomain o)
  unfolding ran step.numbered device.makes_domain device.with_domain kept.is_unmade verbing.with_domain
  does live there =
      let same = live_same w m o.context s live in
      let sound = s.sound o.context in
      let domains : List Name = (machine.context_of m o.context).domains in
      record {
        given = 0;
        may = refl;
        answer = refl;
        made = refl;
        stands = changed_stands w m o.context (device.with_domain (live_of w o.context) o.name) (record (machine.context_of m o.context) { domains = (machine.context_of m o.context).domains ++ o.name ∷ [] }) answers.Done s live there
            (live_name w o.context live) (context_name m o.context) (same_quiet _ _ _ _ refl refl)
            (record { domains = ap (λ ds. ds ++ o.name ∷ []) same.domains; regions = same.regions; queues = same.queues; ends = same.ends })
            (record {
              whole = sound.whole;
              bytes = sound.bytes;
              keyed = sound.keyed;
              keyed_once = sound.keyed_once;
              named_once = sound.named_once;
              ends = sound.ends;
              regions_in = All-weaker (λ r. has_word r.domain domains ≡ true) (λ r. has_word r.domain (domains ++ o.name ∷ []) ≡ true) (λ r h. more_words r.domain o.name domains h) (machine.context_of m o.context).regions sound.regions_in;
              ends_in = All-weaker (λ e. has_word e.domain domains ≡ true) (λ e. has_word e.domain (domains ++ o.name ∷ []) ≡ true) (λ e h. more_words e.domain o.name domains h) (machine.context_of m o.context).ends sound.ends_in;
              regions_end = sound.regions_end;
            })
            (λ q domain p h. h);
      }

  pub domain_follows : Follows w m (world_events.At (events.MakeDomain o))
  unfolding kept.verb_in
  domain_follows = verb_follows w m (events.MakeDomain o) (verbs.MakeDomain o) s (record {
    verb = refl;
    allows = λ a. refl;
    nowhere = λ h. first_yes refusals.NoSuch _ _ (rw h refl);
    matches = matches;
    does = λ live there h h'. does live there;
  })
