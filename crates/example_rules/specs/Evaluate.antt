-- The facts of the relation at a worked state, with all that they compute with opened at once.
use Rattle.std.specs.Prelude.{List, Bool, ◌&&◌}
use Rattle.rdma_types.specs.declared.names.ObjName.{ObjName}
use Rattle.protocol.specs.declared.events.WorldEvent.{WorldEvent}
use Rattle.protocol.specs.Evaluate.{computed}
use Rattle.protocol.specs.State.{World}
use Rattle.packetless_machine.specs.declared.steps.MachineStep.{MachineStep}
use Rattle.packetless_machine.specs.Evaluate.{ran_to}
use Rattle.packetless_machine.specs.Machine.{Machine}
use Rattle.law_simulation.specs.Views as in_views
use Rattle.law_simulation.specs.Packets as in_packets
use Rattle.law_simulation.specs.Carries as in_carries
use Rattle.law_simulation.specs.Joined as in_joined
use Rattle.law_simulation.specs.Facts as in_facts
use Rattle.law_simulation.specs.Kept as in_kept
use Rattle.law_simulation.specs.Named as in_named
use Rattle.law_simulation.specs.Named.{inner_steps, run_steps}
use Rattle.law_settling.specs.Events as in_events
use Rattle.law_settling.specs.Events.{settling_events}
use Rattle.example_rules.specs.Tests as in_tests
use Rattle.example_rules.specs.Tests.{same_numbers, same_context, in_domains, all_sent}

-- numbers, contexts and datagrams of two connected ends are as the relation says
unfoldable pub stands_at : World → Machine → ObjName → ObjName → Bool
unfolding in_views.contexts_of in_views.context_of in_views.end_of in_views.link_or_none in_views.in_rts in_views.home_in in_views.address_or_none in_views.place_of in_views.name_at in_views.receive_in in_views.owned_there in_views.owned in_joined.old_value in_joined.old_values in_joined.last_of in_joined.is_granted_in in_facts.is_access_denied in_packets.nak_class in_packets.syndrome_class in_packets.aeth_class in_packets.resume_class in_packets.class_of in_carries.is_at in_tests.same_lists in_tests.same_region in_tests.same_queue in_tests.same_bool in_tests.same_owned in_tests.same_context in_tests.in_domains in_tests.same_kept in_tests.is_packet in_tests.is_old in_tests.is_refused in_tests.numbered_test in_tests.move_test in_tests.class_test in_tests.packet_test in_tests.all_sent in_tests.same_numbers
stands_at w m one two =
    same_numbers w m one && (same_numbers w m two && (same_context w m one.context && (same_context w m two.context && (in_domains m one.context && (in_domains m two.context && all_sent w m)))))

-- the inner steps that are named at an event
unfoldable pub named_at : World → Machine → WorldEvent → List MachineStep
unfolding computed ran_to
    in_views.contexts_of in_views.context_of in_views.end_of in_views.link_or_none in_views.in_rts in_views.home_in in_views.address_or_none in_views.place_of in_views.name_at
    in_packets.nak_class in_packets.syndrome_class in_packets.aeth_class in_packets.resume_class in_packets.class_of
    in_carries.offers_from in_carries.offers_of in_carries.due_steps in_carries.is_rest_granted in_carries.repeat_steps in_carries.request_steps in_carries.land_steps in_carries.tell_steps in_carries.is_at in_carries.is_counted in_carries.expire_steps
    in_kept.verb_in in_kept.verb_of in_kept.is_unmade_by in_kept.is_unmade in_kept.kept_verb
    in_named.tells in_named.known_bytes in_named.learning in_named.is_learned in_named.ending in_named.last_step in_named.acknowledged_steps in_named.offer_place in_named.is_landed in_named.read_steps in_named.old_steps in_named.steps_of_each
named_at w m e = inner_steps w m e

-- all steps that are named at events, one after the other
unfoldable pub named_in : World → Machine → List WorldEvent → List MachineStep
unfolding named_at
named_in w m es = run_steps w m es

-- the events of the settling of a world
unfoldable pub settles_by : World → List WorldEvent
unfolding computed in_events.drain_events in_events.sending_events in_events.send_all_events in_events.running_events in_events.visit_events in_events.visiting_events in_events.rnr_events in_events.expire_events in_events.timer_events in_events.round_events in_events.rounds_events in_events.settling_events
settles_by w = settling_events w
