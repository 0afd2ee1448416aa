-- Everything that the machine computes with, opened at once for worked examples.
use Rattle.std.specs.Prelude.{List, Bool}
use Rattle.rdma_types.specs.declared.verbs.Verb.{Verb}
use Rattle.rdma_types.specs.declared.answers.Answer.{Answer}
use Rattle.rdma_types.specs.Lists as shared_lists
use Rattle.rdma_types.specs.Kinds as shared_kinds
use Rattle.rdma_types.specs.Spans as shared_spans
use Rattle.rdma_types.specs.Memory as shared_memory
use Rattle.rdma_types.specs.Causes as shared_causes
use Rattle.packetless_machine.specs.declared.steps.MachineStep.{MachineStep}
use Rattle.packetless_machine.specs.Machine.{Machine}
use Rattle.packetless_machine.specs.Legal.{is_run, seen, after}
use Rattle.packetless_machine.specs.Tables as in_tables
use Rattle.packetless_machine.specs.Bytes as in_bytes
use Rattle.packetless_machine.specs.Machine as in_machine
use Rattle.packetless_machine.specs.Numbers as in_numbers
use Rattle.packetless_machine.specs.Steps as in_steps
use Rattle.packetless_machine.specs.Verbs as in_verbs

-- the machine after a run
unfoldable pub ran_to : Machine → List MachineStep → Machine
unfolding shared_lists.at shared_lists.store shared_lists.has shared_lists.named shared_lists.store_named shared_lists.has_name shared_lists.without shared_lists.first_that shared_lists.some
    shared_kinds.request_done shared_kinds.receive_done
    shared_spans.pieces shared_spans.span shared_spans.first_number shared_spans.end_number shared_spans.request_of shared_spans.piece_of shared_spans.next_landing shared_spans.piece_at
    shared_memory.cut shared_memory.put shared_memory.word_of shared_memory.word_bytes shared_memory.allows shared_memory.holds shared_memory.grants shared_memory.granted shared_memory.is_granted
    shared_causes.first_cause
    in_tables.place_where in_tables.replaced
    in_bytes.sum_of in_bytes.swapped
    in_machine.has_context in_machine.context_of in_machine.has_end in_machine.end_of in_machine.queue_of in_machine.with_context in_machine.with_end_in in_machine.with_end in_machine.with_regions in_machine.with_queues in_machine.with_queue_in in_machine.with_queue in_machine.completed in_machine.completing in_machine.put_at in_machine.bytes_at in_machine.untold_count in_machine.used_count in_machine.reserved_by in_machine.reserved
    in_numbers.due in_numbers.oldest in_numbers.barrier
    in_steps.untold in_steps.failed_requests in_steps.failed_receives in_steps.failed_queues in_steps.closed in_steps.ended_with in_steps.has_peer in_steps.lands_before in_steps.has_turn in_steps.has_current in_steps.right_for in_steps.is_granted_there in_steps.is_request_granted in_steps.first_receive in_steps.receive_for in_steps.unused_after in_steps.fits in_steps.overflows in_steps.may_add in_steps.may_run_kind in_steps.may_run in_steps.acted_with in_steps.advanced in_steps.used_by in_steps.receiving in_steps.received_whole in_steps.arrivals in_steps.put_in_receive in_steps.placing in_steps.run_towards in_steps.run in_steps.may_atom in_steps.word_there in_steps.changed_by in_steps.changed_word in_steps.atom_on in_steps.atom in_steps.may_read in_steps.read_turn in_steps.may_refuse_for in_steps.may_refuse in_steps.too_long in_steps.refused_entries in_steps.refused_receives in_steps.refused_queues in_steps.denied in_steps.refuse_at in_steps.refuse in_steps.may_dry_kind in_steps.may_dry in_steps.dried_at in_steps.dried in_steps.is_read_part in_steps.may_offer in_steps.bytes_there in_steps.with_offer in_steps.offered in_steps.has_untold in_steps.may_land_offer in_steps.may_land in_steps.with_known in_steps.land_at in_steps.bytes_of in_steps.landed in_steps.in_place in_steps.may_know in_steps.knowing in_steps.may_tell in_steps.put_old in_steps.success in_steps.told_one in_steps.tell_at in_steps.tell in_steps.expired in_steps.expire in_steps.may_wait in_steps.waited in_steps.wait in_steps.is_denied in_steps.may_bounce in_steps.bounce_status in_steps.bounce
    in_verbs.lacks_domain in_verbs.lacks_queue in_verbs.region_of in_verbs.is_local_granted in_verbs.is_full in_verbs.taken in_verbs.is_written in_verbs.in_use_names in_verbs.is_used_by in_verbs.is_in_use in_verbs.with_domain in_verbs.made_region in_verbs.made_queue in_verbs.made_end in_verbs.joined in_verbs.connected_pair in_verbs.overwritten in_verbs.stored in_verbs.posted in_verbs.received in_verbs.polled in_verbs.is_fresh
ran_to m ss = after m ss

-- the verbs of a run with their answers
unfoldable pub heard_in : Machine → List MachineStep → List (Verb × Answer)
unfolding ran_to
heard_in m ss = seen m ss
