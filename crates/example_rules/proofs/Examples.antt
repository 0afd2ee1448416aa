-- The worked runs, by evaluation.
use Rattle.std.specs.Prelude.{◌≡◌, true, refl}
use Rattle.packetless_machine.specs.Machine.{empty}
use Rattle.packetless_machine.specs.Evaluate.{ran_to}
use Rattle.packetless_machine.specs.Legal.{is_run, seen, after}
use Rattle.example_rules.specs.Runs.{opening, opening_heard, one_write, one_write_heard, one_atomic, one_atomic_heard, fenced_after_a_read, fenced_after_a_read_heard, refused_access, refused_access_heard, too_long_send, too_long_send_heard, send_with_immediate, send_with_immediate_heard, in_use, in_use_heard, shared_queue, shared_queue_heard}

pub opening_runs : is_run empty opening ≡ true
unfolding ran_to
opening_runs = refl

pub opening_is_heard : seen empty opening ≡ opening_heard
unfolding ran_to
opening_is_heard = refl

pub one_write_runs : is_run (after empty opening) one_write ≡ true
unfolding ran_to
one_write_runs = refl

pub one_write_is_heard : seen (after empty opening) one_write ≡ one_write_heard
unfolding ran_to
one_write_is_heard = refl

pub one_atomic_runs : is_run (after empty opening) one_atomic ≡ true
unfolding ran_to
one_atomic_runs = refl

pub one_atomic_is_heard : seen (after empty opening) one_atomic ≡ one_atomic_heard
unfolding ran_to
one_atomic_is_heard = refl

pub fenced_after_a_read_runs : is_run (after empty opening) fenced_after_a_read ≡ true
unfolding ran_to
fenced_after_a_read_runs = refl

pub fenced_after_a_read_is_heard : seen (after empty opening) fenced_after_a_read ≡ fenced_after_a_read_heard
unfolding ran_to
fenced_after_a_read_is_heard = refl

pub refused_access_runs : is_run (after empty opening) refused_access ≡ true
unfolding ran_to
refused_access_runs = refl

pub refused_access_is_heard : seen (after empty opening) refused_access ≡ refused_access_heard
unfolding ran_to
refused_access_is_heard = refl

pub too_long_send_runs : is_run (after empty opening) too_long_send ≡ true
unfolding ran_to
too_long_send_runs = refl

pub too_long_send_is_heard : seen (after empty opening) too_long_send ≡ too_long_send_heard
unfolding ran_to
too_long_send_is_heard = refl

pub send_with_immediate_runs : is_run (after empty opening) send_with_immediate ≡ true
unfolding ran_to
send_with_immediate_runs = refl

pub send_with_immediate_is_heard : seen (after empty opening) send_with_immediate ≡ send_with_immediate_heard
unfolding ran_to
send_with_immediate_is_heard = refl

pub in_use_runs : is_run (after empty opening) in_use ≡ true
unfolding ran_to
in_use_runs = refl

pub in_use_is_heard : seen (after empty opening) in_use ≡ in_use_heard
unfolding ran_to
in_use_is_heard = refl

pub shared_queue_runs : is_run empty shared_queue ≡ true
unfolding ran_to
shared_queue_runs = refl

pub shared_queue_is_heard : seen empty shared_queue ≡ shared_queue_heard
unfolding ran_to
shared_queue_is_heard = refl
