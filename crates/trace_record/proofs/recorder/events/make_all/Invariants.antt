use Rattle.std.proofs.Common.{◌≡◌, ◌++◌, take}
use Rattle.std.specs.List.{All}
use Rattle.packetless_machine.specs.Legal.{after}
use Rattle.law_traces.specs.Said.{IsShort}
use Rattle.run_traces.specs.Written.{steps_text}
use Rattle.trace_record.proofs.recorder.events.make_all.Given as goal

abbrev pub invariant-loop-step : goal.invariant-loop-step
invariant-loop-step l = record {
  made : l.machine ≡ after l.initial.machine (take l.step-index l.steps);
  text : l.out.items ≡ l.initial.out.items ++ steps_text (take l.step-index l.steps);
  short : All IsShort (take l.step-index l.steps);
}
