use Rattle.std.proofs.Common.{◌≡◌, ◌++◌}
use Rattle.rand_core.specs.Steps.{stream_of, steps_u32}
use Rattle.rand_pcg.specs.Pcg.{pcg32}
use Rattle.workload_gen.specs.Plan.{messages_lines, after_words, words_of}
use Rattle.workload_gen.proofs.plan.put_messages.Given as goal

abbrev pub invariant-loop-i : goal.invariant-loop-i
invariant-loop-i l = record {
  text : l.out.items ≡ l.initial.out.items ++ messages_lines l.seed l.mix l.i;
  words : stream_of (steps_u32 pcg32) l.words ≡ after_words l.i (words_of l.seed);
}
